-- Lists of expressions and what they are as plain data.
use Rattle.std.proofs.Common.{◌≡◌, Bool, ◌||◌, List, [], ◌∷◌, map, refl, ap}
use Rattle.std.specs.List.{list_any}
use Rattle.bound_tree.specs.Tree.{Term, is_bad}
use Rattle.bound_tree.specs.Reading.{term_of}
use Rattle.bound_tree.specs.declared.tree.Expr.{Expr}
use Rattle.expression_binding.specs.Bound.{any_bad}

pub any_bad_in : (vs : List Expr) → any_bad (map term_of vs) ≡ list_any (λ (v : Expr). is_bad (term_of v)) vs
any_bad_in [] = refl
any_bad_in (v ∷ vs) = ap (λ b. is_bad (term_of v) || b) (any_bad_in vs)
