-- What a tree has, as plain data.
use Rattle.std.proofs.Common.{◌≡◌, ℕ, Bool, List, [], ◌∷◌, length, refl, ap, arith}
use mathlib.Core.Path.{fun_ext}
use Rattle.bound_tree.specs.Tree.{Statement}
use Rattle.bound_tree.specs.Claims.{varies_in, varies_of}
use Rattle.lowering.specs.Code.{Done}
use Rattle.bound_tree.specs.Reading.{terms_of}
use Rattle.bound_tree.specs.declared.tree.Expr.{Expr}
use Rattle.lowering.specs.Lower.{count, stmt, block_code}

pub counted : (es : List Expr) → count (terms_of es) ≡ length es
counted [] = refl
counted (e ∷ es) = omega (arith, counted es)

-- a table of the locals that are assigned gives the code of the block
pub same-code : (table : List Bool) (s : Statement) → ((x : ℕ) → varies_in table x ≡ varies_of s x) → stmt (varies_in table) s Done ≡ block_code s
same-code table s h = ap (λ (varies : ℕ → Bool). stmt varies s Done) (fun_ext h)

pub ruleset blocks = (same-code)
