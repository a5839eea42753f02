-- Typed expressions give values.
use Rattle.std.proofs.Common.{◌≡◌, true, ap, sym, ◌∙◌}
use Rattle.std.specs.Prelude.{is_some}
use Rattle.bound_tree.specs.Tree.{Term}
use Rattle.bound_tree.specs.Tree as t
use Rattle.lowering.specs.Lower.{has_value}
use Rattle.typed_units.specs.Frames.{Frame, type_in}
use Rattle.typed_units.specs.Terms.{TermTyped}

pub typed-gives : (f : Frame) (e : Term) → TermTyped f e → has_value e ≡ true → is_some (type_in e) ≡ true
typed-gives f (t.Const s l) h v = ap is_some h
typed-gives f (t.This s) h v = ap is_some h.is
typed-gives f (t.Local s x) h v = ap is_some h.is
typed-gives f (t.Field s b named) h v = ap is_some h.2.gives
typed-gives f (t.Static s named) h v = ap is_some h.gives
typed-gives f (t.New s c es) h v = ap is_some h.0
typed-gives f (t.Call s r m es) h v = sym h.2.0.told ∙ v
typed-gives f (t.CallStatic s m es) h v = sym h.0.told ∙ v
typed-gives f (t.Unknown s n es) h v = absurd h
typed-gives f (t.UnknownField s b n) h v = absurd h
typed-gives f (t.UnknownCall s r n es) h v = absurd h
typed-gives f (t.Unary s o a) h v = ap is_some h.2
typed-gives f (t.And s a b) h v = ap is_some h.3
typed-gives f (t.Or s a b) h v = ap is_some h.3
typed-gives f (t.Binary s o a b) h v = ap is_some h.3
