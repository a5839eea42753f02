-- The types with which a statement without a finding declares locals are there.
use Rattle.std.proofs.Common.{◌≡◌, suc, refl, ap, sym, subst, true, not, List, [], ◌++◌, Option}
use Rattle.std.specs.List.{AllByRecursion}
use Rattle.class_faces.specs.declared.face.FaceTy.{FaceTy}
use Rattle.result_records.specs.declared.code.FindingCode.TheVariants as code
use Rattle.tree_places.specs.PlainStmt.{PlainAction, PlainFirst, PlainMonitor, PlainLocal, PlainStmt, PlainStmts, PlainTy}
use Rattle.tree_places.specs.PlainStmt as p
use Rattle.bound_tree.specs.declared.name.ValueType.{ValueType}
use Rattle.bound_tree.specs.Reading as reading
use Rattle.bound_tree.specs.Tree.{Statement}
use Rattle.bound_tree.specs.Tree as t
use Rattle.name_rules.specs.Types.{Types, is_known, is_known_name}
use Rattle.name_rules.specs.Scopes.{Scope}
use Rattle.expression_binding.specs.Bound.{Ground}
use Rattle.statement_binding.specs.DeclaredTypes.{declared, declared_notes}
use Rattle.statement_binding.specs.Locals.{local_type, declaration_notes}
use Rattle.statement_binding.specs.Heads.{condition, condition_if_any, first_done, behind_first, last_done, held_notes}
use Rattle.statement_binding.specs.Statements.{behind, behind_all, statement, statements, branch}
use Rattle.typed_units.specs.Frames.{is_known_value}
use Rattle.typed_units.specs.Declared.{declared_types, all_declared}
use Rattle.binding_types.specs.Silent.{Silent}
use Rattle.binding_types.specs.Under.{Locals}
use Rattle.binding_types.proofs.Silences.{first, second, unfound_if, not-false}
use Rattle.binding_types.proofs.Placing.{all_joined}
use Rattle.binding_types.proofs.Numbering.{action_declares, loop_types, last_types, held_types, return_types}
use Rattle.binding_types.proofs.Actions.{declared_type}

abbrev pub IsKnown : Types → ValueType → Type 0
IsKnown types v = is_known_value types v ≡ true

abbrev pub AllKnown : Types → List ValueType → Type 0
AllKnown types vs = AllByRecursion (IsKnown types) vs

pub type_known : (types : Types) (ty : PlainTy) → Silent (declared_notes types ty) → is_known types (declared ty) ≡ true
type_known types (p.Int at) s = refl
type_known types (p.Boolean at) s = refl
type_known types (p.Named w) s = not-false (is_known_name types w.text) (unfound_if (not (is_known_name types w.text)) code.UnknownType (suc w.at) s)

pub local_known : (g : Ground) (scope : Scope) (l : PlainLocal) → Silent (declaration_notes g scope l) → is_known g.types (local_type l) ≡ true
local_known g scope l s = type_known g.types l.ty (first (declared_notes g.types l.ty) _ s)

no-types : (types : Types) (vs : List ValueType) → vs ≡ [] → AllKnown types vs
no-types types vs e = subst (AllKnown types) (sym e) tt

first-known : (g : Ground) (ls : Locals) (f : PlainFirst) → Silent (first_done g ls f).notes → AllKnown g.types (all_declared (reading.statements (first_done g ls f).made))
first-known g ls p.Nothing s = tt
first-known g ls (p.FirstLocal l) s = (declared_type (local_type l) g.types (local_known g ls.scope l s), tt)
first-known g ls (p.FirstAction does) s = no-types g.types _ (ap (λ (a : List ValueType). a ++ []) (action_declares g ls.scope does))

mutual
  unfolding behind behind_all statement statements branch

  pub known-of : (g : Ground) (r : Option FaceTy) (ls : Locals) (s : PlainStmt) → Silent (statement g r ls s).notes → AllKnown g.types (declared_types (statement g r ls s).made)
  known-of g r ls (p.Block opening items closing) s = all-known g r ls items s
  known-of g r ls (p.Local l at) s = (declared_type (local_type l) g.types (local_known g ls.scope l s), tt)
  known-of g r ls (p.Empty at) s = tt
  known-of g r ls (p.Action does at) s = no-types g.types _ (action_declares g ls.scope does)
  known-of g r ls (p.If at test does other) s =
      let rest = second (condition g ls.scope test).notes _ s in
      all_joined (IsKnown g.types) (declared_types (statement g r ls does).made) (declared_types (branch g r (behind ls does) other).made)
      (known-of g r ls does (first (statement g r ls does).notes _ rest)) (other-known g r (behind ls does) other (second (statement g r ls does).notes _ rest))
  known-of g r ls (p.While at test does) s = known-of g r ls does (second (condition g ls.scope test).notes _ s)
  known-of g r ls (p.For at f test last does) s =
      let inner = behind_first ls f in
      let body = (statement g r inner does).made in
      let end = (last_done g (behind inner does).scope last).made in
      let rest = second (condition_if_any g inner.scope (suc at) test).notes _ (second (first_done g ls f).notes _ s) in
      subst (AllKnown g.types) (sym (loop_types g ls f (t.While (condition_if_any g inner.scope (suc at) test).term (t.Block (t.statement body (reading.statements end))))))
      (all_joined (IsKnown g.types) (all_declared (reading.statements (first_done g ls f).made)) (declared_types body ++ all_declared (reading.statements end))
      (first-known g ls f (first (first_done g ls f).notes _ s))
      (all_joined (IsKnown g.types) (declared_types body) (all_declared (reading.statements end))
      (known-of g r inner does (first (statement g r inner does).notes _ rest)) (no-types g.types _ (last_types g (behind inner does).scope last))))
  known-of g r ls (p.Sync at held body) s =
      subst (AllKnown g.types) (sym (held_types held g ls.scope (statement g r ls body).made)) (known-of g r ls body (second (held_notes g ls.scope held) _ s))
  known-of g r ls (p.Return at v end) s = no-types g.types _ (return_types g r ls.scope (suc at) v)

  other-known : (g : Ground) (r : Option FaceTy) (ls : Locals) (ss : PlainStmts) → Silent (branch g r ls ss).notes → AllKnown g.types (declared_types (branch g r ls ss).made)
  other-known g r ls p.no_stmts s = tt
  other-known g r ls (p.stmt x others) s = known-of g r ls x s

  pub all-known : (g : Ground) (r : Option FaceTy) (ls : Locals) (ss : PlainStmts) → Silent (statements g r ls ss).notes → AllKnown g.types (all_declared (reading.statements (statements g r ls ss).made))
  all-known g r ls p.no_stmts s = tt
  all-known g r ls (p.stmt x others) s =
      all_joined (IsKnown g.types) (declared_types (statement g r ls x).made) (all_declared (reading.statements (statements g r (behind ls x) others).made))
      (known-of g r ls x (first (statement g r ls x).notes _ s)) (all-known g r (behind ls x) others (second (statement g r ls x).notes _ s))
