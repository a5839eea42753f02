-- Bodies that are bound without a finding are typed.
use Rattle.std.proofs.Common.{◌≡◌, ℕ, suc, zero, zero-add, refl, sym, subst, Bool, true, false, not, ◌&&◌, if◌then◌else◌, List, [], ◌∷◌, ◌++◌, length, nat_lt, Option, Some, None, is_some}
use Rattle.std.specs.List.{slice_get}
use Rattle.bound_tree.proofs.Tests.{false-true}
use Rattle.class_faces.specs.declared.face.FaceTy.{FaceTy}
use Rattle.result_records.specs.declared.code.FindingCode.TheVariants as code
use Rattle.tree_places.specs.PlainStmt.{PlainStmts}
use Rattle.bound_tree.specs.declared.name.ValueType.{ValueType}
use Rattle.bound_tree.specs.declared.name.ValueType.TheVariants as value
use Rattle.bound_tree.specs.Reading as reading
use Rattle.bound_tree.specs.Flows.{Flow, End, in_statements}
use Rattle.bound_tree.specs.Live.{live}
use Rattle.lowering.specs.Endings.{may_end_all}
use Rattle.name_rules.specs.declared.scope.Variable.{Variable}
use Rattle.name_rules.specs.Types.{Types}
use Rattle.name_rules.specs.Scopes.{Scope}
use Rattle.expression_binding.specs.Bound.{Ground}
use Rattle.expression_binding.specs.Stamps.{type_of}
use Rattle.statement_binding.specs.Done.{DoneAll}
use Rattle.statement_binding.specs.Ends.{never_ends, last_never_ends}
use Rattle.statement_binding.specs.Statements.{statements}
use Rattle.statement_binding.specs.Bodies.{top_statements, items_of, items_done, end_notes, body}
use Rattle.typed_units.specs.Declared.{all_declared, declared_types}
use Rattle.typed_units.specs.Statements.{StatementsTyped}
use Rattle.binding_types.specs.Silent.{Silent}
use Rattle.binding_types.specs.Grounds.{GroundFits, NameFits, ScopeFits}
use Rattle.binding_types.specs.Named.{NotNamed}
use Rattle.binding_types.specs.Placed.{Placed}
use Rattle.binding_types.specs.Under.{Locals}
use Rattle.binding_types.specs.Written.{AllWritten}
use Rattle.binding_types.specs.Bodies.{BodiesTyped, made_of}
use Rattle.binding_types.proofs.Silences.{first, second, unfound_if, not-false, none_some}
use Rattle.binding_types.proofs.Placing.{placed_second, placed_all, locals_known, all_joined}
use Rattle.binding_types.proofs.Known.{IsKnown, AllKnown, all-known}
use Rattle.binding_types.proofs.Typing.{Body, frame_in, statements-typed}
use Rattle.binding_types.proofs.Tops.{tops-known, tops-typed}
use Rattle.binding_types.proofs.Passing.{statements-pass, tops-pass}
use Rattle.binding_types.proofs.Ending.{never-all, items_end}

-- ---- the arguments stand first among the locals

found-first : (a b : List ValueType) (x : ℕ) (v : ValueType) → slice_get a x ≡ Some v → slice_get (a ++ b) x ≡ Some v
found-first [] b x v e = none_some v e
found-first (d ∷ ds) b zero v e = e
found-first (d ∷ ds) b (suc x) v e = found-first ds b x v e

name-first : (types : Types) (a b : List ValueType) (v : Option Variable) → NameFits types a v → NameFits types (a ++ b) v
name-first types a b None h = tt
name-first types a b (Some v) h = record { kept = found-first a b v.number (type_of v.ty) h.kept; known = h.known }

names-first : (types : Types) (a b : List ValueType) (scope : Scope) → ScopeFits types a scope → ScopeFits types (a ++ b) scope
names-first types a b [] h = tt
names-first types a b (e ∷ es) h = (name-first types a b e.variable h.0, names-first types a b es h.1)

-- ---- the items of a body, at the top level of a constructor or elsewhere

abbrev items_if : Bool → Ground → Option FaceTy → Locals → PlainStmts → DoneAll
items_if b g r ls items = if b then top_statements g [] ls items else statements g r ls items

items-known : (b : Bool) (g : Ground) (r : Option FaceTy) (ls : Locals) (items : PlainStmts) → Silent (items_if b g r ls items).notes → AllKnown g.types (all_declared (reading.statements (items_if b g r ls items).made))
items-known true g r ls items s = tops-known g [] ls items s
items-known false g r ls items s = all-known g r ls items s

items-typed : (b : Bool) (g : Ground) (r : Option FaceTy) (locals : List ValueType) → Body g locals r → (b ≡ true → r ≡ None) → (ls : Locals) → ScopeFits g.types locals ls.scope → (items : PlainStmts) → AllWritten items
    → Placed locals ls.next (all_declared (reading.statements (items_if b g r ls items).made)) → Silent (items_if b g r ls items).notes
    → StatementsTyped (frame_in g locals r) (reading.statements (items_if b g r ls items).made)
items-typed true g None locals body none ls names items w placed s = tops-typed g locals body [] ls names items w placed s
items-typed true g (Some ty) locals body none ls names items w placed s = none_some ty (sym (none refl))
items-typed false g r locals body none ls names items w placed s = statements-typed g locals r body ls names items w placed s

items-pass : (b : Bool) (g : Ground) (r : Option FaceTy) (ls : Locals) (x : ℕ) → NotNamed g ls.scope x → (items : PlainStmts) → AllWritten items → (K : Flow) (k : Bool)
    → live x (in_statements (reading.statements (items_if b g r ls items).made) K) k ≡ true → live x K k ≡ true
items-pass true g r ls x n items w K k e = tops-pass g [] ls x n items w K k e
items-pass false g r ls x n items w K k e = statements-pass g r ls x n items w K k e

items-end : (b : Bool) (g : Ground) (r : Option FaceTy) (ls : Locals) (items : PlainStmts) → (b ≡ true → r ≡ None) → AllWritten items → Silent (items_if b g r ls items).notes
    → is_some r ≡ true → last_never_ends false items ≡ true → may_end_all (reading.statements (items_if b g r ls items).made) true ≡ false
items-end b g None ls items none w s some h = false-true some
items-end true g (Some ty) ls items none w s some h = none_some ty (sym (none refl))
items-end false g (Some ty) ls items none w s some h = never-all g ty ls items w s h true

-- ---- bodies

never-by : (a b : Bool) → (a && not b) ≡ false → a ≡ true → b ≡ true
never-by true b e h = not-false b e
never-by false b e h = false-true h

below : (x n : ℕ) (b : Bool) → nat_lt x n ≡ b → (b ≡ false → ⊥) → b ≡ true
below x n true e h = refl
below x n false e h = absurd (h refl)

pub bodies-typed : BodiesTyped
bodies-typed g head scope args s headed w quiet = record {
  known = all;
  code = items-typed head.is_constructor g head.result locals (record { fits = fits; known = locals_known g.types locals all; result = headed.result }) headed.constructor
      (record { scope = scope; next = length args }) (names-first g.types args declared scope headed.names) (items_of s) w placed made_quiet;
  set = λ x alive. below x (length args) (nat_lt x (length args)) refl
      (λ (out : nat_lt x (length args) ≡ false). let e : false ≡ true = items-pass head.is_constructor g head.result (record { scope = scope; next = length args }) x (headed.others x out) (items_of s) w End false alive in false-true e);
  returns = λ some. items-end head.is_constructor g head.result (record { scope = scope; next = length args }) (items_of s) headed.constructor w made_quiet some
      (items_end s (never-by (is_some head.result) (never_ends s) (unfound_if (is_some head.result && not (never_ends s)) code.BadReturn head.name_at end_quiet) some));
}
  where
    declared : List ValueType
    declared = declared_types (made_of g head scope args s)

    locals : List ValueType
    locals = args ++ declared

    placed : Placed locals (length args) declared
    placed = subst (λ (n : ℕ). Placed locals n declared) (zero-add (length args)) (placed_second locals 0 args declared (placed_all locals))

    made_quiet : Silent (items_done g head (record { scope = scope; next = length args }) (items_of s)).notes
    made_quiet = first (items_done g head (record { scope = scope; next = length args }) (items_of s)).notes (end_notes head s) quiet

    end_quiet : Silent (end_notes head s)
    end_quiet = second (items_done g head (record { scope = scope; next = length args }) (items_of s)).notes (end_notes head s) quiet

    all : AllKnown g.types locals
    all = all_joined (IsKnown g.types) args declared headed.known (items-known head.is_constructor g head.result (record { scope = scope; next = length args }) (items_of s) made_quiet)

    fits : GroundFits g locals
    fits = record { stand = headed.fits.stand; this = λ (static : g.is_static ≡ false). found-first args declared 0 (value.Named g.class) (headed.fits.this static) }
