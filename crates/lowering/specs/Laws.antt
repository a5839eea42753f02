-- What is proved of the code of trees, each as one statement.
use Rattle.std.specs.Prelude.{◌≡◌, ℕ, Bool, true, false, IsTrue, List, [], map}
use Rattle.core_model.specs.Code as core
use Rattle.core_model.specs.declared.program.Program.{Program}
use Rattle.core_laws.specs.Places.{Each, Along, Always}
use Rattle.core_laws.specs.Marks.{Unmarked}
use Rattle.bound_tree.specs.Claim.{Claim}
use Rattle.bound_tree.specs.declared.unit.BoundTree.{BoundTree}
use Rattle.bound_tree.specs.Tree.{Statement}
use Rattle.bound_tree.specs.Places.{places, places_of}
use Rattle.bound_tree.specs.Flows.{Flow, End, in_statement}
use Rattle.bound_tree.specs.Live.{live}
use Rattle.core_types.specs.Types.{Types, UnitTypes, of_unit}
use Rattle.core_types.specs.Slots.{FitsBy}
use Rattle.core_types.specs.Need.{need, Fits}
use Rattle.core_types.specs.Paths.{reads, ends}
use Rattle.core_types.specs.Origins.{OriginSuits, Operands, by_origin, origins, is_apart}
use Rattle.lowering.specs.Code.{Code}
use Rattle.lowering.specs.Endings.{part_may_end}
use Rattle.lowering.specs.Kinds.{IsTyped}
use Rattle.lowering.specs.Origins.{PartTold, part_nodes, table, Distinct}
use Rattle.lowering.specs.Lower.{stmt, code_of}
use Rattle.lowering.specs.Acts.{NamedActed, code_acts, acts_in, place_acts, part_varies}
use Rattle.lowering.specs.Steps.{steps_of}
use Rattle.lowering.specs.Numbers.{Numbers, numbered}
use Rattle.lowering.specs.CodeFlows.{flow, part_flow}
use Rattle.lowering.specs.Residue.{CoreActed, core_acts, held_claims, Next, claims_numbers, acted_numbers}

-- what the code of a statement does at places, with the claims of the monitors that it holds there, is what the tree does
-- there, with the claims of the place's ancestors; and then comes what stands behind it
abbrev pub StatementActs : Type 0
StatementActs = (varies : ℕ → Bool) (held : List Claim) (s : Statement) (k : Code) (rest : List NamedActed)
    → code_acts held (stmt varies s k) rest ≡ place_acts varies held (places s) (code_acts held k rest)

-- so it is with a unit
abbrev pub UnitActs : Type 0
UnitActs = (u : BoundTree) → acts_in (code_of u) ≡ place_acts (part_varies u.part) [] (places_of u) []

-- the places of the code are those of what it does, in the same order
abbrev pub StepsAreActs : Type 0
StepsAreActs = (k : Code) → steps_of k ≡ map (λ (a : NamedActed). a.at) (acts_in k)

-- numbers in the place of names leave it as it is
abbrev pub NumbersKeepActs : Type 0
NumbersKeepActs = (r : Numbers) (held : List Claim) (k : Code) (rest : List NamedActed)
    → core_acts (claims_numbers r held) (numbered r k) (acted_numbers r rest) ≡ acted_numbers r (code_acts held k rest)

-- numbered code has no mark
abbrev pub NumberedIsUnmarked : Type 0
NumberedIsUnmarked = (r : Numbers) (k : Code) → Unmarked (numbered r k)

-- what passes a test at each place of the code, by the claims around it, passes it wherever a run may come to it, by the claims
-- of the marks that are left
abbrev pub ActsStay : Type 0
ActsStay = (test : CoreActed → Bool) (s k : core.Code) (rest : List CoreActed) → Unmarked s
    → Each (λ (a : CoreActed). IsTrue (test a)) (core_acts (held_claims k) s rest)
    → Along (Next (λ (a : CoreActed). IsTrue (test a))) s k

-- the flow of the code of a statement is the tree's, and then comes that of what stands behind it
abbrev pub StatementFlow : Type 0
StatementFlow = (r : Numbers) (varies : ℕ → Bool) (s : Statement) (k : Code) (after : Flow)
    → flow (numbered r (stmt varies s k)) after ≡ in_statement s (flow (numbered r k) after)

-- the flow of a unit's code is that of its tree
abbrev pub UnitFlow : Type 0
UnitFlow = (r : Numbers) (u : BoundTree) → flow (numbered r (code_of u)) End ≡ part_flow u.part

-- ---- types

-- the code of a typed unit finds its temporaries
abbrev pub TypedCodeFits : Type 0
TypedCodeFits = (p : Program) (T : Types) (u : UnitTypes) (r : Numbers) (tree : BoundTree) → IsTyped p T u r tree
    → Fits p T u (numbered r (code_of tree)) []

-- and leaves none, nor needs any
abbrev pub TypedCodeNeedsNone : Type 0
TypedCodeNeedsNone = (p : Program) (T : Types) (u : UnitTypes) (r : Numbers) (tree : BoundTree) → IsTyped p T u r tree
    → need p T u (numbered r (code_of tree)) [] ≡ []

-- it may read a local before it sets it exactly where the local is live as the tree begins
abbrev pub ReadsAreLive : Type 0
ReadsAreLive = (r : Numbers) (tree : BoundTree) (x : ℕ) (after : Bool)
    → reads x (numbered r (code_of tree)) after ≡ live x (part_flow tree.part) after

-- it may come to an end without a result exactly where the tree may
abbrev pub EndsAsItsTree : Type 0
EndsAsItsTree = (p : Program) (T : Types) (u : UnitTypes) (r : Numbers) (tree : BoundTree) → IsTyped p T u r tree
    → ends false (numbered r (code_of tree)) true ≡ part_may_end tree.part

-- ---- origins

-- in the code of a typed unit the operands that a table tells have the origins that it tells: where it tells what the tree names
abbrev pub OperandsHaveOrigins : Type 0
OperandsHaveOrigins = (p : Program) (T : Types) (O : Operands) (u : ℕ) (r : Numbers) (tree : BoundTree)
    → IsTyped p T (of_unit T u) r tree → PartTold (O u) tree.part
    → FitsBy OriginSuits (by_origin p T O u) (numbered r (code_of tree)) []

abbrev pub OriginsNeedNone : Type 0
OriginsNeedNone = (p : Program) (T : Types) (O : Operands) (u : ℕ) (r : Numbers) (tree : BoundTree)
    → IsTyped p T (of_unit T u) r tree → PartTold (O u) tree.part
    → origins p T O u (numbered r (code_of tree)) ≡ []

-- no local is set while a temporary waits that comes from it
abbrev pub SetsStandApart : Type 0
SetsStandApart = (p : Program) (T : Types) (O : Operands) (u : ℕ) (r : Numbers) (tree : BoundTree)
    → IsTyped p T (of_unit T u) r tree → PartTold (O u) tree.part
    → Always (λ (k : core.Code). is_apart p T O u k ≡ true) (numbered r (code_of tree))

-- there is such a table where the nodes of the tree have numbers of their own
abbrev pub DistinctNodesTell : Type 0
DistinctNodesTell = (tree : BoundTree) → Distinct (part_nodes tree.part) → PartTold (table (part_nodes tree.part)) tree.part
