-- What is proved of the types of programs, each as one statement.
use Rattle.core_model.specs.declared.program.Program.{Program}
use Rattle.core_types.specs.Types.{Types, UnitTypes, locals_of}
use Rattle.std.specs.Prelude.{◌≡◌, ℕ, Bool}
use Rattle.bound_tree.specs.Tree.{Statement}
use Rattle.lowering.specs.Lower.{code_of}
use Rattle.lowering.specs.Numbers.{Numbers, numbered}
use Rattle.program_types.specs.Codes.{CodeFits}
use Rattle.lowering.specs.Operands.{Fits}
use Rattle.lowering.specs.Kinds.{types_asked, IsTyped}
use Rattle.name_rules.specs.Types as rules
use Rattle.typed_units.specs.Frames.{Frame}
use Rattle.typed_units.specs.Statements.{StatementTyped}
use Rattle.typed_units.specs.Units.{TypedUnit}
use Rattle.unit_rules.specs.Shown.{types_shown}
use Rattle.bound_unit.specs.Names.{Faces}
use Rattle.bound_unit.specs.UnitFacts.{UnitFacts}
use Rattle.program_types.specs.Types.{value_types, result_type, part_types, params_in}
use Rattle.program_types.specs.Numbering.{NumbersFit}

-- a statement that is typed by names is typed by numbers that fit them, in a unit of these locals and result
abbrev pub NamesFitNumbers : Type 0
NamesFitNumbers = (p : Program) (T : Types) (u : UnitTypes) (r : Numbers) (f : Frame) (varies : ℕ → Bool) (s : Statement)
    → NumbersFit p T r f.types → locals_of u ≡ value_types r f.locals → u.result ≡ result_type r f.result
    → StatementTyped f s → Fits (types_asked p T u r) varies s

-- the tree of a unit that is typed by names is typed by numbers that fit them, its parameters being those that its class shows
abbrev pub UnitsFitNumbers : Type 0
UnitsFitNumbers = (p : Program) (T : Types) (r : Numbers) (faces : Faces) (u : UnitFacts)
    → NumbersFit p T r (types_shown faces) → TypedUnit faces u
    → IsTyped p T (part_types r u.tree.class (params_in (rules.member_in u.key (types_shown faces u.tree.class))) u.tree.part) r u.tree

-- and its code is that of a well typed program
abbrev pub CodeFitsNumbers : Type 0
CodeFitsNumbers = (p : Program) (T : Types) (r : Numbers) (faces : Faces) (u : UnitFacts)
    → NumbersFit p T r (types_shown faces) → TypedUnit faces u → u.code ≡ code_of u.tree
    → CodeFits p T (part_types r u.tree.class (params_in (rules.member_in u.key (types_shown faces u.tree.class))) u.tree.part) (numbered r u.code)
