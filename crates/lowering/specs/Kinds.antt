-- The two kinds of temporaries that are asked for: their types, and the locals that they come from.
use Rattle.std.specs.Prelude.{ℕ}
use Rattle.core_model.specs.declared.program.Program.{Program}
use Rattle.core_types.specs.Types.{Ty, Types, UnitTypes}
use Rattle.core_types.specs.Belonging.{Suits}
use Rattle.core_types.specs.Need.{by_type}
use Rattle.core_types.specs.Origins.{Origin, OriginSuits, Operands, by_origin}
use Rattle.bound_tree.specs.declared.unit.BoundTree.{BoundTree}
use Rattle.lowering.specs.Numbers.{Numbers}
use Rattle.lowering.specs.Operands.{Kind, PartFits}

-- in a unit of these types, by these numbers
abbrev pub types_asked : Program → Types → UnitTypes → Numbers → Kind Ty
types_asked p T u r = record { Suits = Suits T; uses = by_type p T u; numbers = r }

-- in unit u, by a table of operands
abbrev pub origins_asked : Program → Types → Operands → ℕ → Numbers → Kind Origin
origins_asked p T O u r = record { Suits = OriginSuits; uses = by_origin p T O u; numbers = r }

-- the tree of a unit is typed: each expression gives what suits its place
abbrev pub IsTyped : Program → Types → UnitTypes → Numbers → BoundTree → Type 0
IsTyped p T u r tree = PartFits (types_asked p T u r) tree.class tree.part
