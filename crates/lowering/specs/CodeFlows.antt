-- How core code names and sets locals.
use Rattle.std.specs.Prelude.{Bool, true, false, Option, Some, None}
use Rattle.core_model.specs.Code.{Code, Done, Do, If, While, Enter, EnterClass, Exit}
use Rattle.core_model.specs.declared.instr.Note.{Note}
use Rattle.core_model.specs.declared.instr.Plain.{Plain}
use Rattle.core_model.specs.declared.instr.Plain.TheVariants as plain
use Rattle.bound_tree.specs.Flows.{Flow, End, Names, Sets, Leaves, Either, Again, flow_of}
use Rattle.bound_tree.specs.declared.name.ValueType.{ValueType}
use Rattle.bound_tree.specs.declared.unit.Part.{Part}
use Rattle.bound_tree.specs.declared.unit.Part.TheVariants as part
use Rattle.bound_tree.specs.Reading.{statement_of}

-- of an instruction, with what comes after it
abbrev pub flow_by : Note → Plain → Flow → Flow
flow_by n (plain.Get x) k = Names x n.place k
flow_by n (plain.Set x) k = Sets x k
flow_by n plain.Return k = Leaves k
flow_by n plain.ReturnValue k = Leaves k
flow_by n _ k = k

-- a loop's condition is evaluated once, and again after each turn
abbrev pub flow : Code → Flow → Flow
flow Done after = after
flow (Do n p k) after = flow_by n p (flow k after)
flow (If n a b k) after = Either (flow a End) (flow b End) (flow k after)
flow (While n c b k) after = flow c (Again (flow b (flow c End)) (flow k after))
flow (Enter n b k) after = flow b (flow k after)
flow (EnterClass n c b k) after = flow b (flow k after)
flow (Exit n r k) after = flow k after

-- ---- of the tree of a unit

-- a synchronized member that isn't static names `this` before its body
abbrev pub entered : (synchronized static : Bool) → Flow → Flow
entered true false k = Names 0 0 k
entered true true k = k
entered false static k = k

-- the code of an interface's method with a result is a loop, which does nothing to locals
abbrev pub sig_flow : Option ValueType → Flow
sig_flow None = End
sig_flow (Some ty) = Again End End

abbrev pub part_flow : Part → Flow
part_flow (part.Header names) = End
part_flow (part.Field ty initial) = End
part_flow (part.Sig params result) = sig_flow result
part_flow (part.Body b) = entered b.is_synchronized b.is_static (flow_of (statement_of b.block))
