-- The texts of a unit: of a field the one that it begins with, and those that stand in code, in its order.
use Rattle.std.specs.Prelude.{List, [], ◌∷◌, ◌++◌}
use Rattle.bound_tree.specs.declared.unit.Initial.{Initial}
use Rattle.bound_tree.specs.declared.unit.Initial.TheVariants as initial
use Rattle.bound_tree.specs.declared.unit.Part.{Part}
use Rattle.bound_tree.specs.declared.unit.Part.TheVariants as part
use Rattle.lowering.specs.declared.code.NamedInstr.{NamedInstr}
use Rattle.lowering.specs.declared.code.NamedInstr.TheVariants as i
use Rattle.lowering.specs.declared.instr.Constant.{Constant}
use Rattle.lowering.specs.declared.instr.Constant.TheVariants as constant
use Rattle.lowering.specs.declared.instr.NamedPlain.{NamedPlain}
use Rattle.lowering.specs.declared.instr.NamedPlain.TheVariants as plain
use Rattle.lowering.specs.Code.{Code, Done, Do, If, While, Enter, EnterClass}
use Rattle.bound_unit.specs.UnitFacts.{UnitFacts}
use Rattle.program_maker.specs.Seen.{Name}

abbrev pub constant_texts : Constant → List Name
constant_texts (constant.Text t) = t ∷ []
constant_texts _ = []

abbrev pub plain_texts : NamedPlain → List Name
plain_texts (plain.Const v) = constant_texts v
plain_texts _ = []

abbrev pub code_texts : Code → List Name
code_texts Done = []
code_texts (Do n p k) = plain_texts p ++ code_texts k
code_texts (If n a b k) = code_texts a ++ (code_texts b ++ code_texts k)
code_texts (While n c b k) = code_texts c ++ (code_texts b ++ code_texts k)
code_texts (Enter n b k) = code_texts b ++ code_texts k
code_texts (EnterClass n c b k) = code_texts b ++ code_texts k

abbrev pub initial_texts : Initial → List Name
initial_texts (initial.Str t) = t ∷ []
initial_texts _ = []

abbrev pub part_texts : Part → List Name
part_texts (part.Field ty i) = initial_texts i
part_texts _ = []

abbrev pub unit_texts : UnitFacts → List Name
unit_texts u = part_texts u.tree.part ++ code_texts u.code

-- of one instruction
abbrev pub instr_texts : NamedInstr → List Name
instr_texts (i.Do n p) = plain_texts p
instr_texts (i.If n a b) = code_texts a ++ code_texts b
instr_texts (i.While n c b) = code_texts c ++ code_texts b
instr_texts (i.Enter n b) = code_texts b
instr_texts (i.EnterClass n c b) = code_texts b

-- of a list of instructions, the last of which comes first
abbrev pub list_texts : List NamedInstr → List Name
list_texts [] = []
list_texts (x ∷ xs) = list_texts xs ++ instr_texts x
