-- The code that a list of instructions is, the last instruction first.
use Rattle.std.specs.Prelude.{List, [], ◌∷◌}
use Rattle.lowering.specs.Code.{Code, Do, If, While, Enter, EnterClass}
use Rattle.lowering.specs.declared.code.NamedInstr.{NamedInstr}
use Rattle.lowering.specs.declared.code.NamedInstr.TheVariants as i

-- an instruction with what comes after it
abbrev pub before : NamedInstr → Code → Code
before (i.Do n p) k = Do n p k
before (i.If n a b) k = If n a b k
before (i.While n c b) k = While n c b k
before (i.Enter n b) k = Enter n b k
before (i.EnterClass n c b) k = EnterClass n c b k

abbrev pub code_onto : Code → List NamedInstr → Code
code_onto k [] = k
code_onto k (i ∷ is) = code_onto (before i k) is
