-- The code inside an instruction is smaller than any code that the instruction stands in.
use Rattle.std.specs.Prelude.{◌+◌, ◌≤◌, List, [], ◌∷◌, max}
use Rattle.std.proofs.Common.{arith}
use denote.Param.Weighed.{most}
use Rattle.core_model.specs.Code.{Code, Done, size_of}
use Rattle.core_model.specs.CodeOf.{before, code_onto}
use Rattle.core_model.specs.declared.body.Instr.{Instr}
use Rattle.core_model.specs.declared.body.Instr.TheVariants as i
use Rattle.core_model.specs.declared.body.Body.TheDeep.{deep-Instr}

size_of-before : (x : Instr) (k : Code) → deep-Instr x + size_of k ≤ size_of (before x k)
size_of-before (i.Do n p) k = omega arith
size_of-before (i.If n a b) k = omega arith
size_of-before (i.While n a b) k = omega arith
size_of-before (i.Enter n a) k = omega arith
size_of-before (i.EnterClass n c a) k = omega arith
size_of-before (i.Exit n r) k = omega arith

onto-grows : (k : Code) (is : List Instr) → size_of k ≤ size_of (code_onto k is)
onto-grows k [] = omega arith
onto-grows k (x ∷ is) = omega (arith, size_of-before x k, onto-grows (before x k) is)

most_le-size_of : (k : Code) (is : List Instr) → most deep-Instr is ≤ size_of (code_onto k is)
most_le-size_of k [] = omega arith
most_le-size_of k (x ∷ is) =
    omega (arith, size_of-before x k, onto-grows (before x k) is, most_le-size_of (before x k) is)

pub max_le-size_of : (is : List Instr) → max (most deep-Instr is) 0 ≤ size_of (code_onto Done is)
max_le-size_of is = omega (arith, most_le-size_of Done is)
