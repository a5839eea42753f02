-- The code inside an instruction is smaller than any code that the instruction stands in.
use Rattle.std.specs.Prelude.{◌+◌, ◌≤◌, List, [], ◌∷◌, max}
use Rattle.std.proofs.Common.{arith}
use denote.Param.Weighed.{most}
use Rattle.lowering.specs.Code.{Code, Done, size_of}
use Rattle.lowering.specs.CodeOf.{before, code_onto}
use Rattle.lowering.specs.declared.code.NamedInstr.{NamedInstr}
use Rattle.lowering.specs.declared.code.NamedInstr.TheVariants as i
use Rattle.lowering.specs.declared.code.NamedCode.TheDeep.{deep-NamedInstr}

size_of-before : (x : NamedInstr) (k : Code) → deep-NamedInstr x + size_of k ≤ size_of (before x k)
size_of-before (i.Do n p) k = omega arith
size_of-before (i.If n a b) k = omega arith
size_of-before (i.While n a b) k = omega arith
size_of-before (i.Enter n a) k = omega arith
size_of-before (i.EnterClass n c a) k = omega arith

onto-grows : (k : Code) (is : List NamedInstr) → size_of k ≤ size_of (code_onto k is)
onto-grows k [] = omega arith
onto-grows k (x ∷ is) = omega (arith, size_of-before x k, onto-grows (before x k) is)

most_le-size_of : (k : Code) (is : List NamedInstr) → most deep-NamedInstr is ≤ size_of (code_onto k is)
most_le-size_of k [] = omega arith
most_le-size_of k (x ∷ is) =
    omega (arith, size_of-before x k, onto-grows (before x k) is, most_le-size_of (before x k) is)

pub max_le-size_of : (is : List NamedInstr) → max (most deep-NamedInstr is) 0 ≤ size_of (code_onto Done is)
max_le-size_of is = omega (arith, most_le-size_of Done is)
