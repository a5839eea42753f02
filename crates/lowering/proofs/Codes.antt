-- Lists of instructions, the last one first, as code.
use Rattle.std.proofs.Common.{◌≡◌, List, [], ◌∷◌, ◌++◌, refl}
use Rattle.lowering.specs.Code.{Code}
use Rattle.lowering.specs.CodeOf.{before, code_onto}
use Rattle.lowering.specs.declared.code.NamedInstr.{NamedInstr}

pub onto-append : (k : Code) (xs ys : List NamedInstr) → code_onto k (xs ++ ys) ≡ code_onto (code_onto k xs) ys
onto-append k [] ys = refl
onto-append k (x ∷ xs) ys = onto-append (before x k) xs ys
