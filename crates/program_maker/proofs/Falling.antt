-- The code inside an instruction is smaller than any code that the instruction stands in.
use Rattle.std.proofs.Common.{◌≡◌, ℕ, ◌+◌, ◌≤◌, ◌<◌, List, [], ◌∷◌, length, get_or, arith, zero, suc, subst, sym}
use Rattle.lowering.specs.Code.{Code, Done, size_of}
use Rattle.lowering.specs.CodeOf.{before, code_onto}
use Rattle.lowering.specs.declared.code.NamedInstr.{NamedInstr}
use Rattle.lowering.specs.declared.code.NamedInstr.TheVariants as i

abbrev pub instr_size : NamedInstr → ℕ
instr_size (i.Do n p) = 1
instr_size (i.If n a b) = 1 + size_of a + size_of b
instr_size (i.While n a b) = 1 + size_of a + size_of b
instr_size (i.Enter n a) = 1 + size_of a
instr_size (i.EnterClass n c a) = 1 + size_of a

size-before : (x : NamedInstr) (k : Code) → instr_size x + size_of k ≡ size_of (before x k)
size-before (i.Do n p) k = omega arith
size-before (i.If n a b) k = omega arith
size-before (i.While n a b) k = omega arith
size-before (i.Enter n a) k = omega arith
size-before (i.EnterClass n c a) k = omega arith

onto-grows : (k : Code) (xs : List NamedInstr) → size_of k ≤ size_of (code_onto k xs)
onto-grows k [] = omega arith
onto-grows k (x ∷ xs) = omega (arith, size-before x k, onto-grows (before x k) xs)

pub instr-within : (k : Code) (xs : List NamedInstr) (at : ℕ) (d : NamedInstr) → at < length xs → instr_size (get_or xs at d) ≤ size_of (code_onto k xs)
instr-within k [] at d low = absurd (omega arith)
instr-within k (x ∷ xs) zero d low = omega (arith, size-before x k, onto-grows (before x k) xs)
instr-within k (x ∷ xs) (suc at) d low = instr-within (before x k) xs at d (omega arith)

pub item-within : (xs : List NamedInstr) (at : ℕ) (x : NamedInstr) (code : Code) → at < length xs → x ≡ get_or xs at x → code_onto Done xs ≡ code
    → instr_size x ≤ size_of code
item-within xs at x code low is all =
    subst (λ (k : Code). instr_size x ≤ size_of k) all
    (subst (λ (y : NamedInstr). instr_size y ≤ size_of (code_onto Done xs)) (sym is) (instr-within Done xs at x low))
