-- Code that grows at its front, numbered.
use Rattle.std.proofs.Common.{◌≡◌, ℕ, ◌+◌, ◌<◌, List, [], ◌∷◌, ◌++◌, length, take, get_or, refl, sym, ◌∙◌, ap}
use Rattle.std.proofs.lemmas.List.{take_more}
use Rattle.core_model.specs.CodeOf.{before as core_before}
use Rattle.lowering.specs.declared.code.NamedInstr.{NamedInstr}
use Rattle.lowering.specs.declared.code.NamedInstr.TheVariants as i
use Rattle.lowering.specs.Code.{Code, Done}
use Rattle.lowering.specs.CodeOf.{before, code_onto}
use Rattle.lowering.specs.Numbers.{Numbers, numbered}
use Rattle.lowering.proofs.Codes.{onto-append}
use Rattle.program_maker.specs.InstrNumbers.{instr_number}

numbered-before : (r : Numbers) (x : NamedInstr) (k : Code) → numbered r (before x k) ≡ core_before (instr_number r x) (numbered r k)
numbered-before r (i.Do n p) k = refl
numbered-before r (i.If n a b) k = refl
numbered-before r (i.While n a b) k = refl
numbered-before r (i.Enter n b) k = refl
numbered-before r (i.EnterClass n c b) k = refl

pub numbered_more : (r : Numbers) (xs : List NamedInstr) (at : ℕ) (x : NamedInstr) → at < length xs → x ≡ get_or xs at x
    → numbered r (code_onto Done (take (at + 1) xs)) ≡ core_before (instr_number r x) (numbered r (code_onto Done (take at xs)))
numbered_more r xs at x low is =
    ap (λ (l : List NamedInstr). numbered r (code_onto Done l)) (take_more xs at x low ∙ ap (λ (y : NamedInstr). take at xs ++ y ∷ []) (sym is))
    ∙ ap (numbered r) (onto-append Done (take at xs) (x ∷ []))
    ∙ numbered-before r x (code_onto Done (take at xs))
