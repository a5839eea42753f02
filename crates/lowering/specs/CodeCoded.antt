-- How code is told apart: as the list of its instructions' marks, from which a stack gives it back.
use Rattle.std.specs.Prelude.{◌≡◌, ℕ, zero, suc, List, [], ◌∷◌, Option, Some, None, ◌⊎◌, refl}
use Rattle.std.specs.Coded.{Coded, code_by, coded_list, coded_option, coded×, coded⊎, coded_ℕ}
use Rattle.std.proofs.Common.{inl, inr, ap, ◌∙◌}
use Rattle.lowering.specs.declared.instr.NamedNote.{NamedNote}
use Rattle.lowering.specs.declared.instr.NamedPlain.{NamedPlain}
use Rattle.lowering.specs.contracts.instr.NamedNote as note
use Rattle.lowering.specs.contracts.instr.NamedPlain as plain
use Rattle.lowering.specs.Code.{Code, Done, Do, If, While, Enter, EnterClass}

-- an instruction without its code: nothing is the end; a number tells `If`, `While`, `Enter` and `EnterClass`, whose class
-- stands beside it
abbrev Mark : Type 0
Mark = Option (NamedNote × (NamedPlain ⊎ (ℕ × List ℕ)))

-- the marks of the code, its parts first, and then more
abbrev marks : Code → List Mark → List Mark
marks Done m = None ∷ m
marks (Do n p s) m = marks s (Some (n, inl p) ∷ m)
marks (If n a b s) m = marks a (marks b (marks s (Some (n, inr (0, [])) ∷ m)))
marks (While n c b s) m = marks c (marks b (marks s (Some (n, inr (1, [])) ∷ m)))
marks (Enter n b s) m = marks b (marks s (Some (n, inr (2, [])) ∷ m))
marks (EnterClass n c b s) m = marks b (marks s (Some (n, inr (3, c)) ∷ m))

abbrev numbered : NamedNote → ℕ → List ℕ → List Code → List Code
numbered n zero c (s ∷ b ∷ a ∷ stack) = If n a b s ∷ stack
numbered n (suc zero) c (s ∷ b ∷ a ∷ stack) = While n a b s ∷ stack
numbered n (suc (suc zero)) c (s ∷ b ∷ stack) = Enter n b s ∷ stack
numbered n (suc (suc (suc k))) c (s ∷ b ∷ stack) = EnterClass n c b s ∷ stack
numbered n k c stack = stack

abbrev plainly : NamedNote → NamedPlain → List Code → List Code
plainly n p [] = []
plainly n p (s ∷ stack) = Do n p s ∷ stack

abbrev put : Mark → List Code → List Code
put None stack = Done ∷ stack
put (Some (n, inl p)) stack = plainly n p stack
put (Some (n, inr (k, c))) stack = numbered n k c stack

abbrev codes : List Mark → List Code → List Code
codes [] stack = stack
codes (m ∷ ms) stack = codes ms (put m stack)

abbrev top : List Code → Code
top [] = Done
top (s ∷ stack) = s

pub codes-marks : (s : Code) (m : List Mark) (stack : List Code) → codes (marks s m) stack ≡ codes m (s ∷ stack)
codes-marks Done m stack = refl
codes-marks (Do n p s) m stack = codes-marks s _ stack
codes-marks (If n a b s) m stack = codes-marks a _ stack ∙ codes-marks b _ (a ∷ stack) ∙ codes-marks s _ (b ∷ a ∷ stack)
codes-marks (While n a b s) m stack = codes-marks a _ stack ∙ codes-marks b _ (a ∷ stack) ∙ codes-marks s _ (b ∷ a ∷ stack)
codes-marks (Enter n b s) m stack = codes-marks b _ stack ∙ codes-marks s _ (b ∷ stack)
codes-marks (EnterClass n c b s) m stack = codes-marks b _ stack ∙ codes-marks s _ (b ∷ stack)

abbrev pub coded_code : Coded Code
coded_code =
    code_by (List Mark) (coded_list (coded_option (coded× note.the_row.coded (coded⊎ plain.the_row.coded (coded× coded_ℕ (coded_list coded_ℕ))))))
    (λ s. marks s []) (λ m. top (codes m [])) (λ s. ap top (codes-marks s [] []))
