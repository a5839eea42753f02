-- How code is told apart: as the list of its instructions' marks, from which a stack gives it back.
use Rattle.std.specs.Prelude.{◌≡◌, ℕ, zero, suc, List, [], ◌∷◌, Option, Some, None, ◌⊎◌, refl}
use Rattle.std.specs.Coded.{Coded, code_by, coded_list, coded_option, coded×, coded⊎, coded_ℕ}
use Rattle.std.proofs.Common.{inl, inr, ap, ◌∙◌}
use Rattle.core_model.specs.declared.instr.Note.{Note}
use Rattle.core_model.specs.declared.instr.Plain.{Plain}
use Rattle.core_model.specs.contracts.instr.Note as note
use Rattle.core_model.specs.contracts.instr.Plain as plain
use Rattle.core_model.specs.Code.{Code, Done, Do, If, While, Enter, EnterClass, Exit}

-- an instruction without its code: nothing is the end; a number tells `If`, `While`, `Enter`, `EnterClass` and `Exit`
abbrev Mark : Type 0
Mark = Option (Note × (Plain ⊎ (ℕ × ℕ)))

-- the marks of the code, its parts first, and then more
abbrev marks : Code → List Mark → List Mark
marks Done m = None ∷ m
marks (Do n p s) m = marks s (Some (n, inl p) ∷ m)
marks (If n a b s) m = marks a (marks b (marks s (Some (n, inr (0, 0)) ∷ m)))
marks (While n c b s) m = marks c (marks b (marks s (Some (n, inr (1, 0)) ∷ m)))
marks (Enter n b s) m = marks b (marks s (Some (n, inr (2, 0)) ∷ m))
marks (EnterClass n c b s) m = marks b (marks s (Some (n, inr (3, c)) ∷ m))
marks (Exit n r s) m = marks s (Some (n, inr (4, r)) ∷ m)

abbrev numbered : Note → ℕ → ℕ → List Code → List Code
numbered n zero r (s ∷ b ∷ a ∷ stack) = If n a b s ∷ stack
numbered n (suc zero) r (s ∷ b ∷ c ∷ stack) = While n c b s ∷ stack
numbered n (suc (suc zero)) r (s ∷ b ∷ stack) = Enter n b s ∷ stack
numbered n (suc (suc (suc zero))) r (s ∷ b ∷ stack) = EnterClass n r b s ∷ stack
numbered n (suc (suc (suc (suc k)))) r (s ∷ stack) = Exit n r s ∷ stack
numbered n k r stack = stack

abbrev plainly : Note → Plain → List Code → List Code
plainly n p [] = []
plainly n p (s ∷ stack) = Do n p s ∷ stack

abbrev put : Mark → List Code → List Code
put None stack = Done ∷ stack
put (Some (n, inl p)) stack = plainly n p stack
put (Some (n, inr (k, r))) stack = numbered n k r stack

abbrev codes : List Mark → List Code → List Code
codes [] stack = stack
codes (m ∷ ms) stack = codes ms (put m stack)

abbrev top : List Code → Code
top [] = Done
top (s ∷ stack) = s

pub codes-marks : (s : Code) (m : List Mark) (stack : List Code) → codes (marks s m) stack ≡ codes m (s ∷ stack)
codes-marks Done m stack = refl
codes-marks (Do n p s) m stack = codes-marks s _ stack
codes-marks (If n a b s) m stack = codes-marks a _ stack ∙ codes-marks b _ (a ∷ stack) ∙ codes-marks s _ (b ∷ a ∷ stack)
codes-marks (While n a b s) m stack = codes-marks a _ stack ∙ codes-marks b _ (a ∷ stack) ∙ codes-marks s _ (b ∷ a ∷ stack)
codes-marks (Enter n b s) m stack = codes-marks b _ stack ∙ codes-marks s _ (b ∷ stack)
codes-marks (EnterClass n c b s) m stack = codes-marks b _ stack ∙ codes-marks s _ (b ∷ stack)
codes-marks (Exit n r s) m stack = codes-marks s _ stack

abbrev pub coded_code : Coded Code
coded_code =
    code_by (List Mark) (coded_list (coded_option (coded× note.the_row.coded (coded⊎ plain.the_row.coded (coded× coded_ℕ coded_ℕ)))))
    (λ s. marks s []) (λ m. top (codes m [])) (λ s. ap top (codes-marks s [] []))
