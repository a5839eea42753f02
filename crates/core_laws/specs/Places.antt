-- The places of code: what is left of it as a run may come to it.
use Rattle.std.specs.Prelude.{ℕ, List, [], ◌∷◌}
use Rattle.core_model.specs.Code.{Code, Done, Do, If, While, Enter, EnterClass, Exit, ◌⧺◌}
use Rattle.core_model.specs.declared.instr.Note.{Note}
use Rattle.core_model.specs.declared.config.Call.{Call}
use Rattle.core_model.specs.declared.config.Thread.{Thread}

-- what a loop goes on with after its condition
abbrev pub again : Note → Code → Code → Code → Code
again n c b k = If n (b ⧺ While n c b Done) Done k

-- P holds of what is left at each place of the code, k being what comes after it
abbrev pub Along : (Code → Type 0) → Code → Code → Type 0
Along P Done k = Unit {0}
Along P (Do n p s) k = P (Do n p (s ⧺ k)) × Along P s k
Along P (If n a b s) k = P (If n a b (s ⧺ k)) × Along P a (s ⧺ k) × Along P b (s ⧺ k) × Along P s k
Along P (While n c b s) k =
    P (While n c b (s ⧺ k)) × P (again n c b (s ⧺ k)) × Along P c (again n c b (s ⧺ k)) × Along P b (While n c b (s ⧺ k)) × Along P s k
Along P (Enter n b s) k =
    P (Enter n b (s ⧺ k)) × ((r : ℕ) → Along P b (Exit n r (s ⧺ k)) × P (Exit n r (s ⧺ k))) × Along P s k
Along P (EnterClass n c b s) k =
    P (EnterClass n c b (s ⧺ k)) × (Along P b (Exit n c (s ⧺ k)) × P (Exit n c (s ⧺ k))) × Along P s k
Along P (Exit n r s) k = P (Exit n r (s ⧺ k)) × Along P s k

-- P holds of what is left at each place of the code
abbrev pub Always : (Code → Type 0) → Code → Type 0
Always P s = Along P s Done

-- P holds of the code, unless nothing is left
abbrev pub Here : (Code → Type 0) → Code → Type 0
Here P Done = Unit {0}
Here P (Do n p k) = P (Do n p k)
Here P (If n a b k) = P (If n a b k)
Here P (While n c b k) = P (While n c b k)
Here P (Enter n b k) = P (Enter n b k)
Here P (EnterClass n c b k) = P (EnterClass n c b k)
Here P (Exit n r k) = P (Exit n r k)

abbrev pub Each : {A : Type 0} → (A → Type 0) → List A → Type 0
Each P [] = Unit {0}
Each P (x ∷ xs) = P x × Each P xs

-- P holds of each call of each thread
abbrev pub EveryCall : (Call → Type 0) → List Thread → Type 0
EveryCall P ts = Each (λ (t : Thread). Each P t.calls) ts
