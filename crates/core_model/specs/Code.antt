-- Core code as plain data: each instruction holds what comes after it.
use Rattle.std.specs.Prelude.{ℕ, ◌+◌}
use Rattle.core_model.specs.declared.instr.Note.{Note}
use Rattle.core_model.specs.declared.instr.Plain.{Plain}

pub data Code : Type 0 where
  Done : Code
  Do : Note → Plain → Code → Code
  If : Note → Code → Code → Code → Code
  While : Note → Code → Code → Code → Code
  Enter : Note → Code → Code → Code
  EnterClass : Note → ℕ → Code → Code → Code
  Exit : Note → ℕ → Code → Code

infixr 5 ◌⧺◌
-- one piece of code, and then another
abbrev pub ◌⧺◌ : Code → Code → Code
Done ⧺ k = k
Do n p s ⧺ k = Do n p (s ⧺ k)
If n a b s ⧺ k = If n a b (s ⧺ k)
While n c b s ⧺ k = While n c b (s ⧺ k)
Enter n b s ⧺ k = Enter n b (s ⧺ k)
EnterClass n c b s ⧺ k = EnterClass n c b (s ⧺ k)
Exit n r s ⧺ k = Exit n r (s ⧺ k)

-- how many instructions there are, those inside others too
abbrev pub size_of : Code → ℕ
size_of Done = 0
size_of (Do n p s) = 1 + size_of s
size_of (If n a b s) = 1 + size_of a + size_of b + size_of s
size_of (While n c b s) = 1 + size_of c + size_of b + size_of s
size_of (Enter n b s) = 1 + size_of b + size_of s
size_of (EnterClass n c b s) = 1 + size_of b + size_of s
size_of (Exit n r s) = 1 + size_of s
