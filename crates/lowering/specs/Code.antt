-- Core code with names in the place of numbers, as plain data: each instruction holds what comes after it. No unit's code has
-- a mark of a monitor, so none can be written here.
use Rattle.std.specs.Prelude.{ℕ, ◌+◌, List}
use Rattle.lowering.specs.declared.instr.NamedNote.{NamedNote}
use Rattle.lowering.specs.declared.instr.NamedPlain.{NamedPlain}

pub data Code : Type 0 where
  Done : Code
  Do : NamedNote → NamedPlain → Code → Code
  If : NamedNote → Code → Code → Code → Code
  While : NamedNote → Code → Code → Code → Code
  Enter : NamedNote → Code → Code → Code
  EnterClass : NamedNote → List ℕ → Code → Code → Code

-- how many instructions there are, those inside others too
abbrev pub size_of : Code → ℕ
size_of Done = 0
size_of (Do n p k) = 1 + size_of k
size_of (If n a b k) = 1 + size_of a + size_of b + size_of k
size_of (While n c b k) = 1 + size_of c + size_of b + size_of k
size_of (Enter n b k) = 1 + size_of b + size_of k
size_of (EnterClass n c b k) = 1 + size_of b + size_of k
