-- The code that a list of instructions is, the last instruction first.
use Rattle.std.specs.Prelude.{ℕ, List, [], ◌∷◌, Option, Some, None}
use Rattle.core_model.specs.declared.instr.Plain.{Plain}
use Rattle.core_model.specs.Code.{Code, Do, If, While, Enter, EnterClass, Exit}
use Rattle.core_model.specs.declared.body.Instr.{Instr}
use Rattle.core_model.specs.declared.body.Instr.TheVariants as i

-- an instruction with what comes after it
abbrev pub before : Instr → Code → Code
before (i.Do n p) k = Do n p k
before (i.If n a b) k = If n a b k
before (i.While n c b) k = While n c b k
before (i.Enter n b) k = Enter n b k
before (i.EnterClass n c b) k = EnterClass n c b k
before (i.Exit n r) k = Exit n r k

abbrev pub code_onto : Code → List Instr → Code
code_onto k [] = k
code_onto k (i ∷ is) = code_onto (before i k) is

-- an instruction without code inside, and the object of a mark
abbrev pub plain_of : Instr → Option Plain
plain_of (i.Do n p) = Some p
plain_of (i.If n a b) = None
plain_of (i.While n c b) = None
plain_of (i.Enter n b) = None
plain_of (i.EnterClass n c b) = None
plain_of (i.Exit n r) = None

abbrev pub object_of : Instr → Option ℕ
object_of (i.Do n p) = None
object_of (i.If n a b) = None
object_of (i.While n c b) = None
object_of (i.Enter n b) = None
object_of (i.EnterClass n c b) = None
object_of (i.Exit n r) = Some r
