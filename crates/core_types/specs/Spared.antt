-- Code that leaves a field of objects of a kind as it is.
use Rattle.std.specs.Prelude.{ℕ, ◌==◌, ◌&&◌, not, Bool, true, false}
use Rattle.core_model.specs.Code.{Code, Do}
use Rattle.core_model.specs.declared.instr.Known.{Known}
use Rattle.core_model.specs.declared.instr.Known.TheVariants as known
use Rattle.core_model.specs.declared.instr.Plain.{Plain}
use Rattle.core_model.specs.declared.instr.Plain.TheVariants as plain
use Rattle.core_model.specs.declared.object.ObjKind.{ObjKind}
use Rattle.core_model.specs.declared.object.ObjKind.TheVariants as kind

abbrev pub is_made_of : ObjKind → ℕ → Bool
is_made_of (kind.Holder d) c = false
is_made_of (kind.Made d) c = d == c
is_made_of kind.Plain c = false

abbrev pub is_holder_of : ObjKind → ℕ → Bool
is_holder_of (kind.Holder d) c = d == c
is_holder_of (kind.Made d) c = false
is_holder_of kind.Plain c = false

-- by the class that is noted
abbrev pub is_noted : ObjKind → Known → Bool
is_noted k known.Nothing = false
is_noted k (known.Class c) = is_made_of k c
is_noted k (known.Monitor m) = false

abbrev pub writes_field : ObjKind → ℕ → Known → Plain → Bool
writes_field k i n (plain.PutField j) = is_noted k n && (j == i)
writes_field k i n (plain.PutStatic c j) = is_holder_of k c && (j == i)
writes_field k i n _ = false

-- the next instruction doesn't write field i of an object of the kind
abbrev pub spares_field : ObjKind → ℕ → Code → Bool
spares_field k i (Do n p l) = not (writes_field k i n.known p)
spares_field k i _ = true
