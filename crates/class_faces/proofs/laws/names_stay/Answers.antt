use Rattle.std.proofs.lemmas.Str.{IsUtf8-from_ascii, utf8_lossy-IsUtf8}
use Rattle.class_faces.proofs.laws.names_stay.Goals as goal

pub returns : goal.returns
returns c = λ name ascii. utf8_lossy-IsUtf8 name (IsUtf8-from_ascii name ascii)
