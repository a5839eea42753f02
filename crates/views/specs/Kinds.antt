-- Kinds of types.
use Rattle.std.specs.Prelude.{Bool, true, false}
use Rattle.views.specs.declared.kind.FaceKind.{FaceKind}
use Rattle.views.specs.declared.kind.FaceKind.TheVariants as kind

-- a class or an interface
abbrev pub is_declared : FaceKind → Bool
is_declared kind.Class = true
is_declared kind.Interface = true
is_declared kind.Object = false
is_declared kind.String = false
is_declared kind.Runnable = false
