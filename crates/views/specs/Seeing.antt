-- The class of a view is among its surfaces, and what is shown of declared types.
use Rattle.std.specs.Prelude.{◌≡◌, ℕ, List, Some, true}
use Rattle.promise_scrub.specs.declared.surface.Surface.{Surface}
use Rattle.views.specs.declared.kind.FaceKind.{FaceKind}
use Rattle.views.specs.Face.{Seen, assumptions_of, face, face_of, surface_named}
use Rattle.views.specs.Kinds.{is_declared}

pub record IsOwn (surfaces : List Surface) (own : Surface) : Type 0 where
  pub among : surface_named surfaces own.name ≡ Some own

-- the name is that of a class or interface with this surface
pub record IsDeclaredAs (seen : Seen) (name : List ℕ) (s : Surface) : Type 0 where
  pub kind : FaceKind
  pub declared : is_declared kind ≡ true
  pub shown : face seen name ≡ Some (face_of (assumptions_of seen) seen.class (record { kind = kind; surface = s }))
