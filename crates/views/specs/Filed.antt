-- Surfaces by name.
use Rattle.std.specs.Prelude.{◌≡◌, ℕ, List, [], ◌∷◌, map, codes}
use Rattle.std.specs.Ordering.{match_ordering, nat_cmp}
use Rattle.std.specs.Cmp.Lexicographic.{slice_cmp}
use Rattle.std.specs.BTreeMap.{BTreeMap, keys, values}
use Rattle.std.specs.Borrow.{Bor}
use Rattle.java_tree.specs.declared.file.TypeKind.TheVariants as written
use Rattle.promise_scrub.specs.declared.surface.Surface.{Surface}
use Rattle.views.specs.Face.{bare_surface, runnable_surface}

-- The surfaces with one more, before the first of a greater name; one of the same name is replaced.
abbrev pub with_surface : List Surface → Surface → List Surface
with_surface [] s = s ∷ []
with_surface (x ∷ xs) s = match_ordering (slice_cmp nat_cmp s.name x.name) (s ∷ x ∷ xs) (s ∷ xs) (x ∷ with_surface xs s)

abbrev pub name_of : Surface → List ℕ
name_of s = s.name

-- the surfaces that are lent
abbrev pub lent : List (Bor Surface) → List Surface
lent list = map (λ (s : Bor Surface). s.now) list

-- each surface stands under its own name, and those of Object, String and Runnable are what they are
pub record IsFiled (types : BTreeMap (List ℕ) Surface) (object string runnable : Surface) : Type 0 where
  pub named : keys types ≡ map name_of (values types)
  pub is_object : object ≡ bare_surface (codes "Object") written.Class
  pub is_string : string ≡ bare_surface (codes "String") written.Class
  pub is_runnable : runnable ≡ runnable_surface
