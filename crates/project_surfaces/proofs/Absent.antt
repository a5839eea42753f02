-- A name that no surface has.
use Rattle.std.proofs.Common.{◌≡◌, ◌≢◌, ℕ, Bool, true, false, cond, List, [], ◌∷◌, refl, sym, ap, ◌∙◌, subst}
use Rattle.std.specs.Prelude.{Option, Some, None, fold}
use Rattle.std.specs.List.{AllByRecursion}
use Rattle.std.specs.Ordering.{match_ordering, nat_cmp}
use Rattle.std.specs.declared.cmp.Ordering.{Ordering}
use Rattle.std.specs.declared.cmp.Ordering.TheVariants.{Less, Equal, Greater}
use Rattle.std.specs.Cmp.Lexicographic.{slice_cmp}
use Rattle.std.specs.Str.{bytes_eq}
use Rattle.std.proofs.lemmas.Slice.Eq.{bytes_eq-Decides}
use Rattle.promise_scrub.specs.declared.surface.Surface.{Surface}
use Rattle.views.specs.Face.{surface_named}
use Rattle.views.specs.Filed.{with_surface}

first_other : (b : Bool) (s : Surface) (o : Option Surface) → cond b (Some s) o ≡ None → b ≡ false
first_other true s o e = absurd (cc)
first_other false s o e = refl

rest_other : (b : Bool) (s : Surface) (o : Option Surface) → cond b (Some s) o ≡ None → o ≡ None
rest_other true s o e = absurd (cc)
rest_other false s o e = e

both_other : (b : Bool) (s : Surface) (o : Option Surface) → b ≡ false → o ≡ None → cond b (Some s) o ≡ None
both_other true s o e f = absurd (cc)
both_other false s o e f = f

other_name : (a b : List ℕ) → a ≢ b → bytes_eq a b ≡ false
other_name a b apart = go (bytes_eq a b) refl
  where
    go : (t : Bool) → bytes_eq a b ≡ t → t ≡ false
    go true e = absurd (apart ((bytes_eq-Decides a b).0 e))
    go false e = refl

absent_one : (xs : List Surface) (s : Surface) (n : List ℕ) → surface_named xs n ≡ None → s.name ≢ n → surface_named (with_surface xs s) n ≡ None
absent_one [] s n none other = both_other (bytes_eq s.name n) s None (other_name s.name n other) refl
absent_one (x ∷ xs) s n none other = go (slice_cmp nat_cmp s.name x.name) (absent_one xs s n rest other)
  where
    here : bytes_eq x.name n ≡ false
    here = first_other (bytes_eq x.name n) x (surface_named xs n) none

    rest : surface_named xs n ≡ None
    rest = rest_other (bytes_eq x.name n) x (surface_named xs n) none

    go : (o : Ordering) → surface_named (with_surface xs s) n ≡ None → surface_named (match_ordering o (s ∷ x ∷ xs) (s ∷ xs) (x ∷ with_surface xs s)) n ≡ None
    go Less later = both_other (bytes_eq s.name n) s (surface_named (x ∷ xs) n) (other_name s.name n other) none
    go Equal later = both_other (bytes_eq s.name n) s (surface_named xs n) (other_name s.name n other) rest
    go Greater later = both_other (bytes_eq x.name n) x (surface_named (with_surface xs s) n) here later

-- it isn't found among them
pub absent : (faces xs : List Surface) (n : List ℕ) → surface_named xs n ≡ None → AllByRecursion (λ (f : Surface). f.name ≢ n) faces → surface_named (fold with_surface xs faces) n ≡ None
absent [] xs n none all = none
absent (f ∷ faces) xs n none all = absent faces (with_surface xs f) n (absent_one xs f n none all.0) all.1
