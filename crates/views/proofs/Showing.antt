-- What is looked up in the face of a type.
use Rattle.std.proofs.Common.{◌≡◌, ◌↔◌, ℕ, List, sym, ◌∙◌, ap, subst, [], ◌∷◌, refl, Bool, true, false, cond}
use Rattle.std.specs.Prelude.{Option, Some, None, MatchOption}
use Rattle.std.specs.Option.{option_map}
use Rattle.promise_scrub.specs.declared.surface.Surface.{Surface}
use Rattle.region_tree.specs.declared.decl.RegionDecl.{RegionDecl}
use Rattle.region_tree.specs.Regions as regions
use Rattle.views.specs.Indexed.{FieldUnderIn}
use Rattle.views.specs.Looks.{FieldUnder, RegionUnder, UnderIn, field_named, field_region_in, region_kind_in, region_kind_of, region_of, regions_in}
use Rattle.std.specs.Str.{bytes_eq}
use Rattle.std.proofs.lemmas.Slice.Eq.{bytes_eq-Decides}
use Rattle.views.specs.Seeing.{IsDeclaredAs, IsOwn}
use Rattle.views.specs.Face.{Face, Named, Seen, assumptions_of, face, face_of, surface_named, type_named}

pub face-some : (seen : Seen) (name : List ℕ) (t : Named) → type_named seen.surfaces name ≡ Some t → face seen name ≡ Some (face_of (assumptions_of seen) seen.class t)
unfolding face
face-some seen name t e = ap (option_map (face_of (assumptions_of seen) seen.class)) e

pub face-none : (seen : Seen) (name : List ℕ) → type_named seen.surfaces name ≡ None → face seen name ≡ None
unfolding face
face-none seen name e = ap (option_map (face_of (assumptions_of seen) seen.class)) e

-- a type that is found is shown, and of a name without one nothing
pub match_shown : {R : Type 0} (named : R → Named) (seen : Seen) (surfaces : List Surface) (name : List ℕ) (r : Option R) → surfaces ≡ seen.surfaces
    → MatchOption r (type_named surfaces name ≡ None) (λ f. type_named surfaces name ≡ Some (named f))
    → MatchOption r (face seen name ≡ None) (λ f. face seen name ≡ Some (face_of (assumptions_of seen) seen.class (named f)))
match_shown named seen surfaces name None e h = face-none seen name (ap (λ (z : List Surface). type_named z name) (sym e) ∙ h)
match_shown named seen surfaces name (Some x) e h = face-some seen name (named x) (ap (λ (z : List Surface). type_named z name) (sym e) ∙ h)

-- the regions of a declared type
pub regions-shown : (seen : Seen) (name : List ℕ) (s : Surface) → IsDeclaredAs seen name s → regions_in (face seen name) ≡ Some s.regions
regions-shown seen name s d = ap regions_in d.shown ∙ ap (λ (b : Bool). cond b (Some s.regions) None) d.declared

pub region_kind-shown : (seen : Seen) (name region : List ℕ) (s : Surface) → IsDeclaredAs seen name s
    → regions.kind_of s.regions region ≡ region_kind_in (face seen name) region
region_kind-shown seen name region s d = sym (ap (region_kind_of region) (regions-shown seen name s d))

pub under-shown : (seen : Seen) (name a b : List ℕ) (s : Surface) (T : Type 0) → IsDeclaredAs seen name s
    → T ↔ UnderIn (Some s.regions) a b → T ↔ RegionUnder (face seen name) a b
under-shown seen name a b s T d h = subst (λ (o : Option (List RegionDecl)). T ↔ UnderIn o a b) (sym (regions-shown seen name s d)) h

pub under-absent : (shown : Option Face) (a b : List ℕ) → regions_in shown ≡ None → RegionUnder shown a b → ⊥
under-absent shown a b e h = subst (λ (o : Option (List RegionDecl)). UnderIn o a b) e h

pub field-shown : (seen : Seen) (name field region : List ℕ) (s : Surface) (T : Type 0) → IsDeclaredAs seen name s
    → T ↔ FieldUnderIn s field region → T ↔ FieldUnder (face seen name) field region
field-shown seen name field region s T d h = (λ t. into (h.0 t), λ w. h.1 (back w))
  where
    same : field_region_in (face seen name) field ≡ option_map (region_of s.name s.standing) (field_named s.fields field)
    same = ap (λ (f : Option Face). field_region_in f field) d.shown

    into : FieldUnderIn s field region → FieldUnder (face seen name) field region
    into w = (w.own, same ∙ w.named, subst (λ (o : Option (List RegionDecl)). UnderIn o w.own region) (sym (regions-shown seen name s d)) w.under)

    back : FieldUnder (face seen name) field region → FieldUnderIn s field region
    back w = record { own = w.0; named = sym same ∙ w.1; under = subst (λ (o : Option (List RegionDecl)). UnderIn o w.0 region) (regions-shown seen name s d) w.2 }

-- ---- the class of a view

pub found_name : (ss : List Surface) (name : List ℕ) (s : Surface) → surface_named ss name ≡ Some s → s.name ≡ name
found_name [] name s e = absurd (cc)
found_name (x ∷ ss) name s e = go (bytes_eq x.name name) refl e (found_name ss name s)
  where
    same : Some x ≡ Some s → x ≡ s
    same e = cc

    go : (b : Bool) → bytes_eq x.name name ≡ b → cond b (Some x) (surface_named ss name) ≡ Some s → (surface_named ss name ≡ Some s → s.name ≡ name) → s.name ≡ name
    go true t found later = ap (λ (z : Surface). z.name) (sym (same found)) ∙ (bytes_eq-Decides x.name name).0 t
    go false t found later = later found

pub own_is : (ss : List Surface) (name : List ℕ) (s : Surface) → surface_named ss name ≡ Some s → IsOwn ss s
own_is ss name s e = record { among = ap (surface_named ss) (found_name ss name s e) ∙ e }
