-- The test of a field's region tells what the view shows.
use Rattle.std.proofs.Common.{◌≡◌, ℕ, List, refl, sym, ◌∙◌, ap, Bool, true, false}
use Rattle.std.specs.Prelude.{Option, Some, None, IsTrue, ◌↔◌}
use Rattle.region_tree.specs.declared.decl.RegionDecl.{RegionDecl}
use Rattle.region_tree.specs.Regions.{number_of, parents_of}
use Rattle.views.specs.Face.{Face}
use Rattle.views.specs.Looks.{FieldUnder, UnderIn, field_region_in, regions_in}
use Rattle.lock_check.specs.Under.{field_is_under, name_is_under, number_is_under}
use Rattle.lock_check.proofs.Climbing.{climbs_under, under_climbs}

numbers_under : (ds : List RegionDecl) (a b : Option ℕ) (own region : List ℕ) → number_of ds own ≡ a → number_of ds region ≡ b
    → number_is_under ds a b ≡ true → UnderIn (Some ds) own region
numbers_under ds None b own region is_a is_b e = absurd cc
numbers_under ds (Some x) None own region is_a is_b e = absurd cc
numbers_under ds (Some x) (Some y) own region is_a is_b e = (x, y, is_a, is_b, climbs_under (parents_of ds) x y e)

under_numbers : (ds : List RegionDecl) (own region : List ℕ) → UnderIn (Some ds) own region
    → number_is_under ds (number_of ds own) (number_of ds region) ≡ true
under_numbers ds own region u =
    ap (λ (n : Option ℕ). number_is_under ds n (number_of ds region)) u.2
    ∙ ap (λ (n : Option ℕ). number_is_under ds (Some u.0) n) u.3
    ∙ under_climbs (parents_of ds) u.0 u.1 u.4

name_under : (ds : Option (List RegionDecl)) (named : Option (List ℕ)) (region : List ℕ) → name_is_under ds named region ≡ true
    → (own : List ℕ) × (named ≡ Some own) × UnderIn ds own region
name_under None None region e = absurd cc
name_under None (Some own) region e = absurd cc
name_under (Some ds) None region e = absurd cc
name_under (Some ds) (Some own) region e = (own, refl, numbers_under ds (number_of ds own) (number_of ds region) own region refl refl e)

under_name : (ds : Option (List RegionDecl)) (own region : List ℕ) → UnderIn ds own region → name_is_under ds (Some own) region ≡ true
under_name None own region u = absurd u
under_name (Some ds) own region u = under_numbers ds own region u

-- the test says that the field's region is under the region exactly where it is
pub field_under : (shown : Option Face) (field region : List ℕ) → IsTrue (field_is_under shown field region) ↔ FieldUnder shown field region
field_under shown field region = (there, back)
  where
    there : IsTrue (field_is_under shown field region) → FieldUnder shown field region
    there h = name_under (regions_in shown) (field_region_in shown field) region h

    back : FieldUnder shown field region → IsTrue (field_is_under shown field region)
    back u =
        ap (λ (n : Option (List ℕ)). name_is_under (regions_in shown) n region) u.1 ∙ under_name (regions_in shown) u.0 region u.2

same_tests : (a b : Bool) → (IsTrue a → IsTrue b) → (IsTrue b → IsTrue a) → a ≡ b
same_tests true true f g = refl
same_tests true false f g = sym (f refl)
same_tests false true f g = g refl
same_tests false false f g = refl

-- what a look-up answers is the test
pub told_under : (shown : Option Face) (field region : List ℕ) (told : Bool) → IsTrue told ↔ FieldUnder shown field region → told ≡ field_is_under shown field region
told_under shown field region told is =
    same_tests told (field_is_under shown field region) (λ h. (field_under shown field region).1 (is.0 h)) (λ h. is.1 ((field_under shown field region).0 h))
