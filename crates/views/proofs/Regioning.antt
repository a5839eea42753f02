-- The regions of a surface by their numbers.
use Rattle.std.proofs.Common.{◌≡◌, ◌↔◌, ℕ, ◌<◌, List, length, map, refl, sym, ◌∙◌, ap, subst, Bool, true, false}
use Rattle.std.specs.Prelude.{IsTrue, Option, Some, None, find, option_and_then}
use Rattle.std.specs.List.{slice_get}
use Rattle.std.specs.Option.{option_map}
use Rattle.std.specs.BTreeMap.{BTreeMap}
use Rattle.std.proofs.lemmas.Option.{slice_get-map}
use Rattle.class_faces.specs.declared.face.FieldFace.{FieldFace}
use Rattle.promise_scrub.specs.declared.surface.Surface.{Surface}
use Rattle.region_tree.specs.declared.decl.RegionDecl.{RegionDecl}
use Rattle.region_tree.specs.declared.tree.RegionId.{RegionId}
use Rattle.region_tree.specs.Chains.{IsUnder}
use Rattle.region_tree.specs.Names.{Numbered, number_at}
use Rattle.region_tree.specs.Regions.{kind_of, number_of, parents_of, region_kinds}
use Rattle.region_tree.specs.Tree.{parents_in, region_in}
use Rattle.region_tree.proofs.Numbers.{names-parents, number_below}
use Rattle.views.specs.declared.regions.Regions.{Regions}
use Rattle.views.specs.declared.shape.Shape.{Shape}
use Rattle.views.specs.Indexed.{AllWithin, AreRegions, FieldUnderIn, IdUnder, IsShape, field_regions, region_at, region_id}
use Rattle.views.specs.Indexes.{field_is, place_at}
use Rattle.views.specs.Looks.{UnderIn, field_named, region_of}
use Rattle.views.proofs.Finding.{found_none, found_some}

pub kind-none : (numbers : BTreeMap (List ℕ) ℕ) (declared : List RegionDecl) (name : List ℕ) → Numbered numbers declared → None ≡ number_at numbers name
    → None ≡ kind_of declared name
unfolding kind_of
kind-none numbers declared name n e = ap (option_and_then (slice_get (region_kinds declared))) (e ∙ n.numbered name)

pub kind-some : (numbers : BTreeMap (List ℕ) ℕ) (declared : List RegionDecl) (name : List ℕ) (k : ℕ) → Numbered numbers declared → Some k ≡ number_at numbers name
    → slice_get (region_kinds declared) k ≡ kind_of declared name
unfolding kind_of
kind-some numbers declared name k n e = ap (option_and_then (slice_get (region_kinds declared))) (e ∙ n.numbered name)

-- ---- the regions of fields

number_or : Option RegionId → ℕ → ℕ
number_or None k = k
number_or (Some i) k = i.number

number_same : (k : ℕ) (id : RegionId) → Some (region_id k) ≡ Some id → k ≡ id.number
unfolding number_or
number_same k id e = ap (λ (o : Option RegionId). number_or o k) e

in_tree : (declared : List RegionDecl) (o : Option FieldFace) (s : Surface) (id : RegionId) → option_map (region_at s) o ≡ Some (Some id)
    → id.number < length (parents_of s.regions)
in_tree declared None s id e = absurd (cc)
in_tree declared (Some f) s id e = go (number_of s.regions (region_of s.name s.standing f)) refl (some_same (region_at s f) (Some id) e)
  where
    some_same : (a b : Option RegionId) → Some a ≡ Some b → a ≡ b
    some_same a b e = cc

    go : (n : Option ℕ) → number_of s.regions (region_of s.name s.standing f) ≡ n → option_map region_id n ≡ Some id → id.number < length (parents_of s.regions)
    go None is e = absurd (cc)
    go (Some k) is e =
        let same : k ≡ id.number = number_same k id e in
        subst (λ (z : ℕ). z < length (parents_of s.regions)) same
        (subst (λ (z : ℕ). k < z) (sym (names-parents s.regions)) (number_below s.regions (region_of s.name s.standing f) k is))

at_field : (s : Surface) (r : Regions) (at : ℕ) → AreRegions s r → slice_get r.of_fields at ≡ option_map (region_at s) (slice_get s.fields at)
at_field s r at a = ap (λ (z : List (Option RegionId)). slice_get z at) a.fields ∙ slice_get-map (region_at s) s.fields at

pub all_within : (s : Surface) (r : Regions) → AreRegions s r → AllWithin r
all_within s r a = record {
  within = λ at id e.
      subst (λ (z : List (Option ℕ)). id.number < length z) (sym a.tree.parents)
      (in_tree s.regions (slice_get s.fields at) s id (sym (at_field s r at a) ∙ e));
}

-- the region of a field is under another just where that of its number is
under-is : (s : Surface) (r : Regions) (o : Option FieldFace) (field region : List ℕ) → AreRegions s r → o ≡ field_named s.fields field
    → IdUnder r.tree (option_map (region_at s) o) region ↔ FieldUnderIn s field region
under-is s r None field region a is = (λ w. absurd w, λ w. absurd (let e = is in let n = w.named in none_named is n))
  where
    none_named : {own : List ℕ} → None ≡ field_named s.fields field → option_map (region_of s.name s.standing) (field_named s.fields field) ≡ Some own → ⊥
    none_named e n = cc
under-is s r (Some f) field region a is = go (number_of s.regions (region_of s.name s.standing f)) refl
  where
    own_is : option_map (region_of s.name s.standing) (field_named s.fields field) ≡ Some (region_of s.name s.standing f)
    own_is = sym (ap (option_map (region_of s.name s.standing)) is)

    name_same : (own : List ℕ) → option_map (region_of s.name s.standing) (field_named s.fields field) ≡ Some own → region_of s.name s.standing f ≡ own
    name_same own e = let p = own_is in cc

    number_same : (x y : ℕ) → Some x ≡ Some y → x ≡ y
    number_same x y e = cc

    go : (n : Option ℕ) → number_of s.regions (region_of s.name s.standing f) ≡ n → IdUnder r.tree (Some (option_map region_id n)) region ↔ FieldUnderIn s field region
    go None none = (
      λ w. absurd w,
      λ w. absurd (no_number w.under.0 (sym none ∙ ap (number_of s.regions) (name_same w.own w.named) ∙ w.under.2)),
    )
      where
        no_number : (x : ℕ) → None ≡ Some x → ⊥
        no_number x e = cc
    go (Some k) some = (
      λ w. record {
        own = region_of s.name s.standing f;
        named = own_is;
        under = (k, w.0, some, sym (a.tree.names region) ∙ w.1, subst (λ (ps : List (Option ℕ)). IsUnder ps k w.0) a.tree.parents w.2);
      },
      λ w.
          let same : k ≡ w.under.0 = number_same k w.under.0 (sym some ∙ ap (number_of s.regions) (name_same w.own w.named) ∙ w.under.2) in (
            w.under.1,
            a.tree.names region ∙ w.under.3,
            subst (λ (ps : List (Option ℕ)). IsUnder ps k w.under.1) (sym a.tree.parents) (subst (λ (x : ℕ). IsUnder (parents_of s.regions) x w.under.1) (sym same) w.under.4),
          ),
    )

pub under-field : (s t : Surface) (shape : Shape) (r : Regions) (at : ℕ) (field region : List ℕ) (T : Type 0) → s ≡ t → IsShape s shape → AreRegions s r
    → Some at ≡ place_at shape.fields field → T ↔ IdUnder r.tree (slice_get r.of_fields at) region
    → T ↔ FieldUnderIn t field region
under-field s t shape r at field region T same h a e u =
    subst (λ (z : Surface). T ↔ FieldUnderIn z field region) same (λ x. w.0 (v.0 x), λ y. v.1 (w.1 y))
  where
    v : T ↔ IdUnder r.tree (option_map (region_at s) (slice_get s.fields at)) region
    v = subst (λ (z : Option (Option RegionId)). T ↔ IdUnder r.tree z region) (at_field s r at a) u

    w : IdUnder r.tree (option_map (region_at s) (slice_get s.fields at)) region ↔ FieldUnderIn s field region
    w = under-is s r (slice_get s.fields at) field region a (found_some (place_at shape.fields) field_is s.fields field at h.fields (sym e))

pub under-none : (s t : Surface) (shape : Shape) (field region : List ℕ) → s ≡ t → IsShape s shape → None ≡ place_at shape.fields field
    → IsTrue false ↔ FieldUnderIn t field region
under-none s t shape field region same h e = subst (λ (z : Surface). IsTrue false ↔ FieldUnderIn z field region) same (λ x. absurd (false_not x), λ w. absurd (none_named w.own (found_none (place_at shape.fields) field_is s.fields field h.fields (sym e)) w.named))
  where
    false_not : IsTrue false → ⊥
    false_not x = cc

    none_named : (own : List ℕ) → field_named s.fields field ≡ None → option_map (region_of s.name s.standing) (field_named s.fields field) ≡ Some own → ⊥
    none_named own e n = cc
