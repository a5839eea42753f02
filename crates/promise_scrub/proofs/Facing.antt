-- What is found in units, put together.
use Rattle.std.proofs.Common.{◌≡◌, ℕ, List, [], ◌∷◌, ◌++◌, refl, sym, ◌∙◌, ap, append-nil}
use Rattle.std.specs.Prelude.{Option, fold}
use Rattle.std.specs.List.{flat_map}
use Rattle.std.proofs.lemmas.List.{append_assoc}
use Rattle.promise_scrub.specs.declared.found.Found.{Found}
use Rattle.promise_scrub.specs.declared.surface.Aside.{Aside}
use Rattle.promise_scrub.specs.declared.surface.Standing.{Standing}
use Rattle.promise_scrub.specs.Found.{found_in, found_more, found_nothing}
use Rattle.promise_scrub.specs.Surfaces.{UnitAnnotations, aside_at, assumptions_of, class_facts, face_with, names_of, standing_at, units_of, vouched_at}
use Rattle.promise_scrub.specs.declared.surface.Assumption.{Assumption}
use Rattle.promise_scrub.specs.declared.surface.Surface.{Surface as Face}
use Rattle.java_tree.specs.declared.file.ClassTree.{ClassTree}
use Rattle.class_faces.specs.declared.face.FieldFace.{FieldFace}
use Rattle.class_faces.specs.declared.face.MemberFace.{MemberFace}
use Rattle.class_faces.specs.Faces.{field_faces, member_faces}
use Rattle.promise_marks.specs.declared.mark.Mark.{Mark}
use Rattle.region_tree.specs.declared.decl.RegionDecl.{RegionDecl}
use Rattle.result_records.specs.declared.code.FindingCode.{FindingCode}
use Rattle.scrub_rules.specs.Target.{Kinds}

abbrev mk : List Standing → List Aside → List (List ℕ) → Found
mk s a v = record { standing = s; aside = a; vouched = v }

found_after : (s : List Standing) (a : List Aside) (v : List (List ℕ)) (units : List UnitAnnotations)
    → fold found_more (mk s a v) units ≡ mk (s ++ flat_map standing_at units) (a ++ flat_map aside_at units) (v ++ flat_map vouched_at units)
found_after s a v [] = λ i. mk (sym (append-nil s) i) (sym (append-nil a) i) (sym (append-nil v) i)
found_after s a v (u ∷ us) =
    found_after (s ++ standing_at u) (a ++ aside_at u) (v ++ vouched_at u) us
    ∙ (λ i. mk (append_assoc s (standing_at u) (flat_map standing_at us) i) (append_assoc a (aside_at u) (flat_map aside_at us) i)
    (append_assoc v (vouched_at u) (flat_map vouched_at us) i))

-- what is found in units is what each of them has
pub found_all : (units : List UnitAnnotations) → found_in found_nothing units
    ≡ record { standing = flat_map standing_at units; aside = flat_map aside_at units; vouched = flat_map vouched_at units }
found_all units = found_after [] [] [] units

-- the surface put together from its parts
pub face_is : (class : ClassTree) (header : List Mark) (marks : List (List Mark)) (regions : List RegionDecl) (rk lk : Kinds) (codes : List (Option FindingCode))
    (name : List ℕ) (implements : List (List ℕ)) (fields : List FieldFace) (members : List MemberFace) (found : Found) (assumptions : List Assumption)
    → name ≡ class.name.text → implements ≡ names_of class.implements → fields ≡ field_faces class → members ≡ member_faces class
    → found ≡ found_in found_nothing (units_of class header marks rk lk codes) → assumptions ≡ assumptions_of (class_facts class.name.text rk lk) header codes
    → record {
      kind = class.kind;
      name = name;
      implements = implements;
      fields = fields;
      members = members;
      regions = regions;
      standing = found.standing;
      aside = found.aside;
      assumptions = assumptions;
      vouched = found.vouched;
    } ≡ face_with class header marks regions rk lk codes
face_is class header marks regions rk lk codes name implements fields members found assumptions n im fs ms fd asm =
    let f = fd ∙ found_all (units_of class header marks rk lk codes) in
    λ i. record {
      kind = class.kind;
      name = n i;
      implements = im i;
      fields = fs i;
      members = ms i;
      regions = regions;
      standing = (f i).standing;
      aside = (f i).aside;
      assumptions = asm i;
      vouched = (f i).vouched;
    }
