-- Types and their surfaces by their names.
use Rattle.std.proofs.Common.{◌≡◌, ◌≢◌, ℕ, zero, suc, ◌+◌, ◌<◌, List, [], ◌∷◌, ◌++◌, length, get_or, map, refl, sym, ap, ◌∙◌, arith}
use Rattle.std.specs.List.{AllByRecursion, AllZip, Contains}
use Rattle.std.proofs.lemmas.List.Elements.{Contains-append_right}
use Rattle.promise_scrub.specs.Surfaces.{Surface}
use Rattle.promise_scrub.specs.declared.surface.Surface.{Surface as Face}
use Rattle.java_tree.specs.declared.file.ClassTree.{ClassTree}
use Rattle.project_files.specs.Repeats.{NoRepeat, name_of}
use Rattle.project_files.specs.Trees.{ClassText}
use Rattle.project_surfaces.specs.Gathered.{IsFace}

-- a surface has the name of its class
pub named_face : (class : ClassTree) (face : Face) → Surface class face → face.name ≡ class.name.text
named_face class face is = ap (λ (s : Face). s.name) is.is

last_mapped : {X Y : Type 0} (f : X → Y) (xs : List X) (x : X) (d : Y) → get_or (map f (xs ++ x ∷ [])) (length xs) d ≡ f x
last_mapped f [] x d = refl
last_mapped f (y ∷ xs) x d = last_mapped f xs x d

one_longer : {X Y : Type 0} (f : X → Y) (xs : List X) (x : X) → length (map f (xs ++ x ∷ [])) ≡ suc (length xs)
one_longer f [] x = refl
one_longer f (y ∷ xs) x = ap suc (one_longer f xs x)

-- no type has the name of one behind it
pub not_before : (types : List ClassText) (c d : ClassText) → NoRepeat (types ++ c ∷ []) → Contains types d → name_of d ≢ name_of c
not_before [] c d apart (k, low, is) same = absurd (omega arith)
not_before (t ∷ types) c d apart (zero, low, is) same =
    let long : length (map name_of (types ++ c ∷ [])) ≡ suc (length types) = one_longer name_of types c in
    apart 0 (suc (length types)) [] (omega arith) (omega arith) (ap name_of is ∙ (same ∙ sym (last_mapped name_of types c [])))
not_before (t ∷ types) c d apart (suc k, low, is) same =
    not_before types c d (λ i j e less end. apart (suc i) (suc j) e (omega arith) (omega arith)) (k, omega arith, is) same

-- the surfaces of types of which none has a name have it neither
pub other_names : (types : List ClassText) (faces : List Face) (name : List ℕ) → AllZip IsFace types faces → ((d : ClassText) → Contains types d → name_of d ≢ name)
    → AllByRecursion (λ (f : Face). f.name ≢ name) faces
other_names [] [] name all none = tt
other_names [] (f ∷ faces) name all none = absurd all
other_names (t ∷ types) [] name all none = absurd all
other_names (t ∷ types) (f ∷ faces) name all none = (
  (λ same. none t (0, omega arith, refl) (sym (named_face t.class f all.0) ∙ same)),
  other_names types faces name all.1 (λ d among. none d (Contains-append_right (t ∷ []) types d among)),
)
