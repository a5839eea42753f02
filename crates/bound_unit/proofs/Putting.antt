-- What a loop by numbers puts for the elements of a list.
use Rattle.std.proofs.Common.{◌≡◌, ℕ, ◌+◌, zero, suc, List, [], ◌∷◌, ◌++◌, refl, sym, ap, ◌∙◌, drop, append_assoc, arith}
use Rattle.std.specs.List.{flat_map, slice_get}
use Rattle.std.specs.Prelude.{Option}
use Rattle.class_faces.specs.declared.face.ParamFace.{ParamFace}
use Rattle.promise_scrub.specs.declared.surface.Standing.{Standing}
use Rattle.bound_unit.specs.Names.{Name, standing_names, standing_names_if}

one_more : (i : ℕ) → i + 1 ≡ suc i
one_more i = omega arith

first_left : (params : List ParamFace) (xs : List Standing) (i : ℕ)
    → flat_map (standing_names params) (drop i xs) ≡ standing_names_if params (slice_get xs i) ++ flat_map (standing_names params) (drop (suc i) xs)
first_left params [] zero = refl
first_left params [] (suc i) = refl
first_left params (x ∷ xs) zero = refl
first_left params (x ∷ xs) (suc i) = first_left params xs i

pub put_next : (params : List ParamFace) (xs : List Standing) (i : ℕ) (given : Option Standing) (old new all : List Name)
    → given ≡ slice_get xs i → old ++ flat_map (standing_names params) (drop i xs) ≡ all
    → new ≡ old ++ standing_names_if params given
    → new ++ flat_map (standing_names params) (drop (i + 1) xs) ≡ all
put_next params xs i given old new all is before put =
    ap (λ l. l ++ flat_map (standing_names params) (drop (i + 1) xs)) (put ∙ ap (λ g. old ++ standing_names_if params g) is)
    ∙ (append_assoc old (standing_names_if params (slice_get xs i)) (flat_map (standing_names params) (drop (i + 1) xs))
    ∙ (ap (λ k. old ++ (standing_names_if params (slice_get xs i) ++ flat_map (standing_names params) (drop k xs))) (one_more i)
    ∙ (ap (λ l. old ++ l) (sym (first_left params xs i)) ∙ before)))
