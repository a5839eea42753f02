-- When lists of parameters have equal types.
use Rattle.std.proofs.Common.{◌≡◌, ℕ, suc, ◌≤◌, true, false, List, [], ◌∷◌, ◌&&◌, refl, sym, ap, ◌∙◌, length, drop, nat_eq, arith, Bool}
use Rattle.std.proofs.lemmas.Bool.Decides.{nat_tests}
use Rattle.std.proofs.lemmas.Grind.{common_steps}
use Rattle.class_faces.specs.Same.{same_ty}
use Rattle.class_faces.specs.declared.face.ParamFace.{ParamFace}
use Rattle.bound_unit.specs.Implemented.{same_params}

and_not : (b : Bool) → (b && false) ≡ false
and_not true = refl
and_not false = refl

less_one : (m n : ℕ) → nat_eq (suc m) (suc n) ≡ nat_eq m n
less_one m n = grind (arith, nat_tests)

pub counts_differ : (ps qs : List ParamFace) → nat_eq (length ps) (length qs) ≡ false → false ≡ same_params ps qs
counts_differ [] [] h = sym h
counts_differ [] (q ∷ qs) h = refl
counts_differ (p ∷ ps) [] h = refl
counts_differ (p ∷ ps) (q ∷ qs) h = sym (ap (λ b. same_ty p.ty q.ty && b) (sym (counts_differ ps qs (sym (less_one (length ps) (length qs)) ∙ h))) ∙ and_not (same_ty p.ty q.ty))

none : (ps : List ParamFace) (i : ℕ) → length ps ≤ i → drop i ps ≡ []
none ps i most = grind (arith, common_steps)

pub none_left : (ps qs : List ParamFace) (i : ℕ) → length ps ≤ i → length ps ≡ length qs
    → same_params (drop i ps) (drop i qs) ≡ same_params ps qs → true ≡ same_params ps qs
none_left ps qs i most same all =
    (let e : same_params (drop i ps) (drop i qs) ≡ true = rw (none ps i most, none qs i (omega (arith, most, same))) refl in sym e) ∙ all
