-- The first lost findings, and the ends of steps, one further.
use Rattle.std.proofs.Common.{◌≡◌, ℕ, ◌+◌, ◌<◌, List, [], ◌∷◌, length, get_or, take, arith, refl, sym, ◌∙◌, ap, subst, ◌⊎◌, inl, inr, Bool, true, false}
use Rattle.std.specs.Prelude.{Contains, Option, Some, None}
use Rattle.std.proofs.Math.ListN.{set}
use Rattle.std.proofs.lemmas.List.{get_or_default, get_or-set_same, get_or-set_other}
use Rattle.std.proofs.lemmas.List.Elements.{Contains-get_or}
use Rattle.consistency.specs.declared.graph.Clause.{Clause}
use Rattle.consistency.specs.declared.steps.Step.{Step}
use Rattle.consistency.specs.declared.steps.Step.TheVariants.{Own, Via}
use Rattle.consistency.specs.Steps.{InOrder}
use Rattle.consistency.specs.Tables.{CauseTo, Causes, Ends, EndsTo, Falls, cause_next, end_by, lost_of}
use Rattle.consistency.proofs.Takes.{before, cases}
use Rattle.consistency.proofs.Marks.{same_or_not}

last_or_below : (l n : ℕ) → l < n + 1 → (l ≡ n) ⊎ (l < n)
last_or_below l n h = grind arith

pub cause_none : (cs : List Clause) (left : List (Option ℕ)) (given : Bool) (p : ℕ) (o : Option ℕ) → o ≡ None → CauseTo cs left given 0 p o
cause_none cs left given p None e = λ j d lt. absurd (omega arith)
cause_none cs left given p (Some f) e = absurd cc

read_of : (cs : List Clause) (i j : ℕ) (d c : Clause) → i < length cs → c ≡ get_or cs i c → j ≡ i → get_or cs j d ≡ c
read_of cs i j d c lt at e = ap (λ (z : ℕ). get_or cs z d) e ∙ get_or_default cs i d c lt ∙ sym at

cause_here : (cs : List Clause) (left : List (Option ℕ)) (given : Bool) (i : ℕ) (c : Clause) (o : Option ℕ) (b : Bool) → i < length cs → c ≡ get_or cs i c
    → lost_of left given c ≡ b → CauseTo cs left given i c.on o → CauseTo cs left given (i + 1) c.on (cause_next o b i)
cause_here cs left given i c (Some f) b lt at is h = (let l = h.0 in omega arith, h.1, h.2)
cause_here cs left given i c None true lt at is h = (
  omega arith,
  λ d. let r = read_of cs i i d c lt at refl in (ap (λ (z : Clause). z.on) r, ap (λ (z : Clause). lost_of left given z) r ∙ is),
  λ j d lj on. h j d lj on,
)
cause_here cs left given i c None false lt at is h = λ j d lj on. elim (last_or_below j i lj) [
  | inl last ↦ ap (λ (z : Clause). lost_of left given z) (read_of cs i j d c lt at last) ∙ is
  | inr below ↦ h j d below on
]

cause_there : (cs : List Clause) (left : List (Option ℕ)) (given : Bool) (i : ℕ) (c : Clause) (p : ℕ) (o : Option ℕ) → i < length cs → c ≡ get_or cs i c
    → (p ≡ c.on → ⊥) → CauseTo cs left given i p o → CauseTo cs left given (i + 1) p o
cause_there cs left given i c p (Some f) lt at other h = (let l = h.0 in omega arith, h.1, h.2)
cause_there cs left given i c p None lt at other h = λ j d lj on. elim (last_or_below j i lj) [
  | inl last ↦ absurd (other (sym on ∙ ap (λ (z : Clause). z.on) (read_of cs i j d c lt at last)))
  | inr below ↦ h j d below on
]

pub causes_more : (cs : List Clause) (left : List (Option ℕ)) (given : Bool) (i n : ℕ) (c : Clause) (causes : List (Option ℕ)) (cause : Option ℕ) (lost : Bool) → i < length cs → c ≡ get_or cs i c
    → lost ≡ lost_of left given c → n ≡ i → cause ≡ cause_next (get_or causes c.on None) lost n → length causes ≡ length left → c.on < length left
    → Causes cs left given i causes → Causes cs left given (i + 1) (set causes c.on cause)
causes_more cs left given i n c causes cause lost lt at is ni ce size inn h p lp = elim (same_or_not p c.on) [
  | inl same ↦ (
      let now : get_or (set causes c.on cause) p None ≡ cause = subst (λ (z : ℕ). get_or (set causes c.on cause) z None ≡ cause) (sym same) (get_or-set_same causes c.on cause None (omega (arith, size, inn))) in
      let was = subst (λ (z : ℕ). CauseTo cs left given i z (get_or causes z None)) same (h p lp) in
      let next = cause_here cs left given i c (get_or causes c.on None) lost lt at (sym is) was in
      let value : cause_next (get_or causes c.on None) lost i ≡ get_or (set causes c.on cause) p None = ap (λ (z : ℕ). cause_next (get_or causes c.on None) lost z) (sym ni) ∙ sym ce ∙ sym now in
      subst (λ (z : ℕ). CauseTo cs left given (i + 1) z (get_or (set causes c.on cause) p None)) (sym same) (subst (λ (o : Option ℕ). CauseTo cs left given (i + 1) c.on o) value next))
  | inr other ↦ (
      let now = get_or-set_other causes c.on p cause None other in
      subst (λ (o : Option ℕ). CauseTo cs left given (i + 1) p o) (sym now) (cause_there cs left given i c p (get_or causes p None) lt at other (h p lp)))
]

-- ---- the ends of steps

pub ends_none : (left : List (Option ℕ)) (steps : List (Option Step)) (order : List ℕ) (ends : List (Option ℕ)) → EndsTo left steps (take 0 order) ends
ends_none left steps order ends = record { each = λ p c. absurd (nothing order p c); among = λ p q c. absurd (nothing order p c) }
  where
    nothing : (order : List ℕ) (p : ℕ) → Contains (take 0 order) p → ⊥
    nothing [] p c = let l = c.1 in omega arith
    nothing (x ∷ xs) p c = let l = c.1 in omega arith

end_same : (a b : List (Option ℕ)) (o : Option Step) → ((q : ℕ) → o ≡ Some (Via q) → get_or a q None ≡ get_or b q None) → end_by a o ≡ end_by b o
end_same a b None h = refl
end_same a b (Some (Own x)) h = refl
end_same a b (Some (Via q)) h = h q refl

pub ends_more : (left : List (Option ℕ)) (steps : List (Option Step)) (order : List ℕ) (i p : ℕ) (ends : List (Option ℕ)) (v : Option ℕ) → i < length order → p ≡ get_or order i 0
    → length ends ≡ length left → InOrder left order → Falls left steps → v ≡ end_by ends (get_or steps p None)
    → EndsTo left steps (take i order) ends → EndsTo left steps (take (i + 1) order) (set ends p v)
ends_more left steps order i p ends v li is size o falls ve e =
    let inn = o.within p (subst (λ (z : ℕ). Contains order z) (sym is) (Contains-get_or order i 0 li)) in
    let lp : p < length ends = (let l = inn.0 in omega (arith, l, size)) in
    let same = get_or-set_same ends p v None lp in
    let early = λ (q : ℕ) (h : get_or steps p None ≡ Some (Via q)). (let f = falls p q inn.0 h in
    let c = o.sorted i q f.0 f.1 li (subst (λ (z : ℕ). get_or left z None ≡ Some f.0) is f.2) f.3 f.4 in let z : Contains (take i order) q = c in z) in
    let apart = λ (q : ℕ) (h : get_or steps p None ≡ Some (Via q)) (e2 : q ≡ p). (let f = falls p q inn.0 h in
    let a = f.2 in let b = subst (λ (z : ℕ). get_or left z None ≡ Some f.1) e2 f.3 in let lt = f.4 in
    let both : f.0 ≡ f.1 = number_same f.0 f.1 (sym a ∙ b) in let z : ⊥ = omega (arith, both, lt) in z) in
    record {
      each = λ p2 c. elim (same_or_not p2 p) [
        | inl here ↦ (
            let now : get_or (set ends p v) p2 None ≡ v = subst (λ (z : ℕ). get_or (set ends p v) z None ≡ v) (sym here) same in
            let step : end_by (set ends p v) (get_or steps p2 None) ≡ end_by ends (get_or steps p2 None) =
            end_same (set ends p v) ends (get_or steps p2 None) (λ q h. get_or-set_other ends p q v None (apart q (subst (λ (z : ℕ). get_or steps z None ≡ Some (Via q)) here h))) in
            now ∙ ve ∙ ap (λ (z : ℕ). end_by ends (get_or steps z None)) (sym here) ∙ sym step)
        | inr other ↦ elim (cases order i 0 p2 li c) [
          | inr at ↦ absurd (other (sym at ∙ sym is))
          | inl old ↦ (
              let step : end_by (set ends p v) (get_or steps p2 None) ≡ end_by ends (get_or steps p2 None) =
              end_same (set ends p v) ends (get_or steps p2 None) (λ q h. elim (same_or_not q p) [
                | inl qp ↦ (let known = e.each p (subst (λ (z : ℕ). Contains (take i order) z) qp (e.among p2 q old h)) in
                    subst (λ (z : ℕ). get_or (set ends p v) z None ≡ get_or ends z None) (sym qp) (same ∙ ve ∙ sym known))
                | inr qo ↦ get_or-set_other ends p q v None qo
              ]) in
              get_or-set_other ends p p2 v None other ∙ e.each p2 old ∙ sym step)
        ]
      ];
      among = λ p2 q c h. elim (cases order i 0 p2 li c) [
        | inl old ↦ before order i 0 q li (e.among p2 q old h)
        | inr at ↦ before order i 0 q li (early q (subst (λ (z : ℕ). get_or steps z None ≡ Some (Via q)) (sym at ∙ sym is) h))
      ];
    }
  where
    number_same : (r s : ℕ) → Some r ≡ Some s → r ≡ s
    number_same r s e = cc

pub ends_all : (left : List (Option ℕ)) (steps : List (Option Step)) (order : List ℕ) (ends : List (Option ℕ)) → InOrder left order → EndsTo left steps order ends → Ends left steps ends
ends_all left steps order ends o e p r h = e.each p (o.has p r h)

-- what is taken from a list stands in it
pub place_in : (xs order : List ℕ) (i : ℕ) → xs ≡ order → i < length xs → Contains order (get_or xs i 0)
place_in xs order i e lt = subst (λ (z : List ℕ). Contains z (get_or xs i 0)) e (Contains-get_or xs i 0 lt)
