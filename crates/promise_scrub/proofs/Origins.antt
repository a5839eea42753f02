-- Where a promise that stands comes from: the annotation that gives it, and what it offers.
use Rattle.std.proofs.Common.{◌≡◌, ℕ, zero, suc, List, [], ◌∷◌, ◌++◌, refl, sym, ◌∙◌, ap, subst, inl, inr, Bool, true, false}
use Rattle.std.specs.Prelude.{◌⊎◌, ◌&&◌, not, Option, Some, None, filter, fold, nat_le, if◌then◌else◌}
use Rattle.std.specs.List.{flat_map, list_any}
use Rattle.promise_grammar.specs.declared.tree.PromiseTree.{PromiseTree}
use Rattle.result_records.specs.declared.code.FindingCode.{FindingCode}
use Rattle.result_records.specs.declared.code.FindingCode.TheVariants as scrub
use Rattle.scrub_rules.specs.declared.offer.Offer.{Offer}
use Rattle.scrub_rules.specs.Code.{least, rank_of}
use Rattle.promise_scrub.specs.Standing.{IsOneOf}
use Rattle.promise_scrub.specs.Surfaces.{UnitAnnotations, standing_at}
use Rattle.promise_scrub.specs.Verdicts.{Annotation, Bad, Content, Dropped, Gives, Judged, SetAside, Stands, Verdict, by_code, by_offers, first_of, given, judged, judged_after, judged_more, kept, offers_in, own, repeated, same_key, standing_of, standings, standings_after, stands_after, stands_by, stands_more, verdict_by}
use Rattle.promise_scrub.specs.declared.surface.Standing.{Standing}

-- ---- lists

pub one_left : {A : Type 0} (x : A) (xs ys : List A) → IsOneOf x xs → IsOneOf x (xs ++ ys)
one_left x [] ys h = absurd h
one_left x (y ∷ xs) ys (inl e) = inl e
one_left x (y ∷ xs) ys (inr h) = inr (one_left x xs ys h)

pub one_split : {A : Type 0} (x : A) (xs ys : List A) → IsOneOf x (xs ++ ys) → IsOneOf x xs ⊎ IsOneOf x ys
one_split x [] ys h = inr h
one_split x (y ∷ xs) ys (inl e) = inl (inl e)
one_split x (y ∷ xs) ys (inr h) = elim (one_split x xs ys h) [ inl a ↦ inl (inr a) | inr b ↦ inr b ]

pub one_flat : {A B : Type 0} (f : A → List B) (y : B) (xs : List A) → IsOneOf y (flat_map f xs) → (x : A) × IsOneOf x xs × IsOneOf y (f x)
one_flat f y [] h = absurd h
one_flat f y (x ∷ xs) h = elim (one_split y (f x) (flat_map f xs) h) [
  | inl a ↦ (x, inl refl, a)
  | inr b ↦ (let r = one_flat f y xs b in (r.0, inr r.1, r.2))
]

kept_before : (p : Offer → Bool) (o : Offer) (os : List Offer) → IsOneOf o (filter p os) → IsOneOf o os
kept_before p o [] h = absurd h
kept_before p o (x ∷ xs) h = go (p x) (λ k. kept_before p o xs k) h
  where
    go : (b : Bool) → (IsOneOf o (filter p xs) → IsOneOf o xs) → IsOneOf o (if b then x ∷ filter p xs else filter p xs) → IsOneOf o (x ∷ xs)
    go true later (inl e) = inl e
    go true later (inr k) = inr (later k)
    go false later k = inr (later k)

-- ---- codes

least_none : (a b : Option FindingCode) → least a b ≡ None → (a ≡ None) × (b ≡ None)
least_none None b e = (refl, e)
least_none (Some a) None e = absurd (cc)
least_none (Some a) (Some b) e = go (nat_le (rank_of a) (rank_of b)) e
  where
    go : (t : Bool) → (if t then Some a else Some b) ≡ None → (Some a ≡ None) × (Some b ≡ None)
    go true e = absurd (cc)
    go false e = absurd (cc)

abbrev codes_of : Option FindingCode → List Offer → Option FindingCode
codes_of first os = fold (λ code o. least code o.code) first os

first_none : (first : Option FindingCode) (os : List Offer) → codes_of first os ≡ None → first ≡ None
first_none first [] e = e
first_none first (o ∷ os) e = (least_none first o.code (first_none (least first o.code) os e)).0

none_coded : (first : Option FindingCode) (os : List Offer) (o : Offer) → codes_of first os ≡ None → IsOneOf o os → o.code ≡ None
none_coded first [] o e h = absurd h
none_coded first (x ∷ xs) o e (inl same) = ap (λ (z : Offer). z.code) same ∙ (least_none first x.code (first_none (least first x.code) xs e)).1
none_coded first (x ∷ xs) o e (inr h) = none_coded (least first x.code) xs o e h

-- ---- verdicts

by_code_stands : (t tree : PromiseTree) (os ks : List Offer) (code : Option FindingCode) → by_code t os code ≡ Stands tree ks → (t ≡ tree) × (os ≡ ks) × (code ≡ None)
by_code_stands t tree os ks None e = let a : t ≡ tree = cc in let b : os ≡ ks = cc in (a, b, refl)
by_code_stands t tree os ks (Some c) e = absurd (cc)

by_offers_stands : (spread : Bool) (t tree : PromiseTree) (before os ks : List Offer) → by_offers spread t before os ≡ Stands tree ks
    → (t ≡ tree) × (os ≡ ks) × (first_of before os ≡ None)
by_offers_stands true t tree before [] ks e = absurd (cc)
by_offers_stands true t tree before (o ∷ os) ks e = by_code_stands t tree (o ∷ os) ks (first_of before (o ∷ os)) e
by_offers_stands false t tree before [] ks e = by_code_stands t tree [] ks (first_of before []) e
by_offers_stands false t tree before (o ∷ os) ks e = by_code_stands t tree (o ∷ os) ks (first_of before (o ∷ os)) e

stands_clean : (spread : Bool) (mine before : List Offer) (content : Content) (tree : PromiseTree) (ks : List Offer)
    → verdict_by spread mine before content ≡ Stands tree ks
    → (offers : List Offer) × (content ≡ Gives tree offers) × ((o : Offer) → IsOneOf o ks → IsOneOf o offers × (o.code ≡ None))
stands_clean spread mine before (Bad code) tree ks e = absurd (cc)
stands_clean spread mine before (Gives t offers) tree ks e =
    let r = by_offers_stands spread t tree before (kept spread mine offers) ks e in
    let there : (o : Offer) → IsOneOf o ks → IsOneOf o offers × (o.code ≡ None) = λ o h.
    let k : IsOneOf o (kept spread mine offers) = subst (λ (z : List Offer). IsOneOf o z) (sym r.1) h in (
      kept_before (λ o. not (spread && list_any (λ a. same_key a o) mine)) o offers k,
      none_coded (if repeated before (kept spread mine offers) then Some scrub.RepeatedPromise else None) (kept spread mine offers) o r.2 k,
    ) in
    (offers, ap (λ (z : PromiseTree). Gives z offers) r.0, there)

-- ---- a promise that stands

offered_by : (key : List ℕ) (tree : PromiseTree) (before offers : List Offer) (s : Standing) → IsOneOf s (stands_after key tree before offers)
    → (o : Offer) × IsOneOf o offers × (s ≡ standing_of key tree o)
offered_by key tree before [] s h = absurd h
offered_by key tree before (o ∷ os) s h = elim (one_split s (stands_more key tree before o) (stands_after key tree (before ++ o ∷ []) os) h) [
  | inl a ↦ go (list_any (λ a. same_key a o) before) a
  | inr b ↦ (let r = offered_by key tree (before ++ o ∷ []) os s b in (r.0, inr r.1, r.2))
]
  where
    go : (b : Bool) → IsOneOf s (if b then [] else standing_of key tree o ∷ []) → (x : Offer) × IsOneOf x (o ∷ os) × (s ≡ standing_of key tree x)
    go true a = absurd a
    go false (inl e) = (o, inl refl, e)
    go false (inr a) = absurd a

-- the verdict that gives it
abbrev GivenBy : List ℕ → Standing → Verdict → Type 0
GivenBy key s v = (tree : PromiseTree) × (offers : List Offer) × (v ≡ Stands tree offers) × (o : Offer) × IsOneOf o offers × (s ≡ standing_of key tree o)

given_by : (key : List ℕ) (before : List Offer) (v : Verdict) (s : Standing) → IsOneOf s (stands_by key before v) → GivenBy key s v
given_by key before (Stands tree offers) s h = let r = offered_by key tree before offers s h in (tree, offers, refl, r.0, r.1, r.2)
given_by key before (SetAside code) s h = absurd h
given_by key before Dropped s h = absurd h

given_after : (key : List ℕ) (before : List Offer) (js : List Judged) (s : Standing) → IsOneOf s (standings_after key before js)
    → (j : Judged) × IsOneOf j js × GivenBy key s j.verdict
given_after key before [] s h = absurd h
given_after key before (j ∷ js) s h = elim (one_split s (stands_by key before j.verdict) (standings_after key (before ++ offers_in j.verdict) js) h) [
  | inl a ↦ (j, inl refl, given_by key before j.verdict s a)
  | inr b ↦ (let r = given_after key (before ++ offers_in j.verdict) js s b in (r.0, inr r.1, r.2))
]

judged_of : (before : List Judged) (annotations : List Annotation) (j : Judged) → IsOneOf j (judged_after before annotations)
    → (b : List Judged) × (a : Annotation) × IsOneOf a annotations × (j ≡ judged_more b a)
judged_of before [] j h = absurd h
judged_of before (a ∷ more) j (inl e) = (before, a, inl refl, e)
judged_of before (a ∷ more) j (inr h) = let r = judged_of (before ++ judged_more before a ∷ []) more j h in (r.0, r.1, inr r.2, r.3)

-- The annotation that gives it, the content there, and the promise of it, which has no code.
pub record IsGiven (u : UnitAnnotations) (s : Standing) : Type 0 where
  pub annotation : Annotation
  pub there : IsOneOf annotation u.annotations
  pub offers : List Offer
  pub content : annotation.content ≡ Gives s.tree offers
  pub offer : Offer
  pub offered : IsOneOf offer offers
  pub coded : offer.code ≡ None
  pub is : s ≡ standing_of u.key s.tree offer

pub is_given : (u : UnitAnnotations) (s : Standing) → IsOneOf s (standing_at u) → IsGiven u s
is_given u s h =
    let (j, among, by_verdict) = given_after u.key [] (judged u.annotations) s h in
    let (tree, ks, stands, o, one, is) = by_verdict in
    let (b, a, there, made) = judged_of [] u.annotations j among in
    let verdict : verdict_by a.spread (own b) (given b) a.content ≡ Stands tree ks = ap (λ (z : Judged). z.verdict) (sym made) ∙ stands in
    let clean = stands_clean a.spread (own b) (given b) a.content tree ks verdict in
    let same : tree ≡ s.tree = ap (λ (z : Standing). z.tree) (sym is) in
    record {
      annotation = a;
      there = there;
      offers = clean.0;
      content = clean.1 ∙ ap (λ (z : PromiseTree). Gives z clean.0) same;
      offer = o;
      offered = (clean.2 o one).0;
      coded = (clean.2 o one).1;
      is = is ∙ ap (λ (z : PromiseTree). standing_of u.key z o) same;
    }
