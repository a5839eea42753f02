-- The keys of promises that stand at a unit differ.
use Rattle.std.proofs.Common.{◌≡◌, ℕ, List, [], ◌∷◌, ◌++◌, refl, sym, ◌∙◌, ap, subst, Bool, true, false, append-nil, rules}
use Rattle.std.specs.Prelude.{◌≢◌, ◌&&◌, ◌||◌, nat_eq, if◌then◌else◌}
use Rattle.std.specs.List.{list_any}
use Rattle.std.specs.Str.{bytes_eq}
use Rattle.std.proofs.lemmas.List.{append_assoc}
use Rattle.std.proofs.lemmas.List.Folds.{list_any-append}
use Rattle.std.proofs.lemmas.Bool.Decides.{Decides-eqb}
use Rattle.std.proofs.lemmas.Slice.Eq.{bytes_eq-Decides}
use Rattle.desk_base.specs.declared.key.PromiseKey.{PromiseKey}
use Rattle.promise_grammar.specs.declared.tree.PromiseTree.{PromiseTree}
use Rattle.scrub_rules.specs.declared.offer.Offer.{Offer}
use Rattle.promise_scrub.specs.Differ.{KeysDiffer, LacksKey}
use Rattle.promise_scrub.specs.Verdicts.{Annotation, Judged, Verdict, Stands, SetAside, Dropped, judged, number_of, offers_in, same_key, standing_of, standings, standings_after, stands_after, stands_by, stands_more}
use Rattle.promise_scrub.specs.declared.surface.Standing.{Standing}

-- one of these promises has the kind and detail of the key
abbrev key_given : PromiseKey → List Offer → Bool
key_given key offers = list_any (λ a. nat_eq (number_of a.name) (number_of key.name) && bytes_eq a.detail key.detail) offers

abbrev key_of : List ℕ → Offer → PromiseKey
key_of target o = record { target = target; name = o.name; detail = o.detail }

pub lacks_append : (key : PromiseKey) (xs ys : List Standing) → LacksKey key xs → LacksKey key ys → LacksKey key (xs ++ ys)
lacks_append key [] ys a b = b
lacks_append key (x ∷ xs) ys a b = (a.0, lacks_append key xs ys a.1 b)

given_more : (key : PromiseKey) (before more : List Offer) → key_given key before ≡ true → key_given key (before ++ more) ≡ true
given_more key before more given =
    list_any-append (λ a. nat_eq (number_of a.name) (number_of key.name) && bytes_eq a.detail key.detail) before more ∙ first (key_given key before) given
  where
    first : (b : Bool) → b ≡ true → (b || list_any (λ a. nat_eq (number_of a.name) (number_of key.name) && bytes_eq a.detail key.detail) more) ≡ true
    first true e = refl
    first false e = absurd (cc)

-- a promise whose key is given already doesn't stand again
lacks_more : (key : PromiseKey) (target : List ℕ) (tree : PromiseTree) (before : List Offer) (o : Offer) → key_given key before ≡ true → LacksKey key (stands_more target tree before o)
lacks_more key target tree before o given = go (list_any (λ a. same_key a o) before) refl
  where
    go : (b : Bool) → list_any (λ a. same_key a o) before ≡ b → LacksKey key (if b then [] else standing_of target tree o ∷ [])
    go true e = tt
    go false e = ((λ same. let there : list_any (λ a. same_key a o) before ≡ true = ap (λ (k : PromiseKey). key_given k before) (sym same) ∙ given in absurd (cc)), tt)

lacks_stands : (key : PromiseKey) (target : List ℕ) (tree : PromiseTree) (before offers : List Offer) → key_given key before ≡ true → LacksKey key (stands_after target tree before offers)
lacks_stands key target tree before [] given = tt
lacks_stands key target tree before (o ∷ os) given =
    lacks_append key (stands_more target tree before o) (stands_after target tree (before ++ o ∷ []) os) (lacks_more key target tree before o given)
    (lacks_stands key target tree (before ++ o ∷ []) os (given_more key before (o ∷ []) given))

lacks_by : (key : PromiseKey) (target : List ℕ) (before : List Offer) (v : Verdict) → key_given key before ≡ true → LacksKey key (stands_by target before v)
lacks_by key target before (Stands tree offers) given = lacks_stands key target tree before offers given
lacks_by key target before (SetAside code) given = tt
lacks_by key target before Dropped given = tt

lacks_after : (key : PromiseKey) (target : List ℕ) (before : List Offer) (js : List Judged) → key_given key before ≡ true → LacksKey key (standings_after target before js)
lacks_after key target before [] given = tt
lacks_after key target before (j ∷ js) given =
    lacks_append key (stands_by target before j.verdict) (standings_after target (before ++ offers_in j.verdict) js) (lacks_by key target before j.verdict given)
    (lacks_after key target (before ++ offers_in j.verdict) js (given_more key before (offers_in j.verdict) given))

-- a promise has its own key
own_key : (target : List ℕ) (before : List Offer) (o : Offer) → key_given (key_of target o) (before ++ o ∷ []) ≡ true
own_key target [] o = here (nat_eq (number_of o.name) (number_of o.name)) (bytes_eq o.detail o.detail) ((Decides-eqb (number_of o.name) (number_of o.name)).1 refl) ((bytes_eq-Decides o.detail o.detail).1 refl)
  where
    here : (a b : Bool) → a ≡ true → b ≡ true → ((a && b) || false) ≡ true
    here true true e f = refl
    here false b e f = absurd (cc)
    here true false e f = absurd (cc)
own_key target (a ∷ before) o = either (nat_eq (number_of a.name) (number_of o.name) && bytes_eq a.detail o.detail) (key_given (key_of target o) (before ++ o ∷ [])) (own_key target before o)
  where
    either : (a b : Bool) → b ≡ true → (a || b) ≡ true
    either true b e = refl
    either false b e = e

differ_stands : (target : List ℕ) (tree : PromiseTree) (before offers : List Offer) (more : List Offer → List Standing)
    → ((key : PromiseKey) (b : List Offer) → key_given key b ≡ true → LacksKey key (more b)) → ((b : List Offer) → KeysDiffer (more b))
    → KeysDiffer (stands_after target tree before offers ++ more (before ++ offers))
differ_stands target tree before [] more lacks differ = subst (λ (z : List Offer). KeysDiffer (more z)) (sym (append-nil before)) (differ before)
differ_stands target tree before (o ∷ os) more lacks differ =
    let rest : KeysDiffer (stands_after target tree (before ++ o ∷ []) os ++ more (before ++ o ∷ os)) =
    subst (λ (z : List Offer). KeysDiffer (stands_after target tree (before ++ o ∷ []) os ++ more z)) (append_assoc before (o ∷ []) os)
    (differ_stands target tree (before ++ o ∷ []) os more lacks differ) in
    let mine : key_given (key_of target o) (before ++ o ∷ []) ≡ true = own_key target before o in
    let all : key_given (key_of target o) (before ++ o ∷ os) ≡ true =
    subst (λ (z : List Offer). key_given (key_of target o) z ≡ true) (append_assoc before (o ∷ []) os) (given_more (key_of target o) (before ++ o ∷ []) os mine) in
    go (list_any (λ a. same_key a o) before)
    (lacks_append (key_of target o) (stands_after target tree (before ++ o ∷ []) os) (more (before ++ o ∷ os))
    (lacks_stands (key_of target o) target tree (before ++ o ∷ []) os mine) (lacks (key_of target o) (before ++ o ∷ os) all)) rest
  where
    go : (b : Bool) → LacksKey (key_of target o) (stands_after target tree (before ++ o ∷ []) os ++ more (before ++ o ∷ os))
        → KeysDiffer (stands_after target tree (before ++ o ∷ []) os ++ more (before ++ o ∷ os))
        → KeysDiffer (((if b then [] else standing_of target tree o ∷ []) ++ stands_after target tree (before ++ o ∷ []) os) ++ more (before ++ o ∷ os))
    go true a d = d
    go false a d = (a, d)

differ_after : (target : List ℕ) (before : List Offer) (js : List Judged) → KeysDiffer (standings_after target before js)
differ_after target before [] = tt
differ_after target before (j ∷ js) = by_verdict target before j.verdict (λ b. standings_after target b js) (λ key b given. lacks_after key target b js given) (λ b. differ_after target b js)
  where
    by_verdict : (target : List ℕ) (before : List Offer) (v : Verdict) (more : List Offer → List Standing)
        → ((key : PromiseKey) (b : List Offer) → key_given key b ≡ true → LacksKey key (more b)) → ((b : List Offer) → KeysDiffer (more b))
        → KeysDiffer (stands_by target before v ++ more (before ++ offers_in v))
    by_verdict target before (Stands tree offers) more lacks differ = differ_stands target tree before offers more lacks differ
    by_verdict target before (SetAside code) more lacks differ = subst (λ (z : List Offer). KeysDiffer (more z)) (sym (append-nil before)) (differ before)
    by_verdict target before Dropped more lacks differ = subst (λ (z : List Offer). KeysDiffer (more z)) (sym (append-nil before)) (differ before)

pub unit_keys_differ : (target : List ℕ) (annotations : List Annotation) → KeysDiffer (standings target (judged annotations))
unit_keys_differ target annotations = differ_after target [] (judged annotations)
