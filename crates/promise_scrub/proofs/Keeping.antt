-- What is kept of annotations that are judged one by one is what they give by their verdicts.
use Rattle.std.proofs.Common.{◌≡◌, ℕ, zero, suc, ◌+◌, List, [], ◌∷◌, ◌++◌, map, refl, sym, ◌∙◌, ap, subst, Bool, true, false, ◌&&◌, not, append-nil, arith, rules}
use Rattle.std.specs.Prelude.{◌||◌, Option, Some, None, filter, fold, nat_eq, if◌then◌else◌}
use Rattle.std.specs.List.{flat_map, list_any}
use Rattle.std.specs.Str.{bytes_eq}
use Rattle.std.proofs.lemmas.List.{append_assoc, map-append}
use Rattle.std.proofs.lemmas.List.Folds.{list_any-append}
use Rattle.std.proofs.lemmas.List.Sums.{fold-append}
use denote.Enum.Bare.{tag_one}
use denote.Enum.Declared.{tag_of}
use Rattle.std.proofs.lemmas.Bool.Decides.{Decides-eqb}
use Rattle.desk_base.specs.declared.key.PromiseName.{PromiseName}
use Rattle.desk_base.specs.contracts.key.PromiseName.{the_type}
use Rattle.promise_grammar.specs.declared.tree.PromiseTree.{PromiseTree, out-PromiseTree}
use Rattle.result_records.specs.declared.code.FindingCode.{FindingCode}
use Rattle.result_records.specs.declared.code.FindingCode.TheVariants as scrub
use Rattle.scrub_rules.specs.declared.offer.Offer.{Offer}
use Rattle.scrub_rules.specs.Code.{least}
use Rattle.promise_scrub.specs.Texts.{is_among}
use Rattle.promise_scrub.specs.Steps.{counted, form_tag, goes, kept_of, kept_offers, key_tag, least_code, no_promises, number_in, own_more, put_annotation, put_aside, put_by_code, put_content, put_kept, put_offer, put_offers, repeat_code, repeats_tag, standing_more}
use Rattle.promise_scrub.specs.Verdicts.{Annotation, Content, Bad, Gives, Verdict, Stands, SetAside, Dropped, Judged, aside_of, asides, by_code, by_offers, counts, first_of, given, is_in_region, is_vouch, judged, judged_after, judged_more, kept, number_of, offers_in, own, own_offers, repeated, repeats, same_key, same_kind, set_aside_by, standing_of, standings, standings_after, stands_after, stands_by, stands_more, verdict_by, vouched, vouches}
use Rattle.promise_scrub.specs.declared.surface.Aside.{Aside}
use Rattle.promise_scrub.specs.declared.surface.Standing.{Standing}
use Rattle.promise_scrub.specs.declared.unit.Unit.{Unit as Target}

-- ---- tags

among_map : (tag : Offer → List ℕ) (same : Offer → Offer → Bool) → ((a o : Offer) → bytes_eq (tag a) (tag o) ≡ same a o) → (o : Offer) (offers : List Offer)
    → is_among (tag o) (map tag offers) ≡ list_any (λ a. same a o) offers
among_map tag same h o [] = refl
among_map tag same h o (a ∷ more) =
    let head : bytes_eq (tag a) (tag o) ≡ same a o = h a o in
    let rest : is_among (tag o) (map tag more) ≡ list_any (λ b. same b o) more = among_map tag same h o more in
    λ i. head i || rest i

key_same : (a o : Offer) → bytes_eq (key_tag a) (key_tag o) ≡ same_key a o
key_same a o = refl

rest_same : (p q : Bool) (a o : Offer) → p ≡ q → bytes_eq (if p then [] else key_tag a) (if q then [] else key_tag o) ≡ (p || same_key a o)
rest_same true true a o e = refl
rest_same false false a o e = refl
rest_same true false a o e = absurd (cc)
rest_same false true a o e = absurd (cc)

same_form : (a b : PromiseName) → nat_eq (number_of a) (number_of b) ≡ true → a ≡ b
same_form a b e = tag_one the_type (search rules) a b ((Decides-eqb (number_of a) (number_of b)).0 e)

form_same : (a o : Offer) → bytes_eq (form_tag a) (form_tag o) ≡ repeats a o
form_same a o = go (nat_eq (number_of a.form) (number_of o.form)) refl
  where
    go : (b : Bool) → nat_eq (number_of a.form) (number_of o.form) ≡ b
        → (b && bytes_eq (if is_in_region a.form then [] else key_tag a) (if is_in_region o.form then [] else key_tag o)) ≡ (b && (is_in_region a.form || same_key a o))
    go false e = refl
    go true e = rest_same (is_in_region a.form) (is_in_region o.form) a o (ap is_in_region (same_form a.form o.form e))

kept_same : (spread : Bool) (mine offers : List Offer) → kept_offers spread (map key_tag mine) offers ≡ kept spread mine offers
kept_same spread mine offers = λ i. filter (λ o. not (spread && among_map key_tag same_key key_same o mine i)) offers

repeat_same : (before seen offers : List Offer) → repeats_tag (map form_tag before) (map form_tag seen) offers ≡ repeated (before ++ seen) offers
repeat_same before seen [] = refl
repeat_same before seen (o ∷ os) =
    let one : is_among (form_tag o) (map form_tag before) ≡ list_any (λ a. repeats a o) before = among_map form_tag repeats form_same o before in
    let two : is_among (form_tag o) (map form_tag seen) ≡ list_any (λ a. repeats a o) seen = among_map form_tag repeats form_same o seen in
    let here : (is_among (form_tag o) (map form_tag before) || is_among (form_tag o) (map form_tag seen)) ≡ list_any (λ a. repeats a o) (before ++ seen) =
    (λ i. one i || two i) ∙ sym (list_any-append (λ a. repeats a o) before seen) in
    let more : repeats_tag (map form_tag before) (map form_tag seen ++ form_tag o ∷ []) os ≡ repeated ((before ++ seen) ++ o ∷ []) os =
    ap (λ (z : List (List ℕ)). repeats_tag (map form_tag before) z os) (sym (map-append form_tag seen (o ∷ [])))
    ∙ repeat_same before (seen ++ o ∷ []) os ∙ ap (λ (z : List Offer). repeated z os) (sym (append_assoc before seen (o ∷ []))) in
    λ i. here i || more i

first_same : (before offers : List Offer) → least_code (repeat_code (map form_tag before) offers) offers ≡ first_of before offers
first_same before offers =
    ap (λ (b : Bool). least_code (if b then Some scrub.RepeatedPromise else None) offers)
    (repeat_same before [] offers ∙ ap (λ (z : List Offer). repeated z offers) (append-nil before))

-- ---- what is kept

abbrev mk : ℕ → List (List ℕ) → List (List ℕ) → List (List ℕ) → List Standing → List Aside → Bool → Target
mk n o t s st a v = record { number = n; own = o; tags = t; stood = s; standing = st; aside = a; vouched = v }

same_mk : (n n' : ℕ) (o o' t t' s s' : List (List ℕ)) (st st' : List Standing) (a a' : List Aside) (v v' : Bool)
    → n ≡ n' → o ≡ o' → t ≡ t' → s ≡ s' → st ≡ st' → a ≡ a' → v ≡ v' → mk n o t s st a v ≡ mk n' o' t' s' st' a' v'
same_mk n n' o o' t t' s s' st st' a a' v v' en eo et es est ea ev = λ i. mk (en i) (eo i) (et i) (es i) (est i) (ea i) (ev i)

push_if : {A : Type 0} (b : Bool) (xs ys : List A) → (if b then xs else xs ++ ys) ≡ xs ++ (if b then [] else ys)
push_if true xs ys = sym (append-nil xs)
push_if false xs ys = refl

map_if : (b : Bool) (o : Offer) (os : List Offer) → (if b then [] else key_tag o ∷ []) ++ (if b then [] else map key_tag os) ≡ (if b then [] else key_tag o ∷ map key_tag os)
map_if true o os = refl
map_if false o os = refl

-- the promises of one annotation
offers_put : (key : List ℕ) (spread : Bool) (tree : PromiseTree) (n : ℕ) (mine tags : List (List ℕ)) (before : List Offer) (st : List Standing) (a : List Aside) (v : Bool) (offers : List Offer)
    → fold (put_offer key spread tree) (mk n mine tags (map key_tag before) st a v) offers
    ≡ mk n (mine ++ (if spread then [] else map key_tag offers)) (tags ++ map form_tag offers) (map key_tag (before ++ offers)) (st ++ stands_after key tree before offers) a v
offers_put key spread tree n mine tags before st a v [] =
    same_mk n n mine _ tags _ _ _ st _ a a v v refl (nothing spread) (sym (append-nil tags)) (ap (map key_tag) (sym (append-nil before))) (sym (append-nil st)) refl refl
  where
    nothing : (b : Bool) → mine ≡ mine ++ (if b then [] else [])
    nothing true = sym (append-nil mine)
    nothing false = sym (append-nil mine)
offers_put key spread tree n mine tags before st a v (o ∷ os) =
    let one : put_offer key spread tree (mk n mine tags (map key_tag before) st a v) o
    ≡ mk n (mine ++ (if spread then [] else key_tag o ∷ [])) (tags ++ form_tag o ∷ []) (map key_tag (before ++ o ∷ [])) (st ++ stands_more key tree before o) a v =
    same_mk n n _ _ _ _ _ _ _ _ a a v v refl (push_if spread mine (key_tag o ∷ [])) refl (sym (map-append key_tag before (o ∷ [])))
    (ap (λ (b : Bool). if b then st else st ++ standing_of key tree o ∷ []) (among_map key_tag same_key key_same o before)
    ∙ push_if (list_any (λ b. same_key b o) before) st (standing_of key tree o ∷ [])) refl refl in
    ap (λ (u : Target). fold (put_offer key spread tree) u os) one
    ∙ offers_put key spread tree n (mine ++ (if spread then [] else key_tag o ∷ [])) (tags ++ form_tag o ∷ []) (before ++ o ∷ []) (st ++ stands_more key tree before o) a v os
    ∙ same_mk n n _ _ _ _ _ _ _ _ a a v v refl
    (append_assoc mine (if spread then [] else key_tag o ∷ []) (if spread then [] else map key_tag os) ∙ ap (λ (z : List (List ℕ)). mine ++ z) (map_if spread o os))
    (append_assoc tags (form_tag o ∷ []) (map form_tag os)) (ap (map key_tag) (append_assoc before (o ∷ []) os))
    (append_assoc st (stands_more key tree before o) (stands_after key tree (before ++ o ∷ []) os)) refl refl

-- ---- one annotation more

flat_push : {A B : Type 0} (f : A → List B) (xs : List A) (x : A) → flat_map f (xs ++ x ∷ []) ≡ flat_map f xs ++ f x
flat_push f [] x = append-nil (f x)
flat_push f (y ∷ ys) x = ap (λ (z : List _). f y ++ z) (flat_push f ys x) ∙ sym (append_assoc (f y) (flat_map f ys) (f x))

number_push : (js : List Judged) (j : Judged) → number_in (js ++ j ∷ []) ≡ number_in js + counts j.verdict
number_push [] j = omega arith
number_push (i ∷ js) j = let h : number_in (js ++ j ∷ []) ≡ number_in js + counts j.verdict = number_push js j in omega arith

asides_push : (key : List ℕ) (n : ℕ) (js : List Judged) (j : Judged)
    → asides key n (js ++ j ∷ []) ≡ asides key n js ++ set_aside_by key ((n + number_in js) + 1) j.annotation.name j.verdict
asides_push key n [] j =
    append-nil (set_aside_by key (n + 1) j.annotation.name j.verdict)
    ∙ ap (λ (k : ℕ). set_aside_by key k j.annotation.name j.verdict) (let e : n + 1 ≡ (n + 0) + 1 = omega arith in e)
asides_push key n (i ∷ js) j =
    ap (λ (z : List Aside). set_aside_by key (n + 1) i.annotation.name i.verdict ++ z) (asides_push key (n + counts i.verdict) js j)
    ∙ sym (append_assoc (set_aside_by key (n + 1) i.annotation.name i.verdict) (asides key (n + counts i.verdict) js)
    (set_aside_by key (((n + counts i.verdict) + number_in js) + 1) j.annotation.name j.verdict))
    ∙ ap (λ (k : ℕ). asides key n (i ∷ js) ++ set_aside_by key k j.annotation.name j.verdict)
    (let e : ((n + counts i.verdict) + number_in js) + 1 ≡ (n + (counts i.verdict + number_in js)) + 1 = omega arith in e)

standings_push : (key : List ℕ) (before : List Offer) (js : List Judged) (j : Judged)
    → standings_after key before (js ++ j ∷ []) ≡ standings_after key before js ++ stands_by key (before ++ given js) j.verdict
standings_push key before [] j =
    append-nil (stands_by key before j.verdict) ∙ ap (λ (z : List Offer). stands_by key z j.verdict) (sym (append-nil before))
standings_push key before (i ∷ js) j =
    ap (λ (z : List Standing). stands_by key before i.verdict ++ z) (standings_push key (before ++ offers_in i.verdict) js j)
    ∙ sym (append_assoc (stands_by key before i.verdict) (standings_after key (before ++ offers_in i.verdict) js)
    (stands_by key ((before ++ offers_in i.verdict) ++ given js) j.verdict))
    ∙ ap (λ (z : List Offer). standings_after key before (i ∷ js) ++ stands_by key z j.verdict) (append_assoc before (offers_in i.verdict) (given js))

vouched_push : (js : List Judged) (j : Judged) → vouched (js ++ j ∷ []) ≡ (vouched js || vouches j.verdict)
vouched_push js j = list_any-append (λ k. vouches k.verdict) js (j ∷ []) ∙ ap (λ (b : Bool). vouched js || b) (or_false (vouches j.verdict))
  where
    or_false : (b : Bool) → (b || false) ≡ b
    or_false true = refl
    or_false false = refl

-- what is kept with one annotation more, by its verdict
abbrev with : List ℕ → List Judged → Judged → Target
with key js j = mk (number_in js + counts j.verdict) (map key_tag (own js ++ own_offers j)) (map form_tag (given js ++ offers_in j.verdict))
    (map key_tag (given js ++ offers_in j.verdict)) (standings key js ++ stands_by key (given js) j.verdict)
    (asides key 0 js ++ set_aside_by key (number_in js + 1) j.annotation.name j.verdict) (vouched js || vouches j.verdict)

kept_push : (key : List ℕ) (js : List Judged) (j : Judged) → kept_of key (js ++ j ∷ []) ≡ with key js j
kept_push key js j = same_mk _ _ _ _ _ _ _ _ _ _ _ _ _ _ (number_push js j) (ap (map key_tag) (flat_push own_offers js j))
    (ap (map form_tag) (flat_push (λ k. offers_in k.verdict) js j)) (ap (map key_tag) (flat_push (λ k. offers_in k.verdict) js j))
    (standings_push key [] js j) (asides_push key 0 js j ∙ ap (λ (k : ℕ). asides key 0 js ++ set_aside_by key k j.annotation.name j.verdict)
    (let e : (0 + number_in js) + 1 ≡ number_in js + 1 = omega arith in e)) (vouched_push js j)

abbrev j_of : Bool → PromiseName → Content → Verdict → Judged
j_of spread name content v = record { annotation = record { spread = spread; name = name; content = content }; verdict = v }

if_none : (b : Bool) (xs : List Offer) → xs ≡ [] → (if b then [] else xs) ≡ []
if_none true xs e = refl
if_none false xs e = e

or_nothing : (b : Bool) → b ≡ (b || false)
or_nothing true = refl
or_nothing false = refl

nothing_own : (spread : Bool) (mine : List Offer) → map key_tag mine ≡ map key_tag (mine ++ (if spread then [] else []))
nothing_own spread mine = ap (map key_tag) (sym (append-nil mine) ∙ ap (λ (z : List Offer). mine ++ z) (sym (if_none spread [] refl)))

set_aside_same : (key : List ℕ) (js : List Judged) (spread : Bool) (name : PromiseName) (content : Content) (code : FindingCode)
    → put_aside key name code (kept_of key js) ≡ with key js (j_of spread name content (SetAside code))
set_aside_same key js spread name content code = same_mk _ _ _ _ _ _ _ _ _ _ _ _ _ _ refl (nothing_own spread (own js))
    (ap (map form_tag) (sym (append-nil (given js)))) (ap (map key_tag) (sym (append-nil (given js)))) (sym (append-nil (standings key js))) refl (or_nothing (vouched js))

dropped_same : (key : List ℕ) (js : List Judged) (spread : Bool) (name : PromiseName) (content : Content)
    → kept_of key js ≡ with key js (j_of spread name content Dropped)
dropped_same key js spread name content = same_mk _ _ _ _ _ _ _ _ _ _ _ _ _ _ (let e : number_in js ≡ number_in js + 0 = omega arith in e) (nothing_own spread (own js))
    (ap (map form_tag) (sym (append-nil (given js)))) (ap (map key_tag) (sym (append-nil (given js)))) (sym (append-nil (standings key js)))
    (sym (append-nil (asides key 0 js))) (or_nothing (vouched js))

own_same : (spread : Bool) (mine offers : List Offer) → map key_tag mine ++ (if spread then [] else map key_tag offers) ≡ map key_tag (mine ++ (if spread then [] else offers))
own_same true mine offers = sym (map-append key_tag mine [])
own_same false mine offers = sym (map-append key_tag mine offers)

stands_same : (key : List ℕ) (js : List Judged) (spread : Bool) (name : PromiseName) (content : Content) (tree : PromiseTree) (offers : List Offer)
    → put_offers key spread tree offers (kept_of key js) ≡ with key js (j_of spread name content (Stands tree offers))
stands_same key js spread name content tree offers =
    offers_put key spread tree (number_in js + 1) (map key_tag (own js)) (map form_tag (given js)) (given js) (standings key js) (asides key 0 js)
    (vouched js || is_vouch (out-PromiseTree tree)) offers
    ∙ same_mk _ _ _ _ _ _ _ _ _ _ _ _ _ _ refl (own_same spread (own js) offers) (sym (map-append form_tag (given js) offers)) refl refl (sym (append-nil (asides key 0 js))) refl

coded_same : (key : List ℕ) (js : List Judged) (spread : Bool) (name : PromiseName) (content : Content) (tree : PromiseTree) (offers : List Offer) (code : Option FindingCode)
    → put_by_code key spread name tree offers code (kept_of key js) ≡ with key js (j_of spread name content (by_code tree offers code))
coded_same key js spread name content tree offers None = stands_same key js spread name content tree offers
coded_same key js spread name content tree offers (Some code) = set_aside_same key js spread name content code

abbrev Same : List ℕ → List Judged → Bool → PromiseName → Content → PromiseTree → List Offer → Type 0
Same key js spread name content tree offers =
    put_kept key spread name tree offers (kept_of key js) ≡ with key js (j_of spread name content (by_offers spread tree (given js) offers))

by_first : (key : List ℕ) (js : List Judged) (spread : Bool) (name : PromiseName) (content : Content) (tree : PromiseTree) (offers : List Offer)
    → put_by_code key spread name tree offers (least_code (repeat_code (map form_tag (given js)) offers) offers) (kept_of key js)
    ≡ with key js (j_of spread name content (by_code tree offers (first_of (given js) offers)))
by_first key js spread name content tree offers =
    ap (λ (c : Option FindingCode). put_by_code key spread name tree offers c (kept_of key js)) (first_same (given js) offers)
    ∙ coded_same key js spread name content tree offers (first_of (given js) offers)

left_same : (key : List ℕ) (js : List Judged) (spread : Bool) (name : PromiseName) (content : Content) (tree : PromiseTree) (offers : List Offer) → Same key js spread name content tree offers
left_same key js true name content tree [] = dropped_same key js true name content
left_same key js true name content tree (o ∷ os) = by_first key js true name content tree (o ∷ os)
left_same key js false name content tree offers = by_first key js false name content tree offers

put_same : (key : List ℕ) (js : List Judged) (spread : Bool) (name : PromiseName) (content : Content)
    → put_content key spread name content (kept_of key js) ≡ with key js (j_of spread name content (verdict_by spread (own js) (given js) content))
put_same key js spread name (Bad code) = set_aside_same key js spread name (Bad code) code
put_same key js spread name (Gives tree offers) =
    ap (λ (z : List Offer). put_kept key spread name tree z (kept_of key js)) (kept_same spread (own js) offers)
    ∙ left_same key js spread name (Gives tree offers) tree (kept spread (own js) offers)

one_more : (key : List ℕ) (js : List Judged) (a : Annotation) → put_annotation key (kept_of key js) a ≡ kept_of key (js ++ judged_more js a ∷ [])
one_more key js a = put_same key js a.spread a.name a.content ∙ sym (kept_push key js (judged_more js a))

all_put : (key : List ℕ) (js : List Judged) (annotations : List Annotation) → fold (put_annotation key) (kept_of key js) annotations ≡ kept_of key (js ++ judged_after js annotations)
all_put key js [] = ap (kept_of key) (sym (append-nil js))
all_put key js (a ∷ more) =
    ap (λ (u : Target). fold (put_annotation key) u more) (one_more key js a)
    ∙ all_put key (js ++ judged_more js a ∷ []) more
    ∙ ap (kept_of key) (append_assoc js (judged_more js a ∷ []) (judged_after (js ++ judged_more js a ∷ []) more))

-- the annotations of a unit, one after another
pub unit_kept : (key : List ℕ) (annotations : List Annotation) → fold (put_annotation key) no_promises annotations ≡ kept_of key (judged annotations)
unit_kept key annotations = all_put key [] annotations

-- a written annotation keeps all that it offers
pub all_kept : (own : List (List ℕ)) (offers : List Offer) → kept_offers false own offers ≡ offers
all_kept own [] = refl
all_kept own (o ∷ os) = ap (λ (z : List Offer). o ∷ z) (all_kept own os)

-- written annotations, and then those that are spread
pub two_kept : (key : List ℕ) (xs ys : List Annotation) → fold (put_annotation key) (fold (put_annotation key) no_promises xs) ys ≡ kept_of key (judged (xs ++ ys))
two_kept key xs ys = sym (fold-append (put_annotation key) no_promises xs ys) ∙ unit_kept key (xs ++ ys)
