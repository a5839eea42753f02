-- The promises of a unit as its annotations are judged one by one: what the code keeps of those so far.
use Rattle.std.specs.Prelude.{ℕ, ◌+◌, Bool, true, false, ◌&&◌, ◌||◌, not, List, [], ◌∷◌, ◌++◌, Option, Some, None, filter, fold, map, if◌then◌else◌}
use Rattle.desk_base.specs.declared.key.PromiseName.{PromiseName}
use Rattle.promise_grammar.specs.declared.tree.PromiseTree.{PromiseTree, out-PromiseTree}
use Rattle.result_records.specs.declared.code.FindingCode.{FindingCode}
use Rattle.result_records.specs.declared.code.FindingCode.TheVariants as scrub
use Rattle.scrub_rules.specs.declared.offer.Offer.{Offer}
use Rattle.scrub_rules.specs.Code.{least}
use Rattle.promise_scrub.specs.Texts.{is_among}
use Rattle.promise_scrub.specs.Verdicts.{Annotation, Content, Bad, Gives, Judged, aside_of, asides, counts, given, is_in_region, is_vouch, number_of, own, standing_of, standings, vouched}
use Rattle.promise_scrub.specs.declared.surface.Standing.{Standing}
use Rattle.promise_scrub.specs.declared.unit.Unit.{Unit as Target}

-- what is equal of two promises exactly where they have one key, and where one repeats the other
abbrev pub key_tag : Offer → List ℕ
key_tag o = number_of o.name ∷ o.detail

abbrev pub form_tag : Offer → List ℕ
form_tag o = number_of o.form ∷ (if is_in_region o.form then [] else key_tag o)

-- how many of these annotations count
abbrev pub number_in : List Judged → ℕ
number_in [] = 0
number_in (j ∷ more) = counts j.verdict + number_in more

abbrev pub no_promises : Target
no_promises = record { number = 0; own = []; tags = []; stood = []; standing = []; aside = []; vouched = false }

abbrev pub put_aside : List ℕ → PromiseName → FindingCode → Target → Target
put_aside key name code u = record {
  number = u.number + 1;
  own = u.own;
  tags = u.tags;
  stood = u.stood;
  standing = u.standing;
  aside = u.aside ++ aside_of key name (u.number + 1) code ∷ [];
  vouched = u.vouched;
}

abbrev pub standing_more : List ℕ → PromiseTree → Target → Offer → List Standing
standing_more key tree u o = if is_among (key_tag o) u.stood then u.standing else u.standing ++ standing_of key tree o ∷ []

abbrev pub own_more : Bool → Target → Offer → List (List ℕ)
own_more spread u o = if spread then u.own else u.own ++ key_tag o ∷ []

abbrev pub put_tags : Target → Offer → Target
put_tags u o = record {
  number = u.number;
  own = u.own;
  tags = u.tags ++ form_tag o ∷ [];
  stood = u.stood ++ key_tag o ∷ [];
  standing = u.standing;
  aside = u.aside;
  vouched = u.vouched;
}

abbrev pub put_offer : List ℕ → Bool → PromiseTree → Target → Offer → Target
put_offer key spread tree u o = record {
  number = u.number;
  own = own_more spread u o;
  tags = u.tags ++ form_tag o ∷ [];
  stood = u.stood ++ key_tag o ∷ [];
  standing = standing_more key tree u o;
  aside = u.aside;
  vouched = u.vouched;
}

abbrev pub counted : Bool → Target → Target
counted vouches u = record {
  number = u.number + 1;
  own = u.own;
  tags = u.tags;
  stood = u.stood;
  standing = u.standing;
  aside = u.aside;
  vouched = u.vouched || vouches;
}

abbrev pub put_offers : List ℕ → Bool → PromiseTree → List Offer → Target → Target
put_offers key spread tree offers u = fold (put_offer key spread tree) (counted (is_vouch (out-PromiseTree tree)) u) offers

abbrev pub goes : Bool → List (List ℕ) → Offer → Bool
goes spread own o = spread && is_among (key_tag o) own

abbrev pub kept_offers : Bool → List (List ℕ) → List Offer → List Offer
kept_offers spread own offers = filter (λ o. not (goes spread own o)) offers

abbrev pub repeats_tag : List (List ℕ) → List (List ℕ) → List Offer → Bool
repeats_tag tags seen [] = false
repeats_tag tags seen (o ∷ os) = (is_among (form_tag o) tags || is_among (form_tag o) seen) || repeats_tag tags (seen ++ form_tag o ∷ []) os

abbrev pub repeat_code : List (List ℕ) → List Offer → Option FindingCode
repeat_code tags offers = if repeats_tag tags [] offers then Some scrub.RepeatedPromise else None

abbrev pub least_code : Option FindingCode → List Offer → Option FindingCode
least_code code offers = fold (λ code o. least code o.code) code offers

abbrev pub put_by_code : List ℕ → Bool → PromiseName → PromiseTree → List Offer → Option FindingCode → Target → Target
put_by_code key spread name tree offers (Some code) u = put_aside key name code u
put_by_code key spread name tree offers None u = put_offers key spread tree offers u

abbrev pub is_nil : List Offer → Bool
is_nil [] = true
is_nil _ = false

abbrev pub put_kept : List ℕ → Bool → PromiseName → PromiseTree → List Offer → Target → Target
put_kept key spread name tree offers u =
    if spread && is_nil offers then u else
    put_by_code key spread name tree offers (least_code (repeat_code u.tags offers) offers) u

abbrev pub put_content : List ℕ → Bool → PromiseName → Content → Target → Target
put_content key spread name (Bad code) u = put_aside key name code u
put_content key spread name (Gives tree offers) u = put_kept key spread name tree (kept_offers spread u.own offers) u

-- what is kept of these annotations
abbrev pub kept_of : List ℕ → List Judged → Target
kept_of key js = record {
  number = number_in js;
  own = map key_tag (own js);
  tags = map form_tag (given js);
  stood = map key_tag (given js);
  standing = standings key js;
  aside = asides key 0 js;
  vouched = vouched js;
}

-- one annotation more
abbrev pub put_annotation : List ℕ → Target → Annotation → Target
put_annotation key u a = put_content key a.spread a.name a.content u
