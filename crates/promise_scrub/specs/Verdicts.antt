-- What becomes of the promise annotations of a unit: each is judged by itself and by those before it.
use Rattle.std.specs.Prelude.{ℕ, ◌+◌, Bool, true, false, ◌&&◌, ◌||◌, not, List, [], ◌∷◌, ◌++◌, Option, Some, None, filter, fold, codes, decimal, nat_eq, if◌then◌else◌}
use Rattle.std.specs.List.{flat_map, list_any}
use Rattle.std.specs.Str.{bytes_eq}
use denote.Enum.Declared.{tag_of}
use Rattle.desk_base.specs.declared.key.PromiseName.{PromiseName}
use Rattle.desk_base.specs.declared.key.PromiseName.TheVariants as kind
use Rattle.desk_base.specs.contracts.key.PromiseName.{the_type}
use Rattle.promise_grammar.specs.declared.tree.PromiseTree.{PromiseTree, out-PromiseTree}
use Rattle.promise_grammar.specs.declared.tree.PromiseTree.TheOpen.{PromiseTree-F}
use Rattle.result_records.specs.declared.code.FindingCode.{FindingCode}
use Rattle.result_records.specs.declared.code.FindingCode.TheVariants as scrub
use Rattle.scrub_rules.specs.declared.offer.Offer.{Offer}
use Rattle.scrub_rules.specs.Code.{least}
use Rattle.promise_scrub.specs.declared.surface.Standing.{Standing}
use Rattle.promise_scrub.specs.declared.surface.Aside.{Aside}

-- ---- an annotation

-- What its place and content alone say: a code, or the promises that it offers.
pub data Content : Type 0 where
  Bad : FindingCode → Content
  Gives : PromiseTree → List Offer → Content

-- An annotation of a unit, written there or spread to it.
pub record Annotation : Type 0 where
  pub spread : Bool
  pub name : PromiseName
  pub content : Content

-- It stands and gives these promises, it is set aside, or nothing is left of it.
pub data Verdict : Type 0 where
  Stands : PromiseTree → List Offer → Verdict
  SetAside : FindingCode → Verdict
  Dropped : Verdict

-- an annotation with its verdict
pub record Judged : Type 0 where
  pub annotation : Annotation
  pub verdict : Verdict

-- ---- what annotations give

abbrev pub offers_in : Verdict → List Offer
offers_in (Stands tree offers) = offers
offers_in (SetAside code) = []
offers_in Dropped = []

-- what annotations give, and what the written ones among them give
abbrev pub given : List Judged → List Offer
given before = flat_map (λ j. offers_in j.verdict) before

abbrev pub own_offers : Judged → List Offer
own_offers j = if j.annotation.spread then [] else offers_in j.verdict

abbrev pub own : List Judged → List Offer
own before = flat_map own_offers before

-- ---- when promises are the same

-- the place of a kind among all
abbrev pub number_of : PromiseName → ℕ
number_of name = tag_of the_type name

abbrev pub same_kind : PromiseName → PromiseName → Bool
same_kind a b = nat_eq (number_of a) (number_of b)

-- promises of one target are the same where they have one key
abbrev pub same_key : Offer → Offer → Bool
same_key a b = same_kind a.name b.name && bytes_eq a.detail b.detail

abbrev pub is_in_region : PromiseName → Bool
is_in_region kind.InRegion = true
is_in_region _ = false

-- One repeats the other where both are given in one form and have one key; and a field has one InRegion,
-- whichever region it names. So the two forms of one promise of a constructor count once.
abbrev pub repeats : Offer → Offer → Bool
repeats a b = same_kind a.form b.form && (is_in_region a.form || same_key a b)

-- whether one of these repeats one before it
abbrev pub repeated : List Offer → List Offer → Bool
repeated before [] = false
repeated before (o ∷ os) = list_any (λ a. repeats a o) before || repeated (before ++ o ∷ []) os

-- ---- the verdict

-- the first code of what promises name and of repetition
abbrev pub first_of : List Offer → List Offer → Option FindingCode
first_of before offers =
    fold (λ code o. least code o.code) (if repeated before offers then Some scrub.RepeatedPromise else None) offers

-- a promise that is spread to a member gives nothing that the member has itself
abbrev pub kept : Bool → List Offer → List Offer → List Offer
kept spread mine offers = filter (λ o. not (spread && list_any (λ a. same_key a o) mine)) offers

abbrev pub by_code : PromiseTree → List Offer → Option FindingCode → Verdict
by_code tree offers None = Stands tree offers
by_code tree offers (Some code) = SetAside code

-- nothing may be left of one that is spread
abbrev pub by_offers : Bool → PromiseTree → List Offer → List Offer → Verdict
by_offers true tree before [] = Dropped
by_offers spread tree before offers = by_code tree offers (first_of before offers)

abbrev pub verdict_by : Bool → List Offer → List Offer → Content → Verdict
verdict_by spread mine before (Bad code) = SetAside code
verdict_by spread mine before (Gives tree offers) = by_offers spread tree before (kept spread mine offers)

-- The verdict of an annotation after these.
abbrev pub verdict : List Judged → Annotation → Verdict
verdict before a = verdict_by a.spread (own before) (given before) a.content

abbrev pub judged_more : List Judged → Annotation → Judged
judged_more before a = record { annotation = a; verdict = verdict before a }

-- annotations that come after these, each with its verdict after those before it
abbrev pub judged_after : List Judged → List Annotation → List Judged
judged_after before [] = []
judged_after before (a ∷ more) = judged_more before a ∷ judged_after (before ++ judged_more before a ∷ []) more

abbrev pub judged : List Annotation → List Judged
judged annotations = judged_after [] annotations

-- ---- what a surface lists of a unit

-- the detail of what is set aside
abbrev pub numbered : ℕ → List ℕ
numbered n = codes "#" ++ decimal n

abbrev pub aside_of : List ℕ → PromiseName → ℕ → FindingCode → Aside
aside_of key name n code = record { key = record { target = key; name = name; detail = numbered n }; code = code }

-- how many annotations count: those of which something is left
abbrev pub counts : Verdict → ℕ
counts Dropped = 0
counts _ = 1

abbrev pub set_aside_by : List ℕ → ℕ → PromiseName → Verdict → List Aside
set_aside_by key n name (SetAside code) = aside_of key name n code ∷ []
set_aside_by key n name _ = []

-- What is set aside has its number among those that count; so many do before the first of these.
abbrev pub asides : List ℕ → ℕ → List Judged → List Aside
asides key n [] = []
asides key n (j ∷ more) = set_aside_by key (n + 1) j.annotation.name j.verdict ++ asides key (n + counts j.verdict) more

abbrev pub standing_of : List ℕ → PromiseTree → Offer → Standing
standing_of key tree o = record { key = record { target = key; name = o.name; detail = o.detail }; tree = tree }

-- a promise after these: one that two annotations give stands once, by the first
abbrev pub stands_more : List ℕ → PromiseTree → List Offer → Offer → List Standing
stands_more key tree before o = if list_any (λ a. same_key a o) before then [] else standing_of key tree o ∷ []

abbrev pub stands_after : List ℕ → PromiseTree → List Offer → List Offer → List Standing
stands_after key tree before [] = []
stands_after key tree before (o ∷ os) = stands_more key tree before o ++ stands_after key tree (before ++ o ∷ []) os

abbrev pub stands_by : List ℕ → List Offer → Verdict → List Standing
stands_by key before (Stands tree offers) = stands_after key tree before offers
stands_by key before _ = []

abbrev pub standings_after : List ℕ → List Offer → List Judged → List Standing
standings_after key before [] = []
standings_after key before (j ∷ more) = stands_by key before j.verdict ++ standings_after key (before ++ offers_in j.verdict) more

-- the promises that stand at a unit
abbrev pub standings : List ℕ → List Judged → List Standing
standings key js = standings_after key [] js

abbrev pub is_vouch : PromiseTree-F PromiseTree → Bool
is_vouch (PromiseTree-F.Vouch text) = true
is_vouch _ = false

abbrev pub vouches : Verdict → Bool
vouches (Stands tree offers) = is_vouch (out-PromiseTree tree)
vouches _ = false

-- whether one of them vouches for the unit
abbrev pub vouched : List Judged → Bool
vouched js = list_any (λ j. vouches j.verdict) js
