-- What a test of all elements tells of the one at a place, and a list with one element more.
use Rattle.std.proofs.Common.{◌≡◌, ℕ, zero, suc, ◌<◌, List, [], ◌∷◌, ◌++◌, length, get_or, arith, subst, sym, Bool, true, false, ◌&&◌}
use Rattle.std.specs.Prelude.{All, IfOk, Result, Ok, Err}
use Rattle.std.specs.List.{list_all}
use Rattle.std.proofs.lemmas.List.Elements.{All-append, All-cons, All-nil}
use Rattle.desk_base.specs.declared.key.PromiseKey.{PromiseKey}
use Rattle.result_records.specs.declared.finding.FindingLink.{FindingLink}
use Rattle.result_records.specs.declared.finding.FindingLink.TheVariants as link
use Rattle.consistency.specs.Among.{LinkAmong}
use Rattle.consistency.specs.Blame.{IsWord}

first_of : (a b : Bool) → (a && b) ≡ true → a ≡ true
first_of true b h = cc
first_of false b h = absurd cc

rest_of : (a b : Bool) → (a && b) ≡ true → b ≡ true
rest_of true b h = h
rest_of false b h = absurd cc

pub tested_at : {X : Type 0} (p : X → Bool) (xs : List X) (k : ℕ) (x : X) → list_all p xs ≡ true → k < length xs → x ≡ get_or xs k x → p x ≡ true
tested_at p [] k x h lt is = absurd (omega arith)
tested_at {X} p (y ∷ ys) zero x h lt is = subst (λ (z : X). p z ≡ true) (sym is) (first_of (p y) (list_all p ys) h)
tested_at p (y ∷ ys) (suc k) x h lt is = tested_at p ys k x (rest_of (p y) (list_all p ys) h) (omega arith) is

pub all_push : {X : Type 0} (P : X → Type 0) (xs : List X) (x : X) → All P xs → P x → All P (xs ++ x ∷ [])
all_push P xs x h px = All-append P xs (x ∷ []) h (All-cons P x [] px (All-nil P))

-- a word leads to no promise
word_among : (ps : List PromiseKey) (l : FindingLink) → IsWord l → LinkAmong ps l
word_among ps (link.Promise key) w = absurd w
word_among ps (link.Vouched key) w = tt
word_among ps (link.Assumed class promise) w = tt

pub ok_among : {E : Type 0} (ps : List PromiseKey) (r : Result FindingLink E) → IfOk r (λ l. IsWord l) → IfOk r (λ l. LinkAmong ps l)
ok_among ps (Ok l) h = word_among ps l h
ok_among ps (Err e) h = h
