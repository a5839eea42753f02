-- Clean flow is what the two passes say.
use Rattle.std.proofs.Common.{◌≡◌, refl, ℕ, ◌==◌, Bool, true, false, ◌&&◌, not, List, sym, ap, ◌∙◌, eq-eqb, eqb-true}
use Rattle.std.proofs.lemmas.Bool.{and_parts, and_from}
use Rattle.bound_tree.specs.Tree.{Terms}
use Rattle.bound_tree.specs.Flows.{Flow}
use Rattle.bound_tree.specs.Runs.{Mark, Goes, Follows, CleanFlow, namings_in, reaches}
use Rattle.bound_tree.specs.Live.{live, named_later, spent_before, is_clean}
use Rattle.bound_tree.proofs.Tests.{and-false, false-true}
use Rattle.bound_tree.proofs.Backwards.{Found, next, next-reaches, reaches-next, live-from, live-to, later-follows, follows-later}
use Rattle.bound_tree.proofs.Forwards.{before-follows, follows-before}

not-if : (b : Bool) → (b ≡ true → ⊥) → not b ≡ true
not-if true h = absurd (h refl)
not-if false h = refl

not-both : (b : Bool) → b ≡ true → not b ≡ true → ⊥
not-both true e f = false-true f
not-both false e f = false-true e

is-false : (b : Bool) → (b ≡ true → ⊥) → b ≡ false
is-false true h = absurd (h refl)
is-false false h = refl

pub tested : (f : Flow) (spends : ℕ → Bool) (phrase : Terms) (x q : ℕ) → is_clean f spends phrase x q ≡ true → CleanFlow f spends phrase x q
tested f spends phrase x q h =
    let a : ((namings_in x phrase == 1) ≡ true) × ((not (named_later x q f false) && not (spent_before x spends q f false)) ≡ true)
    = and_parts (namings_in x phrase == 1) (not (named_later x q f false) && not (spent_before x spends q f false)) h in
    let b : (not (named_later x q f false) ≡ true) × (not (spent_before x spends q f false) ≡ true)
    = and_parts (not (named_later x q f false)) (not (spent_before x spends q f false)) a.1 in
    record {
      once = eqb-true (namings_in x phrase) 1 a.0;
      last = λ p g. not-both (named_later x q f false) (follows-later f x q p g) b.0;
      lent = λ p g. is-false (spends p) (λ s. not-both (spent_before x spends q f false) (follows-before f x spends p q s g) b.1);
    }

pub clean : (f : Flow) (spends : ℕ → Bool) (phrase : Terms) (x q : ℕ) → CleanFlow f spends phrase x q → is_clean f spends phrase x q ≡ true
clean f spends phrase x q c =
    and_from (namings_in x phrase == 1) (not (named_later x q f false) && not (spent_before x spends q f false))
    (eq-eqb (namings_in x phrase) 1 c.once)
    (and_from (not (named_later x q f false)) (not (spent_before x spends q f false))
    (not-if (named_later x q f false) (λ h. later h))
    (not-if (spent_before x spends q f false) (λ h. before h)))
  where
    later : named_later x q f false ≡ true → ⊥
    later h = let s : (p : ℕ) × Follows f x q p = later-follows f x q h in c.last s.0 s.1

    before : spent_before x spends q f false ≡ true → ⊥
    before h =
        let s : (p : ℕ) × (spends p ≡ true) × Follows f x p q = before-follows f x spends q h in
        false-true (sym (c.lent s.0 s.2) ∙ s.1)

pub live-named : (f : Flow) (x : ℕ) → live x f false ≡ true → (p : ℕ) × (t : List Mark) × (on : Bool) × Goes f t on × (reaches x p t ≡ true)
live-named f x h =
    let s : Found x (Goes f) false = live-to x f false h in
    let w : (p : ℕ) × (reaches x p s.0 ≡ true) = next-reaches x s.0 (sym (ap (λ (b : Bool). next x s.0 b) (and-false s.1)) ∙ s.3) in
    (w.0, s.0, s.1, s.2, w.1)

pub named-live : (f : Flow) (x : ℕ) → ((p : ℕ) × (t : List Mark) × (on : Bool) × Goes f t on × (reaches x p t ≡ true)) → live x f false ≡ true
named-live f x (p, t, on, g, h) = live-from x f false t on g (ap (λ (c : Bool). next x t c) (and-false on) ∙ reaches-next x p t h)
