-- An index, made from its last number down.
use Rattle.std.proofs.Common.{◌≡◌, ◌≢◌, ℕ, zero, suc, ◌+◌, ◌<◌, ◌≤◌, List, [], ◌∷◌, length, get_or, refl, sym, ◌∙◌, ap, subst, inl, inr, arith, ◌⊎◌}
use Rattle.std.specs.Prelude.{Option, Some, None, replicate}
use Rattle.std.proofs.Math.ListN.{set}
use Rattle.std.proofs.lemmas.Grind.{common_steps, elements}
use Rattle.region_scrub.specs.Indexes.{LeastFrom, IsIndexed}
use Rattle.region_scrub.specs.Numbers.{key_at}

-- the numbers from `at` on are indexed
pub record Indexed (keys first next : List (Option ℕ)) (at : ℕ) : Type 0 where
  pub within : at ≤ length keys
  pub long_first : length first ≡ length keys
  pub long_next : length next ≡ length keys
  pub first_is : (key : ℕ) → key < length keys → LeastFrom keys key at (key_at first key)
  pub next_is : (k key : ℕ) → at ≤ k → key_at keys k ≡ Some key → LeastFrom keys key (k + 1) (key_at next k)

-- a read after a write
pub key_after : (keys : List (Option ℕ)) (at k : ℕ) (v : Option ℕ) → at < length keys
    → ((k ≡ at) × (key_at (set keys at v) k ≡ v)) ⊎ ((k ≢ at) × (key_at (set keys at v) k ≡ key_at keys k))
key_after keys at k v within = grind (arith, common_steps, elements)

pub key_past : (keys : List (Option ℕ)) (k key : ℕ) → key_at keys k ≡ Some key → k < length keys
key_past [] k key e = absurd (cc)
key_past (x ∷ xs) zero key e = omega arith
key_past (x ∷ xs) (suc k) key e = omega (arith, key_past xs k key e)

-- a key that was read in bounds
pub key_read : (keys : List (Option ℕ)) (k : ℕ) (o : Option ℕ) → k < length keys → o ≡ get_or keys k o → key_at keys k ≡ o
key_read [] k o low is = absurd (omega arith)
key_read (x ∷ xs) zero o low is = sym is
key_read (x ∷ xs) (suc k) o low is = key_read xs k o (omega arith) is

none_at : (count k : ℕ) → key_at (replicate count None) k ≡ None
none_at zero k = refl
none_at (suc count) zero = refl
none_at (suc count) (suc k) = none_at count k

-- one number less that has another key or none
least_other : (keys : List (Option ℕ)) (key at : ℕ) (o : Option ℕ) → key_at keys at ≢ Some key → LeastFrom keys key (at + 1) o → LeastFrom keys key at o
least_other keys key at None not least = λ j from is. elim (same_or j at) [ inl e ↦ not (ap (λ (x : ℕ). key_at keys x) (sym e) ∙ is) | inr ne ↦ least j (omega arith) is ]
  where
    same_or : (i j : ℕ) → (i ≡ j) ⊎ (i ≢ j)
    same_or i j = grind arith
least_other keys key at (Some k) not least =
    (least.0, omega (arith, least.1), λ j from is. elim (same_or j at) [ inl e ↦ absurd (not (ap (λ (x : ℕ). key_at keys x) (sym e) ∙ is)) | inr ne ↦ least.2 j (omega arith) is ])
  where
    same_or : (i j : ℕ) → (i ≡ j) ⊎ (i ≢ j)
    same_or i j = grind arith

pub indexed_none : (keys first next : List (Option ℕ)) → first ≡ replicate (length keys) None → next ≡ replicate (length keys) None → Indexed keys first next (length keys)
indexed_none keys first next e f = record {
  within = omega arith;
  long_first = ap length e ∙ grind (arith, common_steps);
  long_next = ap length f ∙ grind (arith, common_steps);
  first_is = λ key low. subst (LeastFrom keys key (length keys)) (sym (ap (λ (z : List (Option ℕ)). key_at z key) e ∙ none_at (length keys) key))
      (λ j from is. let below : j < length keys = key_past keys j key is in omega arith);
  next_is = λ k key from is. absurd (let below : k < length keys = key_past keys k key is in omega arith);
}

-- a number without key
pub indexed_skip : (keys first next : List (Option ℕ)) (at : ℕ) → Indexed keys first next (at + 1) → key_at keys at ≡ None → Indexed keys first next at
indexed_skip keys first next at i none = record {
  within = omega (arith, i.within);
  long_first = i.long_first;
  long_next = i.long_next;
  first_is = λ key low. least_other keys key at (key_at first key) (λ is. let both = sym none ∙ is in cc) (i.first_is key low);
  next_is = λ k key from is. elim (same_or k at) [
    | inl e ↦ (let there : key_at keys at ≡ Some key = ap (λ (x : ℕ). key_at keys x) (sym e) ∙ is in let both = sym none ∙ there in absurd (cc))
    | inr ne ↦ i.next_is k key (omega arith) is
  ];
}
  where
    same_or : (i j : ℕ) → (i ≡ j) ⊎ (i ≢ j)
    same_or i j = grind arith

-- a number with its key
pub indexed_more : (keys first next : List (Option ℕ)) (at key : ℕ) → Indexed keys first next (at + 1) → key_at keys at ≡ Some key → key < length keys
    → Indexed keys (set first key (Some at)) (set next at (key_at first key)) at
indexed_more keys first next at key i here low = record {
  within = omega (arith, i.within);
  long_first = grind (arith, common_steps, i.long_first);
  long_next = grind (arith, common_steps, i.long_next);
  first_is = λ other within. elim (key_after first key other (Some at) (omega (arith, i.long_first))) [
    | inl h ↦ subst (LeastFrom keys other at) (sym h.1)
        (ap (λ (x : ℕ). key_at keys x) refl ∙ here ∙ ap (λ (x : ℕ). Some x) (sym h.0), omega arith, λ j from is. from)
    | inr h ↦ subst (LeastFrom keys other at) (sym h.1)
        (least_other keys other at (key_at first other) (λ is. h.0 (let both : Some key ≡ Some other = sym here ∙ is in cc)) (i.first_is other within))
  ];
  next_is = λ k other from is. elim (key_after next at k (key_at first key) (omega (arith, i.within, i.long_next))) [
    | inl h ↦ subst (LeastFrom keys other (k + 1)) (sym h.1)
        (let one : Some key ≡ Some other = sym here ∙ ap (λ (x : ℕ). key_at keys x) (sym h.0) ∙ is in
        let same : key ≡ other = cc in
        subst (λ (x : ℕ). LeastFrom keys other (x + 1) (key_at first key)) (sym h.0) (subst (λ (x : ℕ). LeastFrom keys x (at + 1) (key_at first key)) same (i.first_is key low)))
    | inr h ↦ subst (LeastFrom keys other (k + 1)) (sym h.1) (i.next_is k other (omega (arith, h.0)) is)
  ];
}

-- all numbers are indexed
pub indexed_all : (keys first next : List (Option ℕ)) → ((k key : ℕ) → key_at keys k ≡ Some key → key < length keys) → Indexed keys first next 0 → IsIndexed keys first next
indexed_all keys first next within i = record {
  long_first = i.long_first;
  long_next = i.long_next;
  within = within;
  first_is = i.first_is;
  next_is = λ k key is. i.next_is k key (omega arith) is;
}
