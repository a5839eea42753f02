-- Tokens with numbers for their places, and with their places again.
use Rattle.std.proofs.Common.{◌≡◌, ◌≤◌, ◌<◌, ◌+◌, cond, ℕ, List, [], ◌∷◌, ◌++◌, length, nat_lt, Some, refl, ap, ◌∙◌, sym, arith, append_assoc, length-append}
use Rattle.std.specs.Prelude.{unwrap_or}
use Rattle.std.specs.Option.{option_map}
use Rattle.std.specs.List.{slice_get}
use Rattle.std.proofs.lemmas.Bool.{le-ltb, lt-ltb}
use Rattle.std.proofs.lemmas.List.Sums.{sum_by-cons}
use Rattle.desk_base.specs.declared.span.Span.{Span}
use Rattle.java_tree.specs.declared.token.Token.{Token}
use Rattle.java_reader.specs.Alike.{Alike}
use Rattle.tree_places.specs.Moved.{moved_token, moved_tokens}
use Rattle.tree_places.specs.Numbers.{number_of, number_span, numbered_span, place_of, placed_span}

-- each token begins behind the beginning of the one before it, and the first at this place or behind it
abbrev pub Rising : ℕ → List Token → Type 0
Rising from [] = Unit {0}
Rising from (t ∷ ts) = (from ≤ t.span.start) × Rising (t.span.start + 1) ts

-- the tokens, each with its number for its place
abbrev pub in_order : ℕ → List Token → List Token
in_order k [] = []
in_order k (t ∷ ts) = moved_token (λ at. number_span k) t ∷ in_order (k + 1) ts

pub in_order-alike : (k : ℕ) (ts us : List Token) → Alike ts us → in_order k ts ≡ in_order k us
in_order-alike k [] [] a = refl
in_order-alike k [] (u ∷ us) a = absurd a
in_order-alike k (t ∷ ts) [] a = absurd a
in_order-alike k (t ∷ ts) (u ∷ us) (kind, bytes, rest) = let more = in_order-alike (k + 1) ts us rest in cc

-- ---- the number of a token

one_more : (t : Token) (ts : List Token) (at : Span) → t.span.start < at.start → number_of (t ∷ ts) at ≡ 1 + number_of ts at
one_more t ts at below = sum_by-cons (λ (u : Token). cond (nat_lt u.span.start at.start) 1 0) t ts ∙ ap (λ b. cond b 1 0 + number_of ts at) (lt-ltb t.span.start at.start below)

no_more : (t : Token) (ts : List Token) (at : Span) → at.start ≤ t.span.start → number_of (t ∷ ts) at ≡ 0 + number_of ts at
no_more t ts at above = sum_by-cons (λ (u : Token). cond (nat_lt u.span.start at.start) 1 0) t ts ∙ ap (λ b. cond b 1 0 + number_of ts at) (le-ltb t.span.start at.start above)

none_before : (ts : List Token) (from : ℕ) (at : Span) → Rising from ts → at.start ≤ from → number_of ts at ≡ 0
none_before [] from at rising low = refl
none_before (t ∷ ts) from at (above, rest) low = no_more t ts at (omega arith) ∙ omega (arith, none_before ts (t.span.start + 1) at rest (omega arith))

-- of the tokens behind some others each has the number of its place, counted on from theirs
later : (k : ℕ) (t : Token) (ts us : List Token) (from : ℕ) → t.span.start < from → Rising from us
    → moved_tokens (λ at. number_span (k + number_of (t ∷ ts) at)) us ≡ moved_tokens (λ at. number_span (k + 1 + number_of ts at)) us
later k t ts [] from low rising = refl
later k t ts (u ∷ us) from low (above, rest) =
    let more = later k t ts us (u.span.start + 1) (omega arith) rest in
    let here : k + number_of (t ∷ ts) u.span ≡ k + 1 + number_of ts u.span = omega (arith, one_more t ts u.span (omega arith)) in
    cc

pub numbers : (k : ℕ) (ts : List Token) (from : ℕ) → Rising from ts → moved_tokens (λ at. number_span (k + number_of ts at)) ts ≡ in_order k ts
numbers k [] from rising = refl
numbers k (t ∷ ts) from (above, rest) =
    let none = none_before ts (t.span.start + 1) t.span rest (omega arith) in
    let head : k + number_of (t ∷ ts) t.span ≡ k = omega (arith, no_more t ts t.span (omega arith), none) in
    let tail = later k t ts ts (t.span.start + 1) (omega arith) rest ∙ numbers (k + 1) ts (t.span.start + 1) rest in
    cc

zero_more : (ts us : List Token) → moved_tokens (λ at. number_span (0 + number_of ts at)) us ≡ moved_tokens (numbered_span ts) us
zero_more ts [] = refl
zero_more ts (u ∷ us) = let more = zero_more ts us in let here : 0 + number_of ts u.span ≡ number_of ts u.span = omega arith in cc

-- tokens in order have the numbers from 0 on
pub numbered-tokens : (ts : List Token) (from : ℕ) → Rising from ts → moved_tokens (numbered_span ts) ts ≡ in_order 0 ts
numbered-tokens ts from rising = sym (zero_more ts ts) ∙ numbers 0 ts from rising

-- ---- the way back

seam : (before : List Token) (t : Token) (ts : List Token) → slice_get (before ++ t ∷ ts) (length before) ≡ Some t
seam [] t ts = refl
seam (b ∷ before) t ts = seam before t ts

-- tokens that stand behind others, and whose numbers are put back to where they were
put_back : (before ts : List Token) → moved_tokens (placed_span (before ++ ts)) (in_order (length before) ts) ≡ ts
put_back before [] = refl
put_back before (t ∷ ts) =
    let at : place_of (before ++ t ∷ ts) (length before) ≡ t.span = ap (λ o. unwrap_or (option_map (λ (x : Token). x.span) o) (number_span (length before))) (seam before t ts) in
    let here : moved_token (λ x. place_of (before ++ t ∷ ts) (length before)) t ≡ t = ap (λ s. moved_token (λ x. s) t) at in
    let more : moved_tokens (placed_span ((before ++ t ∷ []) ++ ts)) (in_order (length (before ++ t ∷ [])) ts) ≡ ts = put_back (before ++ t ∷ []) ts in
    let there : moved_tokens (placed_span (before ++ t ∷ ts)) (in_order (length before + 1) ts) ≡ ts = rw (append_assoc before (t ∷ []) ts, length-append before (t ∷ [])) at more in
    cc

pub placed-in_order : (ts : List Token) → moved_tokens (placed_span ts) (in_order 0 ts) ≡ ts
placed-in_order ts = put_back [] ts
