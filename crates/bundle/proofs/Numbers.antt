-- Plain decimals are what the kit's printing of a number writes.
use Rattle.std.proofs.Common.{◌≡◌, ℕ, ◌<◌, ◌≤◌, ◌^◌, Bool, true, false, List, length, get_or, refl, arith, rules, Some, None, cond, lit<, ap, sym, ◌∙◌, zero, suc}
use Rattle.std.specs.Char.{is_ascii_digit}
use Rattle.std.specs.List.{list_all}
use Rattle.std.specs.Fmt.{decimal}
use Rattle.std.proofs.lemmas.Str.Parse.{IsNumeralModel, numerals_by_fold, digits_value_short}
use Rattle.std.proofs.lemmas.Fmt.{decimal-digits_value, digits_decimal, digits_value-decimal, length-decimal-le, first_decimal, decimal_nonempty, decimal_digit}
use Rattle.std.proofs.lemmas.Bool.Decides.{nat_tests}
use Rattle.bundle.specs.Reading.{read_on, is_plain, number_of}

pub own : IsNumeralModel (λ ds. list_all is_ascii_digit ds ≡ true) (read_on 0)
own = numerals_by_fold _ (search rules) read_on (search rules)

plain_facts : (ds : List ℕ) → is_plain ds ≡ true → (0 < length ds) × (length ds ≤ 9) × (get_or ds 0 0 ≡ 48 → length ds ≡ 1)
plain_facts ds plain = (grind (arith, nat_tests), grind (arith, nat_tests), λ zero. grind (arith, nat_tests))

is_by : (ds : List ℕ) (n : ℕ) (b : Bool) → list_all is_ascii_digit ds ≡ true → is_plain ds ≡ b → cond b (Some (read_on 0 ds)) None ≡ Some n → (n < 1000000000) × (decimal n ≡ ds)
is_by ds n true digits plain e =
    let value : read_on 0 ds ≡ n = cc in
    let facts = plain_facts ds plain in
    let short : read_on 0 ds < 10 ^ 9 = digits_value_short own ds 9 digits facts.1 in
    (omega arith, ap decimal (sym value) ∙ decimal-digits_value own ds digits facts.0 facts.2 (omega arith))
is_by ds n false digits plain e = cc

-- a number that is read is written so
pub number_is : (ds : List ℕ) (n : ℕ) → list_all is_ascii_digit ds ≡ true → number_of ds ≡ Some n → (n < 1000000000) × (decimal n ≡ ds)
number_is ds n digits e = is_by ds n _ digits refl e

plain_by : (ds : List ℕ) → 0 < length ds → length ds ≤ 9 → (get_or ds 0 0 ≡ 48 → length ds ≡ 1) → is_plain ds ≡ true
plain_by ds low high first = grind (arith, nat_tests)

pub decimal_is_digits : (n : ℕ) → n < 1000000000 → list_all is_ascii_digit (decimal n) ≡ true
decimal_is_digits n small = digits_decimal own n (omega arith)

zero_alone : (n : ℕ) → n < 1000000000 → get_or (decimal n) 0 0 ≡ 48 → length (decimal n) ≡ 1
zero_alone zero small first = ap length (decimal_digit 0 (lit< tt))
zero_alone (suc n) small first = absurd (let above : 48 < get_or (decimal (suc n)) 0 0 = first_decimal (suc n) (omega arith) (omega arith) in omega arith)

-- a number that is written is read
pub number_again : (n : ℕ) → n < 1000000000 → number_of (decimal n) ≡ Some n
number_again n small =
    let wide : n < 2 ^ 64 = omega arith in
    let plain : is_plain (decimal n) ≡ true = plain_by (decimal n) (decimal_nonempty n wide) (length-decimal-le 9 n (lit< tt) small wide) (zero_alone n small) in
    rw plain (ap (λ v. Some v) (digits_value-decimal own n wide))
