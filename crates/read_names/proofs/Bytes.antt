-- The bytes of a name.
use Rattle.std.proofs.Common.{◌≡◌, ◌≢◌, ℕ, ◌<◌, ◌≤◌, Bool, true, false, List, [], ◌∷◌, inl, inr, subst, arith, refl, codes}
use Rattle.std.specs.List.{list_all}
use Rattle.std.specs.Char.{is_ascii_digit, is_ascii_alphabetic}
use Rattle.std.specs.Int.{is_in_range}
use Rattle.std.proofs.lemmas.Bool.{and_parts, or_cases, leb-true, eqb-true}
use Rattle.std.specs.Prelude.{◌||◌, ◌==◌, nat_le}
use Rattle.java_tree.specs.declared.kind.Kind.TheVariants as kind
use Rattle.java_lexer.specs.Chars.{is_name_part}
use Rattle.java_lexer.specs.Lexing.{Spells}
use Rattle.class_faces.specs.Keys.{IsNameByte, IsPlain}

in_range : (low high b : ℕ) → is_in_range low high b ≡ true → b ≤ high
in_range low high b e = leb-true b high (and_parts (nat_le low b) (nat_le b high) e).1

either : (a b : Bool) (n : ℕ) → (a ≡ true → n < 128) → (b ≡ true → n < 128) → (a || b) ≡ true → n < 128
either a b n first second e = elim (or_cases a b e) [ inl x ↦ first x | inr y ↦ second y ]

ascii_letter : (b : ℕ) → is_ascii_alphabetic b ≡ true → b < 128
ascii_letter b = either (is_in_range 65 90 b) (is_in_range 97 122 b) b
    (λ e. let top : b ≤ 90 = in_range 65 90 b e in omega arith) (λ e. let top : b ≤ 122 = in_range 97 122 b e in omega arith)

ascii_part : (b : ℕ) → is_name_part b ≡ true → b < 128
ascii_part b =
    either ((is_ascii_alphabetic b || is_ascii_digit b) || b == 95) (b == 36) b
    (either (is_ascii_alphabetic b || is_ascii_digit b) (b == 95) b
    (either (is_ascii_alphabetic b) (is_ascii_digit b) b (ascii_letter b) (λ e. let top : b ≤ 57 = in_range 48 57 b e in omega arith))
    (λ e. let is : b ≡ 95 = eqb-true b 95 e in omega arith))
    (λ e. let is : b ≡ 36 = eqb-true b 36 e in omega arith)

-- a byte that is no part of names isn't the byte
other : (b sign : ℕ) → is_name_part b ≡ true → is_name_part sign ≡ false → b ≢ sign
other b sign part none = λ e. let same : is_name_part sign ≡ true = subst (λ (n : ℕ). is_name_part n ≡ true) e part in cc

plain_byte : (b : ℕ) → is_name_part b ≡ true → IsNameByte b
plain_byte b part = record {
  ascii = ascii_part b part;
  no_dot = other b 46 part refl;
  no_slash = other b 47 part refl;
  no_tilde = other b 126 part refl;
}

plain_run : (bytes : List ℕ) → list_all is_name_part bytes ≡ true → IsPlain bytes
plain_run [] all = tt
plain_run (b ∷ rest) all =
    let both : (is_name_part b ≡ true) × (list_all is_name_part rest ≡ true) = and_parts (is_name_part b) (list_all is_name_part rest) all in
    (plain_byte b both.0, plain_run rest both.1)

-- a name has no sign of a key
pub plain_name : (bytes : List ℕ) → Spells kind.Name bytes → IsPlain bytes
plain_name [] name = absurd name.0
plain_name (b ∷ rest) name = plain_run (b ∷ rest) name.0

-- and is no reserved word
pub not_new : (bytes : List ℕ) → Spells kind.Name bytes → bytes ≢ codes "new"
not_new bytes name = name.2 kind.New
