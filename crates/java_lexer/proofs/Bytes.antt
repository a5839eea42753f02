-- Tests of one byte.
use Rattle.std.proofs.Common.{◌≡◌, ℕ, ◌⊎◌, Bool, true, false, ◌||◌, ◌==◌, cond, None, refl, sym, inl, inr, subst}
use Rattle.std.proofs.lemmas.Bool.{eqb-true, or_cases, or_parts, not-true, cases_Bool, cases_eq}
use Rattle.java_lexer.specs.Chars.{is_blank, is_plain, is_line_end}
use Rattle.java_lexer.specs.Scan.{choose, before_equals, twice, double_sign}

-- what holds of each blank holds of a byte that is one
pub at_blank : (P : ℕ → Type 0) → P 32 → P 9 → P 10 → P 13 → P 12 → (b : ℕ) → is_blank b ≡ true → P b
at_blank P space tab feed back form b h =
    elim (or_cases (b == 32 || b == 9 || b == 10 || b == 13) (b == 12) h) [
      | inl h1 ↦ elim (or_cases (b == 32 || b == 9 || b == 10) (b == 13) h1) [
        | inl h2 ↦ elim (or_cases (b == 32 || b == 9) (b == 10) h2) [
          | inl h3 ↦ elim (or_cases (b == 32) (b == 9) h3) [
            | inl e ↦ subst P (sym (eqb-true b 32 e)) space
            | inr e ↦ subst P (sym (eqb-true b 9 e)) tab
          ]
          | inr e ↦ subst P (sym (eqb-true b 10 e)) feed
        ]
        | inr e ↦ subst P (sym (eqb-true b 13 e)) back
      ]
      | inr e ↦ subst P (sym (eqb-true b 12 e)) form
    ]

-- a choice by a test, with how the test went
pub chosen : {X : Type 0} (b : Bool) (x y z : X) → cond b x y ≡ z → ((b ≡ true) × (x ≡ z)) ⊎ ((b ≡ false) × (y ≡ z))
chosen true x y z h = inl (refl, h)
chosen false x y z h = inr (refl, h)

-- a byte that begins no sign of two bytes
pub no_double : (b x : ℕ) → choose before_equals b ≡ None → choose twice b ≡ None → double_sign b x ≡ None
unfolding double_sign
no_double b x h k = elim (cases_Bool (x == 61)) [
  | inl e ↦ rw e h
  | inr e ↦ rw e (elim (cases_Bool (b == x)) [ inl f ↦ rw f k | inr f ↦ rw f refl ])
]

-- past the end of a text no sign of two bytes begins
pub no_double_at_end : (b : ℕ) → double_sign b 0 ≡ None
unfolding double_sign
no_double_at_end b = elim (cases_eq b 0) [ inl e ↦ rw e refl | inr ne ↦ elim (cases_Bool (b == 0)) [ inl t ↦ absurd (ne (eqb-true b 0 t)) | inr f ↦ rw f refl ] ]

pub plain_is : (b : ℕ) → is_plain b ≡ true → ((b == 34) ≡ false) × ((b == 92) ≡ false)
plain_is b h =
    let none = or_parts (b == 34 || b == 92) (is_line_end b) (not-true (b == 34 || b == 92 || is_line_end b) h) in
    or_parts (b == 34) (b == 92) none.0
