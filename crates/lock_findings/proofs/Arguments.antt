-- The base that an argument is, by the argument of that number.
use Rattle.std.proofs.Common.{◌≡◌, ℕ, zero, suc, Bool, List, [], ◌∷◌, Option, Some, None, refl, length, ap, ◌∙◌, sym, add-one}
use Rattle.std.specs.List.{slice_get}
use Rattle.bound_tree.specs.declared.tree.Expr.{Expr}
use Rattle.bound_tree.specs.Claims.{local_claim}
use Rattle.bound_tree.specs.Reading.{term_of, terms_of}
use Rattle.lock_findings.specs.Rows.{argument_base, count_of}

abbrev pub base_if_any : (ℕ → Bool) → Option Expr → Option ℕ
base_if_any varies None = None
base_if_any varies (Some e) = local_claim varies (term_of e)

pub argument-get : (varies : ℕ → Bool) (xs : List Expr) (i : ℕ) → argument_base varies (terms_of xs) i ≡ base_if_any varies (slice_get xs i)
argument-get varies [] i = refl
argument-get varies (x ∷ xs) zero = refl
argument-get varies (x ∷ xs) (suc i) = argument-get varies xs i

pub argument-there : (varies : ℕ → Bool) (xs : List Expr) (i : ℕ) (e : Expr) → slice_get xs i ≡ Some e → argument_base varies (terms_of xs) i ≡ local_claim varies (term_of e)
argument-there varies xs i e is = rw (argument-get varies xs i, is) refl

pub argument-not : (varies : ℕ → Bool) (xs : List Expr) (i : ℕ) → slice_get xs i ≡ None → argument_base varies (terms_of xs) i ≡ None
argument-not varies xs i is = rw (argument-get varies xs i, is) refl

pub count-terms : (xs : List Expr) → count_of (terms_of xs) ≡ length xs
count-terms [] = refl
count-terms (x ∷ xs) = ap suc (count-terms xs)

pub ruleset arguments = (argument-there, argument-not, count-terms)
