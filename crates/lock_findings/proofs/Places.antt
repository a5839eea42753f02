-- The findings of places by a running list of claims are those by their ancestors.
use Rattle.std.proofs.Common.{◌≡◌, ℕ, Bool, List, [], ◌∷◌, ◌++◌, refl, sym, ap, ◌∙◌, append_assoc}
use Rattle.std.specs.List.{flat_map}
use mathlib.Core.Path.{fun_ext}
use Rattle.result_records.specs.declared.finding.Finding.{Finding}
use Rattle.bound_tree.specs.declared.place.Seen.{Seen as KeptSeen}
use Rattle.bound_tree.specs.Claims.{Seen, all_seen, varies_in, varies_of}
use Rattle.bound_tree.specs.Places.{Place}
use Rattle.bound_tree.specs.Shown.{shown, all_shown}
use Rattle.bound_tree.specs.Tree.{Statement}
use Rattle.lock_findings.specs.declared.own.Own.{Own}
use Rattle.lock_findings.specs.Promises.{Promises}
use Rattle.lock_findings.specs.Front.{Begins}
use Rattle.lock_findings.specs.LockFindings.{kept_findings, seen_findings, place_findings}
use Rattle.lock_findings.proofs.Front.{begins_more, begins_on}

kept-shown : (promises : Promises) (own : Own) (varies : ℕ → Bool) (ks : List KeptSeen)
    → flat_map (kept_findings promises own varies) ks ≡ flat_map (seen_findings promises own varies) (all_shown ks)
kept-shown promises own varies [] = refl
kept-shown promises own varies (k ∷ ks) = ap (λ more. kept_findings promises own varies k ++ more) (kept-shown promises own varies ks)

seen-places : (promises : Promises) (own : Own) (varies : ℕ → Bool) (ps : List Place)
    → flat_map (seen_findings promises own varies) (all_seen varies [] ps) ≡ flat_map (place_findings promises own varies) ps
seen-places promises own varies [] = refl
seen-places promises own varies (p ∷ ps) = ap (λ more. place_findings promises own varies p ++ more) (seen-places promises own varies ps)

pub seen_same : (promises : Promises) (own : Own) (varies : ℕ → Bool) (ks : List KeptSeen) (ps : List Place)
    → all_shown ks ≡ all_seen varies [] ps
    → flat_map (kept_findings promises own varies) ks ≡ flat_map (place_findings promises own varies) ps
seen_same promises own varies ks ps is =
    kept-shown promises own varies ks ∙ (ap (λ s. flat_map (seen_findings promises own varies) s) is ∙ seen-places promises own varies ps)

pub varies_same : (table : List Bool) (s : Statement) (promises : Promises) (own : Own) (ps : List Place)
    → ((x : ℕ) → varies_in table x ≡ varies_of s x)
    → flat_map (place_findings promises own (varies_in table)) ps ≡ flat_map (place_findings promises own (varies_of s)) ps
varies_same table s promises own ps is = ap (λ v. flat_map (place_findings promises own v) ps) (fun_ext is)

-- three lists, one after another
pub three : (old a b new : List Finding) (xs ys zs : List Finding) → a ≡ old ++ xs → b ≡ a ++ ys → new ≡ b ++ zs → new ≡ old ++ (xs ++ (ys ++ zs))
three old a b new xs ys zs first second third = rw (third, second, first, append_assoc, append_assoc) refl

pub begins_third : (old a b new : List Finding) (xs ys : List Finding) → a ≡ old ++ xs → b ≡ a ++ ys → Begins b new → Begins old new
begins_third old a b new xs ys first second more =
    begins_on old a new (begins_more old xs a first) (begins_on a b new (begins_more a ys b second) more)
