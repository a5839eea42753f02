-- The order of written keys of promises.
use Rattle.std.proofs.Common.{◌≡◌, ℕ, ◌<◌, List, [], ◌∷◌, ◌++◌, refl, sym, ◌∙◌, ap, arith, append_assoc, false}
use mathlib.Core.Bool.{true≢false}
use Rattle.std.specs.Prelude.{codes}
use Rattle.std.specs.List.{AllByRecursion}
use Rattle.std.specs.Ordering.{nat_cmp, ordering_then}
use Rattle.std.specs.Cmp.Lexicographic.{slice_cmp}
use Rattle.std.specs.declared.cmp.Ordering.{Ordering}
use Rattle.std.specs.declared.cmp.Ordering.TheVariants.{Less, Equal, Greater}
use Rattle.std.proofs.lemmas.Bool.Decides.{nat_tests}
use Rattle.desk_base.specs.Key.{name_text}
use Rattle.desk_base.specs.declared.key.PromiseName.{PromiseName}
use Rattle.desk_base.specs.declared.key.PromiseName.TheVariants as kind
use Rattle.desk_base.specs.declared.key.PromiseKey.{PromiseKey}
use Rattle.desk_base.specs.contracts.key.PromiseNameOrd.TheImpl as name_ord
use Rattle.result_records.specs.Keys.{detail_part, promise_bytes, promise_of_kind, promise_parts}
use Rattle.finding_order.specs.Order.{promise_cmp}
use Rattle.written_order.specs.Written.{IsOfUnit, is_program}

abbrev pub name_cmp : PromiseName → PromiseName → Ordering
name_cmp = (name_ord.ghosts).cmp

abbrev pub bytes_cmp : List ℕ → List ℕ → Ordering
bytes_cmp = slice_cmp nat_cmp

less : (x y : ℕ) → x < y → nat_cmp x y ≡ Less
less x y low = grind (arith, nat_tests)

greater : (x y : ℕ) → y < x → nat_cmp x y ≡ Greater
greater x y low = grind (arith, nat_tests)

then_first : (o p q : Ordering) → ordering_then (ordering_then o p) q ≡ ordering_then o (ordering_then p q)
then_first Less p q = refl
then_first Equal p q = refl
then_first Greater p q = refl

-- targets, each with a blank behind it
targets : (s t u v : List ℕ) → AllByRecursion (λ b. 32 < b) s → AllByRecursion (λ b. 32 < b) t
    → bytes_cmp (s ++ 32 ∷ u) (t ++ 32 ∷ v) ≡ ordering_then (bytes_cmp s t) (bytes_cmp u v)
targets [] [] u v a b = refl
targets [] (y ∷ t) u v a b = ap (λ o. ordering_then o (bytes_cmp u (t ++ 32 ∷ v))) (less 32 y b.0)
targets (x ∷ s) [] u v a b = ap (λ o. ordering_then o (bytes_cmp (s ++ 32 ∷ u) v)) (greater x 32 a.0)
targets (x ∷ s) (y ∷ t) u v a b =
    ap (λ o. ordering_then (nat_cmp x y) o) (targets s t u v a.1 b.1) ∙ sym (then_first (nat_cmp x y) (bytes_cmp s t) (bytes_cmp u v))

details : (d e : List ℕ) → bytes_cmp (detail_part d) (detail_part e) ≡ bytes_cmp d e
details [] [] = refl
details [] (f ∷ e) = refl
details (c ∷ d) [] = refl
details (c ∷ d) (f ∷ e) = refl

-- kinds with their details; one name may begin another
names : (n m : PromiseName) (d e : List ℕ) → is_program n ≡ false → is_program m ≡ false
    → bytes_cmp (name_text n ++ detail_part d) (name_text m ++ detail_part e) ≡ ordering_then (name_cmp n m) (bytes_cmp d e)
names kind.Program m d e p q = absurd (true≢false p)
names n kind.Program d e p q = absurd (true≢false q)
names kind.Assume kind.Assume d e p q = details d e
names kind.Borrowed kind.Borrowed d e p q = details d e
names kind.InRegion kind.InRegion d e p q = details d e
names kind.Promise kind.Promise d e p q = details d e
names kind.Region kind.Region d e p q = details d e
names kind.RegionEffects kind.RegionEffects d e p q = details d e
names kind.RegionLock kind.RegionLock d e p q = details d e
names kind.RequiresLock kind.RequiresLock d e p q = details d e
names kind.Starts kind.Starts d e p q = details d e
names kind.Unique kind.Unique d e p q = details d e
names kind.Vouch kind.Vouch d e p q = details d e
names kind.Region kind.RegionEffects [] e p q = refl
names kind.Region kind.RegionEffects (c ∷ d) e p q = refl
names kind.RegionEffects kind.Region d [] p q = refl
names kind.RegionEffects kind.Region d (c ∷ e) p q = refl
names kind.Region kind.RegionLock [] e p q = refl
names kind.Region kind.RegionLock (c ∷ d) e p q = refl
names kind.RegionLock kind.Region d [] p q = refl
names kind.RegionLock kind.Region d (c ∷ e) p q = refl
names n m d e p q = refl

of_kind : (n : PromiseName) (target detail : List ℕ) → is_program n ≡ false → promise_of_kind n target detail ≡ promise_parts target (name_text n) detail
of_kind kind.Program target detail p = absurd (true≢false p)
of_kind n target detail p = refl

-- a written key, with the blank behind its target
written : (a : PromiseKey) → is_program a.name ≡ false → promise_bytes a ≡ a.target ++ 32 ∷ (name_text a.name ++ detail_part a.detail)
written a p =
    of_kind a.name a.target a.detail p
    ∙ append_assoc (a.target ++ codes " ") (name_text a.name) (detail_part a.detail)
    ∙ append_assoc a.target (codes " ") (name_text a.name ++ detail_part a.detail)

pub as_written : (a b : PromiseKey) → IsOfUnit a → IsOfUnit b → promise_cmp a b ≡ bytes_cmp (promise_bytes a) (promise_bytes b)
as_written a b p q =
    ap (λ o. ordering_then (bytes_cmp a.target b.target) o) (sym (names a.name b.name a.detail b.detail p.name q.name))
    ∙ sym (targets a.target b.target (name_text a.name ++ detail_part a.detail) (name_text b.name ++ detail_part b.detail) p.target q.target)
    ∙ ap (λ l. bytes_cmp l (b.target ++ 32 ∷ (name_text b.name ++ detail_part b.detail))) (sym (written a p.name))
    ∙ ap (bytes_cmp (promise_bytes a)) (sym (written b q.name))
