-- Monitors of a list of objects: what changes of an object make of them.
use Rattle.std.proofs.Common.{◌≡◌, ◌≢◌, ℕ, zero, suc, ◌+◌, ◌-◌, ◌<◌, ◌==◌, ⊎_elim, Bool, true, false, not, List, [], ◌∷◌, ◌++◌, Option, Some, None, if◌then◌else◌, slice_get, slice_set, replicate, refl, sym, ap, ◌∙◌, subst, arith}
use Rattle.std.proofs.lemmas.Bool.Decides.{eqb_tells}
use Rattle.core_model.specs.Objects.{changed, put_for, with_field, entered, exited, is_other, fresh_object, made, own_initials, fresh_count}
use Rattle.core_model.specs.declared.object.Obj.{Obj}
use Rattle.core_model.specs.declared.program.FieldInfo.{FieldInfo}
use Rattle.core_model.specs.declared.value.Value.{Value}
use Rattle.core_laws.specs.Marks.{entries_if, entries_of, IsSettled, AllSettled}
use Rattle.core_laws.specs.Places.{Each}

some-is : {A : Type 0} {x y : A} → Some x ≡ Some y → x ≡ y
some-is e = cc

-- ---- one object of a list

pub get-set : {A : Type 0} (xs : List A) (r : ℕ) (x y : A) → slice_get xs r ≡ Some x → slice_get (slice_set xs r y) r ≡ Some y
get-set [] r x y e = absurd (let no : ⊥ = cc in no)
get-set (z ∷ zs) zero x y e = refl
get-set (z ∷ zs) (suc r) x y e = get-set zs r x y e

pub get-other : {A : Type 0} (xs : List A) (r s : ℕ) (y : A) → r ≢ s → slice_get (slice_set xs r y) s ≡ slice_get xs s
get-other [] r s y ne = refl
get-other (z ∷ zs) zero zero y ne = absurd (ne refl)
get-other (z ∷ zs) zero (suc s) y ne = refl
get-other (z ∷ zs) (suc r) zero y ne = refl
get-other (z ∷ zs) (suc r) (suc s) y ne = get-other zs r s y (λ e. ne (ap suc e))

-- ---- an owner and a count

pub entries-own : (t n : ℕ) → entries_if t (Some t) n ≡ n
entries-own t n = ⊎_elim (λ y. rw y.0 refl) (λ no. absurd (no.1 refl)) (eqb_tells t t)

pub entries-other : (s t n : ℕ) → t ≢ s → entries_if s (Some t) n ≡ 0
entries-other s t n ne = ⊎_elim (λ y. absurd (ne y.1)) (λ no. rw no.0 refl) (eqb_tells t s)

not-false : (b : Bool) → not b ≡ false → b ≡ true
not-false true e = refl
not-false false e = cc

same-owner : (t s : ℕ) → not (s == t) ≡ false → s ≡ t
same-owner t s e = ⊎_elim (λ y. y.1) (λ no. let h : (s == t) ≡ true = not-false (s == t) e in absurd (let c : ⊥ = cc in c)) (eqb_tells s t)

pub entered-own : (t : ℕ) (w : Option ℕ) (n : ℕ) → is_other t w ≡ false → IsSettled w n → entries_if t (Some t) (n + 1) ≡ 1 + entries_if t w n
entered-own t None n e h = entries-own t (n + 1) ∙ omega (arith, h)
entered-own t (Some s) n e h =
    let own : entries_if t (Some s) n ≡ n = rw (same-owner t s e) (entries-own t n) in
    entries-own t (n + 1) ∙ omega (arith, own)

pub entered-others : (s t : ℕ) (w : Option ℕ) (n : ℕ) → s ≢ t → is_other t w ≡ false → entries_if s (Some t) (n + 1) ≡ entries_if s w n
entered-others s t None n ne e = entries-other s t (n + 1) (λ h. ne (sym h))
entered-others s t (Some u) n ne e =
    entries-other s t (n + 1) (λ h. ne (sym h)) ∙ sym (entries-other s u n (λ h. ne (sym h ∙ same-owner t u e)))

abbrev left_owner : Option ℕ → ℕ → Option ℕ
left_owner w n = if n == 0 then None else w

owner-is : (t : ℕ) (w : Option ℕ) (n m : ℕ) → 1 + m ≡ entries_if t w n → (w ≡ Some t) × (n ≡ 1 + m)
owner-is t None n m e = absurd (omega (arith, e))
owner-is t (Some s) n m e =
    ⊎_elim
    (λ y. (ap Some y.1, let h : entries_if t (Some s) n ≡ n = rw y.0 refl in omega (arith, h)))
    (λ no. let h : entries_if t (Some s) n ≡ 0 = rw no.0 refl in absurd (omega (arith, h))) (eqb_tells s t)

left-own : (t m : ℕ) → entries_if t (left_owner (Some t) m) m ≡ m
left-own t m =
    ⊎_elim
    (λ y. rw y.0 (sym y.1)) (λ no. rw no.0 (entries-own t m)) (eqb_tells m 0)

left-others : (s t m : ℕ) → s ≢ t → entries_if s (left_owner (Some t) m) m ≡ 0
left-others s t m ne =
    ⊎_elim
    (λ y. rw y.0 refl) (λ no. rw no.0 (entries-other s t m (λ h. ne (sym h)))) (eqb_tells m 0)

left-settled : (t m : ℕ) → IsSettled (left_owner (Some t) m) m
left-settled t m =
    ⊎_elim
    (λ y. rw y.0 y.1) (λ no. rw no.0 (let h : 0 < m = omega (arith, no.1) in h)) (eqb_tells m 0)

-- what the owner's count is once it has counted down
pub exited-is : (t : ℕ) (o : Obj) (m : ℕ) → 1 + m ≡ entries_of t (Some o) → exited o ≡ record o { owner = left_owner (Some t) m; count = m }
exited-is t o m e =
    let h = owner-is t o.owner o.count m e in
    let n : o.count - 1 ≡ m = omega (arith, h.1) in
    rw (n, h.0) refl

pub exited-own : (t : ℕ) (o : Obj) (m : ℕ) → 1 + m ≡ entries_of t (Some o) → entries_of t (Some (exited o)) ≡ m
exited-own t o m e = ap (λ (z : Obj). entries_of t (Some z)) (exited-is t o m e) ∙ left-own t m

pub exited-others : (s t : ℕ) (o : Obj) (m : ℕ) → s ≢ t → 1 + m ≡ entries_of t (Some o) → entries_of s (Some (exited o)) ≡ entries_of s (Some o)
exited-others s t o m ne e =
    let h = owner-is t o.owner o.count m e in
    ap (λ (z : Obj). entries_of s (Some z)) (exited-is t o m e)
    ∙ left-others s t m ne
    ∙ sym (ap (λ (w : Option ℕ). entries_if s w o.count) h.0 ∙ entries-other s t o.count (λ x. ne (sym x)))

pub exited-settled : (t : ℕ) (o : Obj) (m : ℕ) → 1 + m ≡ entries_of t (Some o) → IsSettled (exited o).owner (exited o).count
exited-settled t o m e = subst (λ (z : Obj). IsSettled z.owner z.count) (sym (exited-is t o m e)) (left-settled t m)

-- ---- objects whose monitors are as before

pub record SameMonitors (os ns : List Obj) : Type 0 where
  pub entries : (s r : ℕ) → entries_of s (slice_get ns r) ≡ entries_of s (slice_get os r)
  pub settled : AllSettled os → AllSettled ns

write-entries : (os : List Obj) (r i : ℕ) (v : Value) (o : Option Obj) → slice_get os r ≡ o
    → (s q : ℕ) → entries_of s (slice_get (put_for os r o (λ x. with_field x i v)) q) ≡ entries_of s (slice_get os q)
write-entries os r i v None e s q = refl
write-entries os r i v (Some o) e s q =
    ⊎_elim
    (λ y. rw (← y.1) (ap (entries_of s) (get-set os r o (with_field o i v) e) ∙ sym (ap (entries_of s) e)))
    (λ no. ap (entries_of s) (get-other os r q (with_field o i v) no.1)) (eqb_tells r q)

write-settled : (os : List Obj) (r i : ℕ) (v : Value) (o : Option Obj) → slice_get os r ≡ o → AllSettled os
    → AllSettled (put_for os r o (λ x. with_field x i v))
write-settled os r i v None e h = h
write-settled os r i v (Some o) e h = λ q x g.
    ⊎_elim
    (λ y. let there = ap (slice_get (slice_set os r (with_field o i v))) y.1 ∙ g in
    let is : with_field o i v ≡ x = some-is (sym (get-set os r o (with_field o i v) e) ∙ there) in
    subst (λ (z : Obj). IsSettled z.owner z.count) is (h r o e))
    (λ no. h q x (sym (get-other os r q (with_field o i v) no.1) ∙ g)) (eqb_tells r q)

pub same-write : (os : List Obj) (r i : ℕ) (v : Value) → SameMonitors os (changed os r (λ x. with_field x i v))
same-write os r i v = record { entries = write-entries os r i v (slice_get os r) refl; settled = write-settled os r i v (slice_get os r) refl }

abbrev pub Free : Obj → Type 0
Free o = (o.owner ≡ None) × (o.count ≡ 0)

pub free-entries : (ns : List Obj) (s r : ℕ) → Each Free ns → entries_of s (slice_get ns r) ≡ 0
free-entries [] s r h = refl
free-entries (n ∷ ns) s zero h = ap (λ w. entries_if s w n.count) h.0.0
free-entries (n ∷ ns) s (suc r) h = free-entries ns s r h.1

pub free-settled : (ns : List Obj) → Each Free ns → (r : ℕ) (o : Obj) → slice_get ns r ≡ Some o → IsSettled o.owner o.count
free-settled [] h r o e = absurd (let no : ⊥ = cc in no)
free-settled (n ∷ ns) h zero o e =
    let is : n ≡ o = some-is e in
    subst (λ (z : Obj). IsSettled z.owner z.count) is (rw h.0.0 h.0.1)
free-settled (n ∷ ns) h (suc r) o e = free-settled ns h.1 r o e

append-entries : (os ns : List Obj) (s r : ℕ) → Each Free ns → entries_of s (slice_get (os ++ ns) r) ≡ entries_of s (slice_get os r)
append-entries [] ns s r h = free-entries ns s r h
append-entries (o ∷ os) ns s zero h = refl
append-entries (o ∷ os) ns s (suc r) h = append-entries os ns s r h

append-settled : (os ns : List Obj) → Each Free ns → AllSettled os → (r : ℕ) (o : Obj) → slice_get (os ++ ns) r ≡ Some o → IsSettled o.owner o.count
append-settled [] ns h a r o e = free-settled ns h r o e
append-settled (x ∷ os) ns h a zero o e = a zero o e
append-settled (x ∷ os) ns h a (suc r) o e = append-settled os ns h (λ q y g. a (suc q) y g) r o e

pub same-append : (os ns : List Obj) → Each Free ns → SameMonitors os (os ++ ns)
same-append os ns h = record { entries = λ s r. append-entries os ns s r h; settled = λ a. append-settled os ns h a }

pub free-fresh : (n : ℕ) → Each Free (replicate n fresh_object)
free-fresh zero = tt
free-fresh (suc n) = ((refl, refl), free-fresh n)

pub same-made : (os : List Obj) (c : ℕ) (fs : List FieldInfo) → SameMonitors os (made os c fs)
same-made os c fs = same-append os _ ((refl, refl), free-fresh (fresh_count (own_initials fs)))

pub same-fresh : (os : List Obj) → SameMonitors os (os ++ fresh_object ∷ [])
same-fresh os = same-append os (fresh_object ∷ []) ((refl, refl), tt)

-- ---- one monitor is counted up or down by its thread

pub record Counts (t : ℕ) (os ns : List Obj) (r m : ℕ) : Type 0 where
  pub here : entries_of t (slice_get ns r) ≡ m
  pub there : (q s : ℕ) → r ≢ q → entries_of s (slice_get ns q) ≡ entries_of s (slice_get os q)
  pub others : (s : ℕ) → s ≢ t → entries_of s (slice_get ns r) ≡ entries_of s (slice_get os r)
  pub settled : AllSettled os → AllSettled ns

settled-set : (os : List Obj) (r : ℕ) (o n : Obj) → slice_get os r ≡ Some o → IsSettled n.owner n.count → AllSettled os → AllSettled (slice_set os r n)
settled-set os r o n e g h = λ q x f.
    ⊎_elim (λ y. let is : n ≡ x = some-is (sym (get-set os r o n e) ∙ ap (slice_get (slice_set os r n)) y.1 ∙ f) in
    subst (λ (z : Obj). IsSettled z.owner z.count) is g)
    (λ no. h q x (sym (get-other os r q n no.1) ∙ f)) (eqb_tells r q)

pub counts-set : (t : ℕ) (os : List Obj) (r m : ℕ) (o n : Obj) → slice_get os r ≡ Some o → entries_of t (Some n) ≡ m
    → ((s : ℕ) → s ≢ t → entries_of s (Some n) ≡ entries_of s (Some o)) → IsSettled n.owner n.count → Counts t os (slice_set os r n) r m
counts-set t os r m o n e own others g = record {
  here = ap (entries_of t) (get-set os r o n e) ∙ own;
  there = λ q s ne. ap (entries_of s) (get-other os r q n ne);
  others = λ s ne. ap (entries_of s) (get-set os r o n e) ∙ others s ne ∙ sym (ap (entries_of s) e);
  settled = settled-set os r o n e g;
}

pub counts-entered : (t : ℕ) (os : List Obj) (r : ℕ) (o : Obj) → slice_get os r ≡ Some o → is_other t o.owner ≡ false → AllSettled os
    → Counts t os (slice_set os r (entered t o)) r (1 + entries_of t (Some o))
counts-entered t os r o e free h =
    counts-set t os r (1 + entries_of t (Some o)) o (entered t o) e (entered-own t o.owner o.count free (h r o e))
    (λ s ne. entered-others s t o.owner o.count ne free) (let some : 0 < o.count + 1 = omega arith in some)

pub counts-exited : (t : ℕ) (os : List Obj) (r m : ℕ) (o : Obj) → slice_get os r ≡ Some o → 1 + m ≡ entries_of t (Some o)
    → Counts t os (slice_set os r (exited o)) r m
counts-exited t os r m o e h =
    counts-set t os r m o (exited o) e (exited-own t o m h) (λ s ne. exited-others s t o m ne h) (exited-settled t o m h)
