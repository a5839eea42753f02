-- Numbering: a map has how many findings of each code and promise have come.
use Rattle.std.proofs.Common.{◌≡◌, ℕ, ◌+◌, List, [], ◌∷◌, ◌++◌, refl, sym, ◌∙◌, ap, arith, append_assoc, append-nil, zero-add, Bool, true, false, cond}
use Rattle.std.specs.Prelude.{Option, Some, unwrap_or, count_by}
use Rattle.std.specs.Cmp.{IsStrictWeakOrder, IsTotalOrder}
use Rattle.std.proofs.lemmas.List.MinMax.{ranks_by}
use Rattle.finding_order.specs.Order.{is_before}
use mathlib.Core.Path.{fun_ext}
use Rattle.std.specs.Ordering.{is_eq}
use Rattle.std.specs.declared.cmp.Ordering.{Ordering}
use Rattle.std.specs.declared.cmp.Ordering.TheVariants.{Less, Equal, Greater}
use Rattle.std.specs.BTreeMap.{BTreeMap, Updates, IsEmpty, is_at, get}
use Rattle.std.specs.Map.{lookup}
use Rattle.std.proofs.lemmas.List.Sums.{sum_by-append}
use Rattle.std.proofs.lemmas.Cmp.{alike_right, nat_cmp_total, on_total, then_total}
use Rattle.desk_base.specs.contracts.key.PromiseKeyOrd.TheImpl.Laws as key_laws
use Rattle.result_records.specs.contracts.code.FindingCodeOrd.TheImpl.Laws as code_laws
use Rattle.result_records.specs.declared.finding.Finding.{Finding}
use Rattle.finding_order.specs.declared.number.Group.{Group}
use Rattle.finding_order.specs.Numbers.{Counts, Counted, Numbered, count_in, group_cmp, group_of, numbered_after, same_group, times, with_number}

pub group_total : IsTotalOrder group_cmp
group_total = then_total (on_total (λ (g : Group). g.code) code_laws.total-law) (on_total (λ (g : Group). g.on) key_laws.total-law)

pub before_order : IsStrictWeakOrder is_before
before_order = ranks_by (then_total (on_total (λ (f : Finding). f.place) nat_cmp_total) (then_total (on_total (λ (f : Finding). f.key.code) code_laws.total-law) (on_total (λ (f : Finding). f.key.on) key_laws.total-law))) (λ (f : Finding). f)

equal_of : (o : Ordering) → is_eq o ≡ true → o ≡ Equal
equal_of Less h = absurd cc
equal_of Equal h = refl
equal_of Greater h = absurd cc

-- one finding more
times_more : (before : List Finding) (f : Finding) (g : Group) → times (before ++ f ∷ []) g ≡ times before g + cond (same_group (group_of f) g) 1 0
times_more before f g =
    sum_by-append (λ (x : Finding). cond (same_group (group_of x) g) 1 0) before (f ∷ [])
    ∙ ap (λ n. times before g + n) (zero-add (cond (same_group (group_of f) g) 1 0))

-- as many are of the one as of the other, where the two are one
times_same : (before : List Finding) (g h : Group) → same_group g h ≡ true → times before g ≡ times before h
times_same before g h e =
    ap (λ (p : Finding → Bool). count_by p before)
    (fun_ext (λ (x : Finding). ap (λ (o : Ordering). is_eq o) (alike_right group_total g h (group_of x) (equal_of (group_cmp g h) e))))

pub counts_none : (map : BTreeMap Group ℕ) → IsEmpty map → Counts map []
counts_none map empty = record { counts = λ g. ap (λ (es : List (Group × ℕ)). unwrap_or (lookup (is_at (group_cmp g)) es) 0) empty }

pub count_step : (old new : BTreeMap Group ℕ) (g : Group) (k : ℕ) (before : List Finding) → Updates group_cmp old new g (Some k)
    → k ≡ count_in old g + 1 → Counts old before → Counted new before g k
count_step old new g k before u one was = record {
  counts = λ f is. record { counts = λ q. go f is q (same_group g q) refl };
  number = one ∙ ap (λ n. n + 1) (was.counts g);
}
  where
    go : (f : Finding) → group_of f ≡ g → (q : Group) (b : Bool) → same_group g q ≡ b → count_in new q ≡ times (before ++ f ∷ []) q
    go f is q true e =
        ap (λ (o : Option ℕ). unwrap_or o 0) (u.0 q ∙ ap (λ (b : Bool). cond b (Some k) (get group_cmp old q)) e)
        ∙ one ∙ ap (λ n. n + 1) (was.counts g ∙ times_same before g q e)
        ∙ sym (times_more before f q ∙ ap (λ (b : Bool). times before q + cond b 1 0) (ap (λ (h : Group). same_group h q) is ∙ e))
    go f is q false e =
        let more : times (before ++ f ∷ []) q ≡ times before q + 0 =
        times_more before f q ∙ ap (λ (b : Bool). times before q + cond b 1 0) (ap (λ (h : Group). same_group h q) is ∙ e) in
        ap (λ (o : Option ℕ). unwrap_or o 0) (u.0 q ∙ ap (λ (b : Bool). cond b (Some k) (get group_cmp old q)) e) ∙ was.counts q ∙ omega (arith, more)

pub number_step : (map : BTreeMap Group ℕ) (before : List Finding) (f done : Finding) (g : Group) (k : ℕ) → g ≡ group_of f → done ≡ with_number f k
    → Counted map before g k → Numbered map before f done
number_step map before f done g k is made counted = record {
  counts = counted.counts f (sym is);
  is = made ∙ ap (with_number f) (counted.number ∙ ap (λ h. times before h + 1) is);
}

-- the findings so far, and one more
pub numbered-append : (before fs : List Finding) (f : Finding)
    → numbered_after before (fs ++ f ∷ []) ≡ numbered_after before fs ++ with_number f (times (before ++ fs) (group_of f) + 1) ∷ []
numbered-append before [] f = ap (λ (b : List Finding). with_number f (times b (group_of f) + 1) ∷ []) (sym (append-nil before))
numbered-append before (x ∷ fs) f =
    ap (λ (ys : List Finding). with_number x (times before (group_of x) + 1) ∷ ys)
    (numbered-append (before ++ x ∷ []) fs f
    ∙ ap (λ (b : List Finding). numbered_after (before ++ x ∷ []) fs ++ with_number f (times b (group_of f) + 1) ∷ []) (append_assoc before (x ∷ []) fs))

pub numbered_step : (old mid new : List Finding) (fs : List Finding) (f done : Finding) (map : BTreeMap Group ℕ) → mid ≡ old ++ numbered_after [] fs
    → Numbered map fs f done → new ≡ mid ++ done ∷ [] → new ≡ old ++ numbered_after [] (fs ++ f ∷ [])
numbered_step old mid new fs f done map so one put =
    put ∙ ap (λ (xs : List Finding). xs ++ done ∷ []) so ∙ append_assoc old (numbered_after [] fs) (done ∷ [])
    ∙ ap (λ (xs : List Finding). old ++ xs) (ap (λ (d : Finding). numbered_after [] fs ++ d ∷ []) one.is ∙ sym (numbered-append [] fs f))
