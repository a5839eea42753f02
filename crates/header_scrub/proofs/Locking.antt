-- The codes of a header's annotations, one by one.
use Rattle.std.proofs.Common.{◌≡◌, ℕ, zero, suc, ◌+◌, ◌<◌, ◌≤◌, List, [], ◌∷◌, ◌++◌, length, take, get_or, refl, sym, ◌∙◌, ap, subst, ◌⊎◌, inl, inr, Bool, true, false, append-nil, arith}
use Rattle.std.specs.Prelude.{Option, Some, None, if◌then◌else◌}
use Rattle.std.specs.List.{slice_get}
use Rattle.std.proofs.lemmas.List.{append_assoc, take_more}
use Rattle.promise_grammar.specs.declared.lock.RegionLockContent.{RegionLockContent}
use Rattle.promise_grammar.specs.declared.tree.PromiseTree.{PromiseTree, out-PromiseTree}
use Rattle.promise_grammar.specs.declared.tree.PromiseTree.TheOpen.{PromiseTree-F}
use Rattle.promise_marks.specs.declared.mark.Mark.{Mark}
use Rattle.region_tree.specs.declared.decl.RegionDecl.{RegionDecl}
use Rattle.region_scrub.specs.declared.fault.RegionFault.{RegionFault}
use Rattle.result_records.specs.declared.code.FindingCode.{FindingCode}
use Rattle.scrub_rules.specs.Target.{Kinds}
use Rattle.scrub_rules.specs.declared.place.Site.{Site}
use Rattle.header_scrub.specs.Fields.{Fields}
use Rattle.header_scrub.specs.Locks.{AreLockCodes, IsCodeAfter, code_at, lock_by, lock_given, lock_in, lock_of, locks_in, locks_with}
use Rattle.header_scrub.specs.Kinds.{region_kind}
use Rattle.header_scrub.specs.Regions.{aside_after, codes_with, RegionsScrubbed}
use Rattle.header_scrub.specs.declared.lock.Lock.{Lock}

-- an element of a list that one was put to
abbrev Pushed : {A : Type 0} → List A → A → ℕ → A → Type 0
Pushed xs x j y = ((slice_get xs j ≡ Some y) × (take j (xs ++ x ∷ []) ≡ take j xs)) ⊎ ((j ≡ length xs) × (y ≡ x) × (take j (xs ++ x ∷ []) ≡ xs))

some_same : {A : Type 0} (x y : A) → Some x ≡ Some y → x ≡ y
some_same x y e = cc

pub get_push : {A : Type 0} (xs : List A) (x : A) (j : ℕ) (y : A) → slice_get (xs ++ x ∷ []) j ≡ Some y → Pushed xs x j y
get_push [] x zero y e = inr (refl, sym (some_same x y e), refl)
get_push [] x (suc j) y e = absurd (cc)
get_push (a ∷ xs) x zero y e = inl (e, refl)
get_push (a ∷ xs) x (suc j) y e = elim (get_push xs x j y e) [
  | inl (p, q) ↦ inl (p, ap (λ (z : List _). a ∷ z) q)
  | inr (p, q, r) ↦ inr (ap (λ (n : ℕ). suc n) p, q, ap (λ (z : List _). a ∷ z) r)
]

pub got : {A : Type 0} (xs : List A) (j : ℕ) (y d : A) → slice_get xs j ≡ Some y → get_or xs j d ≡ y
got [] j y d e = absurd (cc)
got (a ∷ xs) zero y d e = some_same a y e
got (a ∷ xs) (suc j) y d e = got xs j y d e

pub long_take : {A : Type 0} (xs : List A) (i : ℕ) → i ≤ length xs → length (take i xs) ≡ i
long_take xs zero low = refl
long_take [] (suc i) low = absurd (omega arith)
long_take (x ∷ xs) (suc i) low = ap (λ (n : ℕ). suc n) (long_take xs i (omega arith))

pub whole : {A : Type 0} (xs : List A) (i : ℕ) → length xs ≤ i → take i xs ≡ xs
whole [] zero low = refl
whole [] (suc i) low = refl
whole (x ∷ xs) zero low = absurd (omega arith)
whole (x ∷ xs) (suc i) low = ap (λ (z : List _). x ∷ z) (whole xs i (omega arith))

locks_push : (fields : Fields) (ms : List Mark) (cs : List (Option FindingCode)) (m : Mark) (c : Option FindingCode) → length cs ≡ length ms
    → locks_in fields (ms ++ m ∷ []) (cs ++ c ∷ []) ≡ locks_in fields ms cs ++ lock_given fields (lock_by c m.tree)
locks_push fields [] [] m c long = append-nil (lock_given fields (lock_by c m.tree))
locks_push fields [] (d ∷ ds) m c long = absurd (omega arith)
locks_push fields (n ∷ ns) [] m c long = absurd (omega arith)
locks_push fields (n ∷ ns) (d ∷ ds) m c long =
    ap (λ (z : List Lock). lock_given fields (lock_by d n.tree) ++ z) (locks_push fields ns ds m c (omega arith))
    ∙ sym (append_assoc (lock_given fields (lock_by d n.tree)) (locks_in fields ns ds) (lock_given fields (lock_by c m.tree)))

-- the locks of one annotation more
pub locks_more : (fields : Fields) (marks : List Mark) (i : ℕ) (m : Mark) (after : List (Option FindingCode)) (code : Option FindingCode) → i < length marks → m ≡ get_or marks i m → length after ≡ i
    → locks_in fields (take (i + 1) marks) (after ++ code ∷ []) ≡ locks_in fields (take i marks) after ++ lock_given fields (lock_by code m.tree)
locks_more fields marks i m after code low is long =
    ap (λ (z : List Mark). locks_in fields z (after ++ code ∷ [])) (take_more marks i m low ∙ ap (λ (x : Mark). take i marks ++ x ∷ []) (sym is))
    ∙ locks_push fields (take i marks) after m code (long ∙ sym (long_take marks i (omega arith)))

-- each annotation so far has its code
abbrev pub EachSo : List RegionDecl → Kinds → Fields → List Mark → List (Option FindingCode) → List (Option FindingCode) → Type 0
EachSo declared kinds fields marks before after =
    (j : ℕ) (m : Mark) (code : Option FindingCode) → slice_get marks j ≡ Some m → slice_get after j ≡ Some code
    → IsCodeAfter declared kinds fields (locks_in fields (take j marks) (take j after)) (code_at before j) (lock_by (code_at before j) m.tree) code

pub each_more : (declared : List RegionDecl) (kinds : Kinds) (fields : Fields) (marks : List Mark) (before after : List (Option FindingCode)) (i : ℕ) (m : Mark) (locks : List Lock) (code : Option FindingCode)
    → m ≡ get_or marks i m → length after ≡ i → locks ≡ locks_in fields (take i marks) after
    → IsCodeAfter declared kinds fields locks (code_at before i) (lock_by (code_at before i) m.tree) code
    → EachSo declared kinds fields marks before after → EachSo declared kinds fields marks before (after ++ code ∷ [])
each_more declared kinds fields marks before after i m locks code is long table here each j n c at_marks at_codes = elim (get_push after code j c at_codes) [
  | inl (old, front) ↦
      subst (λ (z : List (Option FindingCode)). IsCodeAfter declared kinds fields (locks_in fields (take j marks) z) (code_at before j) (lock_by (code_at before j) n.tree) c) (sym front)
      (each j n c at_marks old)
  | inr (last, same, front) ↦ (
      let ji : j ≡ i = last ∙ long in
      let mn : m ≡ n = is ∙ ap (λ (k : ℕ). get_or marks k m) (sym ji) ∙ got marks j n m at_marks in
      let one = subst (λ (z : List Lock). IsCodeAfter declared kinds fields z (code_at before i) (lock_by (code_at before i) m.tree) code) table here in
      let two = subst (λ (x : Mark). IsCodeAfter declared kinds fields (locks_in fields (take i marks) after) (code_at before i) (lock_by (code_at before i) x.tree) code) mn one in
      let three = subst (λ (x : Option FindingCode). IsCodeAfter declared kinds fields (locks_in fields (take i marks) after) (code_at before i) (lock_by (code_at before i) n.tree) x) (sym same) two in
      let four = subst (λ (k : ℕ). IsCodeAfter declared kinds fields (locks_in fields (take k marks) after) (code_at before k) (lock_by (code_at before k) n.tree) c) (sym ji) three in
      subst (λ (z : List (Option FindingCode)). IsCodeAfter declared kinds fields (locks_in fields (take j marks) z) (code_at before j) (lock_by (code_at before j) n.tree) c) (sym front) four)
]

-- the locks that an annotation gives, by its code
pub given_none : (fields : Fields) (before : Option FindingCode) (tree : Option PromiseTree) → lock_by before tree ≡ None → lock_given fields (lock_by before tree) ≡ []
given_none fields before tree none = ap (λ (o : Option RegionLockContent). lock_given fields o) none

pub given_some : (fields : Fields) (before : Option FindingCode) (tree : Option PromiseTree) (content : RegionLockContent) (locks : List Lock) (after : Option FindingCode)
    → lock_by before tree ≡ Some content → locks_with fields locks content after ≡ locks ++ lock_given fields (lock_by after tree)
given_some fields None (Some t) content locks None is = ap (λ (o : Option RegionLockContent). locks ++ lock_given fields o) (sym is)
given_some fields None (Some t) content locks (Some c) is = sym (append-nil locks)
given_some fields None None content locks after is = absurd (cc)
given_some fields (Some b) tree content locks after is = absurd (cc)

-- the codes are as many as the annotations
pub codes_long : (site : Site) (marks : List Mark) (aside : List (Option RegionFault)) → length (codes_with site marks aside) ≡ length marks
codes_long site [] aside = refl
codes_long site (m ∷ ms) aside = ap (λ (n : ℕ). suc n) (codes_long site ms (aside_after site m aside))

-- the codes at what maps say
pub codes_at : (rs : List RegionDecl) (kinds : Kinds) (known fields : Fields) (marks : List Mark) (before after : List (Option FindingCode))
    → kinds ≡ region_kind rs → known ≡ fields → AreLockCodes rs kinds known marks before after → AreLockCodes rs (region_kind rs) fields marks before after
codes_at rs kinds known fields marks before after k f a =
    subst (λ (z : Kinds). AreLockCodes rs z fields marks before after) k (subst (λ (z : Fields). AreLockCodes rs kinds z marks before after) f a)

pub fits : (site : Site) (marks : List Mark) (regions : List RegionDecl) (codes : List (Option FindingCode)) → RegionsScrubbed site marks regions codes → length codes ≡ length marks
fits site marks regions codes s = ap length s.coded ∙ codes_long site marks s.aside
