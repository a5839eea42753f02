-- What holds of a header that is scrubbed.
use Rattle.std.proofs.Common.{◌≡◌, ℕ, zero, suc, ◌+◌, ◌<◌, List, [], ◌∷◌, ◌++◌, length, take, refl, sym, ◌∙◌, ap, subst, inl, inr, Bool, true, false, arith}
use Rattle.std.specs.Prelude.{◌⊎◌, ◌&&◌, ◌||◌, Option, Some, None, slice_set, if◌then◌else◌}
use Rattle.std.specs.List.{slice_get}
use Rattle.class_faces.specs.declared.face.FieldFace.{FieldFace}
use Rattle.promise_grammar.specs.declared.lock.LockHolder.{LockHolder}
use Rattle.promise_grammar.specs.declared.lock.RegionLockContent.{RegionLockContent}
use Rattle.promise_grammar.specs.declared.tree.PromiseTree.{PromiseTree}
use Rattle.promise_marks.specs.declared.mark.Mark.{Mark}
use Rattle.region_scrub.specs.declared.fault.RegionFault.{RegionFault}
use Rattle.region_scrub.specs.Clearing.{ClearsIn, left}
use Rattle.region_tree.specs.Faults.{AllGood, DeclFault, FaultAt, IsFault}
use Rattle.region_tree.specs.declared.decl.RegionDecl.{RegionDecl}
use Rattle.region_tree.specs.declared.fault.RegionError.{RegionError}
use Rattle.region_tree.specs.declared.fault.RegionError.TheVariants as fault
use Rattle.result_records.specs.declared.code.FindingCode.{FindingCode}
use Rattle.result_records.specs.declared.code.FindingCode.TheVariants as scrub
use Rattle.scrub_rules.specs.declared.place.Site.{Site}
use Rattle.scrub_rules.specs.Target.{Kinds}
use Rattle.header_scrub.specs.declared.lock.Lock.{Lock}
use Rattle.header_scrub.specs.Fields.{Fields, fields_by}
use Rattle.header_scrub.specs.Header.{Header}
use Rattle.header_scrub.specs.Kinds.{region_kind}
use Rattle.header_scrub.specs.Locks.{AreLockCodes, IsCodeAfter, IsLateCode, Overlap, OverlapsAny, StandsAt, by_kind, code_at, early_code, fits_lock, has_lock, is_instance_lock, lock_by, lock_given, lock_of, locks_in, mixes_form}
use Rattle.header_scrub.specs.Regions.{decls_of, is_root}

-- ---- regions

all_good : (n : ℕ) (declared : List RegionDecl) (before after : List (Option RegionFault)) → ClearsIn n declared before after → AllGood (left declared after) (length (left declared after))
all_good zero declared before after c = subst (λ (z : List (Option RegionFault)). AllGood (left declared z) (length (left declared z))) (sym c.1) c.0
all_good (suc n) declared before after (i, why, first, more) = all_good n declared (slice_set before i (Some why)) after more

there : {A : Type 0} (xs : List A) (i : ℕ) (x : A) → slice_get xs i ≡ Some x → i < length xs
there [] i x e = absurd (cc)
there (y ∷ ys) zero x e = omega arith
there (y ∷ ys) (suc i) x e = let h : i < length ys = there ys i x e in omega arith

not_first : (regions : List RegionDecl) (error : RegionError) → AllGood regions (length regions) → (i : ℕ) → FaultAt regions i error → error ≡ fault.OutOfMemory
not_first regions (fault.Repeated name) good i (decl, at, before, why) = absurd (why.1 (good i decl (there regions i decl at) at).0)
not_first regions (fault.UnknownParent name) good i (decl, at, before, why) = let h = (good i decl (there regions i decl at) at).1 in let k = why.2 in absurd (cc)
not_first regions (fault.Mixed name) good i (decl, at, before, why) =
    let h = (good i decl (there regions i decl at) at).1 in
    let other = why.2 in
    let same : other.0 ≡ decl.is_static = some_same other.0 decl.is_static (sym other.1 ∙ h) in
    absurd (other.2 same)
  where
    some_same : (a b : Bool) → Some a ≡ Some b → a ≡ b
    some_same a b e = cc
not_first regions (fault.Cycle name) good i (decl, at, before, why) = absurd (why.3 (good i decl (there regions i decl at) at).2)
not_first regions (fault.FieldRegion name) good i (decl, at, before, why) = absurd why
not_first regions fault.OutOfMemory good i f = refl

by_error : (regions : List RegionDecl) (error : RegionError) → AllGood regions (length regions) → IsFault regions [] error → error ≡ fault.OutOfMemory
by_error regions (fault.Repeated name) good f = not_first regions (fault.Repeated name) good f.0 f.1
by_error regions (fault.UnknownParent name) good f = not_first regions (fault.UnknownParent name) good f.0 f.1
by_error regions (fault.Mixed name) good f = not_first regions (fault.Mixed name) good f.0 f.1
by_error regions (fault.Cycle name) good f = not_first regions (fault.Cycle name) good f.0 f.1
by_error regions (fault.FieldRegion name) good f = let at = f.1.2 in absurd (cc)
by_error regions fault.OutOfMemory good f = refl

pub no_fault : (site : Site) (fields : List FieldFace) (marks : List Mark) (regions : List RegionDecl) (codes : List (Option FindingCode)) (error : RegionError)
    → Header site fields marks regions codes → IsFault regions [] error → error ≡ fault.OutOfMemory
no_fault site fields marks regions codes error h f =
    by_error regions error (subst (λ (z : List RegionDecl). AllGood z (length z)) (sym h.scrubbed.are_left)
    (all_good h.scrubbed.clears.0 (decls_of site marks) _ h.scrubbed.aside h.scrubbed.clears.1)) f

-- ---- locks

-- the lock of a content stands after these
abbrev Late : List RegionDecl → Kinds → Fields → List Lock → RegionLockContent → Type 0
Late declared kinds fields locks content = (early_code kinds fields locks content ≡ None) × (OverlapsAny declared content.region locks → ⊥)

late : (declared : List RegionDecl) (locks : List Lock) (content : RegionLockContent) (early : Option FindingCode)
    → IsLateCode declared locks content early None → (early ≡ None) × (OverlapsAny declared content.region locks → ⊥)
late declared locks content None f = (refl, f)
late declared locks content (Some e) f = absurd (cc)

stands_late : (declared : List RegionDecl) (kinds : Kinds) (fields : Fields) (locks : List Lock) (before : Option FindingCode) (tree : Option PromiseTree) (content : RegionLockContent)
    → lock_by None tree ≡ Some content → IsCodeAfter declared kinds fields locks before (lock_by before tree) None → Late declared kinds fields locks content
stands_late declared kinds fields locks None tree content is code =
    late declared locks content (early_code kinds fields locks content)
    (subst (λ (o : Option RegionLockContent). IsCodeAfter declared kinds fields locks None o None) is code)
stands_late declared kinds fields locks (Some b) tree content is code = absurd (cc)

lock_stands : (declared : List RegionDecl) (kinds : Kinds) (fields : Fields) (marks : List Mark) (before codes : List (Option FindingCode)) (i : ℕ) (content : RegionLockContent)
    → AreLockCodes declared kinds fields marks before codes → StandsAt marks codes i content → Late declared kinds fields (locks_in fields (take i marks) (take i codes)) content
lock_stands declared kinds fields marks before codes i content are s =
    stands_late declared kinds fields (locks_in fields (take i marks) (take i codes)) (code_at before i) s.mark.tree content s.holds (are.each i s.mark None s.there s.stands)

kind_fits : (fields : Fields) (holder : LockHolder) (kind : Option Bool) → by_kind fields holder kind ≡ None → fits_lock fields holder ≡ true
kind_fits fields holder None e = absurd (cc)
kind_fits fields holder (Some s) e = go (s && is_instance_lock fields holder) (fits_lock fields holder) e
  where
    go : (a b : Bool) → (if a then Some scrub.MixedKinds else (if b then None else Some scrub.BadLockField)) ≡ None → b ≡ true
    go true b e = absurd (cc)
    go false true e = refl
    go false false e = absurd (cc)

early_fits : (kinds : Kinds) (fields : Fields) (locks : List Lock) (content : RegionLockContent) → early_code kinds fields locks content ≡ None → fits_lock fields content.holder ≡ true
early_fits kinds fields locks content e = go (mixes_form fields content.holder) (has_lock locks content.name || is_root content.name) e
  where
    go : (a b : Bool) → (if a then Some scrub.BadPlace else (if b then Some scrub.NameUsedTwice else by_kind fields content.holder (kinds content.region))) ≡ None → fits_lock fields content.holder ≡ true
    go true b e = absurd (cc)
    go false true e = absurd (cc)
    go false false e = kind_fits fields content.holder (kinds content.region) e

pub field_fits : (site : Site) (fields : List FieldFace) (marks : List Mark) (regions : List RegionDecl) (codes : List (Option FindingCode)) (i : ℕ) (content : RegionLockContent)
    → Header site fields marks regions codes → StandsAt marks codes i content → fits_lock (fields_by fields) content.holder ≡ true
field_fits site fields marks regions codes i content h s =
    early_fits (region_kind regions) (fields_by fields) (locks_in (fields_by fields) (take i marks) (take i codes)) content
    (lock_stands regions (region_kind regions) (fields_by fields) marks h.between codes i content h.locks s).0

any_right : (declared : List RegionDecl) (region : List ℕ) (xs ys : List Lock) → OverlapsAny declared region ys → OverlapsAny declared region (xs ++ ys)
any_right declared region [] ys o = o
any_right declared region (x ∷ xs) ys o = inr (any_right declared region xs ys o)

earlier : (declared : List RegionDecl) (fields : Fields) (region : List ℕ) (marks : List Mark) (codes : List (Option FindingCode)) (i j : ℕ) (content : RegionLockContent) (m : Mark)
    → i < j → slice_get marks i ≡ Some m → slice_get codes i ≡ Some None → lock_by None m.tree ≡ Some content → Overlap declared region content.region
    → OverlapsAny declared region (locks_in fields (take j marks) (take j codes))
earlier declared fields region marks codes i zero content m low at_mark at_code is o = absurd (omega arith)
earlier declared fields region [] codes i (suc j) content m low at_mark at_code is o = absurd (cc)
earlier declared fields region (n ∷ ns) [] i (suc j) content m low at_mark at_code is o = absurd (cc)
earlier declared fields region (n ∷ ns) (c ∷ cs) zero (suc j) content m low at_mark at_code is o =
    let mark : n ≡ m = cc in
    let code : c ≡ None = cc in
    let given : lock_by c n.tree ≡ Some content = (λ k. lock_by (code k) (mark k).tree) ∙ is in
    subst (λ (z : Option RegionLockContent). OverlapsAny declared region (lock_given fields z ++ locks_in fields (take j ns) (take j cs))) (sym given) (inl o)
earlier declared fields region (n ∷ ns) (c ∷ cs) (suc i) (suc j) content m low at_mark at_code is o =
    any_right declared region (lock_given fields (lock_by c n.tree)) (locks_in fields (take j ns) (take j cs))
    (earlier declared fields region ns cs i j content m (omega arith) at_mark at_code is o)

pub regions_apart : (site : Site) (fields : List FieldFace) (marks : List Mark) (regions : List RegionDecl) (codes : List (Option FindingCode)) (i j : ℕ) (one other : RegionLockContent)
    → Header site fields marks regions codes → i < j → StandsAt marks codes i one → StandsAt marks codes j other → Overlap regions other.region one.region → ⊥
regions_apart site fields marks regions codes i j one other h low s t o =
    (lock_stands regions (region_kind regions) (fields_by fields) marks h.between codes j other h.locks t).1
    (earlier regions (fields_by fields) other.region marks codes i j one s.mark low s.there s.stands s.holds o)
