-- The keys of promises that stand in a class differ, whatever units they stand at.
use Rattle.std.proofs.Common.{◌≡◌, ℕ, List, [], ◌∷◌, ◌++◌, map, refl, sym, ◌∙◌, ap, subst, Bool, true, false}
use Rattle.std.specs.Prelude.{◌≢◌, Option, if◌then◌else◌}
use Rattle.std.specs.List.{AllByRecursion, flat_map, list_any}
use Rattle.java_tree.specs.declared.file.ClassTree.{ClassTree}
use Rattle.java_tree.specs.declared.member.MemberTree.{MemberTree}
use Rattle.class_faces.specs.Keys.{Distinct, HasNames, Lacks, member_keys, text_of}
use Rattle.class_faces.proofs.KeyLaws.{units_distinct}
use Rattle.desk_base.specs.declared.key.PromiseKey.{PromiseKey}
use Rattle.promise_grammar.specs.declared.tree.PromiseTree.{PromiseTree}
use Rattle.promise_marks.specs.declared.mark.Mark.{Mark}
use Rattle.result_records.specs.declared.code.FindingCode.{FindingCode}
use Rattle.scrub_rules.specs.declared.offer.Offer.{Offer}
use Rattle.scrub_rules.specs.Place.{header_site}
use Rattle.scrub_rules.specs.Target.{Kinds}
use Rattle.promise_scrub.specs.Differ.{KeysDiffer, LacksKey}
use Rattle.promise_scrub.specs.Members.{scoped_of}
use Rattle.header_scrub.specs.Kinds.{region_kind}
use Rattle.promise_scrub.specs.Surfaces.{Surface, UnitAnnotations, class_locks, member_units, standing_at, units_of}
use Rattle.promise_scrub.specs.Verdicts.{Judged, Stands, SetAside, Dropped, Verdict, judged, offers_in, same_key, standing_of, standings, standings_after, stands_after, stands_by, stands_more}
use Rattle.promise_scrub.specs.declared.member.Scoped.{Scoped}
use Rattle.promise_scrub.specs.declared.surface.Standing.{Standing}
use Rattle.promise_scrub.specs.declared.surface.Surface.{Surface as Face}
use Rattle.promise_scrub.proofs.Differing.{lacks_append, unit_keys_differ}

-- ---- a unit's promises have its key for their target

abbrev Targets : List ℕ → List Standing → Type 0
Targets target ss = AllByRecursion (λ s. s.key.target ≡ target) ss

all_append : {A : Type 0} (P : A → Type 0) (xs ys : List A) → AllByRecursion P xs → AllByRecursion P ys → AllByRecursion P (xs ++ ys)
all_append P [] ys a b = b
all_append P (x ∷ xs) ys a b = (a.0, all_append P xs ys a.1 b)

targets_more : (target : List ℕ) (tree : PromiseTree) (before : List Offer) (o : Offer) → Targets target (stands_more target tree before o)
targets_more target tree before o = go (list_any (λ a. same_key a o) before)
  where
    go : (b : Bool) → Targets target (if b then [] else standing_of target tree o ∷ [])
    go true = tt
    go false = (refl, tt)

targets_stands : (target : List ℕ) (tree : PromiseTree) (before offers : List Offer) → Targets target (stands_after target tree before offers)
targets_stands target tree before [] = tt
targets_stands target tree before (o ∷ os) =
    all_append (λ s. s.key.target ≡ target) (stands_more target tree before o) (stands_after target tree (before ++ o ∷ []) os)
    (targets_more target tree before o) (targets_stands target tree (before ++ o ∷ []) os)

targets_by : (target : List ℕ) (before : List Offer) (v : Verdict) → Targets target (stands_by target before v)
targets_by target before (Stands tree offers) = targets_stands target tree before offers
targets_by target before (SetAside code) = tt
targets_by target before Dropped = tt

pub targets_after : (target : List ℕ) (before : List Offer) (js : List Judged) → Targets target (standings_after target before js)
targets_after target before [] = tt
targets_after target before (j ∷ js) =
    all_append (λ s. s.key.target ≡ target) (stands_by target before j.verdict) (standings_after target (before ++ offers_in j.verdict) js)
    (targets_by target before j.verdict) (targets_after target (before ++ offers_in j.verdict) js)

-- ---- units whose keys differ

lacks_other : (key : PromiseKey) (target : List ℕ) (ss : List Standing) → Targets target ss → key.target ≢ target → LacksKey key ss
lacks_other key target [] t other = tt
lacks_other key target (s ∷ ss) t other = ((λ same. other (ap (λ (k : PromiseKey). k.target) same ∙ t.0)), lacks_other key target ss t.1 other)

abbrev keys_of : List UnitAnnotations → List (List ℕ)
keys_of us = map (λ u. u.key) us

lacks_units : (key : PromiseKey) (us : List UnitAnnotations) → Lacks key.target (keys_of us) → LacksKey key (flat_map standing_at us)
lacks_units key [] lacks = tt
lacks_units key (u ∷ us) lacks =
    lacks_append key (standing_at u) (flat_map standing_at us)
    (lacks_other key u.key (standing_at u) (targets_after u.key [] (judged u.annotations)) lacks.0) (lacks_units key us lacks.1)

-- lists of which none of the one has a key of the other
differ_append : (xs ys : List Standing) → KeysDiffer xs → KeysDiffer ys → AllByRecursion (λ s. LacksKey s.key ys) xs → KeysDiffer (xs ++ ys)
differ_append [] ys a b apart = b
differ_append (x ∷ xs) ys a b apart = (lacks_append x.key xs ys a.0 apart.0, differ_append xs ys a.1 b apart.1)

unit_lacks : (target : List ℕ) (ss : List Standing) (us : List UnitAnnotations) → Targets target ss → Lacks target (keys_of us)
    → AllByRecursion (λ s. LacksKey s.key (flat_map standing_at us)) ss
unit_lacks target [] us t lacks = tt
unit_lacks target (s ∷ ss) us t lacks =
    (lacks_units s.key us (subst (λ (z : List ℕ). Lacks z (keys_of us)) (sym t.0) lacks), unit_lacks target ss us t.1 lacks)

units_differ : (us : List UnitAnnotations) → Distinct (keys_of us) → KeysDiffer (flat_map standing_at us)
units_differ [] d = tt
units_differ (u ∷ us) d =
    differ_append (standing_at u) (flat_map standing_at us) (unit_keys_differ u.key u.annotations) (units_differ us d.1)
    (unit_lacks u.key (standing_at u) us (targets_after u.key [] (judged u.annotations)) d.0)

-- ---- the units of a class

module _ (class : List ℕ) (regions locks : Kinds) (scoped : List Scoped) where
  members_lack : (key : List ℕ) (ks : List (List ℕ)) (marks : List (List Mark)) (ms : List MemberTree) → Lacks key ks
      → Lacks key (keys_of (member_units class regions locks scoped ks marks ms))
  members_lack key ks marks [] lacks = tt
  members_lack key [] marks (m ∷ ms) lacks = tt
  members_lack key (k ∷ ks) [] (m ∷ ms) lacks = tt
  members_lack key (k ∷ ks) (a ∷ marks) (m ∷ ms) lacks = (lacks.0, members_lack key ks marks ms lacks.1)

  members_distinct : (ks : List (List ℕ)) (marks : List (List Mark)) (ms : List MemberTree) → Distinct ks
      → Distinct (keys_of (member_units class regions locks scoped ks marks ms))
  members_distinct ks marks [] d = tt
  members_distinct [] marks (m ∷ ms) d = tt
  members_distinct (k ∷ ks) [] (m ∷ ms) d = tt
  members_distinct (k ∷ ks) (a ∷ marks) (m ∷ ms) d = (members_lack k ks marks ms d.0, members_distinct ks marks ms d.1)

class_distinct : (class : ClassTree) (header : List Mark) (members : List (List Mark)) (regions locks : Kinds) (codes : List (Option FindingCode))
    → HasNames class → Distinct (keys_of (units_of class header members regions locks codes))
class_distinct class header members regions locks codes names =
    let d = units_distinct class names in
    let scoped = scoped_of (header_site class.kind) header in (
      members_lack class.name.text regions locks scoped (text_of class.name.text) (member_keys class) members class.members d.0,
      members_distinct class.name.text regions locks scoped (member_keys class) members class.members d.1,
    )

pub class_keys_differ : (class : ClassTree) (face : Face) → HasNames class → Surface class face → KeysDiffer face.standing
class_keys_differ class face names s =
    subst (λ (f : Face). KeysDiffer f.standing) (sym s.is)
    (units_differ (units_of class s.header s.members (region_kind s.regions) (class_locks class s.header s.codes) s.codes)
    (class_distinct class s.header s.members (region_kind s.regions) (class_locks class s.header s.codes) s.codes names))
