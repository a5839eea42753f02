-- The regions of the locks that stand.
use Rattle.std.proofs.Common.{◌≡◌, ℕ, List, [], ◌∷◌, ◌++◌, refl, sym, subst, inl, inr, true, false}
use Rattle.std.specs.Prelude.{◌⊎◌, ◌↔◌, Option, Some, None, IsTrue, is_some}
use Rattle.region_tree.specs.declared.decl.RegionDecl.{RegionDecl}
use Rattle.region_tree.specs.declared.disjoint.DisjointRegions.{DisjointRegions}
use Rattle.region_tree.specs.Chains.{IsUnder}
use Rattle.region_tree.specs.Disjoint.{AreOf, IsHeld}
use Rattle.region_tree.specs.Regions.{number_of, parents_of}
use Rattle.promise_grammar.specs.declared.lock.RegionLockContent.{RegionLockContent}
use Rattle.result_records.specs.declared.code.FindingCode.{FindingCode}
use Rattle.result_records.specs.declared.code.FindingCode.TheVariants as scrub
use Rattle.header_scrub.specs.declared.lock.Lock.{Lock}
use Rattle.header_scrub.specs.Locks.{OverlapsAny, IsLateCode, HasRegion, HoldsRegions, HeldOverlaps}

pub holds_none : (declared : List RegionDecl) (held : DisjointRegions) → AreOf (parents_of declared) held → ((k : ℕ) → IsHeld held k → ⊥) → HoldsRegions declared held []
holds_none declared held of none = record { of = of; holds = λ k. (λ h. none k h, λ h. absurd h) }

has_last : (declared : List RegionDecl) (locks : List Lock) (l : Lock) (k : ℕ) → HasRegion declared (locks ++ l ∷ []) k
    → HasRegion declared locks k ⊎ (number_of declared l.region ≡ Some k)
has_last declared [] l k has = elim has as (λ _. HasRegion declared [] k ⊎ (number_of declared l.region ≡ Some k)) [ inl here ↦ inr here | inr none ↦ absurd none ]
has_last declared (m ∷ ms) l k has =
    elim has as (λ _. HasRegion declared (m ∷ ms) k ⊎ (number_of declared l.region ≡ Some k)) [
      | inl first ↦ inl (inl first)
      | inr more ↦ elim (has_last declared ms l k more) as (λ _. HasRegion declared (m ∷ ms) k ⊎ (number_of declared l.region ≡ Some k)) [
        | inl one ↦ inl (inr one)
        | inr last ↦ inr last
      ]
    ]

has_more : (declared : List RegionDecl) (locks : List Lock) (l : Lock) (k : ℕ) → HasRegion declared locks k ⊎ (number_of declared l.region ≡ Some k)
    → HasRegion declared (locks ++ l ∷ []) k
has_more declared [] l k has = elim has as (λ _. HasRegion declared (l ∷ []) k) [ inl none ↦ absurd none | inr last ↦ inl last ]
has_more declared (m ∷ ms) l k has =
    elim has as (λ _. HasRegion declared (m ∷ (ms ++ l ∷ [])) k) [
      | inl some ↦ elim some as (λ _. HasRegion declared (m ∷ (ms ++ l ∷ [])) k) [
        | inl first ↦ inl first
        | inr more ↦ inr (has_more declared ms l k (inl more))
      ]
      | inr last ↦ inr (has_more declared ms l k (inr last))
    ]

-- one lock more, whose region is held from now on
pub holds_more : (declared : List RegionDecl) (old new : DisjointRegions) (locks : List Lock) (l : Lock) → HoldsRegions declared old locks → AreOf (parents_of declared) new
    → ((k : ℕ) → IsHeld new k ↔ (IsHeld old k ⊎ (IsTrue true × (number_of declared l.region ≡ Some k)))) → HoldsRegions declared new (locks ++ l ∷ [])
holds_more declared old new locks l h of adds = record {
  of = of;
  holds = λ k. (
    λ held. has_more declared locks l k (elim ((adds k).0 held) [ inl was ↦ inl ((h.holds k).0 was) | inr added ↦ inr added.1 ]),
    λ has. (adds k).1 (elim (has_last declared locks l k has) [ inl was ↦ inl ((h.holds k).1 was) | inr last ↦ inr (refl, last) ]),
  );
}

lock_overlaps : (declared : List RegionDecl) (region : List ℕ) (x y : ℕ) → number_of declared region ≡ Some x
    → (IsUnder (parents_of declared) x y ⊎ IsUnder (parents_of declared) y x) → (locks : List Lock) → HasRegion declared locks y → OverlapsAny declared region locks
lock_overlaps declared region x y is over [] has = absurd has
lock_overlaps declared region x y is over (l ∷ ls) has =
    elim has as (λ _. OverlapsAny declared region (l ∷ ls)) [
      | inl here ↦ inl (x, y, is, here, over)
      | inr more ↦ inr (lock_overlaps declared region x y is over ls more)
    ]

overlap_found : (declared : List RegionDecl) (region : List ℕ) (locks : List Lock) → OverlapsAny declared region locks
    → (x : ℕ) × (number_of declared region ≡ Some x)
    × ((y : ℕ) × HasRegion declared locks y × (IsUnder (parents_of declared) x y ⊎ IsUnder (parents_of declared) y x))
overlap_found declared region [] over = absurd over
overlap_found declared region (l ∷ ls) over =
    elim over as (λ _. (x : ℕ) × (number_of declared region ≡ Some x)
    × ((y : ℕ) × HasRegion declared (l ∷ ls) y × (IsUnder (parents_of declared) x y ⊎ IsUnder (parents_of declared) y x))) [
      | inl here ↦ (here.0, here.2, (here.1, inl here.3, here.4))
      | inr more ↦ (let found = overlap_found declared region ls more in (found.0, found.1, (found.2.0, inr found.2.1, found.2.2)))
    ]

-- a region overlaps that of a lock where it overlaps a held one
pub held_overlaps : (declared : List RegionDecl) (held : DisjointRegions) (locks : List Lock) (region : List ℕ) → HoldsRegions declared held locks
    → HeldOverlaps declared held region → OverlapsAny declared region locks
held_overlaps declared held locks region h over =
    lock_overlaps declared region over.0 over.2.0 over.1 over.2.2 locks ((h.holds over.2.0).0 over.2.1)

pub overlaps_held : (declared : List RegionDecl) (held : DisjointRegions) (locks : List Lock) (region : List ℕ) → HoldsRegions declared held locks
    → OverlapsAny declared region locks → HeldOverlaps declared held region
overlaps_held declared held locks region h over =
    let found = overlap_found declared region locks over in
    (found.0, found.1, (found.2.0, (h.holds found.2.0).1 found.2.1, found.2.2))

-- ---- the code of a lock with no earlier code

pub no_code : (code : Option FindingCode) → is_some code ≡ false → code ≡ None
no_code None h = refl
no_code (Some code) h = absurd (cc)

pub late_code : (declared : List RegionDecl) (held : DisjointRegions) (locks : List Lock) (content : RegionLockContent) (early : Option FindingCode) → HoldsRegions declared held locks
    → early ≡ None → HeldOverlaps declared held content.region → IsLateCode declared locks content early (Some scrub.OverlappingRegions)
late_code declared held locks content early h none over =
    subst (λ (z : Option FindingCode). IsLateCode declared locks content z (Some scrub.OverlappingRegions)) (sym none) (refl, held_overlaps declared held locks content.region h over)

pub no_late_code : (declared : List RegionDecl) (held : DisjointRegions) (locks : List Lock) (content : RegionLockContent) (early : Option FindingCode) → HoldsRegions declared held locks
    → early ≡ None → (HeldOverlaps declared held content.region → ⊥) → IsLateCode declared locks content early None
no_late_code declared held locks content early h none apart =
    subst (λ (z : Option FindingCode). IsLateCode declared locks content z None) (sym none) (λ over. apart (overlaps_held declared held locks content.region h over))
