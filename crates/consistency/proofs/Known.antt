-- Each promise that findings speak of has a number.
use Rattle.std.proofs.Common.{◌≡◌, ℕ, ◌<◌, List, length, get_or, sym, ◌∙◌, subst}
use Rattle.std.specs.Prelude.{Some, None, All, Contains}
use Rattle.std.specs.BTreeMap.{BTreeMap}
use Rattle.desk_base.specs.declared.key.PromiseKey.{PromiseKey}
use Rattle.consistency.specs.Keys.{Distinct, Indexes, number_in}
use Rattle.consistency.specs.Numbering.{IsNumbering}
use Rattle.consistency.proofs.Judging.{get_within, place_of}

-- what holds of all holds of the one at a place
pub all_at : {X : Type 0} (P : X → Type 0) (xs : List X) (k : ℕ) (x : X) → All P xs → k < length xs → x ≡ get_or xs k x → P x
all_at P xs k x h lt is = subst P (sym is) (h k x lt)

pub numbering_of : (ps : List PromiseKey) (numbers : BTreeMap PromiseKey ℕ) → Distinct ps → Indexes ps numbers → IsNumbering ps numbers
numbering_of ps numbers one x = record {
  sound = λ p k h. (x.sound p k h).1;
  whole = λ p k h. x.whole one p k (get_within ps k p h) h;
}

pub number_there : (ps : List PromiseKey) (numbers : BTreeMap PromiseKey ℕ) (p : PromiseKey) → IsNumbering ps numbers → Contains ps p → number_in numbers p ≡ None → ⊥
number_there ps numbers p n c none = let w = place_of ps p c in not_both w.0 (sym none ∙ n.whole p w.0 w.1)
  where
    not_both : (k : ℕ) → None ≡ Some k → ⊥
    not_both k e = cc
