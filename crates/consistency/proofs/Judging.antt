-- The rounds by number are the rounds over promises and findings.
use Rattle.std.proofs.Common.{◌≡◌, ℕ, zero, suc, ◌<◌, ◌≤◌, List, [], ◌∷◌, length, get_or, arith, sym, ◌∙◌, ap, subst, Bool, true}
use Rattle.std.specs.Prelude.{Contains, Option, Some, None}
use Rattle.std.specs.List.{AllZip, slice_get}
use Rattle.desk_base.specs.declared.key.PromiseKey.{PromiseKey}
use Rattle.result_records.specs.declared.finding.Finding.{Finding}
use Rattle.result_records.specs.declared.finding.FindingLink.{FindingLink}
use Rattle.result_records.specs.declared.finding.FindingLink.TheVariants as link
use Rattle.consistency.specs.declared.flat.Flat.{Flat}
use Rattle.consistency.specs.declared.graph.Clause.{Clause}
use Rattle.consistency.specs.declared.graph.Link.{Link}
use Rattle.consistency.specs.declared.graph.Link.TheVariants.{Promise, Word}
use Rattle.consistency.specs.Flat.{Alive, Left}
use Rattle.consistency.specs.Graph.{ClauseOf, LinkOf, WayOf}
use Rattle.consistency.specs.Keys.{Distinct}
use Rattle.consistency.specs.Numbers.{In, Numbered}
use Rattle.consistency.specs.Numbers as numbers
use Rattle.consistency.specs.Rounds.{Holds, IsConsistent, Round}
use Rattle.consistency.specs.Steps.{Consistent, Solved}
use Rattle.consistency.specs.Verdicts.{RunOf}
use Rattle.consistency.proofs.Numbering.{alive_in, in_alive}
use Rattle.consistency.proofs.Gone.{told_in, told_out}
use Rattle.consistency.proofs.Orders.{some_within}
use Rattle.consistency.proofs.Zips.{zip_all, zip_back, zip_left, zip_right}

some_same : {X : Type 0} (x y : X) → Some x ≡ Some y → x ≡ y
some_same {X} x y e = cc

-- ---- places and what stands there

pub get_within : {X : Type 0} (xs : List X) (i : ℕ) (x : X) → slice_get xs i ≡ Some x → i < length xs
get_within [] zero x h = absurd cc
get_within [] (suc i) x h = absurd cc
get_within (y ∷ ys) zero x h = omega arith
get_within (y ∷ ys) (suc i) x h = let l = get_within ys i x h in omega arith

pub get_contains : {X : Type 0} (xs : List X) (i : ℕ) (x : X) → slice_get xs i ≡ Some x → Contains xs x
get_contains [] zero x h = absurd cc
get_contains [] (suc i) x h = absurd cc
get_contains (y ∷ ys) zero x h = (zero, omega arith, cc)
get_contains (y ∷ ys) (suc i) x h = let c = get_contains ys i x h in (suc c.0, (let l = c.1 in omega arith), c.2)

pub place_at : {X : Type 0} (xs : List X) (x : X) (k : ℕ) → k < length xs → get_or xs k x ≡ x → slice_get xs k ≡ Some x
place_at [] x k lt is = absurd (omega arith)
place_at {X} (y ∷ ys) x zero lt is = ap (λ (z : X). Some z) is
place_at (y ∷ ys) x (suc k) lt is = place_at ys x k (omega arith) is

pub place_of : {X : Type 0} (xs : List X) (x : X) → Contains xs x → (i : ℕ) × (slice_get xs i ≡ Some x)
place_of xs x c = (c.0, place_at xs x c.0 c.1 c.2)

-- ---- links

-- a link survives by number where it does by key
link_up : (given : Bool) (ps : List PromiseKey) (ws : List FindingLink) (S : ℕ → Type 0) (T : PromiseKey → Type 0)
    → ((q : ℕ) (key : PromiseKey) → slice_get ps q ≡ Some key → S q → T key) → (l : Link) (x : FindingLink) → LinkOf ps ws l x → numbers.Holds given S l → Holds given T x
link_up given ps ws S T up (Promise q) (link.Promise key) r h = up q key r h
link_up given ps ws S T up (Promise q) (link.Vouched key) r h = absurd r
link_up given ps ws S T up (Promise q) (link.Assumed class promise) r h = absurd r
link_up given ps ws S T up (Word w) (link.Promise key) r h = absurd r
link_up given ps ws S T up (Word w) (link.Vouched key) r h = h
link_up given ps ws S T up (Word w) (link.Assumed class promise) r h = h

link_down : (given : Bool) (ps : List PromiseKey) (ws : List FindingLink) (S : ℕ → Type 0) (T : PromiseKey → Type 0)
    → ((q : ℕ) (key : PromiseKey) → slice_get ps q ≡ Some key → T key → S q) → (l : Link) (x : FindingLink) → LinkOf ps ws l x → Holds given T x → numbers.Holds given S l
link_down given ps ws S T down (Promise q) (link.Promise key) r h = down q key r h
link_down given ps ws S T down (Promise q) (link.Vouched key) r h = absurd r
link_down given ps ws S T down (Promise q) (link.Assumed class promise) r h = absurd r
link_down given ps ws S T down (Word w) (link.Promise key) r h = absurd r
link_down given ps ws S T down (Word w) (link.Vouched key) r h = h
link_down given ps ws S T down (Word w) (link.Assumed class promise) r h = h

-- ---- rounds

-- what numbers stand for
pub record Stands (ps : List PromiseKey) (ws : List FindingLink) (cs : List Clause) (fs : List Finding) : Type 0 where
  pub distinct : Distinct ps
  pub clauses : AllZip (ClauseOf ps ws) cs fs

pub in_round : (given : Bool) (ps : List PromiseKey) (ws : List FindingLink) (cs : List Clause) (fs : List Finding) → Stands ps ws cs fs
    → (k p : ℕ) (key : PromiseKey) → slice_get ps p ≡ Some key → In given cs k p → Round ps fs given k key
in_round given ps ws cs fs s zero p key at h = get_contains ps p key at
in_round given ps ws cs fs s (suc k) p key at h = (
  get_contains ps p key at,
  λ x has on.
      let c = zip_right (ClauseOf ps ws) cs fs s.clauses x has in
      let r = c.2 in
      let same : c.0.on ≡ p = s.distinct c.0.on p key (r.on ∙ ap (λ (z : PromiseKey). Some z) on) at in
      let a = h c.0 c.1 same in
      let w = zip_left (WayOf ps ws) c.0.alternatives.items x.alternatives r.ways a.0 a.1 in (
        w.0,
        w.1,
        zip_all (LinkOf ps ws) (numbers.Holds given (In given cs k)) (Holds given (Round ps fs given k))
            (link_up given ps ws (In given cs k) (Round ps fs given k) (λ q key2 at2 i. in_round given ps ws cs fs s k q key2 at2 i)) a.0.items w.0 w.2 a.2,
      ),
)

pub round_in : (given : Bool) (ps : List PromiseKey) (ws : List FindingLink) (cs : List Clause) (fs : List Finding) → Stands ps ws cs fs
    → (k p : ℕ) (key : PromiseKey) → slice_get ps p ≡ Some key → Round ps fs given k key → In given cs k p
round_in given ps ws cs fs s zero p key at h = tt
round_in given ps ws cs fs s (suc k) p key at h = λ c has on.
    let x = zip_left (ClauseOf ps ws) cs fs s.clauses c has in
    let r = x.2 in
    let same : x.0.key.on ≡ key = some_same x.0.key.on key (sym r.on ∙ ap (λ (z : ℕ). slice_get ps z) on ∙ at) in
    let w = h.1 x.0 x.1 same in
    let a = zip_right (WayOf ps ws) c.alternatives.items x.0.alternatives r.ways w.0 w.1 in (
      a.0,
      a.1,
      zip_back (LinkOf ps ws) (numbers.Holds given (In given cs k)) (Holds given (Round ps fs given k))
          (link_down given ps ws (In given cs k) (Round ps fs given k) (λ q key2 at2 i. round_in given ps ws cs fs s k q key2 at2 i)) a.0.items w.0 a.2 w.2,
    )

-- ---- what a run over numbers says

greatest_at : (given : Bool) (ps : List PromiseKey) (fs : List Finding) (S : PromiseKey → Bool) → IsConsistent ps fs given (λ p. S p ≡ true)
    → (k : ℕ) (p : PromiseKey) → S p ≡ true → Round ps fs given k p
greatest_at given ps fs S h zero p is = (h p is).0
greatest_at given ps fs S h (suc k) p is = (
  (h p is).0,
  λ x has on.
      let w = (h p is).1 x has on in
      (w.0, w.1, λ j d lt. up given (λ q. S q ≡ true) (Round ps fs given k) (λ q e. greatest_at given ps fs S h k q e) (get_or w.0 j d) (w.2 j d lt)),
)
  where
    up : (given : Bool) (A B : PromiseKey → Type 0) → ((q : PromiseKey) → A q → B q) → (l : FindingLink) → Holds given A l → Holds given B l
    up given A B f (link.Promise key) h = f key h
    up given A B f (link.Vouched key) h = h
    up given A B f (link.Assumed class promise) h = h

left_within : (g : Flat) (n p : ℕ) (o : Option ℕ) (r : ℕ) → Left g n p o → o ≡ Some r → (1 ≤ r) × (r ≤ n)
left_within g n p None r l is = absurd cc
left_within g n p (Some zero) r l is = absurd l
left_within g n p (Some (suc x)) r l is = let e = some_same (suc x) r is in let lt = l.0 in (omega arith, omega arith)

pub run_of : (given : Bool) (ps : List PromiseKey) (ws : List FindingLink) (cs : List Clause) (fs : List Finding) (g : Flat) (left : List (Option ℕ))
    → Stands ps ws cs fs → Numbered given cs g → g.promises ≡ length ps → Solved g left → Consistent g → RunOf ps fs given left
run_of given ps ws cs fs g left s n count solved con =
    let size = solved.0 in
    let inn = λ (p : ℕ) (key : PromiseKey) (at : slice_get ps p ≡ Some key). let w = get_within ps p key at in let z : p < g.promises = omega (arith, w, count) in z in
    record {
      size = size ∙ count;
      stays = λ p k key at le is. in_round given ps ws cs fs s k p key at (alive_in given cs g n k p
          (told_in g g.promises p k (get_or left p None) (solved.1 p (inn p key at)) (omega (arith, le, count)) is));
      gone = λ p k key at le is h. told_out g g.promises p k (get_or left p None) (solved.1 p (inn p key at)) (omega (arith, le, count)) is
          (in_alive given cs g n k p (round_in given ps ws cs fs s k p key at h));
      within = λ p r is.
          let w = left_within g g.promises p (get_or left p None) r (solved.1 p (let l = some_within left p r is in omega (arith, l, size))) is in
          let a = w.0 in let b = w.1 in (a, omega (arith, b, count));
      greatest = record {
        consistent = λ key h.
            let place = place_of ps key (round_there given ps fs (length ps) key h) in
            let alive : Alive g g.promises place.0 = subst (λ (z : ℕ). Alive g z place.0) (sym count) (in_alive given cs g n (length ps) place.0 (round_in given ps ws cs fs s (length ps) place.0 key place.1 h)) in
            let next = con place.0 (inn place.0 key place.1) alive in
            let next2 : Alive g (suc (length ps)) place.0 = subst (λ (z : ℕ). Alive g (suc z) place.0) count next in
            in_round given ps ws cs fs s (suc (length ps)) place.0 key place.1 (alive_in given cs g n (suc (length ps)) place.0 next2);
        holds = λ S h p is. greatest_at given ps fs S h (length ps) p is;
      };
    }
  where
    round_there : (given : Bool) (ps : List PromiseKey) (fs : List Finding) (k : ℕ) (p : PromiseKey) → Round ps fs given k p → Contains ps p
    round_there given ps fs zero p h = h
    round_there given ps fs (suc k) p h = h.0
