-- Links, alternatives and findings get their numbers, one by one.
use Rattle.std.proofs.Common.{◌≡◌, ℕ, zero, suc, ◌+◌, ◌<◌, List, [], ◌∷◌, ◌++◌, length, get_or, take, refl, sym, subst}
use Rattle.std.specs.Prelude.{Some, Vec}
use Rattle.std.specs.Global.{Global}
use Rattle.std.specs.List.{AllZip, slice_get}
use Rattle.desk_base.specs.declared.key.PromiseKey.{PromiseKey}
use Rattle.result_records.specs.declared.finding.Finding.{Finding}
use Rattle.result_records.specs.declared.finding.FindingLink.{FindingLink}
use Rattle.result_records.specs.declared.finding.FindingLink.TheVariants as link
use Rattle.consistency.specs.declared.graph.Clause.{Clause}
use Rattle.consistency.specs.declared.graph.Link.{Link}
use Rattle.consistency.specs.declared.graph.Link.TheVariants.{Promise, Word}
use Rattle.consistency.specs.Graph.{ClauseOf, Extends, LinkOf, WayOf}
use Rattle.consistency.specs.Wired.{IsWired}
use Rattle.consistency.proofs.Judging.{get_within}
use Rattle.consistency.proofs.Zips.{zip_left, zip_more, zip_weaker}

-- ---- words

pub get_left : {X : Type 0} (xs ys : List X) (i : ℕ) (x : X) → slice_get xs i ≡ Some x → slice_get (xs ++ ys) i ≡ Some x
get_left [] ys zero x h = absurd cc
get_left [] ys (suc i) x h = absurd cc
get_left (y ∷ xs) ys zero x h = h
get_left (y ∷ xs) ys (suc i) x h = get_left xs ys i x h

pub get_last : {X : Type 0} (xs : List X) (x : X) → slice_get (xs ++ x ∷ []) (length xs) ≡ Some x
get_last [] x = refl
get_last (y ∷ xs) x = get_last xs x

pub extends_more : (ws : List FindingLink) (l : FindingLink) → Extends ws (ws ++ l ∷ [])
extends_more ws l w x h = get_left ws (l ∷ []) w x h

pub extends_same : (ws : List FindingLink) → Extends ws ws
extends_same ws w x h = h

pub extends_then : (a b c : List FindingLink) → Extends a b → Extends b c → Extends a c
extends_then a b c f g w x h = g w x (f w x h)

-- what isn't a link to a promise gets the next number
pub word_of : (ps : List PromiseKey) (ws : List FindingLink) (n : ℕ) (l : FindingLink) → n ≡ length ws → ((key : PromiseKey) → l ≡ link.Promise key → ⊥) → LinkOf ps (ws ++ l ∷ []) (Word n) l
word_of ps ws n (link.Promise key) is other = absurd (other key refl)
word_of ps ws n (link.Vouched key) is other = subst (λ (z : ℕ). slice_get (ws ++ link.Vouched key ∷ []) z ≡ Some (link.Vouched key)) (sym is) (get_last ws (link.Vouched key))
word_of ps ws n (link.Assumed class promise) is other = subst (λ (z : ℕ). slice_get (ws ++ link.Assumed class promise ∷ []) z ≡ Some (link.Assumed class promise)) (sym is) (get_last ws (link.Assumed class promise))

link_kept : (ps : List PromiseKey) (old new : List FindingLink) → Extends old new → (l : Link) (x : FindingLink) → LinkOf ps old l x → LinkOf ps new l x
link_kept ps old new e (Promise q) (link.Promise key) r = r
link_kept ps old new e (Promise q) (link.Vouched key) r = r
link_kept ps old new e (Promise q) (link.Assumed class promise) r = r
link_kept ps old new e (Word w) (link.Promise key) r = r
link_kept ps old new e (Word w) (link.Vouched key) r = e w (link.Vouched key) r
link_kept ps old new e (Word w) (link.Assumed class promise) r = e w (link.Assumed class promise) r

way_kept : (ps : List PromiseKey) (old new : List FindingLink) → Extends old new → (ls : Vec Link Global) (way : List FindingLink) → WayOf ps old ls way → WayOf ps new ls way
way_kept ps old new e ls way r = zip_weaker (LinkOf ps old) (LinkOf ps new) (link_kept ps old new e) ls.items way r

clause_kept : (ps : List PromiseKey) (old new : List FindingLink) → Extends old new → (c : Clause) (x : Finding) → ClauseOf ps old c x → ClauseOf ps new c x
clause_kept ps old new e c x r = record { key = r.key; on = r.on; ways = zip_weaker (WayOf ps old) (WayOf ps new) (way_kept ps old new e) c.alternatives.items x.alternatives r.ways }

-- ---- one more

pub links_more : (ps : List PromiseKey) (old new : List FindingLink) (made : List Link) (links : List FindingLink) (i : ℕ) (l : Link) (x : FindingLink) → i < length links → x ≡ get_or links i x
    → Extends old new → AllZip (LinkOf ps old) made (take i links) → LinkOf ps new l x → AllZip (LinkOf ps new) (made ++ l ∷ []) (take (i + 1) links)
links_more ps old new made links i l x lt is e z r =
    zip_more (LinkOf ps new) made links i l x lt is (zip_weaker (LinkOf ps old) (LinkOf ps new) (link_kept ps old new e) made (take i links) z) r

pub ways_more : (ps : List PromiseKey) (old new : List FindingLink) (made : List (Vec Link Global)) (ways : List (List FindingLink)) (i : ℕ) (ls : Vec Link Global) (way : List FindingLink) → i < length ways → way ≡ get_or ways i way
    → Extends old new → AllZip (WayOf ps old) made (take i ways) → WayOf ps new ls way → AllZip (WayOf ps new) (made ++ ls ∷ []) (take (i + 1) ways)
ways_more ps old new made ways i ls way lt is e z r =
    zip_more (WayOf ps new) made ways i ls way lt is (zip_weaker (WayOf ps old) (WayOf ps new) (way_kept ps old new e) made (take i ways) z) r

pub clauses_more : (ps : List PromiseKey) (old new : List FindingLink) (made : List Clause) (fs : List Finding) (i : ℕ) (c : Clause) (x : Finding) → i < length fs → x ≡ get_or fs i x
    → Extends old new → AllZip (ClauseOf ps old) made (take i fs) → ClauseOf ps new c x → AllZip (ClauseOf ps new) (made ++ c ∷ []) (take (i + 1) fs)
clauses_more ps old new made fs i c x lt is e z r =
    zip_more (ClauseOf ps new) made fs i c x lt is (zip_weaker (ClauseOf ps old) (ClauseOf ps new) (clause_kept ps old new e) made (take i fs) z) r

-- ---- the graph

promise_within : (ps : List PromiseKey) (ws : List FindingLink) (q : ℕ) (x : FindingLink) → LinkOf ps ws (Promise q) x → q < length ps
promise_within ps ws q (link.Promise key) r = get_within ps q key r
promise_within ps ws q (link.Vouched key) r = absurd r
promise_within ps ws q (link.Assumed class promise) r = absurd r

pub wired_of : (ps : List PromiseKey) (ws : List FindingLink) (cs : List Clause) (fs : List Finding) → AllZip (ClauseOf ps ws) cs fs → IsWired (length ps) cs
wired_of ps ws cs fs z = record {
  ons = λ c has. let w = zip_left (ClauseOf ps ws) cs fs z c has in let r = w.2 in get_within ps c.on w.0.key.on r.on;
  targets = λ c ls q has way to.
      let w = zip_left (ClauseOf ps ws) cs fs z c has in
      let r = w.2 in
      let u = zip_left (WayOf ps ws) c.alternatives.items w.0.alternatives r.ways ls way in
      let v = zip_left (LinkOf ps ws) ls.items u.0 u.2 (Promise q) to in
      promise_within ps ws q v.0 v.2;
}
