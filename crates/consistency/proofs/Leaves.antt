-- Steps towards a leaf, and what the rows of verdicts say.
use Rattle.std.proofs.Common.{◌≡◌, ℕ, zero, suc, ◌+◌, ◌-◌, ◌<◌, ◌≤◌, List, [], ◌∷◌, ◌++◌, length, get_or, arith, refl, sym, ◌∙◌, ap, subst, ◌⊎◌, inl, inr, Bool, true, false}
use Rattle.std.specs.Prelude.{Contains, All, Option, Some, None, Vec, find, not, nat_lt}
use Rattle.std.specs.Global.{Global}
use Rattle.std.specs.List.{slice_get}
use Rattle.std.proofs.lemmas.List.Elements.{All-contains}
use Rattle.std.proofs.lemmas.Bool.Decides.{nat_tests}
use Rattle.desk_base.specs.declared.key.PromiseKey.{PromiseKey}
use Rattle.result_records.specs.declared.finding.Finding.{Finding}
use Rattle.result_records.specs.declared.finding.FindingKey.{FindingKey}
use Rattle.result_records.specs.declared.finding.FindingLink.{FindingLink}
use Rattle.result_records.specs.declared.finding.FindingLink.TheVariants as link
use Rattle.consistency.specs.declared.graph.Clause.{Clause}
use Rattle.consistency.specs.declared.graph.Graph.{Graph}
use Rattle.consistency.specs.declared.graph.Link.{Link}
use Rattle.consistency.specs.declared.graph.Link.TheVariants.{Promise, Word}
use Rattle.consistency.specs.declared.steps.Step.{Step}
use Rattle.consistency.specs.declared.steps.Step.TheVariants.{Own, Via}
use Rattle.consistency.specs.declared.verdict.Verdict.TheVariants as verdict
use Rattle.consistency.specs.declared.verdicts.Judged.{Judged}
use Rattle.consistency.specs.declared.verdicts.Verdicts.{Verdicts}
use Rattle.consistency.specs.Blame as rule
use Rattle.consistency.specs.Blame.{First, FirstLost, FirstMissing, IsWord, Leaf}
use Rattle.consistency.specs.Graph.{ClauseOf, GraphOf, LinkOf, WayOf}
use Rattle.consistency.specs.Keys.{Indexes}
use Rattle.consistency.specs.Rounds.{Con, Holds, Round, Survives}
use Rattle.consistency.specs.Steps.{still_in}
use Rattle.consistency.specs.Tables.{BlameEnds, Causes, Ends, Falls, LeafEnds, LeafSteps, RowsTo, end_by, leaf_at, leaf_by, leaf_in, missing, row_of, stays, stays_all, step_by, word_at}
use Rattle.consistency.specs.Verdicts.{BlamedBy, IsJudged, RestsBy, RunOf, Runs, VerdictsOf}
use Rattle.consistency.proofs.Orders.{some_within}
use Rattle.consistency.proofs.Judging.{Stands, get_within}
use Rattle.consistency.proofs.Standing.{get_last, get_left}
use Rattle.consistency.proofs.Blames.{blamed_of, down, leaves_of, left_by, lost_at, missing_none, tells_missing, tells_way, via_same}
use Rattle.consistency.proofs.Zips.{any_false, first_found, first_has, none_found}

-- one step from a promise that left after round k where words don't count
record LeafStep (ps : List PromiseKey) (fs : List Finding) (ws : List FindingLink) (con firm : List (Option ℕ)) (k : ℕ) (key : PromiseKey) (step : Option Step) : Type 0 where
  finding : Finding
  way : List FindingLink
  first : FirstLost ps fs false k key finding
  first_way : First (All (Holds true (Con ps fs))) finding.alternatives way
  next : ((w : ℕ) × (l : FindingLink) × (step ≡ Some (Own w)) × (slice_get ws w ≡ Some l) × IsWord l × FirstMissing ps fs false k way l)
      ⊎ ((q : ℕ) × (other : PromiseKey) × (step ≡ Some (Via q)) × (slice_get ps q ≡ Some other) × FirstMissing ps fs false k way (link.Promise other)
      × (get_or con q None ≡ None) × ((s : ℕ) × (get_or firm q None ≡ Some s) × (s ≤ k)))

-- who is left at the end has not left
not_left : (ps : List PromiseKey) (fs : List Finding) (con : List (Option ℕ)) → RunOf ps fs true con → (q : ℕ) (key : PromiseKey) → slice_get ps q ≡ Some key
    → Con ps fs key → (o : Option ℕ) → get_or con q None ≡ o → get_or con q None ≡ None
not_left ps fs con run q key at h None is = is
not_left ps fs con run q key at h (Some s) is =
    let w = run.within q s is in
    let top = w.1 in
    absurd (run.gone q (length ps) key at (omega arith) (ap (λ (o : Option ℕ). still_in o (length ps)) is ∙ late (length ps) s top) h)
  where
    late : (a b : ℕ) → b ≤ a → nat_lt a b ≡ false
    late a b h = grind (arith, nat_tests)

-- who has not left is left at the end
pub in_con : (ps : List PromiseKey) (fs : List Finding) (given : Bool) (left : List (Option ℕ)) → RunOf ps fs given left → (q : ℕ) (key : PromiseKey) → slice_get ps q ≡ Some key
    → get_or left q None ≡ None → Round ps fs given (length ps) key
in_con ps fs given left run q key at is = run.stays q (length ps) key at (omega arith) (ap (λ (o : Option ℕ). still_in o (length ps)) is)

pub out_of : (ps : List PromiseKey) (fs : List Finding) (given : Bool) (left : List (Option ℕ)) → RunOf ps fs given left → (q s : ℕ) (key : PromiseKey) → slice_get ps q ≡ Some key
    → get_or left q None ≡ Some s → Round ps fs given (length ps) key → ⊥
out_of ps fs given left run q s key at is h =
    let w = run.within q s is in
    let top = w.1 in
    run.gone q (length ps) key at (omega arith) (ap (λ (o : Option ℕ). still_in o (length ps)) is ∙ late (length ps) s top) h
  where
    late : (a b : ℕ) → b ≤ a → nat_lt a b ≡ false
    late a b h = grind (arith, nat_tests)

leaf_next : (ps : List PromiseKey) (ws : List FindingLink) (fs : List Finding) (con firm : List (Option ℕ)) → RunOf ps fs true con → RunOf ps fs false firm
    → (k : ℕ) (key : PromiseKey) → k ≤ length ps → (x : Finding) → FirstLost ps fs false k key x
    → (ls : Vec Link Global) (way : List FindingLink) → WayOf ps ws ls way → First (All (Holds true (Con ps fs))) x.alternatives way
    → LeafStep ps fs ws con firm k key (step_by (missing firm false k ls.items))
leaf_next ps ws fs con firm runc runf k key le x first ls way z first_way = go (missing firm false k ls.items) refl
  where
    all_con : All (Holds true (Con ps fs)) way
    all_con = let w = first_has (All (Holds true (Con ps fs))) x.alternatives way first_way in w.1

    lost : Survives false (Round ps fs false k) x → ⊥
    lost = let w = first_has (λ (y : Finding). (y.key.on ≡ key) × (Survives false (Round ps fs false k) y → ⊥)) fs x first in w.1.1

    way_in : Contains x.alternatives way
    way_in = let w = first_has (All (Holds true (Con ps fs))) x.alternatives way first_way in w.0

    found : (l : Link) → missing firm false k ls.items ≡ Some l → (y : FindingLink) × LinkOf ps ws l y × First (λ (l : FindingLink). Holds false (Round ps fs false k) l → ⊥) way y
    found l is = first_found (LinkOf ps ws) (λ l. not (stays firm false k l)) (λ (l : FindingLink). Holds false (Round ps fs false k) l → ⊥)
        (tells_missing false ps ws fs firm runf k le) ls.items way z l is

    target : (q : ℕ) (y : FindingLink) → LinkOf ps ws (Promise q) y → First (λ (l : FindingLink). Holds false (Round ps fs false k) l → ⊥) way y
        → LeafStep ps fs ws con firm k key (Some (Via q))
    target q (link.Promise other) r h =
        let w = first_has (λ (l : FindingLink). Holds false (Round ps fs false k) l → ⊥) way (link.Promise other) h in
        let held : Con ps fs other = All-contains (Holds true (Con ps fs)) way (link.Promise other) all_con w.0 in
        record {
          finding = x;
          way = way;
          first = first;
          first_way = first_way;
          next = inr (q, other, refl, r, h, not_left ps fs con runc q other r held (get_or con q None) refl, left_by false ps fs firm runf q k other r le w.1 (get_or firm q None) refl);
        }
    target q (link.Vouched v) r h = absurd r
    target q (link.Assumed a b) r h = absurd r

    word : (w : ℕ) (y : FindingLink) → LinkOf ps ws (Word w) y → First (λ (l : FindingLink). Holds false (Round ps fs false k) l → ⊥) way y
        → LeafStep ps fs ws con firm k key (Some (Own w))
    word w (link.Promise other) r h = absurd r
    word w (link.Vouched v) r h = record { finding = x; way = way; first = first; first_way = first_way; next = inl (w, link.Vouched v, refl, r, tt, h) }
    word w (link.Assumed a b) r h = record { finding = x; way = way; first = first; first_way = first_way; next = inl (w, link.Assumed a b, refl, r, tt, h) }

    go : (o : Option Link) → missing firm false k ls.items ≡ o → LeafStep ps fs ws con firm k key (step_by o)
    go None is = absurd (lost (way, way_in, missing_none false ps ws fs firm runf k le ls way z is))
    go (Some (Promise q)) is = let w = found (Promise q) is in target q w.0 w.1 w.2
    go (Some (Word v)) is = let w = found (Word v) is in word v w.0 w.1 w.2

-- of a finding that survives in Con the first alternative that does is found
leaf_way : (ps : List PromiseKey) (ws : List FindingLink) (fs : List Finding) (con firm : List (Option ℕ)) → RunOf ps fs true con → RunOf ps fs false firm
    → (k : ℕ) (key : PromiseKey) → k ≤ length ps → (c : Clause) (x : Finding) → ClauseOf ps ws c x → FirstLost ps fs false k key x → Survives true (Con ps fs) x
    → (n : ℕ) → n ≡ length ps
    → LeafStep ps fs ws con firm k key (leaf_in firm k (find (λ (ls : Vec Link Global). stays_all con true n ls.items) c.alternatives.items))
leaf_way ps ws fs con firm runc runf k key le c x r first held n count = go (find (λ (ls : Vec Link Global). stays_all con true n ls.items) c.alternatives.items) refl
  where
    same : find (λ (ls : Vec Link Global). stays_all con true n ls.items) c.alternatives.items ≡ find (λ (ls : Vec Link Global). stays_all con true (length ps) ls.items) c.alternatives.items
    same = ap (λ (m : ℕ). find (λ (ls : Vec Link Global). stays_all con true m ls.items) c.alternatives.items) count

    go : (o : Option (Vec Link Global)) → find (λ (ls : Vec Link Global). stays_all con true n ls.items) c.alternatives.items ≡ o → LeafStep ps fs ws con firm k key (leaf_in firm k o)
    go None is = absurd (any_false (WayOf ps ws) (λ (ls : Vec Link Global). stays_all con true (length ps) ls.items) (All (Holds true (Con ps fs)))
        (tells_way true ps ws fs con runc (length ps) (omega arith)) c.alternatives.items x.alternatives r.ways
        (none_found (λ (ls : Vec Link Global). stays_all con true (length ps) ls.items) c.alternatives.items (sym same ∙ is)) held.0 held.1 held.2)
    go (Some ls) is =
        let w = first_found (WayOf ps ws) (λ (ls : Vec Link Global). stays_all con true (length ps) ls.items) (All (Holds true (Con ps fs)))
        (tells_way true ps ws fs con runc (length ps) (omega arith)) c.alternatives.items x.alternatives r.ways ls (sym same ∙ is) in
        leaf_next ps ws fs con firm runc runf k key le x first ls w.0 w.1 w.2

leaf_step : (ps : List PromiseKey) (ws : List FindingLink) (cs : List Clause) (fs : List Finding) (con firm causes : List (Option ℕ)) (steps : List (Option Step))
    → Stands ps ws cs fs → RunOf ps fs true con → RunOf ps fs false firm → Causes cs firm false (length cs) causes → LeafSteps cs con firm causes (length firm) steps
    → (p k : ℕ) (key : PromiseKey) → slice_get ps p ≡ Some key → get_or con p None ≡ None → get_or firm p None ≡ Some (suc k) → LeafStep ps fs ws con firm k key (get_or steps p None)
leaf_step ps ws cs fs con firm causes steps s runc runf known are p k key at stays_ is =
    let within = runf.within p (suc k) is in let top = within.1 in
    let l = lost_at false ps ws cs fs firm causes s runf known p k key at is (get_or causes p None) refl in
    let step : get_or steps p None ≡ leaf_at con firm k (Some l.clause) =
    are p (some_within firm p (suc k) is)
    ∙ ap (λ (o : Option ℕ). leaf_by cs con firm o (get_or firm p None) (get_or causes p None)) stays_
    ∙ ap (λ (o : Option ℕ). leaf_by cs con firm None o (get_or causes p None)) is
    ∙ ap (λ (o : Option ℕ). leaf_by cs con firm None (Some (suc k)) o) l.is_cause
    ∙ ap (λ (o : Option Clause). leaf_at con firm (suc k - 1) o) l.is_clause
    ∙ ap (λ (z : ℕ). leaf_at con firm z (Some l.clause)) (down k) in
    let held : Con ps fs key = in_con ps fs true con runc p key at stays_ in
    let on = first_has (λ (y : Finding). (y.key.on ≡ key) × (Survives false (Round ps fs false k) y → ⊥)) fs l.finding l.first in
    let good = (runc.greatest.consistent key held).1 l.finding l.there on.1.0 in
    subst (λ (o : Option Step). LeafStep ps fs ws con firm k key o) (sym step)
    (leaf_way ps ws fs con firm runc runf k key (omega arith) l.clause l.finding l.pair l.first good (length con) runc.size)

-- what is answered of a contingent promise
record Rests (ps : List PromiseKey) (fs : List Finding) (ws : List FindingLink) (key : PromiseKey) (o : Option ℕ) : Type 0 where
  by : FindingLink
  is : word_at ws o ≡ Some by
  leaf : Leaf ps fs key by
  word : IsWord by

rests : (ps : List PromiseKey) (ws : List FindingLink) (cs : List Clause) (fs : List Finding) (con firm causes leaves : List (Option ℕ)) (steps : List (Option Step))
    → Stands ps ws cs fs → RunOf ps fs true con → RunOf ps fs false firm → Causes cs firm false (length cs) causes → LeafSteps cs con firm causes (length firm) steps → Ends firm steps leaves
    → (bound p k : ℕ) (key : PromiseKey) → k < bound → slice_get ps p ≡ Some key → get_or con p None ≡ None → get_or firm p None ≡ Some (suc k) → Rests ps fs ws key (get_or leaves p None)
rests ps ws cs fs con firm causes leaves steps s runc runf known are ends zero p k key lt at stays_ is = absurd (omega arith)
rests ps ws cs fs con firm causes leaves steps s runc runf known are ends (suc bound) p k key lt at stays_ is =
    let b = leaf_step ps ws cs fs con firm causes steps s runc runf known are p k key at stays_ is in
    let out = leaves_of false ps fs firm runf p k key at is in
    let end = ends p (suc k) is in
    elim b.next [
      | inl own ↦ (
          let now : get_or leaves p None ≡ Some own.0 = end ∙ ap (λ (o : Option Step). end_by leaves o) own.2 in
          record {
            by = own.1;
            is = ap (λ (o : Option ℕ). word_at ws o) now ∙ own.3;
            leaf = rule.Leaf.own key k b.finding b.way own.1 out b.first b.first_way own.5 own.4;
            word = own.4;
          })
      | inr via ↦ (
          let q = via.0 in
          let earlier = via.6 in
          let r = runf.within q earlier.0 earlier.1 in
          let one = r.0 in
          let small = earlier.2 in
          let j = earlier.0 - 1 in
          let isq : get_or firm q None ≡ Some (suc j) = earlier.1 ∙ ap (λ (z : ℕ). Some z) (let z : earlier.0 ≡ suc j = omega arith in z) in
          let h = rests ps ws cs fs con firm causes leaves steps s runc runf known are ends bound q j via.1 (omega arith) via.3 via.5 isq in
          let now : get_or leaves p None ≡ get_or leaves q None = end ∙ ap (λ (o : Option Step). end_by leaves o) via.2 in
          record {
            by = h.by;
            is = ap (λ (o : Option ℕ). word_at ws o) now ∙ h.is;
            leaf = rule.Leaf.further key via.1 k b.finding b.way h.by out b.first b.first_way via.4 h.leaf;
            word = h.word;
          })
    ]

leaf_falls : (ps : List PromiseKey) (ws : List FindingLink) (cs : List Clause) (fs : List Finding) (con firm causes : List (Option ℕ)) (steps : List (Option Step))
    → Stands ps ws cs fs → RunOf ps fs true con → RunOf ps fs false firm → Causes cs firm false (length cs) causes → LeafSteps cs con firm causes (length firm) steps → Falls firm steps
leaf_falls ps ws cs fs con firm causes steps s runc runf known are p q lt via = go (get_or con p None) (get_or firm p None) refl refl
  where
    key_of_place : (xs : List PromiseKey) (i : ℕ) → i < length xs → (x : PromiseKey) × (slice_get xs i ≡ Some x)
    key_of_place [] i lt = absurd (omega arith)
    key_of_place (x ∷ xs) zero lt = (x, refl)
    key_of_place (x ∷ xs) (suc i) lt = key_of_place xs i (omega arith)

    nothing : (a b : Option ℕ) → get_or con p None ≡ a → get_or firm p None ≡ b → get_or steps p None ≡ leaf_by cs con firm a b (get_or causes p None)
    nothing a b ia ib = are p lt ∙ ap (λ (o : Option ℕ). leaf_by cs con firm o (get_or firm p None) (get_or causes p None)) ia
        ∙ ap (λ (o : Option ℕ). leaf_by cs con firm a o (get_or causes p None)) ib

    go : (a b : Option ℕ) → get_or con p None ≡ a → get_or firm p None ≡ b → (r : ℕ) × (t : ℕ) × (get_or firm p None ≡ Some r) × (get_or firm q None ≡ Some t) × (t < r)
    go (Some x) b ia ib = absurd (let both = sym via ∙ nothing (Some x) b ia ib in cc)
    go None None ia ib = absurd (let both = sym via ∙ nothing None None ia ib in cc)
    go None (Some zero) ia ib = absurd (let w = runf.within p zero ib in let l = w.0 in omega arith)
    go None (Some (suc k)) ia ib =
        let size = runf.size in
        let place = key_of_place ps p (omega (arith, lt, size)) in
        let b = leaf_step ps ws cs fs con firm causes steps s runc runf known are p k place.0 place.1 ia ib in
        elim b.next [
          | inl own ↦ absurd (let both = sym via ∙ own.2 in cc)
          | inr next ↦ (
              let same = via_same next.0 q (sym next.2 ∙ via) in
              let e = next.6 in
              let small = e.2 in
              (suc k, e.0, ib, subst (λ (z : ℕ). get_or firm z None ≡ Some e.0) same e.1, omega arith))
        ]

rests_of : (ps : List PromiseKey) (ws : List FindingLink) (cs : List Clause) (fs : List Finding) (con firm leaves : List (Option ℕ))
    → Stands ps ws cs fs → RunOf ps fs true con → RunOf ps fs false firm → LeafEnds cs con firm leaves
    → (p r : ℕ) (key : PromiseKey) → slice_get ps p ≡ Some key → get_or con p None ≡ None → get_or firm p None ≡ Some r → Rests ps fs ws key (get_or leaves p None)
rests_of ps ws cs fs con firm leaves s runc runf b p zero key at stays_ is = absurd (let w = runf.within p zero is in let l = w.0 in omega arith)
rests_of ps ws cs fs con firm leaves s runc runf b p (suc k) key at stays_ is =
    rests ps ws cs fs con firm b.causes leaves b.steps s runc runf b.are_causes b.are_steps
    (b.ends (leaf_falls ps ws cs fs con firm b.causes b.steps s runc runf b.are_causes b.are_steps)) (suc k) p k key (omega arith) at stays_ is

-- ---- the rows

judged_by : (ps : List PromiseKey) (ws : List FindingLink) (cs : List Clause) (fs : List Finding) (con firm blames leaves : List (Option ℕ))
    → Stands ps ws cs fs → RunOf ps fs true con → RunOf ps fs false firm → BlameEnds cs con blames → LeafEnds cs con firm leaves
    → (p : ℕ) (key : PromiseKey) → slice_get ps p ≡ Some key → (a b : Option ℕ) → get_or con p None ≡ a → get_or firm p None ≡ b
    → IsJudged ps fs key (row_of cs ws a b (get_or blames p None) (get_or leaves p None))
judged_by ps ws cs fs con firm blames leaves s runc runf be le p key at None None ia ib = record { verdict = in_con ps fs false firm runf p key at ib; blame = refl; leaf = refl }
judged_by ps ws cs fs con firm blames leaves s runc runf be le p key at None (Some r) ia ib =
    let h = rests_of ps ws cs fs con firm leaves s runc runf le p r key at ia ib in record {
      verdict = (in_con ps fs true con runc p key at ia, out_of ps fs false firm runf p r key at ib);
      blame = refl;
      leaf = subst (λ (o : Option FindingLink). RestsBy ps fs key verdict.Contingent o) (sym h.is) (h.leaf, h.word);
    }
judged_by ps ws cs fs con firm blames leaves s runc runf be le p key at (Some r) b ia ib =
    let h = blamed_of ps ws cs fs con blames s runc be p r key at ia in record {
      verdict = out_of ps fs true con runc p r key at ia;
      blame = subst (λ (o : Option FindingKey). BlamedBy ps fs key verdict.Inconsistent o) (sym h.is) (h.blame, h.fails);
      leaf = refl;
    }

pub verdicts_of : (ps : List PromiseKey) (fs : List Finding) (g : Graph) (con firm blames leaves : List (Option ℕ)) (v : Verdicts)
    → GraphOf ps fs g → Runs g true con → Runs g false firm → BlameEnds g.clauses.items con blames → LeafEnds g.clauses.items con firm leaves
    → RowsTo g.clauses.items g.words.items con firm blames leaves (length con) v.judged.items → Indexes g.keys.items v.numbers → VerdictsOf ps fs v
verdicts_of ps fs g con firm blames leaves v is runc runf be le rows known =
    let rc = runc ps fs is in
    let rf = runf ps fs is in
    let size = rc.size in
    let s : Stands ps g.words.items g.clauses.items fs = record { distinct = is.distinct; clauses = is.clauses } in
    record {
      distinct = is.distinct;
      numbers = subst (λ (z : List PromiseKey). Indexes z v.numbers) is.keys known;
      judged = λ i p at.
          let w = get_within ps i p at in (
            row_of g.clauses.items g.words.items (get_or con i None) (get_or firm i None) (get_or blames i None) (get_or leaves i None),
            rows i (omega (arith, w, size)),
            judged_by ps g.words.items g.clauses.items fs con firm blames leaves s rc rf be le i p at (get_or con i None) (get_or firm i None) refl refl,
          );
    }

-- one row more
pub rows_more : (cs : List Clause) (ws : List FindingLink) (con firm blames leaves : List (Option ℕ)) (n : ℕ) (rows : List Judged) (row : Judged) → length rows ≡ n
    → row ≡ row_of cs ws (get_or con n None) (get_or firm n None) (get_or blames n None) (get_or leaves n None)
    → RowsTo cs ws con firm blames leaves n rows → RowsTo cs ws con firm blames leaves (n + 1) (rows ++ row ∷ [])
rows_more cs ws con firm blames leaves n rows row size is h p lt = elim (last_or_below p n lt) [
  | inl last ↦ subst (λ (z : ℕ). slice_get (rows ++ row ∷ []) z ≡ Some (row_of cs ws (get_or con z None) (get_or firm z None) (get_or blames z None) (get_or leaves z None))) (sym last)
      (subst (λ (z : ℕ). slice_get (rows ++ row ∷ []) z ≡ Some row) size (get_last rows row) ∙ ap (λ (z : Judged). Some z) is)
  | inr below ↦ get_left rows (row ∷ []) p _ (h p below)
] where
  last_or_below : (l n : ℕ) → l < n + 1 → (l ≡ n) ⊎ (l < n)
  last_or_below l n h = grind arith
