-- What the tables of steps say of promises: blames and leaves.
use Rattle.std.proofs.Common.{◌≡◌, ℕ, zero, suc, ◌-◌, ◌<◌, ◌≤◌, List, [], ◌∷◌, length, get_or, arith, refl, sym, ◌∙◌, ap, subst, ◌⊎◌, inl, inr, Bool, true, false, ltb-false, ◌||◌, ◌&&◌}
use Rattle.std.proofs.lemmas.Bool.Decides.{nat_tests}
use Rattle.std.specs.Prelude.{Contains, All, Option, Some, None, Vec, not, nat_lt}
use Rattle.std.specs.Global.{Global}
use Rattle.std.specs.List.{AllZip, slice_get, list_all, list_any}
use Rattle.std.proofs.lemmas.List.{get_or_default}
use Rattle.std.proofs.lemmas.List.Elements.{Contains-get_or}
use Rattle.desk_base.specs.declared.key.PromiseKey.{PromiseKey}
use Rattle.result_records.specs.declared.finding.Finding.{Finding}
use Rattle.result_records.specs.declared.finding.FindingKey.{FindingKey}
use Rattle.result_records.specs.declared.finding.FindingLink.{FindingLink}
use Rattle.result_records.specs.declared.finding.FindingLink.TheVariants as link
use Rattle.consistency.specs.declared.graph.Clause.{Clause}
use Rattle.consistency.specs.declared.graph.Link.{Link}
use Rattle.consistency.specs.declared.graph.Link.TheVariants.{Promise, Word}
use Rattle.consistency.specs.declared.steps.Step.{Step}
use Rattle.consistency.specs.declared.steps.Step.TheVariants.{Own, Via}
use Rattle.consistency.specs.Blame as rule
use Rattle.consistency.specs.Blame.{Blame, First, FirstLost, FirstMissing, IsWord, Leaf, LeavesAfter}
use Rattle.consistency.specs.Graph.{ClauseOf, LinkOf, WayOf}
use Rattle.consistency.specs.Rounds.{Holds, Round, Survives}
use Rattle.consistency.specs.Steps.{still_in}
use Rattle.consistency.specs.Tables.{BlameEnds, BlameSteps, CauseTo, Causes, Ends, Falls, blame_at, blame_by, blame_in, end_by, key_at, key_of, lost_by, lost_of, is_lost, missing, stays, stays_all, step_by}
use Rattle.consistency.specs.Verdicts.{IsFailing, RunOf}
use Rattle.consistency.proofs.Orders.{some_within}
use Rattle.consistency.proofs.Judging.{Stands, get_contains}
use Rattle.consistency.proofs.Zips.{Tells, any_false, any_true, first_at, first_found, first_has, none_found, tells_all, zip_left, zip_right}

some_same : {X : Type 0} (x y : X) → Some x ≡ Some y → x ≡ y
some_same {X} x y e = cc

test_of : (b : Bool) → (b ≡ true) ⊎ (b ≡ false)
test_of true = inl refl
test_of false = inr refl

-- ---- tests of links and alternatives at a round

tells_link : (given : Bool) (ps : List PromiseKey) (ws : List FindingLink) (fs : List Finding) (left : List (Option ℕ)) → RunOf ps fs given left
    → (k : ℕ) → k ≤ length ps → Tells (LinkOf ps ws) (λ l. stays left given k l) (Holds given (Round ps fs given k))
tells_link given ps ws fs left run k le = record { passes = λ l x r t. passes l x r t; fails = λ l x r t h. fails l x r t h }
  where
    passes : (l : Link) (x : FindingLink) → LinkOf ps ws l x → stays left given k l ≡ true → Holds given (Round ps fs given k) x
    passes (Promise q) (link.Promise key) r t = run.stays q k key r le t
    passes (Promise q) (link.Vouched key) r t = absurd r
    passes (Promise q) (link.Assumed class promise) r t = absurd r
    passes (Word w) (link.Promise key) r t = absurd r
    passes (Word w) (link.Vouched key) r t = t
    passes (Word w) (link.Assumed class promise) r t = t

    fails : (l : Link) (x : FindingLink) → LinkOf ps ws l x → stays left given k l ≡ false → Holds given (Round ps fs given k) x → ⊥
    fails (Promise q) (link.Promise key) r t h = run.gone q k key r le t h
    fails (Promise q) (link.Vouched key) r t h = r
    fails (Promise q) (link.Assumed class promise) r t h = r
    fails (Word w) (link.Promise key) r t h = r
    fails (Word w) (link.Vouched key) r t h = cc
    fails (Word w) (link.Assumed class promise) r t h = cc

pub tells_way : (given : Bool) (ps : List PromiseKey) (ws : List FindingLink) (fs : List Finding) (left : List (Option ℕ)) → RunOf ps fs given left
    → (k : ℕ) → k ≤ length ps → Tells (WayOf ps ws) (λ (ls : Vec Link Global). stays_all left given k ls.items) (All (Holds given (Round ps fs given k)))
tells_way given ps ws fs left run k le =
    let t = tells_all (LinkOf ps ws) (λ l. stays left given k l) (Holds given (Round ps fs given k)) (tells_link given ps ws fs left run k le) in
    record { passes = λ ls way r h. t.passes ls.items way r h; fails = λ ls way r h a. t.fails ls.items way r h a }

not_true : (b : Bool) → not b ≡ true → b ≡ false
not_true true h = absurd cc
not_true false h = refl

not_false : (b : Bool) → not b ≡ false → b ≡ true
not_false true h = refl
not_false false h = absurd cc

pub tells_missing : (given : Bool) (ps : List PromiseKey) (ws : List FindingLink) (fs : List Finding) (left : List (Option ℕ)) → RunOf ps fs given left
    → (k : ℕ) → k ≤ length ps → Tells (LinkOf ps ws) (λ l. not (stays left given k l)) (λ (x : FindingLink). Holds given (Round ps fs given k) x → ⊥)
tells_missing given ps ws fs left run k le =
    let t = tells_link given ps ws fs left run k le in
    record {
      passes = λ l x r n h. t.fails l x r (not_true (stays left given k l) n) h;
      fails = λ l x r n h. h (t.passes l x r (not_false (stays left given k l) n));
    }

-- where no test fails, all pass
none_fails : {X : Type 0} (t : X → Bool) (xs : List X) → list_any (λ x. not (t x)) xs ≡ false → list_all t xs ≡ true
none_fails t [] h = refl
none_fails t (x ∷ xs) h = let w = or_fails (not (t x)) (list_any (λ y. not (t y)) xs) h in and_true (t x) (list_all t xs) (not_false (t x) w.0) (none_fails t xs w.1)
  where
    or_fails : (a b : Bool) → (a || b) ≡ false → (a ≡ false) × (b ≡ false)
    or_fails true b h = absurd cc
    or_fails false b h = (refl, h)

    and_true : (a b : Bool) → a ≡ true → b ≡ true → (a && b) ≡ true
    and_true true b e h = h
    and_true false b e h = absurd cc

-- ---- a promise that left

-- p left after round k
pub record Gone (left : List (Option ℕ)) (p k : ℕ) : Type 0 where
  pub is : get_or left p None ≡ Some (suc k)

pub down : (k : ℕ) → suc k - 1 ≡ k
down k = omega arith

pub leaves_of : (given : Bool) (ps : List PromiseKey) (fs : List Finding) (left : List (Option ℕ)) → RunOf ps fs given left
    → (p k : ℕ) (key : PromiseKey) → slice_get ps p ≡ Some key → get_or left p None ≡ Some (suc k) → LeavesAfter ps fs given k key
leaves_of given ps fs left run p k key at is =
    let w = run.within p (suc k) is in
    let top = w.1 in (
      run.stays p k key at (omega arith) (subst (λ (o : Option ℕ). still_in o k ≡ true) (sym is) (lt_true k (suc k) (omega arith))),
      λ h. run.gone p (suc k) key at (omega arith) (subst (λ (o : Option ℕ). still_in o (suc k) ≡ false) (sym is) (lt_false (suc k) (suc k) (omega arith))) h,
    )
  where
    lt_true : (a b : ℕ) → a < b → nat_lt a b ≡ true
    lt_true a b h = grind (arith, nat_tests)

    lt_false : (a b : ℕ) → b ≤ a → nat_lt a b ≡ false
    lt_false a b h = grind (arith, nat_tests)

any_clause : (cs : List Clause) (n : ℕ) → n < length cs → Clause
any_clause [] n lt = absurd (omega arith)
any_clause (c ∷ cs) n lt = c

zip_length : {A B : Type 0} (R : A → B → Type 0) (xs : List A) (ys : List B) → AllZip R xs ys → length xs ≡ length ys
zip_length R [] [] z = refl
zip_length R [] (b ∷ ys) z = absurd z
zip_length R (a ∷ xs) [] z = absurd z
zip_length R (a ∷ xs) (b ∷ ys) z = let h = zip_length R xs ys z.1 in omega arith

zip_at : {A B : Type 0} (R : A → B → Type 0) (xs : List A) (ys : List B) → AllZip R xs ys → (k : ℕ) (d : A) (e : B) → k < length xs → R (get_or xs k d) (get_or ys k e)
zip_at R [] ys z k d e lt = absurd (omega arith)
zip_at R (a ∷ xs) [] z k d e lt = absurd z
zip_at R (a ∷ xs) (b ∷ ys) z zero d e lt = z.0
zip_at R (a ∷ xs) (b ∷ ys) z (suc k) d e lt = zip_at R xs ys z.1 k d e (omega arith)

-- a finding of a promise that left after round k: by number it is lost where no alternative survives round k
lost_is : (cs : List Clause) (left : List (Option ℕ)) (given : Bool) (p k : ℕ) (c : Clause) → c.on ≡ p → get_or left p None ≡ Some (suc k) → lost_of left given c ≡ is_lost left given k c
lost_is cs left given p k c on is =
    let o : get_or left c.on None ≡ Some (suc k) = subst (λ (z : ℕ). get_or left z None ≡ Some (suc k)) (sym on) is in
    ap (λ (z : Option ℕ). lost_by left given z c) o ∙ ap (λ (z : ℕ). is_lost left given z c) (down k)

survives_of : (given : Bool) (ps : List PromiseKey) (ws : List FindingLink) (fs : List Finding) (left : List (Option ℕ)) → RunOf ps fs given left
    → (k : ℕ) → k ≤ length ps → (c : Clause) (x : Finding) → ClauseOf ps ws c x → is_lost left given k c ≡ false → Survives given (Round ps fs given k) x
survives_of given ps ws fs left run k le c x r h =
    any_true (WayOf ps ws) (λ (ls : Vec Link Global). stays_all left given k ls.items) (All (Holds given (Round ps fs given k)))
    (tells_way given ps ws fs left run k le) c.alternatives.items x.alternatives r.ways (not_false _ h)

lost_not : (given : Bool) (ps : List PromiseKey) (ws : List FindingLink) (fs : List Finding) (left : List (Option ℕ)) → RunOf ps fs given left
    → (k : ℕ) → k ≤ length ps → (c : Clause) (x : Finding) → ClauseOf ps ws c x → is_lost left given k c ≡ true → Survives given (Round ps fs given k) x → ⊥
lost_not given ps ws fs left run k le c x r h s =
    any_false (WayOf ps ws) (λ (ls : Vec Link Global). stays_all left given k ls.items) (All (Holds given (Round ps fs given k)))
    (tells_way given ps ws fs left run k le) c.alternatives.items x.alternatives r.ways (not_true _ h) s.0 s.1 s.2

-- the first lost finding, by number and by rule
pub record LostAt (given : Bool) (ps : List PromiseKey) (ws : List FindingLink) (cs : List Clause) (fs : List Finding) (left causes : List (Option ℕ)) (p k : ℕ) (key : PromiseKey) : Type 0 where
  pub cause : ℕ
  pub clause : Clause
  pub finding : Finding
  pub is_cause : get_or causes p None ≡ Some cause
  pub is_clause : slice_get cs cause ≡ Some clause
  pub pair : ClauseOf ps ws clause finding
  pub there : Contains fs finding
  pub first : FirstLost ps fs given k key finding

place_read : (cs : List Clause) (f : ℕ) (d : Clause) → f < length cs → slice_get cs f ≡ Some (get_or cs f d)
place_read [] f d lt = absurd (omega arith)
place_read (c ∷ cs) zero d lt = refl
place_read (c ∷ cs) (suc f) d lt = place_read cs f d (omega arith)

pub lost_at : (given : Bool) (ps : List PromiseKey) (ws : List FindingLink) (cs : List Clause) (fs : List Finding) (left causes : List (Option ℕ))
    → Stands ps ws cs fs → RunOf ps fs given left → Causes cs left given (length cs) causes
    → (p k : ℕ) (key : PromiseKey) → slice_get ps p ≡ Some key → get_or left p None ≡ Some (suc k)
    → (o : Option ℕ) → get_or causes p None ≡ o → LostAt given ps ws cs fs left causes p k key
lost_at given ps ws cs fs left causes s run known p k key at is None none =
    let within = run.within p (suc k) is in let top = within.1 in
    let le : k ≤ length ps = omega arith in
    let all = subst (λ (o : Option ℕ). CauseTo cs left given (length cs) p o) none (known p (some_within left p (suc k) is)) in
    let leaves = leaves_of given ps fs left run p k key at is in
    absurd (leaves.1 (
      get_contains ps p key at,
      λ x has on.
          let c = zip_right (ClauseOf ps ws) cs fs s.clauses x has in
          let r = c.2 in
          let same : c.0.on ≡ p = s.distinct c.0.on p key (r.on ∙ ap (λ (z : PromiseKey). Some z) on) at in
          let place = c.1 in
          let read : get_or cs place.0 c.0 ≡ c.0 = place.2 in
          let kept = all place.0 c.0 place.1 (ap (λ (z : Clause). z.on) read ∙ same) in
          let kept2 : lost_of left given c.0 ≡ false = sym (ap (λ (z : Clause). lost_of left given z) read) ∙ kept in
          survives_of given ps ws fs left run k le c.0 x r (sym (lost_is cs left given p k c.0 same is) ∙ kept2),
    ))
lost_at given ps ws cs fs left causes s run known p k key at is (Some f) some =
    let within = run.within p (suc k) is in let top = within.1 in
    let le : k ≤ length ps = omega arith in
    let all = subst (λ (o : Option ℕ). CauseTo cs left given (length cs) p o) some (known p (some_within left p (suc k) is)) in
    let lf = all.0 in
    let d = any_clause cs f lf in
    let c = get_or cs f d in
    let on : c.on ≡ p = (all.1 d).0 in
    let lost : is_lost left given k c ≡ true = sym (lost_is cs left given p k c on is) ∙ (all.1 d).1 in
    let e = zip_left (ClauseOf ps ws) cs fs s.clauses c (Contains-get_or cs f d lf) in
    let x = get_or fs f e.0 in
    let r : ClauseOf ps ws c x = zip_at (ClauseOf ps ws) cs fs s.clauses f d e.0 lf in
    let many = zip_length (ClauseOf ps ws) cs fs s.clauses in
    let lx : f < length fs = omega (arith, lf, many) in
    let is_on : x.key.on ≡ key = some_same x.key.on key (sym r.on ∙ ap (λ (z : ℕ). slice_get ps z) on ∙ at) in
    record {
      cause = f;
      clause = c;
      finding = x;
      is_cause = some;
      is_clause = place_read cs f d lf;
      pair = r;
      there = Contains-get_or fs f e.0 lx;
      first = first_at (λ (y : Finding). (y.key.on ≡ key) × (Survives given (Round ps fs given k) y → ⊥)) fs f x lx (get_or_default fs f x e.0 lx)
          (is_on, lost_not given ps ws fs left run k le c x r lost)
          (λ j lj y.
          let lc : j < length cs = omega (arith, lj, lf) in
          let rj : ClauseOf ps ws (get_or cs j d) (get_or fs j x) = zip_at (ClauseOf ps ws) cs fs s.clauses j d x lc in
          let onj : (get_or cs j d).on ≡ p = s.distinct (get_or cs j d).on p key (rj.on ∙ ap (λ (z : PromiseKey). Some z) y.0) at in
          let keptj = all.2 j d lj onj in
          y.1 (survives_of given ps ws fs left run k le (get_or cs j d) (get_or fs j x) rj (sym (lost_is cs left given p k (get_or cs j d) onj is) ∙ keptj)));
    }

-- the promise of a missing link left by round k
pub left_by : (given : Bool) (ps : List PromiseKey) (fs : List Finding) (left : List (Option ℕ)) → RunOf ps fs given left
    → (q k : ℕ) (key : PromiseKey) → slice_get ps q ≡ Some key → k ≤ length ps → (Round ps fs given k key → ⊥) → (o : Option ℕ) → get_or left q None ≡ o
    → (s : ℕ) × (get_or left q None ≡ Some s) × (s ≤ k)
left_by given ps fs left run q k key at le out None is = absurd (out (run.stays q k key at le (ap (λ (o : Option ℕ). still_in o k) is)))
left_by given ps fs left run q k key at le out (Some s) is = elim (test_of (nat_lt k s)) [
  | inl early ↦ absurd (out (run.stays q k key at le (ap (λ (o : Option ℕ). still_in o k) is ∙ early)))
  | inr late ↦ (s, is, ltb-false k s late)
]

pub missing_none : (given : Bool) (ps : List PromiseKey) (ws : List FindingLink) (fs : List Finding) (left : List (Option ℕ)) → RunOf ps fs given left
    → (k : ℕ) → k ≤ length ps → (ls : Vec Link Global) (way : List FindingLink) → WayOf ps ws ls way → missing left given k ls.items ≡ None → All (Holds given (Round ps fs given k)) way
missing_none given ps ws fs left run k le ls way r none =
    let t = tells_way given ps ws fs left run k le in
    t.passes ls way r (none_fails (λ l. stays left given k l) ls.items (none_found (λ l. not (stays left given k l)) ls.items none))

-- ---- steps towards a blame

-- one step from a promise that left after round k
pub record BlameStep (ps : List PromiseKey) (fs : List Finding) (cs : List Clause) (left : List (Option ℕ)) (p k : ℕ) (key : PromiseKey) (step : Option Step) : Type 0 where
  pub finding : Finding
  pub there : Contains fs finding
  pub first : FirstLost ps fs true k key finding
  pub next : ((f : ℕ) × (step ≡ Some (Own f)) × (key_at cs (Some f) ≡ Some finding.key) × (finding.alternatives ≡ []))
      ⊎ ((q : ℕ) × (other : PromiseKey) × (way : List FindingLink) × (ways : List (List FindingLink)) × (step ≡ Some (Via q)) × (slice_get ps q ≡ Some other)
      × (finding.alternatives ≡ way ∷ ways) × FirstMissing ps fs true k way (link.Promise other) × ((s : ℕ) × (get_or left q None ≡ Some s) × (s ≤ k)))

blame_next : (ps : List PromiseKey) (ws : List FindingLink) (cs : List Clause) (fs : List Finding) (left : List (Option ℕ)) → RunOf ps fs true left
    → (p k : ℕ) (key : PromiseKey) → k ≤ length ps → (f : ℕ) (c : Clause) (x : Finding) → slice_get cs f ≡ Some c → c.key ≡ x.key → Contains fs x → FirstLost ps fs true k key x
    → (lss : List (Vec Link Global)) (ways : List (List FindingLink)) → AllZip (WayOf ps ws) lss ways → x.alternatives ≡ ways → BlameStep ps fs cs left p k key (blame_in left f k lss)
blame_next ps ws cs fs left run p k key le f c x at same there first [] [] z alts = record {
  finding = x;
  there = there;
  first = first;
  next = inl (f, refl, ap (λ (o : Option Clause). key_of o) at ∙ ap (λ (z : FindingKey). Some z) same, alts);
}
blame_next ps ws cs fs left run p k key le f c x at same there first [] (way ∷ ways) z alts = absurd z
blame_next ps ws cs fs left run p k key le f c x at same there first (ls ∷ lss) [] z alts = absurd z
blame_next ps ws cs fs left run p k key le f c x at same there first (ls ∷ lss) (way ∷ ways) z alts = go (missing left true k ls.items) refl
  where
    lost : Survives true (Round ps fs true k) x → ⊥
    lost = let w = first_has (λ (y : Finding). (y.key.on ≡ key) × (Survives true (Round ps fs true k) y → ⊥)) fs x first in w.1.1

    way_in : Contains x.alternatives way
    way_in = subst (λ (z : List (List FindingLink)). Contains z way) (sym alts) (zero, omega arith, refl)

    target : (q : ℕ) (y : FindingLink) → LinkOf ps ws (Promise q) y → First (λ (l : FindingLink). Holds true (Round ps fs true k) l → ⊥) way y
        → BlameStep ps fs cs left p k key (Some (Via q))
    target q (link.Promise other) r h = record {
      finding = x;
      there = there;
      first = first;
      next = inr (
        q,
        other,
        way,
        ways,
        refl,
        r,
        alts,
        h,
        left_by true ps fs left run q k other r le
            (let w = first_has (λ (l : FindingLink). Holds true (Round ps fs true k) l → ⊥) way (link.Promise other) h in w.1) (get_or left q None) refl,
      );
    }
    target q (link.Vouched v) r h = absurd r
    target q (link.Assumed a b) r h = absurd r

    word : (w : ℕ) (y : FindingLink) → LinkOf ps ws (Word w) y → First (λ (l : FindingLink). Holds true (Round ps fs true k) l → ⊥) way y → ⊥
    word w (link.Promise other) r h = r
    word w (link.Vouched v) r h = let u = first_has (λ (l : FindingLink). Holds true (Round ps fs true k) l → ⊥) way (link.Vouched v) h in u.1 refl
    word w (link.Assumed a b) r h = let u = first_has (λ (l : FindingLink). Holds true (Round ps fs true k) l → ⊥) way (link.Assumed a b) h in u.1 refl

    found : (l : Link) → missing left true k ls.items ≡ Some l → (y : FindingLink) × LinkOf ps ws l y × First (λ (l : FindingLink). Holds true (Round ps fs true k) l → ⊥) way y
    found l is = first_found (LinkOf ps ws) (λ l. not (stays left true k l)) (λ (l : FindingLink). Holds true (Round ps fs true k) l → ⊥)
        (tells_missing true ps ws fs left run k le) ls.items way z.0 l is

    go : (o : Option Link) → missing left true k ls.items ≡ o → BlameStep ps fs cs left p k key (step_by o)
    go None is = absurd (lost (way, way_in, missing_none true ps ws fs left run k le ls way z.0 is))
    go (Some (Promise q)) is = let w = found (Promise q) is in target q w.0 w.1 w.2
    go (Some (Word w)) is = let u = found (Word w) is in absurd (word w u.0 u.1 u.2)

pub blame_step : (ps : List PromiseKey) (ws : List FindingLink) (cs : List Clause) (fs : List Finding) (left causes : List (Option ℕ)) (steps : List (Option Step))
    → Stands ps ws cs fs → RunOf ps fs true left → Causes cs left true (length cs) causes → BlameSteps cs left causes (length left) steps
    → (p k : ℕ) (key : PromiseKey) → slice_get ps p ≡ Some key → get_or left p None ≡ Some (suc k) → BlameStep ps fs cs left p k key (get_or steps p None)
blame_step ps ws cs fs left causes steps s run known are p k key at is =
    let within = run.within p (suc k) is in let top = within.1 in
    let l = lost_at true ps ws cs fs left causes s run known p k key at is (get_or causes p None) refl in
    let r = l.pair in
    let step : get_or steps p None ≡ blame_in left l.cause k l.clause.alternatives.items =
    are p (some_within left p (suc k) is)
    ∙ ap (λ (o : Option ℕ). blame_by cs left o (get_or causes p None)) is
    ∙ ap (λ (o : Option ℕ). blame_by cs left (Some (suc k)) o) l.is_cause
    ∙ ap (λ (o : Option Clause). blame_at left l.cause (suc k - 1) o) l.is_clause
    ∙ ap (λ (z : ℕ). blame_in left l.cause z l.clause.alternatives.items) (down k) in
    subst (λ (o : Option Step). BlameStep ps fs cs left p k key o) (sym step)
    (blame_next ps ws cs fs left run p k key (omega arith) l.cause l.clause l.finding l.is_clause r.key l.there l.first l.clause.alternatives.items l.finding.alternatives r.ways refl)

-- what is answered of an inconsistent promise
pub record Blamed (ps : List PromiseKey) (fs : List Finding) (cs : List Clause) (key : PromiseKey) (o : Option ℕ) : Type 0 where
  pub by : FindingKey
  pub is : key_at cs o ≡ Some by
  pub blame : Blame ps fs key by
  pub fails : IsFailing fs by

pub via_same : (q r : ℕ) → Some (Via q) ≡ Some (Via r) → q ≡ r
via_same q r e = cc

blamed : (ps : List PromiseKey) (ws : List FindingLink) (cs : List Clause) (fs : List Finding) (left causes blames : List (Option ℕ)) (steps : List (Option Step))
    → Stands ps ws cs fs → RunOf ps fs true left → Causes cs left true (length cs) causes → BlameSteps cs left causes (length left) steps → Ends left steps blames
    → (bound p k : ℕ) (key : PromiseKey) → k < bound → slice_get ps p ≡ Some key → get_or left p None ≡ Some (suc k) → Blamed ps fs cs key (get_or blames p None)
blamed ps ws cs fs left causes blames steps s run known are ends zero p k key lt at is = absurd (omega arith)
blamed ps ws cs fs left causes blames steps s run known are ends (suc bound) p k key lt at is =
    let b = blame_step ps ws cs fs left causes steps s run known are p k key at is in
    let leaves = leaves_of true ps fs left run p k key at is in
    let end = ends p (suc k) is in
    elim b.next [
      | inl own ↦ (
          let now : get_or blames p None ≡ Some own.0 = end ∙ ap (λ (o : Option Step). end_by blames o) own.1 in
          record {
            by = b.finding.key;
            is = ap (λ (o : Option ℕ). key_at cs o) now ∙ own.2;
            blame = rule.Blame.own key k b.finding leaves b.first own.3;
            fails = (b.finding, b.there, refl, own.3);
          })
      | inr via ↦ (
          let q = via.0 in
          let earlier = via.8 in
          let r = run.within q earlier.0 earlier.1 in
          let one = r.0 in
          let small = earlier.2 in
          let j = earlier.0 - 1 in
          let isq : get_or left q None ≡ Some (suc j) = earlier.1 ∙ ap (λ (z : ℕ). Some z) (let z : earlier.0 ≡ suc j = omega arith in z) in
          let h = blamed ps ws cs fs left causes blames steps s run known are ends bound q j via.1 (omega arith) via.5 isq in
          let now : get_or blames p None ≡ get_or blames q None = end ∙ ap (λ (o : Option Step). end_by blames o) via.4 in
          record {
            by = h.by;
            is = ap (λ (o : Option ℕ). key_at cs o) now ∙ h.is;
            blame = rule.Blame.further key via.1 k b.finding via.2 via.3 h.by leaves b.first via.6 via.7 h.blame;
            fails = h.fails;
          })
    ]

pub blame_falls : (ps : List PromiseKey) (ws : List FindingLink) (cs : List Clause) (fs : List Finding) (left causes : List (Option ℕ)) (steps : List (Option Step))
    → Stands ps ws cs fs → RunOf ps fs true left → Causes cs left true (length cs) causes → BlameSteps cs left causes (length left) steps → Falls left steps
blame_falls ps ws cs fs left causes steps s run known are p q lt via = go (get_or left p None) refl
  where
    key_of_place : (xs : List PromiseKey) (i : ℕ) → i < length xs → (x : PromiseKey) × (slice_get xs i ≡ Some x)
    key_of_place [] i lt = absurd (omega arith)
    key_of_place (x ∷ xs) zero lt = (x, refl)
    key_of_place (x ∷ xs) (suc i) lt = key_of_place xs i (omega arith)

    go : (o : Option ℕ) → get_or left p None ≡ o → (r : ℕ) × (t : ℕ) × (get_or left p None ≡ Some r) × (get_or left q None ≡ Some t) × (t < r)
    go None is = absurd (let step = are p lt ∙ ap (λ (o : Option ℕ). blame_by cs left o (get_or causes p None)) is in let both = sym via ∙ step in cc)
    go (Some zero) is = absurd (let w = run.within p zero is in let l = w.0 in omega arith)
    go (Some (suc k)) is =
        let size = run.size in
        let place = key_of_place ps p (omega (arith, lt, size)) in
        let b = blame_step ps ws cs fs left causes steps s run known are p k place.0 place.1 is in
        elim b.next [
          | inl own ↦ absurd (let both = sym via ∙ own.1 in cc)
          | inr next ↦ (
              let same = via_same next.0 q (sym next.4 ∙ via) in
              let e = next.8 in
              let small = e.2 in
              (suc k, e.0, is, subst (λ (z : ℕ). get_or left z None ≡ Some e.0) same e.1, omega arith))
        ]

pub blamed_of : (ps : List PromiseKey) (ws : List FindingLink) (cs : List Clause) (fs : List Finding) (left blames : List (Option ℕ))
    → Stands ps ws cs fs → RunOf ps fs true left → BlameEnds cs left blames
    → (p r : ℕ) (key : PromiseKey) → slice_get ps p ≡ Some key → get_or left p None ≡ Some r → Blamed ps fs cs key (get_or blames p None)
blamed_of ps ws cs fs left blames s run b p zero key at is = absurd (let w = run.within p zero is in let l = w.0 in omega arith)
blamed_of ps ws cs fs left blames s run b p (suc k) key at is =
    blamed ps ws cs fs left b.causes blames b.steps s run b.are_causes b.are_steps (b.ends (blame_falls ps ws cs fs left b.causes b.steps s run b.are_causes b.are_steps))
    (suc k) p k key (omega arith) at is
