-- Marks and monitors through the steps of threads.
use Rattle.std.proofs.Common.{◌≡◌, ◌≢◌, ℕ, ◌+◌, ◌<◌, ◌==◌, drop, ⊎_elim, false, List, [], ◌∷◌, ◌++◌, Option, Some, None, if◌then◌else◌, slice_get, slice_set, replicate, length, refl, sym, ap, ◌∙◌, arith}
use Rattle.std.proofs.lemmas.Bool.Decides.{eqb_tells}
use Rattle.core_model.specs.Code.{Code, Done, Do, If, While, Enter, EnterClass, Exit, ◌⧺◌}
use Rattle.core_model.specs.Objects.{changed, put_for, entered, exited, is_other, fresh_object}
use Rattle.core_model.specs.Begin.{begin, begun_objects, holders_from, static_fresh, all_fresh}
use Rattle.core_model.specs.Step.{with_given, next_exit, step, run}
use Rattle.core_model.specs.declared.instr.Note.{Note}
use Rattle.core_model.specs.declared.program.Program.{Program}
use Rattle.core_model.specs.declared.program.ClassInfo.{ClassInfo}
use Rattle.core_model.specs.declared.program.UnitCode.{UnitCode}
use Rattle.core_model.specs.declared.config.Call.{Call}
use Rattle.core_model.specs.declared.config.Config.{Config}
use Rattle.core_model.specs.declared.config.Thread.{Thread}
use Rattle.core_model.specs.declared.config.Mode.{Mode}
use Rattle.core_model.specs.declared.object.Obj.{Obj}
use Rattle.core_model.specs.declared.value.Value.{Value}
use Rattle.core_laws.specs.Places.{Each, EveryCall}
use Rattle.core_laws.specs.Marks.{Unmarked, Spined, HasNoMarks, marks_in, marks_in_calls, marks_by, entries_if, entries_of, owner_of, owner_at, AllSettled, Counted}
use Rattle.core_laws.proofs.Owners.{SameMonitors, same-write, same-made, same-fresh, Free, free-entries, free-settled, free-fresh, Counts, counts-entered, counts-exited}
use Rattle.core_laws.proofs.Carried.{Has, UnitsHave, step-has, begin-has}
use Rattle.core_laws.proofs.Spines.{unmarked-spined, spined-closed, unmarked-none, marks-append, marks_from, marks-next}
use Rattle.core_laws.proofs.Stepping.{past, MayFault, or_over, IsStepwise, stepped, at-begin, threads-each}

-- ---- one thread and the objects

-- the marks in the calls are what the thread has entered
record Matches (os : List Obj) (t : ℕ) (cs : List Call) : Type 0 where
  own : (r : ℕ) → marks_in_calls r cs ≡ entries_of t (slice_get os r)
  settled : AllSettled os

-- thread s leaves what others have entered
record Moved (s : ℕ) (os ns : List Obj) : Type 0 where
  others : (t r : ℕ) → t ≢ s → entries_of t (slice_get ns r) ≡ entries_of t (slice_get os r)
  settled : AllSettled os → AllSettled ns

same-moved : (s : ℕ) (os ns : List Obj) → SameMonitors os ns → Moved s os ns
same-moved s os ns m = record { others = λ t r ne. m.entries t r; settled = m.settled }

same-matches : (os ns : List Obj) (t : ℕ) (cs : List Call) → SameMonitors os ns → Matches os t cs → Matches ns t cs
same-matches os ns t cs m w = record { own = λ r. w.own r ∙ sym (m.entries t r); settled = m.settled w.settled }

abbrev mark : ℕ → ℕ → ℕ
mark r q = if r == q then 1 else 0

if-same : (r : ℕ) → mark r r ≡ 1
if-same r = ⊎_elim (λ y. rw y.0 refl) (λ no. absurd (no.1 refl)) (eqb_tells r r)

if-other : (r q : ℕ) → r ≢ q → mark r q ≡ 0
if-other r q ne = ⊎_elim (λ y. absurd (ne y.1)) (λ no. rw no.0 refl) (eqb_tells r q)

-- the thread's marks and entries of one monitor go up or down together
counted : (t : ℕ) (os ns : List Obj) (r m : ℕ) (x : ℕ → ℕ) → Counts t os ns r m → x r ≡ m
    → ((q : ℕ) → r ≢ q → x q ≡ entries_of t (slice_get os q)) → (q : ℕ) → x q ≡ entries_of t (slice_get ns q)
counted t os ns r m x c here there q =
    ⊎_elim (λ y. sym (ap x y.1) ∙ here ∙ sym c.here ∙ ap (λ (i : ℕ). entries_of t (slice_get ns i)) y.1)
    (λ no. there q no.1 ∙ sym (c.there q t no.1)) (eqb_tells r q)

counts-moved : (t : ℕ) (os ns : List Obj) (r m : ℕ) → Counts t os ns r m → Moved t os ns
counts-moved t os ns r m c = record {
  others = λ s q ne.
      ⊎_elim (λ y. sym (ap (λ (i : ℕ). entries_of s (slice_get ns i)) y.1) ∙ c.others s ne ∙ ap (λ (i : ℕ). entries_of s (slice_get os i)) y.1)
      (λ no. c.there q s no.1) (eqb_tells r q);
  settled = c.settled;
}

-- a monitor is entered, and its mark stands behind the block
entered-own : (os : List Obj) (t r : ℕ) (n : Note) (b k : Code) (cs : List Call) (o : Obj) → slice_get os r ≡ Some o → is_other t o.owner ≡ false
    → Unmarked b → ((q : ℕ) → marks_in q k + marks_in_calls q cs ≡ entries_of t (slice_get os q)) → AllSettled os
    → Moved t os (changed os r (entered t))
    × ((q : ℕ) → marks_in q (b ⧺ Exit n r k) + marks_in_calls q cs ≡ entries_of t (slice_get (changed os r (entered t)) q))
    × AllSettled (changed os r (entered t))
entered-own os t r n b k cs o e free h own settled =
    let ns : List Obj = slice_set os r (entered t o) in
    let is : changed os r (entered t) ≡ ns = rw e refl in
    let c = counts-entered t os r o e free settled in
    let x : ℕ → ℕ = λ q. mark r q + (marks_in q k + marks_in_calls q cs) in
    let here : x r ≡ 1 + entries_of t (Some o) = rw (if-same r, own r, e) refl in
    let all = counted t os ns r (1 + entries_of t (Some o)) x c here (λ q ne. omega (arith, if-other r q ne, own q)) in
    rw is (counts-moved t os ns r (1 + entries_of t (Some o)) c, λ q. omega (arith, marks-append q b (Exit n r k) h, all q), c.settled settled)

-- with the first mark of r gone from what is left
exited-own : (os : List Obj) (t r : ℕ) (k : Code) (cs : List Call) (o : Option Obj) → slice_get os r ≡ o
    → ((q : ℕ) → (mark r q + marks_in q k) + marks_in_calls q cs ≡ entries_of t (slice_get os q)) → AllSettled os
    → Moved t os (put_for os r o exited)
    × ((q : ℕ) → marks_in q k + marks_in_calls q cs ≡ entries_of t (slice_get (put_for os r o exited) q))
    × AllSettled (put_for os r o exited)
exited-own os t r k cs None e own settled =
    let none : entries_of t (slice_get os r) ≡ 0 = rw e refl in
    absurd (omega (arith, own r, if-same r, none))
exited-own os t r k cs (Some o) e own settled =
    let m : ℕ = marks_in r k + marks_in_calls r cs in
    let is : entries_of t (slice_get os r) ≡ entries_of t (Some o) = ap (entries_of t) e in
    let count : 1 + m ≡ entries_of t (Some o) = omega (arith, own r, if-same r, is) in
    let c = counts-exited t os r m o e count in (
      counts-moved t os (slice_set os r (exited o)) r m c,
      counted t os (slice_set os r (exited o)) r m (λ q. marks_in q k + marks_in_calls q cs) c refl (λ q ne. omega (arith, own q, if-other r q ne)),
      c.settled settled,
    )

past-marks : (r : ℕ) (k : Code) → MayFault k → marks_in r (past k) ≡ marks_in r k
past-marks r Done h = absurd h
past-marks r (Do n i k) h = refl
past-marks r (If n a b k) h = refl
past-marks r (While n c b k) h = absurd h
past-marks r (Enter n b k) h = refl
past-marks r (EnterClass n c b k) h = refl
past-marks r (Exit n q k) h = absurd h

given-marks : (r : ℕ) (d : Call) (o : Option Value) → marks_in r (with_given d o).rest ≡ marks_in r d.rest
given-marks r d None = refl
given-marks r d (Some v) = refl

module _ (p : Program) (bare : HasNoMarks p) where
  -- another call, as it begins
  begun-more : (os : List Obj) (t u : ℕ) (code : UnitCode) (c : Call) (cs : List Call) → slice_get p.units u ≡ Some code → c.rest ≡ code.code
      → Matches os t cs → Matches os t (c ∷ cs)
  begun-more os t u code c cs e same w =
      record { own = λ r. omega (arith, unmarked-none r code.code (bare u code e), ap (marks_in r) same, w.own r); settled = w.settled }

  -- the call on top has other code, with as many marks
  with-code : (os : List Obj) (t : ℕ) (c : Call) (k : Code) (cs : List Call) → ((r : ℕ) → marks_in r c.rest ≡ marks_in r k)
      → ((r : ℕ) → marks_in r k + marks_in_calls r cs ≡ entries_of t (slice_get os r)) → AllSettled os → Matches os t (c ∷ cs)
  with-code os t c k cs same own settled =
      record { own = λ r. ap (λ (m : ℕ). m + marks_in_calls r cs) (same r) ∙ own r; settled = settled }

  exits-mark : (os : List Obj) (t r : ℕ) (c : Call) (k : Code) (cs : List Call)
      → ((q : ℕ) → (mark r q + marks_in q k) + marks_in_calls q cs ≡ entries_of t (slice_get os q)) → AllSettled os
      → Moved t os (changed os r exited) × ((ts : List Value) → Matches (changed os r exited) t (record c { rest = k; temps = ts } ∷ cs))
  exits-mark os t r c k cs own settled =
      let h = exited-own os t r k cs (slice_get os r) refl own settled in
      (h.0, λ ts. record { own = h.1; settled = h.2 })

  enters-mark : (os : List Obj) (t r : ℕ) (n : Note) (c : Call) (b k : Code) (cs : List Call) (o : Obj) → slice_get os r ≡ Some o
      → is_other t o.owner ≡ false → Unmarked b → ((q : ℕ) → marks_in q k + marks_in_calls q cs ≡ entries_of t (slice_get os q)) → AllSettled os
      → Moved t os (changed os r (entered t)) × ((ts : List Value) → Matches (changed os r (entered t)) t (record c { rest = b ⧺ Exit n r k; temps = ts } ∷ cs))
  enters-mark os t r n c b k cs o e free h own settled =
      let w = entered-own os t r n b k cs o e free h own settled in
      (w.0, λ ts. record { own = w.1; settled = w.2 })

  -- the calls beneath one in whose code no mark is left
  beneath : (os : List Obj) (t : ℕ) (c : Call) (cs : List Call) → next_exit c.rest ≡ None → Matches os t (c ∷ cs) → Matches os t cs
  beneath os t c cs e w =
      record { own = λ r. omega (arith, marks-next r c.rest, ap (marks_from r) e, w.own r); settled = w.settled }

  with-value : (os : List Obj) (t : ℕ) (d : Call) (o : Option Value) (cs : List Call) → Matches os t (d ∷ cs) → Matches os t (with_given d o ∷ cs)
  with-value os t d o cs w = with-code os t (with_given d o) d.rest cs (λ r. given-marks r d o) w.own w.settled

  from-mark : (os : List Obj) (t r : ℕ) (c : Call) (k : Code) (cs : List Call) → next_exit c.rest ≡ Some (r, k) → Matches os t (c ∷ cs)
      → (q : ℕ) → (mark r q + marks_in q k) + marks_in_calls q cs ≡ entries_of t (slice_get os q)
  from-mark os t r c k cs e w q = ap (λ (m : ℕ). m + marks_in_calls q cs) (sym (marks-next q c.rest ∙ ap (marks_from q) e)) ∙ w.own q

  free-holders : (c n : ℕ) (cs : List ClassInfo) (more : List Obj) → Each Free more → Each Free (holders_from c n cs ++ more)
  free-holders c n [] more h = h
  free-holders c n (info ∷ cs) more h = ((refl, refl), free-holders (c + 1) (n + static_fresh info) cs more h)

  free-begun : (cs : List ClassInfo) → Each Free (begun_objects cs)
  free-begun cs = free-holders 0 (length cs) cs (replicate (all_fresh cs) fresh_object) (free-fresh (all_fresh cs))

  none-yet : (t : ℕ) → Matches (begun_objects p.classes) t []
  none-yet t = record {
    own = λ r. sym (free-entries (begun_objects p.classes) t r (free-begun p.classes));
    settled = free-settled (begun_objects p.classes) (free-begun p.classes);
  }

  abbrev Spines : List Obj → ℕ → Mode → List Call → Type 0
  Spines os t m cs = Each (Has (λ _. Spined)) cs

  abbrev Marks : List Obj → ℕ → Mode → List Call → Type 0
  Marks os t m cs = Matches os t cs

  stepwise : IsStepwise p Spines Marks Moved
  stepwise = record {
    same = λ t os. record { others = λ s r ne. refl; settled = λ h. h };
    stays = λ s t os ns m cs ne w g z. record { own = λ r. g.own r ∙ sym (w.others t r (λ x. ne (sym x))); settled = w.settled g.settled };
    begun = λ t d u code e w z. begun-more (begun_objects p.classes) t u code _ [] w refl (none-yet t);
    begun_over = λ t z. none-yet t;
    faults = λ os t c k cs f may z. with-code os t _ k cs (λ r. past-marks r k may) f.1.own f.1.settled;
    pushes = λ os t c n i k ts cs f h e z. record { own = f.1.own; settled = f.1.settled };
    sets = λ os t c n i k v ts cs f e l z. record { own = f.1.own; settled = f.1.settled };
    writes = λ os t c n i k v r ts cs f e w. (
      same-moved t os _ (same-write os r i v),
      λ z. same-matches os _ t _ (same-write os r i v) (record { own = f.1.own; settled = f.1.settled }),
    );
    writes_static = λ os t c n d i k v ts cs f e w. (
      same-moved t os _ (same-write os d i v),
      λ z. same-matches os _ t _ (same-write os d i v) (record { own = f.1.own; settled = f.1.settled }),
    );
    makes_plain = λ os t c n k cs f. (
      same-moved t os _ (same-fresh os),
      λ z. same-matches os _ t _ (same-fresh os) (record { own = f.1.own; settled = f.1.settled }),
    );
    makes = λ os t c n d a k info cs f l e w. (
      same-moved t os _ (same-made os d info.fields),
      λ z. same-matches os _ t _ (same-made os d info.fields) (record { own = f.1.own; settled = f.1.settled }),
    );
    constructs = λ os t c n d a k info u code cs f l e w x. (
      same-moved t os _ (same-made os d info.fields),
      λ z. begun-more _ t u code _ (record c { rest = k; temps = drop a c.temps } ∷ cs) x refl (same-matches os _ t _ (same-made os d info.fields) (record { own = f.1.own; settled = f.1.settled })),
    );
    makes_lost = λ os t c n d a k info u cs f e w x. (
      same-moved t os _ (same-made os d info.fields),
      λ z. same-matches os _ t _ (same-made os d info.fields) (record { own = f.1.own; settled = f.1.settled }),
    );
    calls = λ os t c n m a k r d u code cs f l e w x y z. begun-more os t u code _ (record c { rest = k; temps = drop (a + 1) c.temps } ∷ cs) y refl (record { own = f.1.own; settled = f.1.settled });
    calls_static = λ os t c n d m a k u code cs f l x y z. begun-more os t u code _ (record c { rest = k; temps = drop a c.temps } ∷ cs) y refl (record { own = f.1.own; settled = f.1.settled });
    starts_none = λ os t c n k ts cs f e z. record { own = f.1.own; settled = f.1.settled };
    starts = λ os t c n k r d u code ts cs f e w x y.
        (λ z. record { own = f.1.own; settled = f.1.settled }, λ s a z. begun-more os s u code _ [] y refl a);
    yes = λ os t c n a b k ts cs f e z. with-code os t _ k cs (λ r. marks-append r a k f.0.0.0) f.1.own f.1.settled;
    no = λ os t c n a b k ts cs f e z. with-code os t _ k cs (λ r. marks-append r b k f.0.0.1) f.1.own f.1.settled;
    turns = λ os t c n x b k cs f z. with-code os t _ k cs (λ r. marks-append r x (If n (b ⧺ While n x b Done) Done k) f.0.0.0) f.1.own f.1.settled;
    enters = λ os t c n b k r ts o cs f e w x.
        let h = enters-mark os t r n c b k cs o w x f.0.0.0 f.1.own f.1.settled in (h.0, λ z. h.1 ts);
    enters_class = λ os t c n d b k o cs f w x.
        let h = enters-mark os t d n c b k cs o w x f.0.0.0 f.1.own f.1.settled in (h.0, λ z. h.1 c.temps);
    exits = λ os t c n r k cs f. let h = exits-mark os t r c k cs f.1.own f.1.settled in (h.0, λ z. h.1 c.temps);
    returns = λ os t c n k cs f z. record { own = f.1.own; settled = f.1.settled };
    returns_value = λ os t c n k v ts cs f e z. record { own = f.1.own; settled = f.1.settled };
    done = λ os t c d cs f z. with-value os t d _ cs (beneath os t (record c { rest = Done }) (d ∷ cs) refl f.1);
    done_last = λ os t c f z. beneath os t (record c { rest = Done }) [] refl f.1;
    gives_up = λ os t v c r k cs f e.
        let h = exits-mark os t r c k cs (from-mark os t r c k cs e f.1) f.1.settled in (h.0, λ z. h.1 []);
    leaves = λ os t v c d cs f e z. with-value os t d _ cs (beneath os t c (d ∷ cs) e f.1);
    leaves_last = λ os t v c f e z. beneath os t c [] e f.1;
    unwinds = λ os t c r k cs f e.
        let h = exits-mark os t r c k cs (from-mark os t r c k cs e f.1) f.1.settled in (h.0, λ z. h.1 []);
    drops = λ os t c d cs f e z.
        let h = beneath os t c (d ∷ cs) e f.1 in record { own = h.own; settled = h.settled };
    drops_last = λ os t c f e z. beneath os t c [] e f.1;
  }

  -- ---- configurations

  pub spined-units : UnitsHave (λ _. Spined) p
  spined-units u code e = unmarked-spined code.code (bare u code e)

  marks-of : (r : ℕ) (o : Option Thread) → marks_by r o ≡ marks_in_calls r (or_over o).calls
  marks-of r None = refl
  marks-of r (Some h) = refl

  abbrev AllMatch : Config → Type 0
  AllMatch c = (t : ℕ) → Matches c.objects t (or_over (slice_get c.threads t)).calls

  matching : (c : Config) → Counted c → AllMatch c
  matching c w t = record { own = λ r. sym (marks-of r (slice_get c.threads t)) ∙ w.exact t r; settled = w.settled }

  counting : (c : Config) → AllMatch c → Counted c
  counting c w = record { exact = λ t r. marks-of r (slice_get c.threads t) ∙ (w t).own r; settled = (w 0).settled }

  spines : (c : Config) → EveryCall (Has (λ _. Spined)) c.threads → (t : ℕ) → Each (Has (λ _. Spined)) (or_over (slice_get c.threads t)).calls
  spines c sp t = threads-each (λ (h : Thread). Each (Has (λ _. Spined)) h.calls) c.threads t tt sp

  spined-step : (c : Config) (t : ℕ) → EveryCall (Has (λ _. Spined)) c.threads → EveryCall (Has (λ _. Spined)) (step p c t).threads
  spined-step c t sp = step-has (λ _. Spined) (λ _. spined-closed) p spined-units c t sp

  pub counted-step : (c : Config) (t : ℕ) → EveryCall (Has (λ _. Spined)) c.threads → Counted c → Counted (step p c t)
  counted-step c t sp w =
      counting (step p c t)
      (stepped p Spines Marks Moved stepwise c t (spines c sp) (spines (step p c t) (spined-step c t sp)) (matching c w))

  counted-run : (c : Config) (schedule : List ℕ) → EveryCall (Has (λ _. Spined)) c.threads → Counted c → Counted (run p c schedule)
  counted-run c [] sp w = w
  counted-run c (t ∷ schedule) sp w = counted-run (step p c t) schedule (spined-step c t sp) (counted-step c t sp w)

  spined-begin : (mains : List ℕ) → EveryCall (Has (λ _. Spined)) (begin p mains).threads
  spined-begin mains = begin-has (λ _. Spined) (λ _. spined-closed) p spined-units mains

  pub counted-begin : (mains : List ℕ) → Counted (begin p mains)
  counted-begin mains =
      counting (begin p mains) (at-begin p Spines Marks Moved stepwise mains (spines (begin p mains) (spined-begin mains)))

  pub counted-whole : (mains schedule : List ℕ) → Counted (run p (begin p mains) schedule)
  counted-whole mains schedule = counted-run (begin p mains) schedule (spined-begin mains) (counted-begin mains)

-- ---- owners

owner-if : (t : ℕ) (w : Option ℕ) (m : ℕ) → 0 < entries_if t w m → w ≡ Some t
owner-if t None m h = absurd (omega (arith, h))
owner-if t (Some s) m h =
    ⊎_elim (λ y. ap Some y.1)
    (λ d. absurd (let z : entries_if t (Some s) m ≡ 0 = rw d.0 refl in omega (arith, h, z))) (eqb_tells s t)

pub owned-by : (t : ℕ) (o : Option Obj) → 0 < entries_of t o → owner_of o ≡ Some t
owned-by t None h = absurd (omega (arith, h))
owned-by t (Some o) h = owner-if t o.owner o.count h

pub marked-owner : (c : Config) → Counted c → (t r : ℕ) → 0 < marks_by r (slice_get c.threads t) → owner_at c r ≡ Some t
marked-owner c w t r h = owned-by t (slice_get c.objects r) (omega (arith, h, w.exact t r))
