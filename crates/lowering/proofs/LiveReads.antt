-- Code may read a local before it sets it where the local is live in its flow.
use Rattle.std.proofs.Common.{◌≡◌, refl, ℕ, ◌||◌, ◌&&◌, ◌==◌, not, Bool, true, false, if◌then◌else◌, sym, ap, ◌∙◌}
use Rattle.core_model.specs.Code.{Code, Done, Do, If, While, Enter, EnterClass, Exit}
use Rattle.core_model.specs.declared.instr.Note.{Note}
use Rattle.core_model.specs.declared.instr.Plain.{Plain}
use Rattle.core_model.specs.declared.instr.Plain.TheVariants as plain
use Rattle.core_types.specs.Paths.{reads, reads_by}
use Rattle.bound_tree.specs.Flows.{Flow, End, Again}
use Rattle.bound_tree.specs.Live.{live}
use Rattle.bound_tree.specs.declared.unit.BoundTree.{BoundTree}
use Rattle.lowering.specs.CodeFlows.{flow, flow_by, part_flow}
use Rattle.lowering.specs.Lower.{code_of}
use Rattle.lowering.specs.Numbers.{Numbers, numbered}
use Rattle.lowering.proofs.Flows.{unit-flow}

or-left : (a b : Bool) → a ≡ true → a || b ≡ true
or-left true b h = refl
or-left false b h = absurd (let no : ⊥ = cc in no)

or-right : (a b : Bool) → b ≡ true → a || b ≡ true
or-right true b h = refl
or-right false b h = h

or-map : (a b c d : Bool) → (a ≡ true → c ≡ true) → (b ≡ true → d ≡ true) → a || b ≡ true → c || d ≡ true
or-map true b c d f g h = or-left c d (f refl)
or-map false b c d f g h = or-right c d (g h)

by-map : (x : ℕ) (p : Plain) (a b : Bool) → (a ≡ true → b ≡ true) → reads_by x p a ≡ true → reads_by x p b ≡ true
by-map x (plain.Get j) a b f h = or-map (x == j) a (x == j) b (λ y. y) f h
by-map x (plain.Set j) a b f h = chosen (not (x == j)) h
  where
    chosen : (c : Bool) → c && a ≡ true → c && b ≡ true
    chosen true h = f h
    chosen false h = h
by-map x plain.Return a b f h = h
by-map x plain.ReturnValue a b f h = h
by-map x (plain.Const v) a b f h = f h
by-map x plain.Drop a b f h = f h
by-map x (plain.Field i) a b f h = f h
by-map x (plain.FieldKeep i) a b f h = f h
by-map x (plain.PutField i) a b f h = f h
by-map x (plain.Static c i) a b f h = f h
by-map x (plain.PutStatic c i) a b f h = f h
by-map x (plain.Make c n) a b f h = f h
by-map x plain.MakePlain a b f h = f h
by-map x (plain.Call m n) a b f h = f h
by-map x (plain.CallStatic c m n) a b f h = f h
by-map x (plain.Op o) a b f h = f h
by-map x plain.Neg a b f h = f h
by-map x plain.Not a b f h = f h
by-map x plain.Start a b f h = f h

-- where more is read after the code, more is read
reads-map : (x : ℕ) (k : Code) (a b : Bool) → (a ≡ true → b ≡ true) → reads x k a ≡ true → reads x k b ≡ true
reads-map x Done a b f h = f h
reads-map x (Do n p k) a b f h = by-map x p _ _ (reads-map x k a b f) h
reads-map x (If n c d k) a b f h =
    or-map (reads x c (reads x k a)) (reads x d (reads x k a)) (reads x c (reads x k b)) (reads x d (reads x k b))
    (reads-map x c _ _ (reads-map x k a b f)) (reads-map x d _ _ (reads-map x k a b f)) h
reads-map x (While n c d k) a b f h =
    reads-map x c _ _ (or-map (reads x d false) (reads x k a) (reads x d false) (reads x k b) (λ y. y) (reads-map x k a b f)) h
reads-map x (Enter n c k) a b f h = reads-map x c _ _ (reads-map x k a b f) h
reads-map x (EnterClass n i c k) a b f h = reads-map x c _ _ (reads-map x k a b f) h
reads-map x (Exit n r k) a b f h = reads-map x k a b f h

-- a loop's turns, whether the condition is asked again after the body or not
turns : (c b : Bool → Bool) → ((x y : Bool) → (x ≡ true → y ≡ true) → c x ≡ true → c y ≡ true)
    → (y : Bool) → c (b false || y) ≡ c (y || b (c y))
turns c b mono true = ap c (or-true (b false))
  where
    or-true : (a : Bool) → a || true ≡ true
    or-true true = refl
    or-true false = refl
turns c b mono false = ap c (or-false (b false)) ∙ chosen (c false) refl
  where
    or-false : (a : Bool) → a || false ≡ a
    or-false true = refl
    or-false false = refl

    from : (x y : Bool) → x ≡ true → y ≡ true → x ≡ y
    from x y e f = e ∙ sym f

    chosen : (x : Bool) → c false ≡ x → c (b false) ≡ c (b (c false))
    chosen true e =
        from (c (b false)) (c (b (c false))) (mono false (b false) (λ n. absurd (let no : ⊥ = cc in no)) e)
        (mono false (b (c false)) (λ n. absurd (let no : ⊥ = cc in no)) e)
    chosen false e = ap (λ (v : Bool). c (b v)) (sym e)

by-same : (x : ℕ) (n : Note) (p : Plain) (l : Flow) (after : Bool) → reads_by x p (live x l after) ≡ live x (flow_by n p l) after
by-same x n (plain.Get j) l after = chosen (x == j)
  where
    chosen : (c : Bool) → c || live x l after ≡ (if c then true else live x l after)
    chosen true = refl
    chosen false = refl
by-same x n (plain.Set j) l after = chosen (x == j)
  where
    chosen : (c : Bool) → not c && live x l after ≡ (if c then false else live x l after)
    chosen true = refl
    chosen false = refl
by-same x n plain.Return l after = refl
by-same x n plain.ReturnValue l after = refl
by-same x n _ l after = refl

reads-flow : (x : ℕ) (k : Code) (l : Flow) (after : Bool) → reads x k (live x l after) ≡ live x (flow k l) after
reads-flow x Done l after = refl
reads-flow x (Do n p k) l after = ap (reads_by x p) (reads-flow x k l after) ∙ by-same x n p (flow k l) after
reads-flow x (If n a b k) l after =
    ap (λ (y : Bool). reads x a y || reads x b y) (reads-flow x k l after)
    ∙ ap (λ (y : Bool). y || reads x b (live x (flow k l) after)) (reads-flow x a End (live x (flow k l) after))
    ∙ ap (λ (y : Bool). live x (flow a End) (live x (flow k l) after) || y) (reads-flow x b End (live x (flow k l) after))
reads-flow x (While n c b k) l after =
    let y : Bool = live x (flow k l) after in
    ap (λ (v : Bool). reads x c (reads x b false || v)) (reads-flow x k l after)
    ∙ turns (reads x c) (reads x b) (reads-map x c) y
    ∙ ap (λ (v : Bool). reads x c (y || v)) (ap (reads x b) (reads-flow x c End y) ∙ reads-flow x b (flow c End) y)
    ∙ reads-flow x c (Again (flow b (flow c End)) (flow k l)) after
reads-flow x (Enter n b k) l after = ap (reads x b) (reads-flow x k l after) ∙ reads-flow x b (flow k l) after
reads-flow x (EnterClass n c b k) l after = ap (reads x b) (reads-flow x k l after) ∙ reads-flow x b (flow k l) after
reads-flow x (Exit n r k) l after = reads-flow x k l after

pub code-reads : (x : ℕ) (k : Code) (after : Bool) → reads x k after ≡ live x (flow k End) after
code-reads x k after = reads-flow x k End after

pub unit-reads : (r : Numbers) (u : BoundTree) (x : ℕ) (after : Bool) → reads x (numbered r (code_of u)) after ≡ live x (part_flow u.part) after
unit-reads r u x after = code-reads x (numbered r (code_of u)) after ∙ ap (λ (f : Flow). live x f after) (unit-flow r u)
