-- Code comes to its end where its typed tree does.
use Rattle.std.proofs.Common.{◌≡◌, refl, ℕ, ◌||◌, ◌&&◌, not, Bool, true, false, if◌then◌else◌, Option, Some, None, List, ap, ◌∙◌, codes}
use Rattle.std.specs.Str.{bytes_eq}
use Rattle.core_types.specs.Paths.{ends, ends_by, pushes_true, is_done, is_always_true}
use Rattle.core_model.specs.Code as core
use Rattle.core_model.specs.declared.instr.Op.{Op}
use Rattle.bound_tree.specs.declared.name.ValueType.{ValueType}
use Rattle.bound_tree.specs.declared.tree.Literal.{Literal}
use Rattle.bound_tree.specs.declared.tree.Literal.TheVariants as literal
use Rattle.bound_tree.specs.declared.tree.UnaryOp.TheVariants as unary
use Rattle.bound_tree.specs.declared.unit.Part.{Part}
use Rattle.bound_tree.specs.declared.unit.Part.TheVariants as part
use Rattle.bound_tree.specs.Reading.{statement_of}
use Rattle.bound_tree.specs.Tree.{Term, Terms, Statement, Statements, stamp_of}
use Rattle.bound_tree.specs.Tree as t
use Rattle.bound_tree.specs.Claims.{varies_of}
use Rattle.lowering.specs.declared.instr.NamedNote.{NamedNote}
use Rattle.lowering.specs.declared.instr.NamedPlain.{NamedPlain}
use Rattle.lowering.specs.declared.instr.NamedPlain.TheVariants as plain
use Rattle.lowering.specs.declared.instr.Constant.{Constant}
use Rattle.lowering.specs.declared.instr.Constant.TheVariants as constant
use Rattle.lowering.specs.Code.{Code, Done, Do}
use Rattle.lowering.specs.Lower.{plainly, classed, least, constant_of, is_over_all, count, made, const, expr, exprs, base_code, old_code, set_code, has_value, stmt, stmts, member_code, sig_code, part_code}
use Rattle.lowering.specs.Numbers.{numbered, plain_number}
use Rattle.lowering.specs.Operands.{Kind, Chosen, Pushes, Negates, Gives, GivesAll, Assigns, Changes, Runs, Drops, Fits, FitsAll, PartFits}
use Rattle.lowering.specs.Endings.{is_true, always, may_end, may_end_all, sig_may_end, part_may_end}

same_or : (x k : Bool) → k || (not x && k) ≡ k
same_or true true = refl
same_or true false = refl
same_or false true = refl
same_or false false = refl

and_false : (b : Bool) → b && false ≡ false
and_false true = refl
and_false false = refl

and_true : (b : Bool) → b && true ≡ b
and_true true = refl
and_true false = refl

module _ {S : Type 0} (K : Kind S) where
  abbrev E : Bool → Code → Bool → Bool
  E known k l = ends known (numbered K.numbers k) l

  abbrev Pushed : Constant → Bool
  Pushed v = pushes_true (plain_number K.numbers (plainly 0).known (plain.Const v))

  literal-true : (l : Literal) → Pushed (constant_of l) ≡ is_true l
  literal-true (literal.Int n) = refl
  literal-true (literal.Boolean b) = refl
  literal-true literal.Null = refl
  literal-true (literal.Str text) = refl

  made-ends : (p : ℕ) (c : List ℕ) (n : ℕ) (known : Bool) (k : Code) (l : Bool) → E known (Do (plainly p) (made c n) k) l ≡ E false k l
  made-ends p c n known k l = chosen (bytes_eq c (codes "Object"))
    where
      chosen : (b : Bool) → E known (Do (plainly p) (if b then plain.MakePlain else plain.Make c n) k) l ≡ E false k l
      chosen true = refl
      chosen false = refl

  made-never : (p : ℕ) (c : List ℕ) (n : ℕ) (k : Code) → is_always_true (numbered K.numbers (Do (plainly p) (made c n) k)) ≡ false
  made-never p c n k = chosen (bytes_eq c (codes "Object"))
    where
      chosen : (b : Bool) → is_always_true (numbered K.numbers (Do (plainly p) (if b then plain.MakePlain else plain.Make c n) k)) ≡ false
      chosen true = refl
      chosen false = refl

  negated : (p : ℕ) (a : Term) (known : Bool) (k : Code) (l : Bool) (g : S) (b : Bool) → Chosen b (Pushes K p (constant.Int least) g) (Negates K p a g)
      → (Negates K p a g → E known (expr a (Do (plainly p) plain.Neg k)) l ≡ E false k l)
      → E known (if b then const p (constant.Int least) k else expr a (Do (plainly p) plain.Neg k)) l ≡ E false k l
  negated p a known k l g true h go = refl
  negated p a known k l g false h go = go h

  negated-never : (p : ℕ) (a : Term) (k : Code) (g : S) (b : Bool) → Chosen b (Pushes K p (constant.Int least) g) (Negates K p a g)
      → (Negates K p a g → is_always_true (numbered K.numbers (expr a (Do (plainly p) plain.Neg k))) ≡ false)
      → is_always_true (numbered K.numbers (if b then const p (constant.Int least) k else expr a (Do (plainly p) plain.Neg k))) ≡ false
  negated-never p a k g true h go = refl
  negated-never p a k g false h go = go h

  mutual
    expr-ends : (known : Bool) (e : Term) (g : S) → Gives K e g → (k : Code) (l : Bool) → E known (expr e k) l ≡ E (always e) k l
    expr-ends known (t.Const s v) g h k l = ap (λ (b : Bool). E b k l) (literal-true v)
    expr-ends known (t.This s) g h k l = refl
    expr-ends known (t.Local s x) g h k l = refl
    expr-ends known (t.Field s b f) g h k l = expr-ends known b h.0 h.2 _ l
    expr-ends known (t.Static s f) g h k l = refl
    expr-ends known (t.New s c t.no_terms) g h k l = made-ends s.at c 0 known k l
    expr-ends known (t.New s c (t.term e es)) g h k l =
        expr-ends known e h.1.0 h.1.3 _ l ∙ exprs-made (always e) es h.1.2 h.1.5 s.at c (count (t.term e es)) k l
    expr-ends known (t.Call s r m es) g h k l =
        expr-ends known r h.0 h.3 _ l ∙ exprs-ends (always r) es h.2 h.5 (classed s.at m.class) (plain.Call m.name (count es)) k l
    expr-ends known (t.CallStatic s m es) g h k l =
        exprs-ends known es h.0 h.1 (classed s.at m.class) (plain.CallStatic m.class m.name (count es)) k l
    expr-ends known (t.Unknown s n es) g h k l = absurd h
    expr-ends known (t.UnknownField s b n) g h k l = absurd h
    expr-ends known (t.UnknownCall s r n es) g h k l = absurd h
    expr-ends known (t.Unary s unary.Not a) g h k l = expr-ends known a h.0 h.2 _ l
    expr-ends known (t.Unary s unary.Negate a) g h k l =
        negated s.at a known k l g (is_over_all a) h (λ (q : Negates K s.at a g). expr-ends known a q.0 q.2 (Do (plainly s.at) plain.Neg k) l)
    expr-ends known (t.And s a b) g h k l =
        expr-ends known a h.0 h.3 _ l
        ∙ ap (λ (v : Bool). v || (not (always a) && E false k l)) (expr-ends false b h.1 h.5 Done (E false k l))
        ∙ same_or (always a) (E false k l)
    expr-ends known (t.Or s a b) g h k l =
        expr-ends known a h.0 h.3 _ l
        ∙ ap (λ (v : Bool). E false k l || (not (always a) && v)) (expr-ends false b h.1 h.5 Done (E false k l))
        ∙ same_or (always a) (E false k l)
    expr-ends known (t.Binary s o a b) g h k l =
        expr-ends known a h.0 h.4 _ l ∙ expr-ends (always a) b h.2 h.6 _ l

    exprs-ends : (known : Bool) (es : Terms) (ws : List S) → GivesAll K es ws → (n : NamedNote) (i : NamedPlain) (k : Code) (l : Bool)
        → E known (exprs es (Do n i k)) l ≡ ends_by (plain_number K.numbers n.known i) (E (pushes_true (plain_number K.numbers n.known i)) k l)
    exprs-ends known t.no_terms ws h n i k l = refl
    exprs-ends known (t.term e es) ws h n i k l = expr-ends known e h.0 h.3 _ l ∙ exprs-ends (always e) es h.2 h.5 n i k l

    exprs-made : (known : Bool) (es : Terms) (ws : List S) → GivesAll K es ws → (p : ℕ) (c : List ℕ) (n : ℕ) (k : Code) (l : Bool)
        → E known (exprs es (Do (plainly p) (made c n) k)) l ≡ E false k l
    exprs-made known t.no_terms ws h p c n k l = made-ends p c n known k l
    exprs-made known (t.term e es) ws h p c n k l = expr-ends known e h.0 h.3 _ l ∙ exprs-made (always e) es h.2 h.5 p c n k l

  -- ---- the constant true alone

  more-negated : (p : ℕ) (a : Term) (k : Code) (g : S) (b : Bool) → Chosen b (Pushes K p (constant.Int least) g) (Negates K p a g)
      → (Negates K p a g → is_done (numbered K.numbers (expr a (Do (plainly p) plain.Neg k))) ≡ false)
      → is_done (numbered K.numbers (if b then const p (constant.Int least) k else expr a (Do (plainly p) plain.Neg k))) ≡ false
  more-negated p a k g true h go = refl
  more-negated p a k g false h go = go h

  mutual
    more : (e : Term) (g : S) → Gives K e g → (k : Code) → is_done (numbered K.numbers (expr e k)) ≡ false
    more (t.Const s v) g h k = refl
    more (t.This s) g h k = refl
    more (t.Local s x) g h k = refl
    more (t.Field s b f) g h k = more b h.0 h.2 _
    more (t.Static s f) g h k = refl
    more (t.New s c es) g h k = more_all es h.0 h.1 _ refl
    more (t.Call s r m es) g h k = more r h.0 h.3 _
    more (t.CallStatic s m es) g h k = more_all es h.0 h.1 _ refl
    more (t.Unknown s n es) g h k = absurd h
    more (t.UnknownField s b n) g h k = absurd h
    more (t.UnknownCall s r n es) g h k = absurd h
    more (t.Unary s unary.Not a) g h k = more a h.0 h.2 _
    more (t.Unary s unary.Negate a) g h k = more-negated s.at a k g (is_over_all a) h (λ (q : Negates K s.at a g). more a q.0 q.2 (Do (plainly s.at) plain.Neg k))
    more (t.And s a b) g h k = more a h.0 h.3 _
    more (t.Or s a b) g h k = more a h.0 h.3 _
    more (t.Binary s o a b) g h k = more a h.0 h.4 _

    more_all : (es : Terms) (ws : List S) → GivesAll K es ws → (k : Code) → is_done (numbered K.numbers k) ≡ false → is_done (numbered K.numbers (exprs es k)) ≡ false
    more_all t.no_terms ws h k d = d
    more_all (t.term e es) ws h k d = more e h.0 h.3 _

  constant-never : (b : Bool) (k : core.Code) → is_done k ≡ false → b && is_done k ≡ false
  constant-never b k d = ap (λ (x : Bool). b && x) d ∙ and_false b

  mutual
    never : (e : Term) (g : S) → Gives K e g → (k : Code) → is_done (numbered K.numbers k) ≡ false → is_always_true (numbered K.numbers (expr e k)) ≡ false
    never (t.Const s v) g h k d = constant-never (Pushed (constant_of v)) (numbered K.numbers k) d
    never (t.This s) g h k d = refl
    never (t.Local s x) g h k d = refl
    never (t.Field s b f) g h k d = never b h.0 h.2 _ refl
    never (t.Static s f) g h k d = refl
    never (t.New s c t.no_terms) g h k d = made-never s.at c 0 k
    never (t.New s c (t.term e es)) g h k d = never e h.1.0 h.1.3 _ (more_all es h.1.2 h.1.5 _ refl)
    never (t.Call s r m es) g h k d = never r h.0 h.3 _ (more_all es h.2 h.5 _ refl)
    never (t.CallStatic s m t.no_terms) g h k d = refl
    never (t.CallStatic s m (t.term e es)) g h k d = never e h.1.0 h.1.3 _ (more_all es h.1.2 h.1.5 _ refl)
    never (t.Unknown s n es) g h k d = absurd h
    never (t.UnknownField s b n) g h k d = absurd h
    never (t.UnknownCall s r n es) g h k d = absurd h
    never (t.Unary s unary.Not a) g h k d = never a h.0 h.2 _ refl
    never (t.Unary s unary.Negate a) g h k d = negated-never s.at a k g (is_over_all a) h (λ (q : Negates K s.at a g). never a q.0 q.2 (Do (plainly s.at) plain.Neg k) refl)
    never (t.And s a b) g h k d = never a h.0 h.3 _ refl
    never (t.Or s a b) g h k d = never a h.0 h.3 _ refl
    never (t.Binary s o a b) g h k d = never a h.0 h.4 _ (more b h.2 h.6 _)

  always-same : (e : Term) (g : S) → Gives K e g → is_always_true (numbered K.numbers (expr e Done)) ≡ always e
  always-same (t.Const s v) g h = and_true (Pushed (constant_of v)) ∙ literal-true v
  always-same (t.This s) g h = refl
  always-same (t.Local s x) g h = refl
  always-same (t.Field s b f) g h = never b h.0 h.2 _ refl
  always-same (t.Static s f) g h = refl
  always-same (t.New s c t.no_terms) g h = made-never s.at c 0 Done
  always-same (t.New s c (t.term e es)) g h = never e h.1.0 h.1.3 _ (more_all es h.1.2 h.1.5 _ refl)
  always-same (t.Call s r m es) g h = never r h.0 h.3 _ (more_all es h.2 h.5 _ refl)
  always-same (t.CallStatic s m t.no_terms) g h = refl
  always-same (t.CallStatic s m (t.term e es)) g h = never e h.1.0 h.1.3 _ (more_all es h.1.2 h.1.5 _ refl)
  always-same (t.Unknown s n es) g h = absurd h
  always-same (t.UnknownField s b n) g h = absurd h
  always-same (t.UnknownCall s r n es) g h = absurd h
  always-same (t.Unary s unary.Not a) g h = never a h.0 h.2 _ refl
  always-same (t.Unary s unary.Negate a) g h = negated-never s.at a Done g (is_over_all a) h (λ (q : Negates K s.at a g). never a q.0 q.2 (Do (plainly s.at) plain.Neg Done) refl)
  always-same (t.And s a b) g h = never a h.0 h.3 _ refl
  always-same (t.Or s a b) g h = never a h.0 h.3 _ refl
  always-same (t.Binary s o a b) g h = never a h.0 h.4 _ (more b h.2 h.6 _)

  -- ---- statements

  assign-ends : (to v : Term) → Assigns K to v → (k : Code) (l : Bool) → E false (base_code to (expr v (set_code to k))) l ≡ E false k l
  assign-ends (t.Local s x) v h k l = expr-ends false v h.1.0 h.1.1 _ l
  assign-ends (t.Field s b f) v h k l = expr-ends false b h.2.0 h.2.1 _ l ∙ expr-ends (always b) v h.3.0 h.3.1 _ l
  assign-ends (t.Static s f) v h k l = expr-ends false v h.1.0 h.1.1 _ l
  assign-ends (t.Const s x) v h k l = absurd h
  assign-ends (t.This s) v h k l = absurd h
  assign-ends (t.New s c es) v h k l = absurd h
  assign-ends (t.Call s r m es) v h k l = absurd h
  assign-ends (t.CallStatic s m es) v h k l = absurd h
  assign-ends (t.Unknown s n es) v h k l = absurd h
  assign-ends (t.UnknownField s b n) v h k l = absurd h
  assign-ends (t.UnknownCall s r n es) v h k l = absurd h
  assign-ends (t.Unary s o a) v h k l = absurd h
  assign-ends (t.And s a b) v h k l = absurd h
  assign-ends (t.Or s a b) v h k l = absurd h
  assign-ends (t.Binary s o a b) v h k l = absurd h

  change-ends : (to : Term) (o : Op) (v : Term) → Changes K to o v → (k : Code) (l : Bool)
      → E false (base_code to (old_code to (expr v (Do (plainly (stamp_of to).at) (plain.Op o) (set_code to k))))) l ≡ E false k l
  change-ends (t.Local s x) o v h k l = expr-ends false v h.3.4.0 h.3.4.1 _ l
  change-ends (t.Field s b f) o v h k l = expr-ends false b h.5.0 h.5.1 _ l ∙ expr-ends false v h.7.4.0 h.7.4.1 _ l
  change-ends (t.Static s f) o v h k l = expr-ends false v h.3.4.0 h.3.4.1 _ l
  change-ends (t.Const s x) o v h k l = absurd h
  change-ends (t.This s) o v h k l = absurd h
  change-ends (t.New s c es) o v h k l = absurd h
  change-ends (t.Call s r m es) o v h k l = absurd h
  change-ends (t.CallStatic s m es) o v h k l = absurd h
  change-ends (t.Unknown s n es) o v h k l = absurd h
  change-ends (t.UnknownField s b n) o v h k l = absurd h
  change-ends (t.UnknownCall s r n es) o v h k l = absurd h
  change-ends (t.Unary s i a) o v h k l = absurd h
  change-ends (t.And s a b) o v h k l = absurd h
  change-ends (t.Or s a b) o v h k l = absurd h
  change-ends (t.Binary s i a b) o v h k l = absurd h

  run-ends : (v : Term) → Runs K v → (k : Code) (l : Bool) → E false (expr v k) l ≡ E false k l
  run-ends (t.Call s r m es) h k l =
      expr-ends false r h.2.0 h.2.1 _ l ∙ exprs-ends (always r) es h.1 h.3 (classed s.at m.class) (plain.Call m.name (count es)) k l
  run-ends (t.CallStatic s m es) h k l = exprs-ends false es h.0 h.1 (classed s.at m.class) (plain.CallStatic m.class m.name (count es)) k l
  run-ends (t.Const s x) h k l = absurd h
  run-ends (t.This s) h k l = absurd h
  run-ends (t.Local s x) h k l = absurd h
  run-ends (t.Field s b f) h k l = absurd h
  run-ends (t.Static s f) h k l = absurd h
  run-ends (t.New s c es) h k l = absurd h
  run-ends (t.Unknown s n es) h k l = absurd h
  run-ends (t.UnknownField s b n) h k l = absurd h
  run-ends (t.UnknownCall s r n es) h k l = absurd h
  run-ends (t.Unary s o a) h k l = absurd h
  run-ends (t.And s a b) h k l = absurd h
  run-ends (t.Or s a b) h k l = absurd h
  run-ends (t.Binary s o a b) h k l = absurd h

  perform-ends : (v : Term) (b : Bool) → Chosen b (Drops K v) (Runs K v) → (k : Code) (l : Bool)
      → E false (expr v (if b then Do (plainly (stamp_of v).at) plain.Drop k else k)) l ≡ E false k l
  perform-ends v true h k l = expr-ends false v h.1.0 h.1.1 _ l
  perform-ends v false h k l = run-ends v h k l

  module _ (varies : ℕ → Bool) where
    mutual
      stmt-ends : (s : Statement) → Fits K varies s → (k : Code) (l : Bool) → E false (stmt varies s k) l ≡ may_end s (E false k l)
      stmt-ends (t.Block ss) h k l = stmts-ends ss h k l
      stmt-ends (t.Declare p x ty v) h k l = expr-ends false v h.1.0 h.1.1 _ l
      stmt-ends (t.Assign to v) h k l = assign-ends to v h k l
      stmt-ends (t.Compound to o v) h k l = change-ends to o v h k l
      stmt-ends (t.Perform v) h k l = perform-ends v (has_value v) h k l
      stmt-ends (t.Start p v) h k l = expr-ends false v h.1.0 h.1.1 _ l
      stmt-ends (t.If v a b) h k l =
          expr-ends false v h.0.0 h.0.1 _ l
          ∙ ap (λ (x : Bool). x || (not (always v) && E false (stmt varies b Done) (E false k l))) (stmt-ends a h.1 Done (E false k l))
          ∙ ap (λ (x : Bool). may_end a (E false k l) || (not (always v) && x)) (stmt-ends b h.2 Done (E false k l))
      stmt-ends (t.While v a) h k l =
          ap (λ (x : Bool). if x then E false (stmt varies a Done) false else E false (expr v Done) (E false (stmt varies a Done) false || E false k l)) (always-same v h.0.0 h.0.1)
          ∙ ap (λ (x : Bool). if always v then E false (stmt varies a Done) false else x) (expr-ends false v h.0.0 h.0.1 Done (E false (stmt varies a Done) false || E false k l))
          ∙ ap (λ (x : Bool). if always v then x else (x || E false k l)) (stmt-ends a h.1 Done false)
      stmt-ends (t.Sync v a) h k l = expr-ends false v h.0.0 h.0.1 _ l ∙ stmt-ends a h.1 Done (E false k l)
      stmt-ends (t.SyncClass p c a) h k l = stmt-ends a h.1 Done (E false k l)
      stmt-ends (t.Return p) h k l = refl
      stmt-ends (t.ReturnValue p v) h k l = expr-ends false v h.1.0 h.1.1 _ l

      stmts-ends : (ss : Statements) → FitsAll K varies ss → (k : Code) (l : Bool) → E false (stmts varies ss k) l ≡ may_end_all ss (E false k l)
      stmts-ends t.no_statements h k l = refl
      stmts-ends (t.statement s ss) h k l = stmt-ends s h.0 _ l ∙ ap (may_end s) (stmts-ends ss h.1 k l)

    member-ends : (c : List ℕ) (sync static : Bool) (s : Statement) → Fits K varies s
        → E false (member_code c sync static (stmt varies s Done)) true ≡ may_end s true
    member-ends c false static s h = stmt-ends s h Done true
    member-ends c true false s h = stmt-ends s h Done true
    member-ends c true true s h = stmt-ends s h Done true

  sig-ends : (result : Option ValueType) → E false (sig_code result) true ≡ sig_may_end result
  sig-ends None = refl
  sig-ends (Some ty) = refl

  pub part-ends : (c : List ℕ) (q : Part) → PartFits K c q → ends false (numbered K.numbers (part_code c q)) true ≡ part_may_end q
  part-ends c (part.Header names) h = refl
  part-ends c (part.Field ty initial) h = refl
  part-ends c (part.Sig params result) h = sig-ends result
  part-ends c (part.Body b) h = member-ends (varies_of (statement_of b.block)) c b.is_synchronized b.is_static (statement_of b.block) h.1
