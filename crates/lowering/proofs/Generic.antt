-- The code of a tree finds what it uses, whatever is asked of temporaries.
use Rattle.std.proofs.Common.{◌≡◌, refl, ℕ, Bool, true, false, List, [], ◌∷◌, ◌++◌, Option, Some, None, if◌then◌else◌, drop, length, reverse, sym, ap, ◌∙◌, subst, append_assoc, codes}
use Rattle.std.proofs.lemmas.List.{reverse-append}
use Rattle.std.specs.Str.{bytes_eq}
use Rattle.bound_tree.specs.Claim as claim
use Rattle.bound_tree.specs.declared.name.ValueType.{ValueType}
use Rattle.bound_tree.specs.declared.unit.Part.{Part}
use Rattle.bound_tree.specs.declared.unit.Part.TheVariants as part
use Rattle.bound_tree.specs.declared.tree.UnaryOp.TheVariants as unary
use Rattle.bound_tree.specs.Tree.{Term, Terms, Statement, Statements, stamp_of}
use Rattle.bound_tree.specs.Tree as t
use Rattle.bound_tree.specs.Reading.{statement_of}
use Rattle.bound_tree.specs.Claims.{claim_of, varies_of}
use Rattle.core_model.specs.declared.instr.Op.{Op}
use Rattle.core_types.specs.Slots.{need_by, FitsBy, Leaves, Suiting}
use Rattle.lowering.specs.declared.instr.NamedNote.{NamedNote}
use Rattle.lowering.specs.declared.instr.NamedPlain.{NamedPlain}
use Rattle.lowering.specs.declared.instr.NamedPlain.TheVariants as plain
use Rattle.lowering.specs.declared.instr.Constant.TheVariants as constant
use Rattle.lowering.specs.Code.{Code, Done, Do, If, While, Enter, EnterClass}
use Rattle.lowering.specs.Lower.{plainly, classed, claimed, least, is_over_all, count, made, const, expr, exprs, base_code, old_code, set_code, has_value, stmt, stmts, member_code, sig_code, part_code, constant_of}
use Rattle.lowering.specs.Numbers.{numbered, note_number, plain_number, class_number}
use Rattle.lowering.specs.Bare.{SetsBare, BareBy}
use Rattle.lowering.specs.Operands.{Kind, Chosen, Negates, used, Turns, Pushes, Gives, GivesAll, GivenTo, Assigns, Steps, Changes, Runs, Drops, Fits, FitsAll, Enters, SigFits, PartFits}

-- the code finds what it uses, needs these, and sets locals where no temporary waits
pub record Finds {S : Type 0} (K : Kind S) (k : Code) (l ns : List S) : Type 0 where
  pub needs : need_by K.uses (numbered K.numbers k) l ≡ ns
  pub fits : FitsBy K.Suits K.uses (numbered K.numbers k) l
  pub bare : BareBy K.uses (numbered K.numbers k) l

module _ {S : Type 0} (K : Kind S) where
  abbrev Good : Code → List S → List S → Type 0
  Good k l ns = Finds K k l ns

  turned : (o : S) (os ns : List S) → reverse (o ∷ os) ++ ns ≡ reverse os ++ (o ∷ ns)
  turned o os ns = ap (λ (l : List S). l ++ ns) (reverse-append (o ∷ []) os) ∙ append_assoc (reverse os) (o ∷ []) ns

  nothing : (l : List S) → Good Done l l
  nothing l = record { needs = refl; fits = tt; bare = tt }

  goes : (n : NamedNote) (i : NamedPlain) (takes gives : List S) (k : Code) (l after : List S) → Turns K n i takes gives
      → Suiting K.Suits gives after → SetsBare (plain_number K.numbers n.known i) after → Good k l after
      → Good (Do n i k) l (takes ++ drop (length gives) after)
  goes n i takes gives k l after e s b g = record {
    needs = rw (e, g.needs) refl;
    fits = (rw (e, g.needs) s, g.fits);
    bare = (rw g.needs b, g.bare);
  }

  leaves : (n : NamedNote) (i : NamedPlain) (takes : List S) (k : Code) (l after : List S) → used K n i ≡ Leaves takes
      → SetsBare (plain_number K.numbers n.known i) after → Good k l after → Good (Do n i k) l takes
  leaves n i takes k l after e b g = record {
    needs = rw e refl;
    fits = (rw e tt, g.fits);
    bare = (rw g.needs b, g.bare);
  }

  if_good : (n : NamedNote) (a b k : Code) (l m ns : List S) → Good a m ns → Good b m ns → Good k l m → Good (If n a b k) l (K.uses.flag ∷ ns)
  if_good n a b k l m ns x y g = record {
    needs = rw g.needs (ap (λ (i : List S). K.uses.flag ∷ i) x.needs);
    fits = (rw g.needs (x.needs ∙ sym y.needs), rw g.needs x.fits, rw g.needs y.fits, g.fits);
    bare = (rw g.needs x.bare, rw g.needs y.bare, g.bare);
  }

  while_good : (n : NamedNote) (c b k : Code) (l : List S) → Good c (K.uses.flag ∷ []) [] → Good b [] [] → Good k l [] → Good (While n c b k) l []
  while_good n c b k l x y g = record {
    needs = g.needs;
    fits = (rw g.needs x.needs, rw g.needs y.needs, rw g.needs x.fits, rw g.needs y.fits, g.fits);
    bare = (rw g.needs x.bare, rw g.needs y.bare, g.bare);
  }

  enter_good : (n : NamedNote) (b k : Code) (l : List S) → Good b [] [] → Good k l [] → Good (Enter n b k) l (K.uses.monitor (note_number K.numbers n) ∷ [])
  enter_good n b k l y g = record {
    needs = rw g.needs (ap (λ (i : List S). K.uses.monitor (note_number K.numbers n) ∷ i) y.needs);
    fits = (rw g.needs y.fits, g.fits);
    bare = (rw g.needs y.bare, g.bare);
  }

  class_good : (n : NamedNote) (c : List ℕ) (b k : Code) (l : List S) → K.uses.there (class_number K.numbers c) ≡ true → Good b [] [] → Good k l []
      → Good (EnterClass n c b k) l []
  class_good n c b k l t y g = record {
    needs = ap (λ (m : List S). need_by K.uses (numbered K.numbers b) m) g.needs ∙ y.needs;
    fits = (t, subst (λ (m : List S). FitsBy K.Suits K.uses (numbered K.numbers b) m) (sym g.needs) y.fits, g.fits);
    bare = (subst (λ (m : List S). BareBy K.uses (numbered K.numbers b) m) (sym g.needs) y.bare, g.bare);
  }

  made_bare : (p : ℕ) (c : List ℕ) (n : ℕ) (ns : List S) → SetsBare (plain_number K.numbers (plainly p).known (made c n)) ns
  made_bare p c n ns = chosen (bytes_eq c (codes "Object"))
    where
      chosen : (b : Bool) → SetsBare (plain_number K.numbers (plainly p).known (if b then plain.MakePlain else plain.Make c n)) ns
      chosen true = tt
      chosen false = tt

  -- a minus before the literal 2147483648, or before another expression
  negated : (p : ℕ) (a : Term) (k : Code) (l : List S) (g w : S) (ns : List S) (b : Bool)
      → Chosen b (Pushes K p (constant.Int least) g) (Negates K p a g)
      → K.Suits g w → Good k l (w ∷ ns)
      → ((v u : S) → Gives K a v → K.Suits v u → Good (Do (plainly p) plain.Neg k) l (u ∷ ns) → Good (expr a (Do (plainly p) plain.Neg k)) l ns)
      → Good (if b then const p (constant.Int least) k else expr a (Do (plainly p) plain.Neg k)) l ns
  negated p a k l g w ns true h s y go = goes (plainly p) (plain.Const (constant.Int least)) [] (g ∷ []) k l (w ∷ ns) h (s, tt) tt y
  negated p a k l g w ns false h s y go =
      go h.0 h.1 h.2 h.3 (goes (plainly p) plain.Neg (h.1 ∷ []) (g ∷ []) k l (w ∷ ns) h.4 (s, tt) tt y)

  mutual
    expr-good : (e : Term) (k : Code) (l : List S) (g w : S) (ns : List S) → Gives K e g → K.Suits g w → Good k l (w ∷ ns) → Good (expr e k) l ns
    expr-good (t.Const p v) k l g w ns h s y = goes (plainly p.at) (plain.Const (constant_of v)) [] (g ∷ []) k l (w ∷ ns) h (s, tt) tt y
    expr-good (t.This p) k l g w ns h s y = goes (plainly p.at) (plain.Get 0) [] (g ∷ []) k l (w ∷ ns) h (s, tt) tt y
    expr-good (t.Local p x) k l g w ns h s y = goes (plainly p.at) (plain.Get x) [] (g ∷ []) k l (w ∷ ns) h (s, tt) tt y
    expr-good (t.Field p b f) k l g w ns h s y =
        expr-good b _ l h.0 h.1 ns h.2 h.3 (goes (classed p.at f.class) (plain.Field f.name) (h.1 ∷ []) (g ∷ []) k l (w ∷ ns) h.4 (s, tt) tt y)
    expr-good (t.Static p f) k l g w ns h s y =
        goes (classed p.at f.class) (plain.Static f.class f.name) [] (g ∷ []) k l (w ∷ ns) h (s, tt) tt y
    expr-good (t.New p c es) k l g w ns h s y =
        exprs-good es _ l h.0 ns h.1
        (goes (plainly p.at) (made c (count es)) (reverse h.0) (g ∷ []) k l (w ∷ ns) h.2 (s, tt) (made_bare p.at c (count es) (w ∷ ns)) y)
    expr-good (t.Call p r m es) k l g w ns h s y =
        expr-good r _ l h.0 h.1 ns h.3 h.4
        (exprs-good es _ l h.2 (h.1 ∷ ns) h.5
        (subst (Good _ l) (turned h.1 h.2 ns)
        (goes (classed p.at m.class) (plain.Call m.name (count es)) (reverse (h.1 ∷ h.2)) (g ∷ []) k l (w ∷ ns) h.6 (s, tt) tt y)))
    expr-good (t.CallStatic p m es) k l g w ns h s y =
        exprs-good es _ l h.0 ns h.1
        (goes (classed p.at m.class) (plain.CallStatic m.class m.name (count es)) (reverse h.0) (g ∷ []) k l (w ∷ ns) h.2 (s, tt) tt y)
    expr-good (t.Unknown p n es) k l g w ns h s y = absurd h
    expr-good (t.UnknownField p b n) k l g w ns h s y = absurd h
    expr-good (t.UnknownCall p r n es) k l g w ns h s y = absurd h
    expr-good (t.Unary p unary.Not a) k l g w ns h s y =
        expr-good a _ l h.0 h.1 ns h.2 h.3 (goes (plainly p.at) plain.Not (h.1 ∷ []) (g ∷ []) k l (w ∷ ns) h.4 (s, tt) tt y)
    expr-good (t.Unary p unary.Negate a) k l g w ns h s y =
        negated p.at a k l g w ns (is_over_all a) h s y (λ (v u : S) (i : Gives K a v) (j : K.Suits v u) (z : Good (Do (plainly p.at) plain.Neg k) l (u ∷ ns)).
        expr-good a (Do (plainly p.at) plain.Neg k) l v u ns i j z)
    expr-good (t.And p a b) k l g w ns h s y =
        expr-good a _ l h.0 K.uses.flag ns h.3 h.4
        (if_good (plainly p.at) (expr b Done) (const p.at (constant.Boolean false) Done) k l (w ∷ ns) ns
        (expr-good b Done (w ∷ ns) h.1 w ns h.5 (h.7 w s).0 (nothing (w ∷ ns)))
        (goes (plainly p.at) (plain.Const (constant.Boolean false)) [] (h.2 ∷ []) Done (w ∷ ns) (w ∷ ns) h.6 ((h.7 w s).1, tt) tt (nothing (w ∷ ns))) y)
    expr-good (t.Or p a b) k l g w ns h s y =
        expr-good a _ l h.0 K.uses.flag ns h.3 h.4
        (if_good (plainly p.at) (const p.at (constant.Boolean true) Done) (expr b Done) k l (w ∷ ns) ns
        (goes (plainly p.at) (plain.Const (constant.Boolean true)) [] (h.2 ∷ []) Done (w ∷ ns) (w ∷ ns) h.6 ((h.7 w s).1, tt) tt (nothing (w ∷ ns)))
        (expr-good b Done (w ∷ ns) h.1 w ns h.5 (h.7 w s).0 (nothing (w ∷ ns))) y)
    expr-good (t.Binary p o a b) k l g w ns h s y =
        expr-good a _ l h.0 h.1 ns h.4 h.5
        (expr-good b _ l h.2 h.3 (h.1 ∷ ns) h.6 h.7
        (goes (plainly p.at) (plain.Op o) (h.3 ∷ h.1 ∷ []) (g ∷ []) k l (w ∷ ns) h.8 (s, tt) tt y))

    exprs-good : (es : Terms) (k : Code) (l ws ns : List S) → GivesAll K es ws → Good k l (reverse ws ++ ns) → Good (exprs es k) l ns
    exprs-good t.no_terms k l ws ns h y = subst (λ (v : List S). Good k l (reverse v ++ ns)) h y
    exprs-good (t.term e es) k l ws ns h y =
        expr-good e (exprs es k) l h.0 h.1 ns h.3 h.4
        (exprs-good es k l h.2 (h.1 ∷ ns) h.5
        (subst (Good k l) (turned h.1 h.2 ns) (subst (λ (v : List S). Good k l (reverse v ++ ns)) h.6 y)))

  given : (e : Term) (k : Code) (l : List S) (w : S) (ns : List S) → GivenTo K e w → Good k l (w ∷ ns) → Good (expr e k) l ns
  given e k l w ns h y = expr-good e k l h.0 w ns h.1 h.2 y

  assign-good : (to v : Term) (k : Code) (l : List S) → Assigns K to v → Good k l [] → Good (base_code to (expr v (set_code to k))) l []
  assign-good (t.Local p x) v k l h y = given v _ l h.0 [] h.1 (goes (plainly p.at) (plain.Set x) (h.0 ∷ []) [] k l [] h.2 tt refl y)
  assign-good (t.Field p b f) v k l h y =
      given b _ l h.0 [] h.2
      (given v _ l h.1 (h.0 ∷ []) h.3 (goes (classed p.at f.class) (plain.PutField f.name) (h.1 ∷ h.0 ∷ []) [] k l [] h.4 tt tt y))
  assign-good (t.Static p f) v k l h y =
      given v _ l h.0 [] h.1 (goes (classed p.at f.class) (plain.PutStatic f.class f.name) (h.0 ∷ []) [] k l [] h.2 tt tt y)
  assign-good (t.Const p x) v k l h y = absurd h
  assign-good (t.This p) v k l h y = absurd h
  assign-good (t.New p c es) v k l h y = absurd h
  assign-good (t.Call p r m es) v k l h y = absurd h
  assign-good (t.CallStatic p m es) v k l h y = absurd h
  assign-good (t.Unknown p n es) v k l h y = absurd h
  assign-good (t.UnknownField p b n) v k l h y = absurd h
  assign-good (t.UnknownCall p r n es) v k l h y = absurd h
  assign-good (t.Unary p o a) v k l h y = absurd h
  assign-good (t.And p a b) v k l h y = absurd h
  assign-good (t.Or p a b) v k l h y = absurd h
  assign-good (t.Binary p o a b) v k l h y = absurd h

  -- an operator on an old value that waits
  steps : (p : ℕ) (o : Op) (v : Term) (old w : S) (k : Code) (l ns : List S) (h : Steps K p o v old w) → Good k l (w ∷ ns)
      → Good (expr v (Do (plainly p) (plain.Op o) k)) l (h.0 ∷ ns)
  steps p o v old w k l ns h y =
      given v _ l h.1 (h.0 ∷ ns) h.4 (goes (plainly p) (plain.Op o) (h.1 ∷ h.0 ∷ []) (h.2 ∷ []) k l (w ∷ ns) h.5 (h.6, tt) tt y)

  change-good : (to : Term) (o : Op) (v : Term) (k : Code) (l : List S) → Changes K to o v → Good k l []
      → Good (base_code to (old_code to (expr v (Do (plainly (stamp_of to).at) (plain.Op o) (set_code to k))))) l []
  change-good (t.Local p x) o v k l h y =
      goes (plainly p.at) (plain.Get x) [] (h.0 ∷ []) _ l (h.3.0 ∷ []) h.2 (h.3.3, tt) tt
      (steps p.at o v h.0 h.1 _ l [] h.3 (goes (plainly p.at) (plain.Set x) (h.1 ∷ []) [] k l [] h.4 tt refl y))
  change-good (t.Field p b f) o v k l h y =
      given b _ l h.0 [] h.5
      (goes (classed p.at f.class) (plain.FieldKeep f.name) (h.0 ∷ []) (h.1 ∷ h.2 ∷ []) _ l (h.7.0 ∷ h.4 ∷ []) h.6 (h.7.3, (h.9, tt)) tt
      (steps p.at o v h.1 h.3 _ l (h.4 ∷ []) h.7
      (goes (classed p.at f.class) (plain.PutField f.name) (h.3 ∷ h.4 ∷ []) [] k l [] h.8 tt tt y)))
  change-good (t.Static p f) o v k l h y =
      goes (classed p.at f.class) (plain.Static f.class f.name) [] (h.0 ∷ []) _ l (h.3.0 ∷ []) h.2 (h.3.3, tt) tt
      (steps p.at o v h.0 h.1 _ l [] h.3 (goes (classed p.at f.class) (plain.PutStatic f.class f.name) (h.1 ∷ []) [] k l [] h.4 tt tt y))
  change-good (t.Const p x) o v k l h y = absurd h
  change-good (t.This p) o v k l h y = absurd h
  change-good (t.New p c es) o v k l h y = absurd h
  change-good (t.Call p r m es) o v k l h y = absurd h
  change-good (t.CallStatic p m es) o v k l h y = absurd h
  change-good (t.Unknown p n es) o v k l h y = absurd h
  change-good (t.UnknownField p b n) o v k l h y = absurd h
  change-good (t.UnknownCall p r n es) o v k l h y = absurd h
  change-good (t.Unary p i a) o v k l h y = absurd h
  change-good (t.And p a b) o v k l h y = absurd h
  change-good (t.Or p a b) o v k l h y = absurd h
  change-good (t.Binary p i a b) o v k l h y = absurd h

  run-good : (v : Term) (k : Code) (l : List S) → Runs K v → Good k l [] → Good (expr v k) l []
  run-good (t.Call p r m es) k l h y =
      given r _ l h.0 [] h.2
      (exprs-good es _ l h.1 (h.0 ∷ []) h.3
      (subst (Good _ l) (turned h.0 h.1 [])
      (goes (classed p.at m.class) (plain.Call m.name (count es)) (reverse (h.0 ∷ h.1)) [] k l [] h.4 tt tt y)))
  run-good (t.CallStatic p m es) k l h y =
      exprs-good es _ l h.0 [] h.1
      (goes (classed p.at m.class) (plain.CallStatic m.class m.name (count es)) (reverse h.0) [] k l [] h.2 tt tt y)
  run-good (t.Const p x) k l h y = absurd h
  run-good (t.This p) k l h y = absurd h
  run-good (t.Local p x) k l h y = absurd h
  run-good (t.Field p b f) k l h y = absurd h
  run-good (t.Static p f) k l h y = absurd h
  run-good (t.New p c es) k l h y = absurd h
  run-good (t.Unknown p n es) k l h y = absurd h
  run-good (t.UnknownField p b n) k l h y = absurd h
  run-good (t.UnknownCall p r n es) k l h y = absurd h
  run-good (t.Unary p o a) k l h y = absurd h
  run-good (t.And p a b) k l h y = absurd h
  run-good (t.Or p a b) k l h y = absurd h
  run-good (t.Binary p o a b) k l h y = absurd h

  perform-good : (v : Term) (k : Code) (l : List S) (b : Bool) → Chosen b (Drops K v) (Runs K v) → Good k l []
      → Good (expr v (if b then Do (plainly (stamp_of v).at) plain.Drop k else k)) l []
  perform-good v k l true h y = given v _ l h.0 [] h.1 (goes (plainly (stamp_of v).at) plain.Drop (h.0 ∷ []) [] k l [] h.2 tt tt y)
  perform-good v k l false h y = run-good v k l h y

  module _ (varies : ℕ → Bool) where
    mutual
      stmt-good : (s : Statement) (k : Code) (l : List S) → Fits K varies s → Good k l [] → Good (stmt varies s k) l []
      stmt-good (t.Block ss) k l h y = stmts-good ss k l h y
      stmt-good (t.Declare p x ty v) k l h y = given v _ l h.0 [] h.1 (goes (plainly p) (plain.Set x) (h.0 ∷ []) [] k l [] h.2 tt refl y)
      stmt-good (t.Assign to v) k l h y = assign-good to v k l h y
      stmt-good (t.Compound to o v) k l h y = change-good to o v k l h y
      stmt-good (t.Perform v) k l h y = perform-good v k l (has_value v) h y
      stmt-good (t.Start p v) k l h y = given v _ l h.0 [] h.1 (goes (plainly p) plain.Start (h.0 ∷ []) [] k l [] h.2 tt tt y)
      stmt-good (t.If v a b) k l h y =
          given v _ l K.uses.flag [] h.0
          (if_good (plainly (stamp_of v).first) (stmt varies a Done) (stmt varies b Done) k l [] []
          (stmt-good a Done [] h.1 (nothing [])) (stmt-good b Done [] h.2 (nothing [])) y)
      stmt-good (t.While v a) k l h y =
          while_good (plainly (stamp_of v).first) (expr v Done) (stmt varies a Done) k l
          (given v Done (K.uses.flag ∷ []) K.uses.flag [] h.0 (nothing (K.uses.flag ∷ []))) (stmt-good a Done [] h.1 (nothing [])) y
      stmt-good (t.Sync v a) k l h y =
          given v _ l (K.uses.monitor (note_number K.numbers (claimed (stamp_of v).first (claim_of varies v)))) [] h.0
          (enter_good (claimed (stamp_of v).first (claim_of varies v)) (stmt varies a Done) k l (stmt-good a Done [] h.1 (nothing [])) y)
      stmt-good (t.SyncClass p c a) k l h y =
          class_good (claimed p (Some (claim.Class c))) c (stmt varies a Done) k l h.0 (stmt-good a Done [] h.1 (nothing [])) y
      stmt-good (t.Return p) k l h y = leaves (plainly p) plain.Return [] k l [] h tt y
      stmt-good (t.ReturnValue p v) k l h y = given v _ l h.0 [] h.1 (leaves (plainly p) plain.ReturnValue (h.0 ∷ []) k l [] h.2 tt y)

      stmts-good : (ss : Statements) (k : Code) (l : List S) → FitsAll K varies ss → Good k l [] → Good (stmts varies ss k) l []
      stmts-good t.no_statements k l h y = y
      stmts-good (t.statement s ss) k l h y = stmt-good s (stmts varies ss k) l h.0 (stmts-good ss k l h.1 y)

    member-good : (c : List ℕ) (sync static : Bool) (s : Statement) → Enters K c sync static → Fits K varies s
        → Good (member_code c sync static (stmt varies s Done)) [] []
    member-good c false static s e h = stmt-good s Done [] h (nothing [])
    member-good c true false s e h =
        goes (plainly 0) (plain.Get 0) [] (e.0 ∷ []) _ [] _ e.1 (e.2, tt) tt
        (enter_good (claimed 0 (Some (claim.Local 0))) (stmt varies s Done) Done [] (stmt-good s Done [] h (nothing [])) (nothing []))
    member-good c true true s e h =
        class_good (claimed 0 (Some (claim.Class c))) c (stmt varies s Done) Done [] e (stmt-good s Done [] h (nothing [])) (nothing [])

  sig-good : (result : Option ValueType) → SigFits K result → Good (sig_code result) [] []
  sig-good None h = nothing []
  sig-good (Some ty) h =
      while_good (plainly 0) (const 0 (constant.Boolean true) Done) Done Done []
      (goes (plainly 0) (plain.Const (constant.Boolean true)) [] (h.0 ∷ []) Done (K.uses.flag ∷ []) (K.uses.flag ∷ []) h.1 (h.2, tt) tt (nothing (K.uses.flag ∷ [])))
      (nothing []) (nothing [])

  pub part-good : (c : List ℕ) (p : Part) → PartFits K c p → Finds K (part_code c p) [] []
  part-good c (part.Header names) h = nothing []
  part-good c (part.Field ty initial) h = nothing []
  part-good c (part.Sig params result) h = sig-good result h
  part-good c (part.Body b) h = member-good (varies_of (statement_of b.block)) c b.is_synchronized b.is_static (statement_of b.block) h.0 h.1
