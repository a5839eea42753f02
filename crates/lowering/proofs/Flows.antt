-- The flows of locals in a tree are those in its code.
use Rattle.std.proofs.Common.{◌≡◌, refl, ℕ, Bool, true, false, List, Option, Some, None, if◌then◌else◌, ap, ◌∙◌, codes}
use Rattle.std.specs.Str.{bytes_eq}
use Rattle.bound_tree.specs.declared.name.ValueType.{ValueType}
use Rattle.bound_tree.specs.declared.unit.BoundTree.{BoundTree}
use Rattle.bound_tree.specs.declared.unit.Part.{Part}
use Rattle.bound_tree.specs.declared.unit.Part.TheVariants as part
use Rattle.bound_tree.specs.declared.tree.UnaryOp.TheVariants as unary
use Rattle.bound_tree.specs.Tree.{Term, Terms, Statement, Statements, stamp_of, base_of, local_of}
use Rattle.bound_tree.specs.Tree as t
use Rattle.bound_tree.specs.Reading.{statement_of}
use Rattle.bound_tree.specs.Claims.{varies_of}
use Rattle.bound_tree.specs.Flows.{Flow, End, Names, Either, Again, in_term, in_terms, in_any, local_named, local_set, in_statement, in_statements, flow_of}
use Rattle.lowering.specs.declared.instr.NamedPlain.TheVariants as plain
use Rattle.lowering.specs.declared.instr.Constant.TheVariants as constant
use Rattle.lowering.specs.Code.{Code, Done, Do}
use Rattle.lowering.specs.Lower.{plainly, least, is_over_all, count, made, const, expr, exprs, base_code, old_code, set_code, has_value, dropped, stmt, stmts, member_code, sig_code, part_code, code_of}
use Rattle.lowering.specs.Numbers.{Numbers, numbered}
use Rattle.lowering.specs.CodeFlows.{flow, entered, sig_flow, part_flow}
use Rattle.lowering.proofs.Acts.{false-true}

over-flow : (a : Term) → is_over_all a ≡ true → (l : Flow) → l ≡ in_term a l
over-flow (t.Const s l) h k = refl
over-flow a h k = false-true h

module _ (r : Numbers) where
  makes-flow : (p : ℕ) (c : List ℕ) (n : ℕ) (k : Code) (l : Flow) → flow (numbered r (Do (plainly p) (made c n) k)) l ≡ flow (numbered r k) l
  makes-flow p c n k l = chosen (bytes_eq c (codes "Object"))
    where
      chosen : (b : Bool) → flow (numbered r (Do (plainly p) (if b then plain.MakePlain else plain.Make c n) k)) l ≡ flow (numbered r k) l
      chosen true = refl
      chosen false = refl

  drops-flow : (v : Term) (k : Code) (l : Flow) → flow (numbered r (dropped v k)) l ≡ flow (numbered r k) l
  drops-flow v k l = chosen (has_value v)
    where
      chosen : (b : Bool) → flow (numbered r (if b then Do (plainly (stamp_of v).at) plain.Drop k else k)) l ≡ flow (numbered r k) l
      chosen true = refl
      chosen false = refl

  negated-flow : (p : ℕ) (a : Term) (k : Code) (l : Flow) (b : Bool) → is_over_all a ≡ b
      → flow (numbered r (expr a (Do (plainly p) plain.Neg k))) l ≡ in_term a (flow (numbered r k) l)
      → flow (numbered r (if b then const p (constant.Int least) k else expr a (Do (plainly p) plain.Neg k))) l ≡ in_term a (flow (numbered r k) l)
  negated-flow p a k l true h e = over-flow a h (flow (numbered r k) l)
  negated-flow p a k l false h e = e

  mutual
    expr-flow : (e : Term) (k : Code) (l : Flow) → flow (numbered r (expr e k)) l ≡ in_term e (flow (numbered r k) l)
    expr-flow (t.Const s v) k l = refl
    expr-flow (t.This s) k l = refl
    expr-flow (t.Local s x) k l = refl
    expr-flow (t.Field s b f) k l = expr-flow b _ l
    expr-flow (t.Static s f) k l = refl
    expr-flow (t.New s c es) k l = exprs-flow es _ l ∙ ap (in_terms es) (makes-flow s.at c (count es) k l)
    expr-flow (t.Call s e m es) k l = expr-flow e _ l ∙ ap (in_term e) (exprs-flow es _ l)
    expr-flow (t.CallStatic s m es) k l = exprs-flow es _ l
    expr-flow (t.Unknown s n es) k l = exprs-flow es k l
    expr-flow (t.UnknownField s b n) k l = expr-flow b k l
    expr-flow (t.UnknownCall s e n es) k l = expr-flow e _ l ∙ ap (in_term e) (exprs-flow es k l)
    expr-flow (t.Unary s unary.Not a) k l = expr-flow a _ l
    expr-flow (t.Unary s unary.Negate a) k l = negated-flow s.at a k l (is_over_all a) refl (expr-flow a _ l)
    expr-flow (t.And s a b) k l =
        expr-flow a _ l ∙ ap (λ (m : Flow). in_term a (Either m End (flow (numbered r k) l))) (expr-flow b Done End)
    expr-flow (t.Or s a b) k l =
        expr-flow a _ l ∙ ap (λ (m : Flow). in_term a (Either End m (flow (numbered r k) l))) (expr-flow b Done End)
    expr-flow (t.Binary s o a b) k l = expr-flow a _ l ∙ ap (in_term a) (expr-flow b _ l)

    exprs-flow : (es : Terms) (k : Code) (l : Flow) → flow (numbered r (exprs es k)) l ≡ in_terms es (flow (numbered r k) l)
    exprs-flow t.no_terms k l = refl
    exprs-flow (t.term e es) k l = expr-flow e _ l ∙ ap (in_term e) (exprs-flow es k l)

  base-flow : (to : Term) (k : Code) (l : Flow) → flow (numbered r (base_code to k)) l ≡ in_any (base_of to) (flow (numbered r k) l)
  base-flow (t.Field s b f) k l = expr-flow b k l
  base-flow (t.UnknownField s b n) k l = expr-flow b k l
  base-flow to k l = refl

  old-flow : (to : Term) (k : Code) (l : Flow) → flow (numbered r (old_code to k)) l ≡ local_named (local_of to) (flow (numbered r k) l)
  old-flow (t.Local s x) k l = refl
  old-flow (t.Field s b f) k l = refl
  old-flow (t.Static s f) k l = refl
  old-flow to k l = refl

  set-flow : (to : Term) (k : Code) (l : Flow) → flow (numbered r (set_code to k)) l ≡ local_set (local_of to) (flow (numbered r k) l)
  set-flow (t.Local s x) k l = refl
  set-flow (t.Field s b f) k l = refl
  set-flow (t.Static s f) k l = refl
  set-flow to k l = refl

  module _ (varies : ℕ → Bool) where
    mutual
      stmt-flow : (s : Statement) (k : Code) (l : Flow) → flow (numbered r (stmt varies s k)) l ≡ in_statement s (flow (numbered r k) l)
      stmt-flow (t.Block ss) k l = stmts-flow ss k l
      stmt-flow (t.Declare p x ty v) k l = expr-flow v _ l
      stmt-flow (t.Assign to v) k l =
          base-flow to _ l ∙ ap (in_any (base_of to)) (expr-flow v _ l ∙ ap (in_term v) (set-flow to k l))
      stmt-flow (t.Compound to o v) k l =
          base-flow to _ l
          ∙ ap (in_any (base_of to)) (old-flow to _ l ∙ ap (local_named (local_of to)) (expr-flow v _ l ∙ ap (in_term v) (set-flow to k l)))
      stmt-flow (t.Perform v) k l = expr-flow v _ l ∙ ap (in_term v) (drops-flow v k l)
      stmt-flow (t.Start p v) k l = expr-flow v _ l
      stmt-flow (t.If v a b) k l =
          expr-flow v _ l
          ∙ ap (λ (m : Flow). in_term v (Either m (flow (numbered r (stmt varies b Done)) End) (flow (numbered r k) l))) (stmt-flow a Done End)
          ∙ ap (λ (m : Flow). in_term v (Either (in_statement a End) m (flow (numbered r k) l))) (stmt-flow b Done End)
      stmt-flow (t.While v a) k l =
          expr-flow v Done _
          ∙ ap (λ (m : Flow). in_term v (Again m (flow (numbered r k) l)))
          (stmt-flow a Done (flow (numbered r (expr v Done)) End) ∙ ap (in_statement a) (expr-flow v Done End))
      stmt-flow (t.Sync v a) k l = expr-flow v _ l ∙ ap (in_term v) (stmt-flow a Done (flow (numbered r k) l))
      stmt-flow (t.SyncClass p c a) k l = stmt-flow a Done (flow (numbered r k) l)
      stmt-flow (t.Return p) k l = refl
      stmt-flow (t.ReturnValue p v) k l = expr-flow v _ l

      stmts-flow : (ss : Statements) (k : Code) (l : Flow) → flow (numbered r (stmts varies ss k)) l ≡ in_statements ss (flow (numbered r k) l)
      stmts-flow t.no_statements k l = refl
      stmts-flow (t.statement s ss) k l = stmt-flow s _ l ∙ ap (in_statement s) (stmts-flow ss k l)

    member-flow : (c : List ℕ) (sync static : Bool) (s : Statement)
        → flow (numbered r (member_code c sync static (stmt varies s Done))) End ≡ entered sync static (flow_of s)
    member-flow c false static s = stmt-flow s Done End
    member-flow c true false s = ap (Names 0 0) (stmt-flow s Done End)
    member-flow c true true s = stmt-flow s Done End

  sig-same : (result : Option ValueType) → flow (numbered r (sig_code result)) End ≡ sig_flow result
  sig-same None = refl
  sig-same (Some ty) = refl

  part-same : (c : List ℕ) (p : Part) → flow (numbered r (part_code c p)) End ≡ part_flow p
  part-same c (part.Header names) = refl
  part-same c (part.Field ty initial) = refl
  part-same c (part.Sig params result) = sig-same result
  part-same c (part.Body b) = member-flow (varies_of (statement_of b.block)) c b.is_synchronized b.is_static (statement_of b.block)

pub statement-flow : (r : Numbers) (varies : ℕ → Bool) (s : Statement) (k : Code) (l : Flow)
    → flow (numbered r (stmt varies s k)) l ≡ in_statement s (flow (numbered r k) l)
statement-flow r varies s k l = stmt-flow r varies s k l

pub unit-flow : (r : Numbers) (u : BoundTree) → flow (numbered r (code_of u)) End ≡ part_flow u.part
unit-flow r u = part-same r u.class u.part
