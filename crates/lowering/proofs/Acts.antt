-- What the code of a tree does at places is what the tree does there.
use Rattle.std.proofs.Common.{◌≡◌, refl, ℕ, ◌+◌, Bool, true, false, List, [], ◌∷◌, ◌++◌, Option, Some, None, if◌then◌else◌, sym, ap, ◌∙◌, append_assoc, codes}
use Rattle.std.proofs.lemmas.List.{append-nil}
use Rattle.std.specs.Str.{bytes_eq}
use Rattle.bound_tree.specs.Claim.{Claim}
use Rattle.bound_tree.specs.Claim as claim
use Rattle.bound_tree.specs.declared.name.ValueType.{ValueType}
use Rattle.bound_tree.specs.declared.unit.Part.{Part}
use Rattle.bound_tree.specs.declared.unit.Part.TheVariants as part
use Rattle.bound_tree.specs.declared.tree.UnaryOp.TheVariants as unary
use Rattle.bound_tree.specs.Tree.{Term, Terms, Statement, Statements, stamp_of, is_bad, base_of}
use Rattle.bound_tree.specs.Tree as t
use Rattle.bound_tree.specs.Reading.{statement_of}
use Rattle.bound_tree.specs.Places.{Frame, InSync, InClass, InMember, Place, What, Reads, Writes, Calls, Makes, Starts, Locks, Of, OfClass, Goal, ToReceiver, ToArgument, ToConstructor, ToNothing, ToLocal, ToThread, ToResult, here, goes, under, term_places, args_places, base_places, access_of, read_places, written_places, target_goal, one_term, two_terms, places, places_all, member_places, part_places}
use Rattle.bound_tree.specs.Claims.{claim_of, claims_of, frame_claims, listed, varies_of}
use Rattle.lowering.specs.declared.instr.NamedPlain.TheVariants as plain
use Rattle.lowering.specs.declared.instr.NamedKnown.TheVariants as known
use Rattle.lowering.specs.declared.instr.Constant.TheVariants as constant
use Rattle.lowering.specs.Noted.{noted_as, claim_in}
use Rattle.lowering.specs.Code.{Code, Done, Do}
use Rattle.lowering.specs.Lower.{plainly, monitor_of, least, is_over_all, count, made, const, expr, exprs, base_code, old_code, set_code, has_value, dropped, stmt, stmts, member_code, sig_code, part_code}
use Rattle.lowering.specs.Acts.{put_act, NamedAct, NamedActed, MakesOf, MakesPlain, noted_claim, act_of, code_acts, acts_in, makes_act, act_at, place_acts, part_varies}

pub false-true : {A : Type 0} → false ≡ true → A
false-true e = absurd (let no : ⊥ = cc in no)

in-noted : (m : Claim) → claim_in (noted_as m) ≡ m
in-noted (claim.Local x) = refl
in-noted (claim.Field x c f) = refl
in-noted (claim.Static c f) = refl
in-noted (claim.Class c) = refl

noted : (o : Option Claim) → noted_claim (monitor_of o) ≡ listed o
noted None = refl
noted (Some m) = ap (λ (c : Claim). c ∷ []) (in-noted m)

over-places : (ph : Terms) (a : Term) → is_over_all a ≡ true → term_places ph a ≡ []
over-places ph (t.Const s l) h = refl
over-places ph a h = false-true h

makes : (c : List ℕ) (n : ℕ) → act_of known.Nothing (made c n) ≡ Some (makes_act c n)
makes c n = chosen (bytes_eq c (codes "Object"))
  where
    chosen : (b : Bool) → act_of known.Nothing (if b then plain.MakePlain else plain.Make c n) ≡ Some (if b then MakesPlain else MakesOf c n)
    chosen true = refl
    chosen false = refl

drops : (held : List Claim) (v : Term) (k : Code) (rest : List NamedActed) → code_acts held (dropped v k) rest ≡ code_acts held k rest
drops held v k rest = chosen (has_value v)
  where
    chosen : (b : Bool) → code_acts held (if b then Do (plainly (stamp_of v).at) plain.Drop k else k) rest ≡ code_acts held k rest
    chosen true = refl
    chosen false = refl

module _ (varies : ℕ → Bool) where
  both : (held : List Claim) (ps qs : List Place) (rest : List NamedActed)
      → place_acts varies held (ps ++ qs) rest ≡ place_acts varies held ps (place_acts varies held qs rest)
  both held [] qs rest = refl
  both held (p ∷ ps) qs rest = ap (put_act p.at (held ++ claims_of varies p.around) (act_at p.what)) (both held ps qs rest)

  once : (held : List Claim) (ph : Terms) (faulty : Bool) (p : ℕ) (w : What) (rest : List NamedActed)
      → place_acts varies held (here ph faulty p w) rest ≡ put_act p held (act_at w) rest
  once held ph faulty p w rest = ap (λ (l : List Claim). put_act p l (act_at w) rest) (append-nil held)

  -- places and then one more
  last : (held : List Claim) (ps : List Place) (ph : Terms) (faulty : Bool) (p : ℕ) (w : What) (rest : List NamedActed)
      → place_acts varies held (ps ++ here ph faulty p w) rest ≡ place_acts varies held ps (put_act p held (act_at w) rest)
  last held ps ph faulty p w rest = both held ps (here ph faulty p w) rest ∙ ap (place_acts varies held ps) (once held ph faulty p w rest)

  inwards : (held : List Claim) (f : Frame) (ps : List Place) (rest : List NamedActed)
      → place_acts varies held (under f ps) rest ≡ place_acts varies (held ++ frame_claims varies f) ps rest
  inwards held f [] rest = refl
  inwards held f (p ∷ ps) rest =
      ap (put_act p.at (held ++ (frame_claims varies f ++ claims_of varies p.around)) (act_at p.what)) (inwards held f ps rest)
      ∙ ap (λ (l : List Claim). put_act p.at l (act_at p.what) (place_acts varies (held ++ frame_claims varies f) ps rest))
      (sym (append_assoc held (frame_claims varies f) (claims_of varies p.around)))

  module _ (held : List Claim) where
    abbrev Acts : List Place → List NamedActed → List NamedActed
    Acts ps rest = place_acts varies held ps rest

    negated-acts : (ph : Terms) (p : ℕ) (a : Term) (k : Code) (rest : List NamedActed) (b : Bool) → is_over_all a ≡ b
        → code_acts held (expr a (Do (plainly p) plain.Neg k)) rest ≡ place_acts varies held (term_places ph a) (code_acts held k rest)
        → code_acts held (if b then const p (constant.Int least) k else expr a (Do (plainly p) plain.Neg k)) rest
        ≡ place_acts varies held (term_places ph a) (code_acts held k rest)
    negated-acts ph p a k rest true h e = ap (λ (l : List Place). place_acts varies held l (code_acts held k rest)) (sym (over-places ph a h))
    negated-acts ph p a k rest false h e = e

    mutual
      expr-acts : (ph : Terms) (e : Term) (k : Code) (rest : List NamedActed)
          → code_acts held (expr e k) rest ≡ place_acts varies held (term_places ph e) (code_acts held k rest)
      expr-acts ph (t.Const s l) k rest = refl
      expr-acts ph (t.This s) k rest = refl
      expr-acts ph (t.Local s x) k rest = refl
      expr-acts ph (t.Field s b f) k rest =
          expr-acts ph b _ rest ∙ sym (last held (term_places ph b) ph s.is_faulty s.at (Reads f (Of b)) (code_acts held k rest))
      expr-acts ph (t.Static s f) k rest = sym (once held ph s.is_faulty s.at (Reads f OfClass) (code_acts held k rest))
      expr-acts ph (t.New s c es) k rest =
          exprs-acts ph (ToConstructor c) 0 es _ rest
          ∙ ap (λ (a : Option NamedAct). Acts (args_places ph (ToConstructor c) 0 es) (put_act s.at held a (code_acts held k rest))) (makes c (count es))
          ∙ sym (last held (args_places ph (ToConstructor c) 0 es) ph s.is_faulty s.at (Makes c es) (code_acts held k rest))
      expr-acts ph (t.Call s r m es) k rest =
          expr-acts ph r _ rest
          ∙ ap (Acts (term_places ph r))
          (exprs-acts ph (ToArgument m) 0 es _ rest
          ∙ sym (last held (args_places ph (ToArgument m) 0 es) ph s.is_faulty s.at (Calls m (Of r) es) (code_acts held k rest)))
          ∙ sym (both held (term_places ph r) (goes ph r (ToReceiver m) ++ (args_places ph (ToArgument m) 0 es ++ here ph s.is_faulty s.at (Calls m (Of r) es))) (code_acts held k rest))
      expr-acts ph (t.CallStatic s m es) k rest =
          exprs-acts ph (ToArgument m) 0 es _ rest
          ∙ sym (last held (args_places ph (ToArgument m) 0 es) ph s.is_faulty s.at (Calls m OfClass es) (code_acts held k rest))
      expr-acts ph (t.Unknown s n es) k rest = exprs-acts ph (λ _. ToNothing n) 0 es k rest
      expr-acts ph (t.UnknownField s b n) k rest = expr-acts ph b k rest
      expr-acts ph (t.UnknownCall s r n es) k rest =
          expr-acts ph r _ rest
          ∙ ap (Acts (term_places ph r)) (exprs-acts ph (λ _. ToNothing n) 0 es k rest)
          ∙ sym (both held (term_places ph r) (goes ph r (ToNothing n) ++ args_places ph (λ _. ToNothing n) 0 es) (code_acts held k rest))
      expr-acts ph (t.Unary s unary.Not a) k rest = expr-acts ph a _ rest
      expr-acts ph (t.Unary s unary.Negate a) k rest = negated-acts ph s.at a k rest (is_over_all a) refl (expr-acts ph a _ rest)
      expr-acts ph (t.And s a b) k rest =
          expr-acts ph a _ rest
          ∙ ap (Acts (term_places ph a)) (expr-acts ph b Done (code_acts held k rest))
          ∙ sym (both held (term_places ph a) (term_places ph b) (code_acts held k rest))
      expr-acts ph (t.Or s a b) k rest =
          expr-acts ph a _ rest
          ∙ ap (Acts (term_places ph a)) (expr-acts ph b Done (code_acts held k rest))
          ∙ sym (both held (term_places ph a) (term_places ph b) (code_acts held k rest))
      expr-acts ph (t.Binary s o a b) k rest =
          expr-acts ph a _ rest
          ∙ ap (Acts (term_places ph a)) (expr-acts ph b _ rest)
          ∙ sym (both held (term_places ph a) (term_places ph b) (code_acts held k rest))

      exprs-acts : (ph : Terms) (to : ℕ → Goal) (n : ℕ) (es : Terms) (k : Code) (rest : List NamedActed)
          → code_acts held (exprs es k) rest ≡ place_acts varies held (args_places ph to n es) (code_acts held k rest)
      exprs-acts ph to n t.no_terms k rest = refl
      exprs-acts ph to n (t.term e es) k rest =
          expr-acts ph e _ rest
          ∙ ap (Acts (term_places ph e)) (exprs-acts ph to (n + 1) es k rest)
          ∙ sym (both held (term_places ph e) (goes ph e (to n) ++ args_places ph to (n + 1) es) (code_acts held k rest))

    base-acts : (ph : Terms) (to : Term) (k : Code) (rest : List NamedActed)
        → code_acts held (base_code to k) rest ≡ place_acts varies held (base_places ph (base_of to)) (code_acts held k rest)
    base-acts ph (t.Field s b f) k rest = expr-acts ph b k rest
    base-acts ph (t.UnknownField s b n) k rest = expr-acts ph b k rest
    base-acts ph to k rest = refl

    old-acts : (ph : Terms) (to : Term) (k : Code) (rest : List NamedActed)
        → code_acts held (old_code to k) rest ≡ place_acts varies held (read_places ph (access_of to)) (code_acts held k rest)
    old-acts ph (t.Field s b f) k rest = sym (once held ph s.is_faulty s.at (Reads f (Of b)) (code_acts held k rest))
    old-acts ph (t.Static s f) k rest = sym (once held ph s.is_faulty s.at (Reads f OfClass) (code_acts held k rest))
    old-acts ph to k rest = refl

    set-acts : (ph : Terms) (to : Term) (k : Code) (rest : List NamedActed)
        → code_acts held (set_code to k) rest ≡ place_acts varies held (written_places ph (access_of to)) (code_acts held k rest)
    set-acts ph (t.Field s b f) k rest = sym (once held ph s.is_faulty s.at (Writes f (Of b)) (code_acts held k rest))
    set-acts ph (t.Static s f) k rest = sym (once held ph s.is_faulty s.at (Writes f OfClass) (code_acts held k rest))
    set-acts ph to k rest = refl

    -- a value that goes somewhere, and then a write
    value-acts : (ph : Terms) (v : Term) (g : Goal) (qs : List Place) (k : Code) (rest after : List NamedActed)
        → code_acts held k rest ≡ place_acts varies held qs after
        → code_acts held (expr v k) rest ≡ place_acts varies held (term_places ph v ++ (goes ph v g ++ qs)) after
    value-acts ph v g qs k rest after h =
        expr-acts ph v k rest ∙ ap (Acts (term_places ph v)) h ∙ sym (both held (term_places ph v) (goes ph v g ++ qs) after)

  mutual
    pub stmt-acts : (held : List Claim) (s : Statement) (k : Code) (rest : List NamedActed)
        → code_acts held (stmt varies s k) rest ≡ place_acts varies held (places s) (code_acts held k rest)
    stmt-acts held (t.Block ss) k rest = stmts-acts held ss k rest
    stmt-acts held (t.Declare p x ty v) k rest =
        value-acts held (one_term v) v (ToLocal x) [] _ rest (code_acts held k rest) refl
    stmt-acts held (t.Assign to v) k rest =
        base-acts held (two_terms to v) to _ rest
        ∙ ap (place_acts varies held (base_places (two_terms to v) (base_of to)))
        (value-acts held (two_terms to v) v (target_goal to) (written_places (two_terms to v) (access_of to)) _ rest (code_acts held k rest) (set-acts held (two_terms to v) to k rest))
        ∙ sym (both held (base_places (two_terms to v) (base_of to)) _ (code_acts held k rest))
    stmt-acts held (t.Compound to o v) k rest =
        base-acts held (two_terms to v) to _ rest
        ∙ ap (place_acts varies held (base_places (two_terms to v) (base_of to)))
        (old-acts held (two_terms to v) to _ rest
        ∙ ap (place_acts varies held (read_places (two_terms to v) (access_of to)))
        (expr-acts held (two_terms to v) v _ rest
        ∙ ap (place_acts varies held (term_places (two_terms to v) v)) (set-acts held (two_terms to v) to k rest)
        ∙ sym (both held (term_places (two_terms to v) v) (written_places (two_terms to v) (access_of to)) (code_acts held k rest)))
        ∙ sym (both held (read_places (two_terms to v) (access_of to)) _ (code_acts held k rest)))
        ∙ sym (both held (base_places (two_terms to v) (base_of to)) _ (code_acts held k rest))
    stmt-acts held (t.Perform v) k rest =
        expr-acts held (one_term v) v _ rest ∙ ap (place_acts varies held (term_places (one_term v) v)) (drops held v k rest)
    stmt-acts held (t.Start p v) k rest =
        value-acts held (one_term v) v ToThread (here (one_term v) (is_bad v) p (Starts v)) _ rest (code_acts held k rest)
        (sym (once held (one_term v) (is_bad v) p (Starts v) (code_acts held k rest)))
    stmt-acts held (t.If v a b) k rest =
        expr-acts held (one_term v) v _ rest
        ∙ ap (place_acts varies held (term_places (one_term v) v))
        (stmt-acts held a Done (code_acts held (stmt varies b Done) (code_acts held k rest))
        ∙ ap (place_acts varies held (places a)) (stmt-acts held b Done (code_acts held k rest))
        ∙ sym (both held (places a) (places b) (code_acts held k rest)))
        ∙ sym (both held (term_places (one_term v) v) (places a ++ places b) (code_acts held k rest))
    stmt-acts held (t.While v a) k rest =
        expr-acts held (one_term v) v Done (code_acts held (stmt varies a Done) (code_acts held k rest))
        ∙ ap (place_acts varies held (term_places (one_term v) v)) (stmt-acts held a Done (code_acts held k rest))
        ∙ sym (both held (term_places (one_term v) v) (places a) (code_acts held k rest))
    stmt-acts held (t.Sync v a) k rest =
        expr-acts held (one_term v) v _ rest
        ∙ ap (place_acts varies held (term_places (one_term v) v))
        (stmt-acts (held ++ noted_claim (monitor_of (claim_of varies v))) a Done (code_acts held k rest)
        ∙ ap (λ (l : List Claim). place_acts varies (held ++ l) (places a) (code_acts held k rest)) (noted (claim_of varies v))
        ∙ sym (inwards held (InSync v) (places a) (code_acts held k rest)))
        ∙ sym (both held (term_places (one_term v) v) (here (one_term v) (is_bad v) (stamp_of v).first (Locks v) ++ under (InSync v) (places a)) (code_acts held k rest))
    stmt-acts held (t.SyncClass p c a) k rest =
        stmt-acts (held ++ claim.Class c ∷ []) a Done (code_acts held k rest) ∙ sym (inwards held (InClass c) (places a) (code_acts held k rest))
    stmt-acts held (t.Return p) k rest = refl
    stmt-acts held (t.ReturnValue p v) k rest =
        value-acts held (one_term v) v ToResult [] _ rest (code_acts held k rest) refl

    stmts-acts : (held : List Claim) (ss : Statements) (k : Code) (rest : List NamedActed)
        → code_acts held (stmts varies ss k) rest ≡ place_acts varies held (places_all ss) (code_acts held k rest)
    stmts-acts held t.no_statements k rest = refl
    stmts-acts held (t.statement s ss) k rest =
        stmt-acts held s _ rest
        ∙ ap (place_acts varies held (places s)) (stmts-acts held ss k rest)
        ∙ sym (both held (places s) (places_all ss) (code_acts held k rest))

  member-acts : (c : List ℕ) (sync static : Bool) (s : Statement)
      → acts_in (member_code c sync static (stmt varies s Done)) ≡ place_acts varies [] (member_places c sync static (places s)) []
  member-acts c false static s = stmt-acts [] s Done []
  member-acts c true false s = stmt-acts (claim.Local 0 ∷ []) s Done [] ∙ sym (inwards [] InMember (places s) [])
  member-acts c true true s = stmt-acts (claim.Class c ∷ []) s Done [] ∙ sym (inwards [] (InClass c) (places s) [])

sig-acts : (result : Option ValueType) → acts_in (sig_code result) ≡ []
sig-acts None = refl
sig-acts (Some ty) = refl

pub part-acts : (c : List ℕ) (p : Part) → acts_in (part_code c p) ≡ place_acts (part_varies p) [] (part_places c p) []
part-acts c (part.Header names) = refl
part-acts c (part.Field ty initial) = refl
part-acts c (part.Sig params result) = sig-acts result
part-acts c (part.Body b) = member-acts (varies_of (statement_of b.block)) c b.is_synchronized b.is_static (statement_of b.block)
