-- What the readers of actions, locals and the heads of statements find, the tokens spell.
use Rattle.std.proofs.Common.{◌≡◌, ℕ, zero, suc, ◌+◌, ◌<◌, ◌≤◌, nat_lt, not, ◌&&◌, Bool, true, false, cond, List, [], ◌∷◌, length, Option, Some, None, refl, ap, ◌∙◌, sym, subst, arith, lit≤}
use Rattle.std.proofs.lemmas.Bool.{ltb-false}
use Rattle.std.specs.Str.{bytes_eq}
use Rattle.std.proofs.lemmas.Slice.Eq.{bytes_eq-Decides}
use Rattle.java_phrases.specs.Tree.{Span, Kind, Kind as k, Token, Lexeme, Expr, out-Expr, Expr-F, AssignOp, AssignOp as assign, StepOp, StepOp as step, Action, Action as action, Local, ForFirst, ForFirst as first, Monitor, Monitor as monitor, Ty, Ty as type}
use Rattle.java_phrases.specs.Common.{◌⨾◌, Mark, Sign, Spelled, Named, Optional, TySpells, ty, Found, Lost, ◌>>=◌, pure, fail, same_kind, next_kind, sees, sees_text, sign, word, thread_name}
use Rattle.java_phrases.proofs.Phrases.{and_then-some, pure-is, sign-sound, word-sound, mark-sign}
use Rattle.java_phrases.proofs.TypeLaws.{ty-sound}
use Rattle.java_expressions.specs.declared.tall.Tall.{Tall}
use Rattle.java_expressions.specs.Spelling.{Layered, Spells, ExprSpells, PostSpells}
use Rattle.java_expressions.specs.Reading.{expr, post_read}
use Rattle.java_expressions.proofs.Sound.{IsNode, sign-shorter, word-shorter, expr-sound, post_read-sound}
use Rattle.java_statements.specs.Spelling.{sign_of_assign, sign_of_step, start_name, is_call, is_new, TargetBy, TargetSpells, ActionSpells, LocalSpells, Condition, FirstSpells, ForHeadSpells, MonitorSpells}
use Rattle.java_statements.specs.declared.head.ForHead.{ForHead as Head}
use Rattle.java_statements.specs.Reading.{named, value, condition, is_target_by, is_target, target, assigned, stepped, called_by, called, posted_by, posted, step_before, start, created_by, action_by, action_within, action_read, final_by, final_read, local, first_some, first_by, for_first, value_by, value_if, last_by, for_last, for_open, for_test, for_close, for_rest, for_head, class_monitor, monitor_by, monitor_read, sync_head, begins_local, names_class}

-- ---- one name

named_by : (text : List ℕ) (t : Token) (ts rest : List Token) (at : Span) (b : Bool) → (same_kind t.kind k.Name && bytes_eq t.bytes text) ≡ b → cond b (sign k.Name (t ∷ ts)) Lost ≡ Found at rest
    → Named text (t ∷ ts) rest × (length (t ∷ ts) ≡ suc (length rest))
named_by text t ts rest at true is e =
    let s = sign-sound k.Name (t ∷ ts) rest at e in
    let (u, same, kind, stands) = s in
    let here : t ≡ u = cc in
    let bytes : t.bytes ≡ text = (bytes_eq-Decides t.bytes text).0 (both (same_kind t.kind k.Name) (bytes_eq t.bytes text) is) in
    ((u, same, kind, ap (λ (v : Token). v.bytes) (sym here) ∙ bytes), sign-shorter k.Name (t ∷ ts) rest at s)
  where
    both : (a b : Bool) → (a && b) ≡ true → b ≡ true
    both true b e = e
    both false b e = cc
named_by text t ts rest at false is e = cc

pub named-sound : (text : List ℕ) (ts rest : List Token) (at : Span) → named text ts ≡ Found at rest → Named text ts rest × (length ts ≡ suc (length rest))
unfolding named sees_text
named-sound text [] rest at e = cc
named-sound text (t ∷ ts) rest at e = named_by text t ts rest at (same_kind t.kind k.Name && bytes_eq t.bytes text) refl e

-- ---- values

pub value-sound : (room : ℕ) (ts rest : List Token) (e : Expr) → value room ts ≡ Found e rest → ExprSpells room e ts rest × (length rest < length ts)
unfolding value
value-sound room ts rest e is =
    let (y, mid, is1, e1) = and_then-some (expr room 1 ts) _ e rest is in
    let (node, low, off) = expr-sound room 1 ts mid y (lit≤ tt) is1 in
    pure-is (λ v r. ExprSpells room v ts r × (length r < length ts)) y.expr e mid rest e1 (node.spelled room 1 low (lit≤ tt), node.shorter)

pub condition-sound : (room : ℕ) (ts rest : List Token) (e : Expr) → condition room ts ≡ Found e rest → Condition room e ts rest × (length rest < length ts)
unfolding condition
condition-sound room ts rest e is =
    let (opening, t1, is1, e1) = and_then-some (sign k.LParen ts) _ e rest is in
    let (v, t2, is2, e2) = and_then-some (value room t1) _ e rest e1 in
    let (closing, t3, is3, e3) = and_then-some (sign k.RParen t2) _ e rest e2 in
    let s1 = sign-sound k.LParen ts t1 opening is1 in
    let (s2, less) = value-sound room t1 t2 v is2 in
    let s3 = sign-sound k.RParen t2 t3 closing is3 in
    let a : length ts ≡ suc (length t1) = sign-shorter k.LParen ts t1 opening s1 in
    let b : length t2 ≡ suc (length t3) = sign-shorter k.RParen t2 t3 closing s3 in
    pure-is (λ v r. Condition room v ts r × (length r < length ts)) v e t3 rest e3 ((t1, mark-sign k.LParen opening ts t1 s1, (t2, s2, mark-sign k.RParen closing t2 t3 s3)), omega arith)

-- ---- actions

-- an expression that was read without an operator, within a limit
abbrev pub IsPost : ℕ → List Token → Tall → List Token → Type 0
IsPost room ts y rest = IsNode 8 ts y rest × (y.height ≤ room + 1)

name-node : (room : ℕ) (y : Tall) (name : Lexeme) (ts rest : List Token) → IsPost room ts y rest → out-Expr y.expr ≡ Expr-F.Name name → Spelled k.Name name ts rest
unfolding Spells
name-node room y name ts rest (node, low) is =
    let P : Expr-F Expr → Type 0 = λ f. Layered room (Spells room) 8 f ts rest in
    subst P is (node.spelled (suc room) 8 (omega arith) (lit≤ tt))

not_false : (b : Bool) → not b ≡ true → b ≡ false
not_false true e = cc
not_false false e = refl

target_by-sound : (room : ℕ) (y : Tall) (f : Expr-F Expr) (ts rest : List Token) → IsPost room ts y rest → out-Expr y.expr ≡ f → is_target_by room y.height f ≡ true → TargetBy room y.expr f ts rest
target_by-sound room y (Expr-F.Name name) ts rest node is on = name-node room y name ts rest node is
target_by-sound room y (Expr-F.Select from name) ts rest node is on = node.0.spelled room 8 (ltb-false room y.height (not_false (nat_lt room y.height) on)) (lit≤ tt)
target_by-sound room y _ ts rest node is on = cc

is_target-sound : (room : ℕ) (y : Tall) (ts rest : List Token) → IsPost room ts y rest → is_target room y ≡ true → TargetSpells room y.expr ts rest
unfolding is_target
is_target-sound room y ts rest node on = target_by-sound room y (out-Expr y.expr) ts rest node refl on

-- an action between these tokens, of which it takes some
abbrev IsAction : ℕ → List Token → Action → List Token → Type 0
IsAction room ts a rest = ActionSpells (suc room) a ts rest × (length rest < length ts)

target_if : (room : ℕ) (y : Tall) (e : Expr) (ts mid rest : List Token) (b : Bool) → IsPost room ts y mid → is_target room y ≡ b → cond b (pure y.expr) fail mid ≡ Found e rest → TargetSpells room e ts rest × (length rest < length ts)
target_if room y e ts mid rest true node is f = pure-is (λ v r. TargetSpells room v ts r × (length r < length ts)) y.expr e mid rest f (is_target-sound room y ts mid node is, node.0.shorter)
target_if room y e ts mid rest false node is f = cc

target-sound : (room : ℕ) (ts rest : List Token) (e : Expr) → target room ts ≡ Found e rest → TargetSpells room e ts rest × (length rest < length ts)
unfolding target
target-sound room ts rest e is =
    let (y, mid, is1, e1) = and_then-some (post_read (room + 1) ts) _ e rest is in
    target_if room y e ts mid rest (is_target room y) (post_read-sound (room + 1) ts mid y is1) refl e1

assigned_if : (room : ℕ) (y : Tall) (op : AssignOp) (a : Action) (ts mid rest : List Token) (b : Bool) → IsPost room ts y mid → is_target room y ≡ b
    → cond b (sign (sign_of_assign op) >>= (λ at. value room >>= (λ found. pure (action.Assign y.expr op at found)))) fail mid ≡ Found a rest → IsAction room ts a rest
unfolding ActionSpells
assigned_if room y op a ts mid rest true node is e =
    let (at, t1, is1, e1) = and_then-some (sign (sign_of_assign op) mid) _ a rest e in
    let (v, t2, is2, e2) = and_then-some (value room t1) _ a rest e1 in
    let s1 = sign-sound (sign_of_assign op) mid t1 at is1 in
    let (s2, less) = value-sound room t1 t2 v is2 in
    let b : length mid ≡ suc (length t1) = sign-shorter (sign_of_assign op) mid t1 at s1 in
    let d : length mid < length ts = node.0.shorter in
    pure-is (λ a r. IsAction room ts a r) (action.Assign y.expr op at v) a t2 rest e2 ((mid, is_target-sound room y ts mid node is, (t1, s1, s2)), omega arith)
assigned_if room y op a ts mid rest false node is e = cc

assigned-sound : (room : ℕ) (y : Tall) (op : AssignOp) (a : Action) (ts mid rest : List Token) → IsPost room ts y mid → assigned room y op mid ≡ Found a rest → IsAction room ts a rest
unfolding assigned
assigned-sound room y op a ts mid rest node e = assigned_if room y op a ts mid rest (is_target room y) node refl e

stepped_if : (room : ℕ) (y : Tall) (op : StepOp) (a : Action) (ts mid rest : List Token) (b : Bool) → IsPost room ts y mid → is_target room y ≡ b
    → cond b (sign (sign_of_step op) >>= (λ at. pure (action.StepAfter y.expr op at))) fail mid ≡ Found a rest → IsAction room ts a rest
unfolding ActionSpells
stepped_if room y op a ts mid rest true node is e =
    let (at, t1, is1, e1) = and_then-some (sign (sign_of_step op) mid) _ a rest e in
    let s1 = sign-sound (sign_of_step op) mid t1 at is1 in
    let b : length mid ≡ suc (length t1) = sign-shorter (sign_of_step op) mid t1 at s1 in
    let d : length mid < length ts = node.0.shorter in
    pure-is (λ a r. IsAction room ts a r) (action.StepAfter y.expr op at) a t1 rest e1 ((mid, is_target-sound room y ts mid node is, s1), omega arith)
stepped_if room y op a ts mid rest false node is e = cc

stepped-sound : (room : ℕ) (y : Tall) (op : StepOp) (a : Action) (ts mid rest : List Token) → IsPost room ts y mid → stepped room y op mid ≡ Found a rest → IsAction room ts a rest
unfolding stepped
stepped-sound room y op a ts mid rest node e = stepped_if room y op a ts mid rest (is_target room y) node refl e

whole-post : (room : ℕ) (y : Tall) (ts mid : List Token) → IsPost room ts y mid → PostSpells (suc room) y.expr ts mid
whole-post room y ts mid (node, low) = node.spelled (suc room) 8 (omega arith) (lit≤ tt)

call-sound : (room : ℕ) (y : Tall) (a : Action) (ts mid rest : List Token) → IsPost room ts y mid → is_call (out-Expr y.expr) ≡ true → pure (action.Call y.expr) mid ≡ Found a rest → IsAction room ts a rest
unfolding ActionSpells
call-sound room y a ts mid rest node on e = pure-is (λ a r. IsAction room ts a r) (action.Call y.expr) a mid rest e ((on, whole-post room y ts mid node), node.0.shorter)

new-sound : (room : ℕ) (y : Tall) (a : Action) (ts mid rest : List Token) → IsPost room ts y mid → is_new (out-Expr y.expr) ≡ true → pure (action.New y.expr) mid ≡ Found a rest → IsAction room ts a rest
unfolding ActionSpells
new-sound room y a ts mid rest node on e = pure-is (λ a r. IsAction room ts a r) (action.New y.expr) a mid rest e ((on, whole-post room y ts mid node), node.0.shorter)

called_by-sound : (room : ℕ) (y : Tall) (f : Expr-F Expr) (a : Action) (ts mid rest : List Token) → IsPost room ts y mid → out-Expr y.expr ≡ f → called_by y.expr f mid ≡ Found a rest → IsAction room ts a rest
called_by-sound room y (Expr-F.Call name args closing) a ts mid rest node is e = call-sound room y a ts mid rest node (ap is_call is) e
called_by-sound room y (Expr-F.CallOn from name args closing) a ts mid rest node is e = call-sound room y a ts mid rest node (ap is_call is) e
called_by-sound room y (Expr-F.New at name args closing) a ts mid rest node is e = new-sound room y a ts mid rest node (ap is_new is) e
called_by-sound room y _ a ts mid rest node is e = cc

called-sound : (room : ℕ) (y : Tall) (a : Action) (ts mid rest : List Token) → IsPost room ts y mid → called y.expr mid ≡ Found a rest → IsAction room ts a rest
unfolding called
called-sound room y a ts mid rest node e = called_by-sound room y (out-Expr y.expr) a ts mid rest node refl e

posted_by-sound : (room : ℕ) (y : Tall) (next : Option Kind) (a : Action) (ts mid rest : List Token) → IsPost room ts y mid → posted_by room y next mid ≡ Found a rest → IsAction room ts a rest
posted_by-sound room y (Some k.Assign) a ts mid rest node e = assigned-sound room y assign.Set a ts mid rest node e
posted_by-sound room y (Some k.AddAssign) a ts mid rest node e = assigned-sound room y assign.Add a ts mid rest node e
posted_by-sound room y (Some k.SubtractAssign) a ts mid rest node e = assigned-sound room y assign.Subtract a ts mid rest node e
posted_by-sound room y (Some k.Increment) a ts mid rest node e = stepped-sound room y step.Increment a ts mid rest node e
posted_by-sound room y (Some k.Decrement) a ts mid rest node e = stepped-sound room y step.Decrement a ts mid rest node e
posted_by-sound room y _ a ts mid rest node e = called-sound room y a ts mid rest node e

posted-sound : (room : ℕ) (ts rest : List Token) (a : Action) → posted room ts ≡ Found a rest → IsAction room ts a rest
unfolding posted
posted-sound room ts rest a e =
    let (y, mid, is1, e1) = and_then-some (post_read (room + 1) ts) _ a rest e in
    posted_by-sound room y (next_kind mid) a ts mid rest (post_read-sound (room + 1) ts mid y is1) e1

step_before-sound : (room : ℕ) (op : StepOp) (ts rest : List Token) (a : Action) → step_before room op ts ≡ Found a rest → IsAction room ts a rest
unfolding step_before ActionSpells
step_before-sound room op ts rest a e =
    let (at, t1, is1, e1) = and_then-some (sign (sign_of_step op) ts) _ a rest e in
    let (x, t2, is2, e2) = and_then-some (target room t1) _ a rest e1 in
    let s1 = sign-sound (sign_of_step op) ts t1 at is1 in
    let (s2, less) = target-sound room t1 t2 x is2 in
    let b : length ts ≡ suc (length t1) = sign-shorter (sign_of_step op) ts t1 at s1 in
    pure-is (λ a r. IsAction room ts a r) (action.StepBefore at op x) a t2 rest e2 ((t1, s1, s2), omega arith)

start-sound : (room : ℕ) (ts rest : List Token) (a : Action) → start room ts ≡ Found a rest → IsAction room ts a rest
unfolding start ActionSpells
start-sound room ts rest a e =
    let (at, t1, is1, e1) = and_then-some (sign k.New ts) _ a rest e in
    let (thread, t2, is2, e2) = and_then-some (named thread_name t1) _ a rest e1 in
    let (x, t3, is3, e3) = and_then-some (condition room t2) _ a rest e2 in
    let (dot, t4, is4, e4) = and_then-some (sign k.Dot t3) _ a rest e3 in
    let (begin, t5, is5, e5) = and_then-some (named start_name t4) _ a rest e4 in
    let (opening, t6, is6, e6) = and_then-some (sign k.LParen t5) _ a rest e5 in
    let (closing, t7, is7, e7) = and_then-some (sign k.RParen t6) _ a rest e6 in
    let s1 = sign-sound k.New ts t1 at is1 in
    let (s2, l2) = named-sound thread_name t1 t2 thread is2 in
    let ((u1, p1, (u2, p2, p3)), l3) = condition-sound room t2 t3 x is3 in
    let s4 = sign-sound k.Dot t3 t4 dot is4 in
    let (s5, l5) = named-sound start_name t4 t5 begin is5 in
    let s6 = sign-sound k.LParen t5 t6 opening is6 in
    let s7 = sign-sound k.RParen t6 t7 closing is7 in
    let a1 : length ts ≡ suc (length t1) = sign-shorter k.New ts t1 at s1 in
    let a4 : length t3 ≡ suc (length t4) = sign-shorter k.Dot t3 t4 dot s4 in
    let a6 : length t5 ≡ suc (length t6) = sign-shorter k.LParen t5 t6 opening s6 in
    let a7 : length t6 ≡ suc (length t7) = sign-shorter k.RParen t6 t7 closing s7 in
    pure-is (λ a r. IsAction room ts a r) (action.Start at x closing) a t7 rest e7 (
      (t1, s1, (t2, s2, (u1, p1, (u2, p2, (t3, p3, (t4, mark-sign k.Dot dot t3 t4 s4, (t5, s5, (t6, mark-sign k.LParen opening t5 t6 s6, s7)))))))),
      omega arith,
    )

created_by-sound : (room : ℕ) (b : Bool) (ts rest : List Token) (a : Action) → created_by room b ts ≡ Found a rest → IsAction room ts a rest
created_by-sound room true ts rest a e = start-sound room ts rest a e
created_by-sound room false ts rest a e = posted-sound room ts rest a e

action_by-sound : (room : ℕ) (next : Option Kind) (ts rest : List Token) (a : Action) → action_by room next ts ≡ Found a rest → IsAction room ts a rest
action_by-sound room (Some k.Increment) ts rest a e = step_before-sound room step.Increment ts rest a e
action_by-sound room (Some k.Decrement) ts rest a e = step_before-sound room step.Decrement ts rest a e
action_by-sound room (Some k.New) ts rest a e = created_by-sound room _ ts rest a e
action_by-sound room _ ts rest a e = posted-sound room ts rest a e

pub action_within-sound : (room : ℕ) (ts rest : List Token) (a : Action) → action_within room ts ≡ Found a rest → ActionSpells (suc room) a ts rest × (length rest < length ts)
unfolding action_within
action_within-sound room ts rest a e = action_by-sound room (next_kind ts) ts rest a e

pub action_read-sound : (room : ℕ) (ts rest : List Token) (a : Action) → action_read room ts ≡ Found a rest → ActionSpells room a ts rest × (length rest < length ts)
unfolding action_read
action_read-sound zero ts rest a e = cc
action_read-sound (suc room) ts rest a e = action_within-sound room ts rest a e

-- ---- locals

final_by-sound : (b : Bool) (ts rest : List Token) (w : Option Span) → final_by b ts ≡ Found w rest → Optional (Sign k.Final) w ts rest × (length rest ≤ length ts)
final_by-sound true ts rest w e =
    let (at, t1, is1, e1) = and_then-some (sign k.Final ts) _ w rest e in
    let s = sign-sound k.Final ts t1 at is1 in
    let a : length ts ≡ suc (length t1) = sign-shorter k.Final ts t1 at s in
    pure-is (λ w r. Optional (Sign k.Final) w ts r × (length r ≤ length ts)) (Some at) w t1 rest e1 (s, omega arith)
final_by-sound false ts rest w e = pure-is (λ w r. Optional (Sign k.Final) w ts r × (length r ≤ length ts)) None w ts rest e (refl, omega arith)

final-sound : (ts rest : List Token) (w : Option Span) → final_read ts ≡ Found w rest → Optional (Sign k.Final) w ts rest × (length rest ≤ length ts)
unfolding final_read
final-sound ts rest w e = final_by-sound (sees k.Final ts) ts rest w e

ty-shorter : (y : Ty) (ts rest : List Token) → TySpells y ts rest → length ts ≡ suc (length rest)
ty-shorter (type.Int at) ts rest s = sign-shorter k.IntType ts rest at s
ty-shorter (type.Boolean at) ts rest s = sign-shorter k.BooleanType ts rest at s
ty-shorter (type.Named name) ts rest s = word-shorter k.Name ts rest name s

pub local-sound : (room : ℕ) (ts rest : List Token) (l : Local) → local room ts ≡ Found l rest → LocalSpells room l ts rest × (length rest < length ts)
unfolding local
local-sound room ts rest l e =
    let (w, t1, is1, e1) = and_then-some (final_read ts) _ l rest e in
    let (y, t2, is2, e2) = and_then-some (ty t1) _ l rest e1 in
    let (name, t3, is3, e3) = and_then-some (word k.Name t2) _ l rest e2 in
    let (at, t4, is4, e4) = and_then-some (sign k.Assign t3) _ l rest e3 in
    let (v, t5, is5, e5) = and_then-some (value room t4) _ l rest e4 in
    let (s1, l1) = final-sound ts t1 w is1 in
    let s2 = ty-sound t1 t2 y is2 in
    let s3 = word-sound k.Name t2 t3 name is3 in
    let s4 = sign-sound k.Assign t3 t4 at is4 in
    let (s5, l5) = value-sound room t4 t5 v is5 in
    let a2 : length t1 ≡ suc (length t2) = ty-shorter y t1 t2 s2 in
    let a3 : length t2 ≡ suc (length t3) = word-shorter k.Name t2 t3 name s3 in
    let a4 : length t3 ≡ suc (length t4) = sign-shorter k.Assign t3 t4 at s4 in
    pure-is (λ l r. LocalSpells room l ts r × (length r < length ts)) (record { final_word = w; ty = y; name = name; value = v }) l t5 rest e5
    ((t1, s1, (t2, s2, (t3, s3, (t4, mark-sign k.Assign at t3 t4 s4, s5)))), omega arith)

-- ---- the heads of statements

first_some-sound : (room : ℕ) (b : Bool) (ts rest : List Token) (f : ForFirst) → first_some room b ts ≡ Found f rest → FirstSpells room f ts rest × (length rest ≤ length ts)
first_some-sound room true ts rest f e =
    let (l, t1, is1, e1) = and_then-some (local room ts) _ f rest e in
    let (s, less) = local-sound room ts t1 l is1 in
    pure-is (λ f r. FirstSpells room f ts r × (length r ≤ length ts)) (first.Local l) f t1 rest e1 (s, omega arith)
first_some-sound room false ts rest f e =
    let (a, t1, is1, e1) = and_then-some (action_read room ts) _ f rest e in
    let (s, less) = action_read-sound room ts t1 a is1 in
    pure-is (λ f r. FirstSpells room f ts r × (length r ≤ length ts)) (first.Action a) f t1 rest e1 (s, omega arith)

first_by-sound : (room : ℕ) (b : Bool) (ts rest : List Token) (f : ForFirst) → first_by room b ts ≡ Found f rest → FirstSpells room f ts rest × (length rest ≤ length ts)
first_by-sound room true ts rest f e = pure-is (λ f r. FirstSpells room f ts r × (length r ≤ length ts)) first.Nothing f ts rest e (refl, omega arith)
first_by-sound room false ts rest f e = first_some-sound room (begins_local ts) ts rest f e

first-sound : (room : ℕ) (ts rest : List Token) (f : ForFirst) → for_first room ts ≡ Found f rest → FirstSpells room f ts rest × (length rest ≤ length ts)
unfolding for_first
first-sound room ts rest f e = first_by-sound room (sees k.Semicolon ts) ts rest f e

value_by-sound : (room : ℕ) (b : Bool) (ts rest : List Token) (v : Option Expr) → value_by room b ts ≡ Found v rest → Optional (ExprSpells room) v ts rest × (length rest ≤ length ts)
value_by-sound room true ts rest v e = pure-is (λ v r. Optional (ExprSpells room) v ts r × (length r ≤ length ts)) None v ts rest e (refl, omega arith)
value_by-sound room false ts rest v e =
    let (x, t1, is1, e1) = and_then-some (value room ts) _ v rest e in
    let (s, less) = value-sound room ts t1 x is1 in
    pure-is (λ v r. Optional (ExprSpells room) v ts r × (length r ≤ length ts)) (Some x) v t1 rest e1 (s, omega arith)

pub value_if-sound : (room : ℕ) (ts rest : List Token) (v : Option Expr) → value_if room ts ≡ Found v rest → Optional (ExprSpells room) v ts rest × (length rest ≤ length ts)
unfolding value_if
value_if-sound room ts rest v e = value_by-sound room (sees k.Semicolon ts) ts rest v e

last_by-sound : (room : ℕ) (b : Bool) (ts rest : List Token) (v : Option Action) → last_by room b ts ≡ Found v rest → Optional (ActionSpells room) v ts rest × (length rest ≤ length ts)
last_by-sound room true ts rest v e = pure-is (λ v r. Optional (ActionSpells room) v ts r × (length r ≤ length ts)) None v ts rest e (refl, omega arith)
last_by-sound room false ts rest v e =
    let (x, t1, is1, e1) = and_then-some (action_read room ts) _ v rest e in
    let (s, less) = action_read-sound room ts t1 x is1 in
    pure-is (λ v r. Optional (ActionSpells room) v ts r × (length r ≤ length ts)) (Some x) v t1 rest e1 (s, omega arith)

last-sound : (room : ℕ) (ts rest : List Token) (v : Option Action) → for_last room ts ≡ Found v rest → Optional (ActionSpells room) v ts rest × (length rest ≤ length ts)
unfolding for_last
last-sound room ts rest v e = last_by-sound room (sees k.RParen ts) ts rest v e

open-sound : (room : ℕ) (ts rest : List Token) (f : ForFirst) → for_open room ts ≡ Found f rest → (Mark k.LParen ⨾ FirstSpells room f ⨾ Mark k.Semicolon) ts rest × (length rest < length ts)
unfolding for_open
open-sound room ts rest f e =
    let (opening, t1, is1, e1) = and_then-some (sign k.LParen ts) _ f rest e in
    let (x, t2, is2, e2) = and_then-some (for_first room t1) _ f rest e1 in
    let (at, t3, is3, e3) = and_then-some (sign k.Semicolon t2) _ f rest e2 in
    let s1 = sign-sound k.LParen ts t1 opening is1 in
    let (s2, l2) = first-sound room t1 t2 x is2 in
    let s3 = sign-sound k.Semicolon t2 t3 at is3 in
    let a1 : length ts ≡ suc (length t1) = sign-shorter k.LParen ts t1 opening s1 in
    let a3 : length t2 ≡ suc (length t3) = sign-shorter k.Semicolon t2 t3 at s3 in
    pure-is (λ f r. (Mark k.LParen ⨾ FirstSpells room f ⨾ Mark k.Semicolon) ts r × (length r < length ts)) x f t3 rest e3
    ((t1, mark-sign k.LParen opening ts t1 s1, (t2, s2, mark-sign k.Semicolon at t2 t3 s3)), omega arith)

test-sound : (room : ℕ) (ts rest : List Token) (v : Option Expr) → for_test room ts ≡ Found v rest → (Optional (ExprSpells room) v ⨾ Mark k.Semicolon) ts rest × (length rest < length ts)
unfolding for_test
test-sound room ts rest v e =
    let (x, t1, is1, e1) = and_then-some (value_if room ts) _ v rest e in
    let (at, t2, is2, e2) = and_then-some (sign k.Semicolon t1) _ v rest e1 in
    let (s1, l1) = value_if-sound room ts t1 x is1 in
    let s2 = sign-sound k.Semicolon t1 t2 at is2 in
    let a2 : length t1 ≡ suc (length t2) = sign-shorter k.Semicolon t1 t2 at s2 in
    pure-is (λ v r. (Optional (ExprSpells room) v ⨾ Mark k.Semicolon) ts r × (length r < length ts)) x v t2 rest e2 ((t1, s1, mark-sign k.Semicolon at t1 t2 s2), omega arith)

close-sound : (room : ℕ) (ts rest : List Token) (v : Option Action) → for_close room ts ≡ Found v rest → (Optional (ActionSpells room) v ⨾ Mark k.RParen) ts rest × (length rest < length ts)
unfolding for_close
close-sound room ts rest v e =
    let (x, t1, is1, e1) = and_then-some (for_last room ts) _ v rest e in
    let (at, t2, is2, e2) = and_then-some (sign k.RParen t1) _ v rest e1 in
    let (s1, l1) = last-sound room ts t1 x is1 in
    let s2 = sign-sound k.RParen t1 t2 at is2 in
    let a2 : length t1 ≡ suc (length t2) = sign-shorter k.RParen t1 t2 at s2 in
    pure-is (λ v r. (Optional (ActionSpells room) v ⨾ Mark k.RParen) ts r × (length r < length ts)) x v t2 rest e2 ((t1, s1, mark-sign k.RParen at t1 t2 s2), omega arith)

rest-sound : (room : ℕ) (f : ForFirst) (start ts rest : List Token) (h : Head) → (Mark k.LParen ⨾ FirstSpells room f ⨾ Mark k.Semicolon) start ts × (length ts < length start) → for_rest room f ts ≡ Found h rest
    → ForHeadSpells room h.first h.test h.last start rest × (length rest < length start)
unfolding for_rest
rest-sound room f start ts rest h ((u1, p1, (u2, p2, p3)), l0) e =
    let (v, t1, is1, e1) = and_then-some (for_test room ts) _ h rest e in
    let (last, t2, is2, e2) = and_then-some (for_close room t1) _ h rest e1 in
    let ((u3, q1, q2), l1) = test-sound room ts t1 v is1 in
    let ((u4, r1, r2), l2) = close-sound room t1 t2 last is2 in
    pure-is (λ h r. ForHeadSpells room h.first h.test h.last start r × (length r < length start)) (record { first = f; test = v; last = last }) h t2 rest e2
    ((u1, p1, (u2, p2, (ts, p3, (u3, q1, (t1, q2, (u4, r1, r2)))))), omega arith)

pub for_head-sound : (room : ℕ) (ts rest : List Token) (h : Head) → for_head room ts ≡ Found h rest → ForHeadSpells room h.first h.test h.last ts rest × (length rest < length ts)
unfolding for_head
for_head-sound room ts rest h e =
    let (f, t1, is1, e1) = and_then-some (for_open room ts) _ h rest e in
    rest-sound room f ts t1 rest h (open-sound room ts t1 f is1) e1

class_monitor-sound : (room : ℕ) (ts rest : List Token) (m : Monitor) → class_monitor ts ≡ Found m rest → MonitorSpells room m ts rest × (length rest ≤ length ts)
unfolding class_monitor
class_monitor-sound room ts rest m e =
    let (name, t1, is1, e1) = and_then-some (word k.Name ts) _ m rest e in
    let (dot, t2, is2, e2) = and_then-some (sign k.Dot t1) _ m rest e1 in
    let (at, t3, is3, e3) = and_then-some (sign k.Class t2) _ m rest e2 in
    let s1 = word-sound k.Name ts t1 name is1 in
    let s2 = sign-sound k.Dot t1 t2 dot is2 in
    let s3 = sign-sound k.Class t2 t3 at is3 in
    let a1 : length ts ≡ suc (length t1) = word-shorter k.Name ts t1 name s1 in
    let a2 : length t1 ≡ suc (length t2) = sign-shorter k.Dot t1 t2 dot s2 in
    let a3 : length t2 ≡ suc (length t3) = sign-shorter k.Class t2 t3 at s3 in
    pure-is (λ m r. MonitorSpells room m ts r × (length r ≤ length ts)) (monitor.Class name at) m t3 rest e3 ((t1, s1, (t2, mark-sign k.Dot dot t1 t2 s2, s3)), omega arith)

monitor_by-sound : (room : ℕ) (b : Bool) (ts rest : List Token) (m : Monitor) → monitor_by room b ts ≡ Found m rest → MonitorSpells room m ts rest × (length rest ≤ length ts)
monitor_by-sound room true ts rest m e = class_monitor-sound room ts rest m e
monitor_by-sound room false ts rest m e =
    let (x, t1, is1, e1) = and_then-some (value room ts) _ m rest e in
    let (s, less) = value-sound room ts t1 x is1 in
    pure-is (λ m r. MonitorSpells room m ts r × (length r ≤ length ts)) (monitor.Expr x) m t1 rest e1 (s, omega arith)

monitor-sound : (room : ℕ) (ts rest : List Token) (m : Monitor) → monitor_read room ts ≡ Found m rest → MonitorSpells room m ts rest × (length rest ≤ length ts)
unfolding monitor_read
monitor-sound room ts rest m e = monitor_by-sound room (names_class ts) ts rest m e

pub sync_head-sound : (room : ℕ) (ts rest : List Token) (m : Monitor) → sync_head room ts ≡ Found m rest → (Mark k.LParen ⨾ MonitorSpells room m ⨾ Mark k.RParen) ts rest × (length rest < length ts)
unfolding sync_head
sync_head-sound room ts rest m e =
    let (opening, t1, is1, e1) = and_then-some (sign k.LParen ts) _ m rest e in
    let (x, t2, is2, e2) = and_then-some (monitor_read room t1) _ m rest e1 in
    let (closing, t3, is3, e3) = and_then-some (sign k.RParen t2) _ m rest e2 in
    let s1 = sign-sound k.LParen ts t1 opening is1 in
    let (s2, l2) = monitor-sound room t1 t2 x is2 in
    let s3 = sign-sound k.RParen t2 t3 closing is3 in
    let a1 : length ts ≡ suc (length t1) = sign-shorter k.LParen ts t1 opening s1 in
    let a3 : length t2 ≡ suc (length t3) = sign-shorter k.RParen t2 t3 closing s3 in
    pure-is (λ m r. (Mark k.LParen ⨾ MonitorSpells room m ⨾ Mark k.RParen) ts r × (length r < length ts)) x m t3 rest e3
    ((t1, mark-sign k.LParen opening ts t1 s1, (t2, s2, mark-sign k.RParen closing t2 t3 s3)), omega arith)
