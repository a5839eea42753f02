-- What tokens spell of actions, locals and the heads of statements, the readers find.
use Rattle.std.proofs.Common.{◌≡◌, ℕ, zero, suc, ◌+◌, ◌≤◌, not, true, false, List, ◌∷◌, Option, Some, None, refl, ap, ◌∙◌, sym, subst, arith, lit≤}
use Rattle.std.proofs.Math.Nat.{le_refl}
use Rattle.std.proofs.lemmas.Bool.{le-ltb}
use Rattle.std.specs.Str.{bytes_eq}
use Rattle.std.proofs.lemmas.Slice.Eq.{bytes_eq-Decides}
use Rattle.java_phrases.specs.Tree.{Span, Kind, Kind as k, Token, Lexeme, Expr, out-Expr, Expr-F, AssignOp, AssignOp as assign, StepOp, StepOp as step, Action, Action as action, Local, ForFirst, ForFirst as first, Monitor, Monitor as monitor}
use Rattle.java_phrases.specs.Common.{◌⨾◌, Mark, Sign, Spelled, Named, Optional, Outcome, Found, same_kind, next_kind, kind_at, text_at, sees, sees_text, thread_name}
use Rattle.java_tree.specs.declared.expr.Expr.TheViews.{roll-out-Expr}
use Rattle.java_tree.specs.declared.stmt.BlockItem.TheVariants as item
use Rattle.java_phrases.proofs.Phrases.{is_same, next-sign, next-mark, sign-complete, word-complete, sign-mark}
use Rattle.java_phrases.proofs.TypeLaws.{ty-complete}
use Rattle.java_expressions.specs.declared.tall.Tall.{Tall}
use Rattle.java_expressions.specs.Spelling.{Layered, Spells, ExprSpells}
use Rattle.java_expressions.specs.Reading.{tall, expr, post_read, operator}
use Rattle.java_expressions.proofs.Sound.{expr-sound}
use Rattle.java_expressions.proofs.Complete.{Closed, closed-by, sees-kind, FindsTall, same-tree}
use Rattle.java_expressions.proofs.Chains.{expr-complete, post-complete}
use Rattle.java_statements.specs.Spelling.{sign_of_assign, sign_of_step, start_name, is_call, is_new, TargetBy, TargetSpells, ActionSpells, LocalSpells, Condition, FirstSpells, ForHeadSpells, MonitorSpells, DeclarationSpells}
use Rattle.java_statements.specs.Reading.{named, value, condition, is_target_by, is_target, target, assigned, stepped, called_by, called, posted_by, posted, step_before, start, action_by, action_within, action_read, final_read, local, declaration_within, declaration, for_first, value_if, for_last, for_open, for_test, for_close, for_rest, for_head, class_monitor, monitor_read, sync_head, begins_local, names_class}
use Rattle.java_statements.proofs.Starts.{begins_value, begins_post, begins_action, Opening, spells-opening, target-opening, ends_action, Ended, ended-semicolon, ended-mark, ended-off, action-begins, local-begins, no_final, dot_class}

-- ---- one name

pub named-complete : (text : List ℕ) (ts rest : List Token) → Named text ts rest → (at : Span) × (named text ts ≡ Found at rest)
unfolding named sees_text
named-complete text ts rest (t, e, is, bytes) =
    let on : bytes_eq t.bytes text ≡ true = (bytes_eq-Decides t.bytes text).1 bytes in
    (t.span, rw (e, is_same t.kind k.Name is, on) (sign-complete k.Name (t ∷ rest) rest t.span (t, refl, is, refl)))

-- ---- values

ended-kinds : (kind : Kind) → ends_action kind ≡ true → (operator kind ≡ None) × (same_kind kind k.Dot ≡ false) × (same_kind kind k.LParen ≡ false)
ended-kinds k.Semicolon e = (refl, refl, refl)
ended-kinds k.RParen e = (refl, refl, refl)
ended-kinds _ e = cc

closed-end : (ts : List Token) → Ended ts → Closed 1 ts
closed-end ts end = let (a, b, c) = ended-kinds end.kind end.is in closed-by 1 end.kind ts end.next a b c

pub value-complete : (room : ℕ) (e : Expr) (ts rest : List Token) → ExprSpells room e ts rest → Ended rest → value room ts ≡ Found e rest
unfolding value
value-complete room e ts rest s end = let y = expr-complete room room 1 e ts rest (le_refl room) (lit≤ tt) s (closed-end rest end) in rw (y.is) refl

pub condition-complete : (room : ℕ) (e : Expr) (ts rest : List Token) → Condition room e ts rest → condition room ts ≡ Found e rest
unfolding condition
condition-complete room e ts rest (t1, m1, (t2, s, m2)) =
    let (opening, s1) = sign-mark k.LParen ts t1 m1 in
    let (closing, s3) = sign-mark k.RParen t2 rest m2 in
    rw (sign-complete k.LParen ts t1 opening s1, value-complete room e t1 t2 s (ended-mark k.RParen t2 rest refl m2), sign-complete k.RParen t2 rest closing s3) refl

-- ---- targets

posts-complete : (limit m : ℕ) (e : Expr) (ts rest : List Token) → m ≤ limit → Spells m 8 e ts rest → sees k.Dot rest ≡ false → sees k.LParen rest ≡ false → FindsTall m (post_read limit ts) e rest
unfolding post_read Spells
posts-complete zero zero e ts rest fits s stop free = absurd s
posts-complete zero (suc m) e ts rest fits s stop free = absurd (omega arith)
posts-complete (suc room) zero e ts rest fits s stop free = absurd s
posts-complete (suc room) (suc m) e ts rest fits s stop free =
    let found = (post-complete room (expr room) (expr-sound room) (expr-complete room) m (out-Expr e) ts rest (omega arith) s stop free).finds in
    record { height = found.height; low = let h = found.low in omega arith; is = found.is ∙ same-tree found.height rest (roll-out-Expr e) }

-- a target that was read
record FindsTarget (room : ℕ) (outcome : Outcome Tall) (e : Expr) (rest : List Token) : Type 0 where
  height : ℕ
  is : outcome ≡ Found (tall e height) rest
  on : is_target room (tall e height) ≡ true

target_by-found : (room : ℕ) (e : Expr) (f : Expr-F Expr) (ts rest : List Token) → out-Expr e ≡ f → TargetBy room e f ts rest → sees k.Dot rest ≡ false → sees k.LParen rest ≡ false → FindsTarget room (post_read (room + 1) ts) e rest
unfolding is_target Spells
target_by-found room e (Expr-F.Name w) ts rest is s stop free =
    let P : Expr-F Expr → Type 0 = λ g. Layered room (Spells room) 8 g ts rest in
    let found = posts-complete (room + 1) (suc room) e ts rest (omega arith) (subst P (sym is) s) stop free in
    record { height = found.height; is = found.is; on = ap (is_target_by room found.height) is }
target_by-found room e (Expr-F.Select from w) ts rest is s stop free =
    let found = posts-complete (room + 1) room e ts rest (omega arith) s stop free in
    record { height = found.height; is = found.is; on = ap (is_target_by room found.height) is ∙ ap not (le-ltb room found.height found.low) }
target_by-found room e _ ts rest is s stop free = absurd s

target-found : (room : ℕ) (e : Expr) (ts rest : List Token) → TargetSpells room e ts rest → sees k.Dot rest ≡ false → sees k.LParen rest ≡ false → FindsTarget room (post_read (room + 1) ts) e rest
target-found room e ts rest s stop free = target_by-found room e (out-Expr e) ts rest refl s stop free

target-complete : (room : ℕ) (e : Expr) (ts rest : List Token) → TargetSpells room e ts rest → Ended rest → target room ts ≡ Found e rest
unfolding target
target-complete room e ts rest s end =
    let found = target-found room e ts rest s (ended-off k.Dot rest refl end) (ended-off k.LParen rest refl end) in
    rw (found.is, found.on) refl

-- ---- actions that begin with an expression

assign-no_dot : (o : AssignOp) → same_kind (sign_of_assign o) k.Dot ≡ false
assign-no_dot assign.Set = refl
assign-no_dot _ = refl

assign-no_call : (o : AssignOp) → same_kind (sign_of_assign o) k.LParen ≡ false
assign-no_call assign.Set = refl
assign-no_call _ = refl

step-no_dot : (o : StepOp) → same_kind (sign_of_step o) k.Dot ≡ false
step-no_dot step.Increment = refl
step-no_dot step.Decrement = refl

step-no_call : (o : StepOp) → same_kind (sign_of_step o) k.LParen ≡ false
step-no_call step.Increment = refl
step-no_call step.Decrement = refl

posted-assign : (room : ℕ) (y : Tall) (o : AssignOp) → posted_by room y (Some (sign_of_assign o)) ≡ assigned room y o
posted-assign room y assign.Set = refl
posted-assign room y _ = refl

posted-step : (room : ℕ) (y : Tall) (o : StepOp) → posted_by room y (Some (sign_of_step o)) ≡ stepped room y o
posted-step room y step.Increment = refl
posted-step room y step.Decrement = refl

posted-end : (room : ℕ) (y : Tall) (kind : Kind) → ends_action kind ≡ true → posted_by room y (Some kind) ≡ called y.expr
posted-end room y k.Semicolon e = refl
posted-end room y k.RParen e = refl
posted-end room y _ e = cc

assigned-is : (room : ℕ) (y : Tall) (o : AssignOp) (at : Span) (v : Expr) (ts t1 rest : List Token) → is_target room y ≡ true → Sign (sign_of_assign o) at ts t1 → ExprSpells room v t1 rest → Ended rest
    → assigned room y o ts ≡ Found (action.Assign y.expr o at v) rest
unfolding assigned
assigned-is room y o at v ts t1 rest on s1 s2 end = rw (on, sign-complete (sign_of_assign o) ts t1 at s1, value-complete room v t1 rest s2 end) refl

stepped-is : (room : ℕ) (y : Tall) (o : StepOp) (at : Span) (ts rest : List Token) → is_target room y ≡ true → Sign (sign_of_step o) at ts rest → stepped room y o ts ≡ Found (action.StepAfter y.expr o at) rest
unfolding stepped
stepped-is room y o at ts rest on s1 = rw (on, sign-complete (sign_of_step o) ts rest at s1) refl

called-call : (e : Expr) (f : Expr-F Expr) (ts : List Token) → is_call f ≡ true → called_by e f ts ≡ Found (action.Call e) ts
called-call e (Expr-F.Call name args closing) ts is = refl
called-call e (Expr-F.CallOn from name args closing) ts is = refl
called-call e _ ts is = cc

called-new : (e : Expr) (f : Expr-F Expr) (ts : List Token) → is_new f ≡ true → called_by e f ts ≡ Found (action.New e) ts
called-new e (Expr-F.New at name args closing) ts is = refl
called-new e _ ts is = cc

call-is : (e : Expr) (ts : List Token) → is_call (out-Expr e) ≡ true → called e ts ≡ Found (action.Call e) ts
unfolding called
call-is e ts is = called-call e (out-Expr e) ts is

new-is : (e : Expr) (ts : List Token) → is_new (out-Expr e) ≡ true → called e ts ≡ Found (action.New e) ts
unfolding called
new-is e ts is = called-new e (out-Expr e) ts is

posted-assigned : (room : ℕ) (target : Expr) (o : AssignOp) (at : Span) (v : Expr) (ts mid t1 rest : List Token) → TargetSpells room target ts mid → Sign (sign_of_assign o) at mid t1 → ExprSpells room v t1 rest → Ended rest
    → posted room ts ≡ Found (action.Assign target o at v) rest
unfolding posted
posted-assigned room target o at v ts mid t1 rest s s1 s2 end =
    let next = next-sign (sign_of_assign o) at mid t1 s1 in
    let found = target-found room target ts mid s (sees-kind k.Dot (sign_of_assign o) mid next ∙ assign-no_dot o) (sees-kind k.LParen (sign_of_assign o) mid next ∙ assign-no_call o) in
    let y : Tall = tall target found.height in
    rw (found.is, next) (ap (λ q. q mid) (posted-assign room y o) ∙ assigned-is room y o at v mid t1 rest found.on s1 s2 end)

posted-stepped : (room : ℕ) (target : Expr) (o : StepOp) (at : Span) (ts mid rest : List Token) → TargetSpells room target ts mid → Sign (sign_of_step o) at mid rest → posted room ts ≡ Found (action.StepAfter target o at) rest
unfolding posted
posted-stepped room target o at ts mid rest s s1 =
    let next = next-sign (sign_of_step o) at mid rest s1 in
    let found = target-found room target ts mid s (sees-kind k.Dot (sign_of_step o) mid next ∙ step-no_dot o) (sees-kind k.LParen (sign_of_step o) mid next ∙ step-no_call o) in
    let y : Tall = tall target found.height in
    rw (found.is, next) (ap (λ q. q mid) (posted-step room y o) ∙ stepped-is room y o at mid rest found.on s1)

posted-called : (room : ℕ) (e : Expr) (a : Action) (ts rest : List Token) → Spells (suc room) 8 e ts rest → called e rest ≡ Found a rest → Ended rest → posted room ts ≡ Found a rest
unfolding posted
posted-called room e a ts rest s is end =
    let found = posts-complete (room + 1) (suc room) e ts rest (omega arith) s (ended-off k.Dot rest refl end) (ended-off k.LParen rest refl end) in
    let y : Tall = tall e found.height in
    rw (found.is, end.next) (ap (λ q. q rest) (posted-end room y end.kind end.is) ∙ is)

action-posted : (room : ℕ) (kind : Kind) (ts : List Token) → begins_post kind ≡ true → (kind ≡ k.New → text_at 1 k.Name thread_name ts ≡ false) → action_by room (Some kind) ts ≡ posted room ts
action-posted room k.Increment ts on h = cc
action-posted room k.Decrement ts on h = cc
action-posted room k.New ts on h = let off = h refl in rw off refl
action-posted room _ ts on h = refl

action-post : (room : ℕ) (ts rest : List Token) → Opening 8 ts rest → action_within room ts ≡ posted room ts
unfolding action_within
action-post room ts rest o = rw (o.next) (action-posted room o.kind ts (o.post (lit≤ tt)) o.thread)

-- ---- the other actions

step-is : (room : ℕ) (o : StepOp) (at : Span) (target : Expr) (ts t1 rest : List Token) → Sign (sign_of_step o) at ts t1 → TargetSpells room target t1 rest → Ended rest → step_before room o ts ≡ Found (action.StepBefore at o target) rest
unfolding step_before
step-is room o at target ts t1 rest s1 s2 end = rw (sign-complete (sign_of_step o) ts t1 at s1, target-complete room target t1 rest s2 end) refl

action-step : (room : ℕ) (o : StepOp) (ts : List Token) → next_kind ts ≡ Some (sign_of_step o) → action_within room ts ≡ step_before room o ts
unfolding action_within
action-step room step.Increment ts e = rw e refl
action-step room step.Decrement ts e = rw e refl

thread-next : (at : Span) (ts t1 t2 : List Token) → Sign k.New at ts t1 → Named thread_name t1 t2 → text_at 1 k.Name thread_name ts ≡ true
unfolding text_at
thread-next at ts t1 t2 (t, e, is, stands) (u, f, sort, bytes) =
    let on : bytes_eq u.bytes thread_name ≡ true = (bytes_eq-Decides u.bytes thread_name).1 bytes in
    rw (e, f, is_same u.kind k.Name sort, on) refl

action-start : (room : ℕ) (at : Span) (ts t1 t2 : List Token) → Sign k.New at ts t1 → Named thread_name t1 t2 → action_within room ts ≡ start room ts
unfolding action_within
action-start room at ts t1 t2 s n = rw (next-sign k.New at ts t1 s, thread-next at ts t1 t2 s n) refl

start-is : (room : ℕ) (at : Span) (e : Expr) (closing : Span) (ts t1 t2 t4 t5 t6 t7 rest : List Token) → Sign k.New at ts t1 → Named thread_name t1 t2 → Condition room e t2 t4 → Mark k.Dot t4 t5 → Named start_name t5 t6 → Mark k.LParen t6 t7 → Sign k.RParen closing t7 rest
    → start room ts ≡ Found (action.Start at e closing) rest
unfolding start
start-is room at e closing ts t1 t2 t4 t5 t6 t7 rest s1 n1 s2 m1 n2 m2 s3 =
    let (a, f1) = named-complete thread_name t1 t2 n1 in
    let (b, d1) = sign-mark k.Dot t4 t5 m1 in
    let (c, f2) = named-complete start_name t5 t6 n2 in
    let (d, d2) = sign-mark k.LParen t6 t7 m2 in
    rw (sign-complete k.New ts t1 at s1, f1, condition-complete room e t2 t4 s2, sign-complete k.Dot t4 t5 b d1, f2, sign-complete k.LParen t6 t7 d d2, sign-complete k.RParen t7 rest closing s3) refl

pub action_within-complete : (room : ℕ) (a : Action) (ts rest : List Token) → ActionSpells (suc room) a ts rest → Ended rest → action_within room ts ≡ Found a rest
unfolding ActionSpells
action_within-complete room (action.Assign target o at v) ts rest (mid, s, (t1, s1, s2)) end =
    action-post room ts mid (target-opening room target ts mid s) ∙ posted-assigned room target o at v ts mid t1 rest s s1 s2 end
action_within-complete room (action.StepAfter target o at) ts rest (mid, s, s1) end =
    action-post room ts mid (target-opening room target ts mid s) ∙ posted-stepped room target o at ts mid rest s s1
action_within-complete room (action.StepBefore at o target) ts rest (t1, s1, s2) end =
    action-step room o ts (next-sign (sign_of_step o) at ts t1 s1) ∙ step-is room o at target ts t1 rest s1 s2 end
action_within-complete room (action.Call e) ts rest (is, s) end =
    action-post room ts rest (spells-opening (suc room) 8 e ts rest s) ∙ posted-called room e (action.Call e) ts rest s (call-is e rest is) end
action_within-complete room (action.New e) ts rest (is, s) end =
    action-post room ts rest (spells-opening (suc room) 8 e ts rest s) ∙ posted-called room e (action.New e) ts rest s (new-is e rest is) end
action_within-complete room (action.Start at e closing) ts rest (t1, s1, (t2, n1, (t3, m1, (t4, s2, (t5, m2, (t6, m3, (t7, n2, (t8, m4, s3)))))))) end =
    action-start room at ts t1 t2 s1 n1 ∙ start-is room at e closing ts t1 t2 t5 t6 t7 t8 rest s1 n1 (t3, m1, (t4, s2, m2)) m3 n2 m4 s3

pub action_read-complete : (limit : ℕ) (a : Action) (ts rest : List Token) → ActionSpells limit a ts rest → Ended rest → action_read limit ts ≡ Found a rest
unfolding action_read ActionSpells
action_read-complete zero a ts rest s end = absurd s
action_read-complete (suc room) a ts rest s end = action_within-complete room a ts rest s end

-- ---- locals

final-complete : (w : Option Span) (ts t1 : List Token) → Optional (Sign k.Final) w ts t1 → sees k.Final t1 ≡ false → final_read ts ≡ Found w t1
unfolding final_read
final-complete None ts t1 s off = rw (s, off) refl
final-complete (Some at) ts t1 s off = rw (sees-kind k.Final k.Final ts (next-sign k.Final at ts t1 s), sign-complete k.Final ts t1 at s) refl

pub local-complete : (room : ℕ) (l : Local) (ts rest : List Token) → LocalSpells room l ts rest → Ended rest → local room ts ≡ Found l rest
unfolding local
local-complete room l ts rest (t1, s1, (t2, s2, (t3, s3, (t4, m4, s5)))) end =
    let (at, s4) = sign-mark k.Assign t3 t4 m4 in
    rw (final-complete l.final_word ts t1 s1 (no_final l.ty l.name t1 t2 t3 s2 s3), ty-complete l.ty t1 t2 s2, word-complete k.Name t2 t3 l.name s3, sign-complete k.Assign t3 t4 at s4, value-complete room l.value t4 rest s5 end) refl

pub locals-begin : (room : ℕ) (l : Local) (ts rest : List Token) → LocalSpells room l ts rest → (begins_local ts ≡ true) × (sees k.Semicolon ts ≡ false) × (sees k.RBrace ts ≡ false) × (sees k.Else ts ≡ false)
locals-begin room l ts rest (t1, s1, (t2, s2, (t3, s3, tail))) = local-begins l.final_word l.ty l.name ts t1 t2 t3 s1 s2 s3

pub declaration-complete : (limit : ℕ) (l : Local) (at : Span) (ts rest : List Token) → DeclarationSpells limit l at ts rest → (declaration limit ts ≡ Found (item.Local l at) rest) × (begins_local ts ≡ true) × (sees k.RBrace ts ≡ false) × (sees k.Else ts ≡ false)
unfolding declaration declaration_within
declaration-complete zero l at ts rest s = absurd s
declaration-complete (suc room) l at ts rest (t1, s1, s2) =
    let (a, b, c, d) = locals-begin room l ts t1 s1 in
    (rw (local-complete room l ts t1 s1 (ended-semicolon at t1 rest s2), sign-complete k.Semicolon t1 rest at s2) refl, a, c, d)

-- ---- the heads of statements

action-others : (kind : Kind) → begins_action kind ≡ true → (same_kind kind k.Semicolon ≡ false) × (same_kind kind k.RParen ≡ false)
action-others k.Semicolon e = cc
action-others k.RParen e = cc
action-others _ e = (refl, refl)

value-others : (kind : Kind) → begins_value kind ≡ true → same_kind kind k.Semicolon ≡ false
value-others k.Semicolon e = cc
value-others _ e = refl

first-complete : (room : ℕ) (f : ForFirst) (ts mid rest : List Token) → FirstSpells room f ts mid → Mark k.Semicolon mid rest → for_first room ts ≡ Found f mid
unfolding for_first
first-complete room first.Nothing ts mid rest s m = rw (s, sees-kind k.Semicolon k.Semicolon mid (next-mark k.Semicolon mid rest m)) refl
first-complete room (first.Local l) ts mid rest s m =
    let (a, b, c, d) = locals-begin room l ts mid s in
    rw (b, a, local-complete room l ts mid s (ended-mark k.Semicolon mid rest refl m)) refl
first-complete room (first.Action does) ts mid rest s m =
    let end = ended-mark k.Semicolon mid rest refl m in
    let o = action-begins room does ts mid s end in
    rw (sees-kind k.Semicolon o.kind ts o.next ∙ (action-others o.kind o.acts).0, o.no_local, action_read-complete room does ts mid s end) refl

pub value_if-complete : (room : ℕ) (v : Option Expr) (ts mid rest : List Token) → Optional (ExprSpells room) v ts mid → Mark k.Semicolon mid rest → value_if room ts ≡ Found v mid
unfolding value_if
value_if-complete room None ts mid rest s m = rw (s, sees-kind k.Semicolon k.Semicolon mid (next-mark k.Semicolon mid rest m)) refl
value_if-complete room (Some e) ts mid rest s m =
    let o = spells-opening room 1 e ts mid s in
    rw (sees-kind k.Semicolon o.kind ts o.next ∙ value-others o.kind o.value, value-complete room e ts mid s (ended-mark k.Semicolon mid rest refl m)) refl

last-complete : (room : ℕ) (v : Option Action) (ts mid rest : List Token) → Optional (ActionSpells room) v ts mid → Mark k.RParen mid rest → for_last room ts ≡ Found v mid
unfolding for_last
last-complete room None ts mid rest s m = rw (s, sees-kind k.RParen k.RParen mid (next-mark k.RParen mid rest m)) refl
last-complete room (Some a) ts mid rest s m =
    let end = ended-mark k.RParen mid rest refl m in
    let o = action-begins room a ts mid s end in
    rw (sees-kind k.RParen o.kind ts o.next ∙ (action-others o.kind o.acts).1, action_read-complete room a ts mid s end) refl

open-complete : (room : ℕ) (f : ForFirst) (ts t1 t2 rest : List Token) → Mark k.LParen ts t1 → FirstSpells room f t1 t2 → Mark k.Semicolon t2 rest → for_open room ts ≡ Found f rest
unfolding for_open
open-complete room f ts t1 t2 rest m1 s m2 =
    let (a, s1) = sign-mark k.LParen ts t1 m1 in
    let (b, s2) = sign-mark k.Semicolon t2 rest m2 in
    rw (sign-complete k.LParen ts t1 a s1, first-complete room f t1 t2 rest s m2, sign-complete k.Semicolon t2 rest b s2) refl

test-complete : (room : ℕ) (v : Option Expr) (ts mid rest : List Token) → Optional (ExprSpells room) v ts mid → Mark k.Semicolon mid rest → for_test room ts ≡ Found v rest
unfolding for_test
test-complete room v ts mid rest s m =
    let (at, s1) = sign-mark k.Semicolon mid rest m in
    rw (value_if-complete room v ts mid rest s m, sign-complete k.Semicolon mid rest at s1) refl

close-complete : (room : ℕ) (v : Option Action) (ts mid rest : List Token) → Optional (ActionSpells room) v ts mid → Mark k.RParen mid rest → for_close room ts ≡ Found v rest
unfolding for_close
close-complete room v ts mid rest s m =
    let (at, s1) = sign-mark k.RParen mid rest m in
    rw (last-complete room v ts mid rest s m, sign-complete k.RParen mid rest at s1) refl

pub for_head-complete : (room : ℕ) (f : ForFirst) (test : Option Expr) (last : Option Action) (ts rest : List Token) → ForHeadSpells room f test last ts rest
    → for_head room ts ≡ Found (record { first = f; test = test; last = last }) rest
unfolding for_head for_rest
for_head-complete room f test last ts rest (t1, m1, (t2, s2, (t3, m3, (t4, s4, (t5, m5, (t6, s6, m7)))))) =
    rw (open-complete room f ts t1 t2 t3 m1 s2 m3, test-complete room test t3 t4 t5 s4 m5, close-complete room last t5 t6 rest s6 m7) refl

class_monitor-complete : (name : Lexeme) (at : Span) (ts t1 t2 rest : List Token) → Spelled k.Name name ts t1 → Mark k.Dot t1 t2 → Sign k.Class at t2 rest → class_monitor ts ≡ Found (monitor.Class name at) rest
unfolding class_monitor
class_monitor-complete name at ts t1 t2 rest s1 m2 s3 =
    let (dot, s2) = sign-mark k.Dot t1 t2 m2 in
    rw (word-complete k.Name ts t1 name s1, sign-complete k.Dot t1 t2 dot s2, sign-complete k.Class t2 rest at s3) refl

class-next : (name : Lexeme) (at : Span) (ts t1 t2 rest : List Token) → Spelled k.Name name ts t1 → Mark k.Dot t1 t2 → Sign k.Class at t2 rest → names_class ts ≡ true
unfolding names_class next_kind kind_at
class-next name at ts t1 t2 rest (t, e, is, stands) (u, f, sort) (v, g, class, here) = rw (e, f, g, is, sort, class) refl

end-class : (kind : Kind) (third : Option Kind) → ends_action kind ≡ true → dot_class (Some kind) third ≡ false
end-class k.Dot third e = cc
end-class _ third e = refl

monitor-complete : (room : ℕ) (m : Monitor) (ts mid rest : List Token) → MonitorSpells room m ts mid → Mark k.RParen mid rest → monitor_read room ts ≡ Found m mid
unfolding monitor_read
monitor-complete room (monitor.Expr held) ts mid rest s m =
    let end = ended-mark k.RParen mid rest refl m in
    let o = spells-opening room 1 held ts mid s in
    let P : Option Kind → Type 0 = λ next. dot_class next (kind_at 1 mid) ≡ false in
    let off : names_class ts ≡ false = o.no_class (subst P (sym end.next) (end-class end.kind (kind_at 1 mid) end.is)) in
    rw (off, value-complete room held ts mid s end) refl
monitor-complete room (monitor.Class name at) ts mid rest (t1, s1, (t2, m2, s3)) m = rw (class-next name at ts t1 t2 mid s1 m2 s3) (class_monitor-complete name at ts t1 t2 mid s1 m2 s3)

pub sync_head-complete : (room : ℕ) (m : Monitor) (ts rest : List Token) → (Mark k.LParen ⨾ MonitorSpells room m ⨾ Mark k.RParen) ts rest → sync_head room ts ≡ Found m rest
unfolding sync_head
sync_head-complete room m ts rest (t1, m1, (t2, s, m2)) =
    let (opening, s1) = sign-mark k.LParen ts t1 m1 in
    let (closing, s3) = sign-mark k.RParen t2 rest m2 in
    rw (sign-complete k.LParen ts t1 opening s1, monitor-complete room m t1 t2 rest s m2, sign-complete k.RParen t2 rest closing s3) refl
