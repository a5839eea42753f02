-- With which tokens expressions, actions and locals begin.
use Rattle.std.proofs.Common.{◌≡◌, ◌≢◌, ℕ, zero, suc, ◌+◌, ◌≤◌, Bool, true, false, ◌&&◌, List, [], ◌∷◌, Option, Some, None, refl, ap, ◌∙◌, sym, subst, arith, lit≤}
use Rattle.std.specs.Str.{bytes_eq}
use Rattle.std.proofs.lemmas.Slice.Eq.{bytes_eq-Decides}
use Rattle.java_phrases.specs.Tree.{Span, Kind, Kind as k, Token, Lexeme, Expr, out-Expr, Expr-F, BinaryOp, BinaryOp as op, AssignOp, AssignOp as assign, StepOp, StepOp as step, Action, Action as action, Ty, Ty as type}
use Rattle.java_phrases.specs.Common.{Mark, Sign, Spelled, Optional, TySpells, same_kind, next_kind, kind_at, text_at, sees, thread_name}
use Rattle.java_phrases.proofs.Phrases.{same_is, seen, sees-next, next-sign, next-mark, next-word}
use Rattle.java_expressions.specs.Spelling.{sign_of, level_of, Layered, Spells}
use Rattle.java_expressions.proofs.Sound.{next-level}
use Rattle.java_expressions.proofs.Complete.{sees-kind}
use Rattle.java_statements.specs.Spelling.{sign_of_assign, sign_of_step, TargetBy, TargetSpells, ActionSpells}
use Rattle.java_statements.specs.Reading.{begins_local_by, begins_local, names_class_by, names_class}

-- ---- kinds

-- the kinds of the tokens with which an expression without a sign before it begins
abbrev pub begins_post : Kind → Bool
begins_post k.IntLiteral = true
begins_post k.StrLiteral = true
begins_post k.True = true
begins_post k.False = true
begins_post k.Null = true
begins_post k.This = true
begins_post k.Name = true
begins_post k.New = true
begins_post k.LParen = true
begins_post _ = false

-- those of any expression
abbrev pub begins_value : Kind → Bool
begins_value k.Not = true
begins_value k.Minus = true
begins_value kind = begins_post kind

-- those of an action
abbrev pub begins_action : Kind → Bool
begins_action k.Increment = true
begins_action k.Decrement = true
begins_action kind = begins_post kind

post-action : (kind : Kind) → begins_post kind ≡ true → begins_action kind ≡ true
post-action k.Increment e = refl
post-action k.Decrement e = refl
post-action _ e = e

no_name : (o : BinaryOp) → same_kind (sign_of o) k.Name ≡ false
no_name op.Or = refl
no_name _ = refl

-- ---- the second and third token

kind-second : (t : Token) (ts : List Token) → kind_at 1 (t ∷ ts) ≡ next_kind ts
unfolding kind_at next_kind
kind-second t [] = refl
kind-second t (u ∷ us) = refl

kind-third : (t : Token) (ts : List Token) → kind_at 2 (t ∷ ts) ≡ kind_at 1 ts
unfolding kind_at
kind-third t [] = refl
kind-third t (u ∷ us) = refl

local-name : (next : Option Kind) → seen k.Name next ≡ false → begins_local_by (Some k.Name) next ≡ false
local-name None off = refl
local-name (Some k.Name) off = cc
local-name (Some _) off = refl

-- whether `.` and `class` stand next, by two kinds
abbrev pub dot_class : Option Kind → Option Kind → Bool
dot_class second third = names_class_by (Some k.Name) second third

class-operator : (o : BinaryOp) (third : Option Kind) → dot_class (Some (sign_of o)) third ≡ false
class-operator op.Or third = refl
class-operator _ third = refl

local-plain : (kind : Kind) (second : Option Kind) → begins_value kind ≡ true → same_kind kind k.Name ≡ false → begins_local_by (Some kind) second ≡ false
local-plain k.Final second on off = cc
local-plain k.IntType second on off = cc
local-plain k.BooleanType second on off = cc
local-plain k.Name second on off = cc
local-plain _ second on off = refl

class-plain : (kind : Kind) (second third : Option Kind) → same_kind kind k.Name ≡ false → names_class_by (Some kind) second third ≡ false
class-plain k.Name second third off = cc
class-plain _ second third off = refl

-- ---- expressions

-- With which tokens an expression of the level begins.
pub record Opening (p : ℕ) (ts rest : List Token) : Type 0 where
  pub kind : Kind
  pub next : next_kind ts ≡ Some kind
  pub value : begins_value kind ≡ true
  pub post : 8 ≤ p → begins_post kind ≡ true
  pub thread : kind ≡ k.New → text_at 1 k.Name thread_name ts ≡ false
  pub no_local : sees k.Name rest ≡ false → begins_local ts ≡ false
  pub no_class : dot_class (next_kind rest) (kind_at 1 rest) ≡ false → names_class ts ≡ false

by_kind : (p : ℕ) (kind : Kind) (ts rest : List Token) → next_kind ts ≡ Some kind → begins_value kind ≡ true → (8 ≤ p → begins_post kind ≡ true) → same_kind kind k.Name ≡ false
    → (kind ≡ k.New → text_at 1 k.Name thread_name ts ≡ false) → Opening p ts rest
unfolding begins_local names_class
by_kind p kind ts rest e value post off thread = record {
  kind = kind;
  next = e;
  value = value;
  post = post;
  thread = thread;
  no_local = λ _. rw e (local-plain kind (kind_at 1 ts) value off);
  no_class = λ _. rw e (class-plain kind (kind_at 1 ts) (kind_at 2 ts) off);
}

begins-name : (w : Lexeme) (p : ℕ) (ts mid rest : List Token) → Spelled k.Name w ts mid → (sees k.Name rest ≡ false → sees k.Name mid ≡ false) → (dot_class (next_kind rest) (kind_at 1 rest) ≡ false → dot_class (next_kind mid) (kind_at 1 mid) ≡ false)
    → Opening p ts rest
unfolding begins_local names_class
begins-name w p ts mid rest (t, e, is, stands) local class =
    let next = next-word k.Name w ts mid (t, e, is, stands) in
    let second : kind_at 1 ts ≡ next_kind mid = ap (kind_at 1) e ∙ kind-second t mid in
    let third : kind_at 2 ts ≡ kind_at 1 mid = ap (kind_at 2) e ∙ kind-third t mid in
    record {
      kind = k.Name;
      next = next;
      value = refl;
      post = λ _. refl;
      thread = λ made. cc;
      no_local = λ off. rw (next, second) (local-name (next_kind mid) (sym (sees-next k.Name mid) ∙ local off));
      no_class = λ off. rw (next, second, third) (class off);
    }

pub name-opening : (w : Lexeme) (p : ℕ) (ts rest : List Token) → Spelled k.Name w ts rest → Opening p ts rest
name-opening w p ts rest s = begins-name w p ts rest rest s (λ off. off) (λ off. off)

call-opening : (w : Lexeme) (p : ℕ) (ts t1 t2 rest : List Token) → Spelled k.Name w ts t1 → Mark k.LParen t1 t2 → Opening p ts rest
call-opening w p ts t1 t2 rest s m =
    let next = next-mark k.LParen t1 t2 m in
    begins-name w p ts t1 rest s (λ _. sees-kind k.Name k.LParen t1 next) (λ _. rw next refl)

other_by : (b : Bool) (xs ys : List ℕ) → bytes_eq xs ys ≡ b → xs ≢ ys → b ≡ false
other_by true xs ys is other = absurd (other ((bytes_eq-Decides xs ys).0 is))
other_by false xs ys is other = refl

both-off : (a b : Bool) → b ≡ false → (a && b) ≡ false
both-off true b e = e
both-off false b e = refl

-- behind `new` stands another name than this
no_thread : (w : Lexeme) (at : Span) (ts t1 t2 : List Token) → Sign k.New at ts t1 → Spelled k.Name w t1 t2 → w.text ≢ thread_name → text_at 1 k.Name thread_name ts ≡ false
unfolding text_at
no_thread w at ts t1 t2 (t, e, is, stands) (u, f, sort, same) other =
    let bytes : u.bytes ≡ w.text = ap (λ (v : Lexeme). v.text) same in
    let P : List ℕ → Type 0 = λ l. bytes_eq l thread_name ≡ false in
    let off : bytes_eq u.bytes thread_name ≡ false = subst P (sym bytes) (other_by (bytes_eq w.text thread_name) w.text thread_name refl other) in
    rw (e, f) (both-off (same_kind u.kind k.Name) (bytes_eq u.bytes thread_name) off)

-- from what stands before a selection, or before an operator
longer : (p q : ℕ) (ts mid rest : List Token) → Opening q ts mid → (8 ≤ p → 8 ≤ q) → sees k.Name mid ≡ false → dot_class (next_kind mid) (kind_at 1 mid) ≡ false → Opening p ts rest
longer p q ts mid rest o level local class = record {
  kind = o.kind;
  next = o.next;
  value = o.value;
  post = λ at. o.post (level at);
  thread = o.thread;
  no_local = λ _. o.no_local local;
  no_class = λ _. o.no_class class;
}

selection-opening : (p : ℕ) (w : Lexeme) (ts mid t1 t2 rest : List Token) → Opening 8 ts mid → Mark k.Dot mid t1 → Spelled k.Name w t1 t2 → Opening p ts rest
selection-opening p w ts mid t1 t2 rest o (t, e, is) s =
    let next = next-mark k.Dot mid t1 (t, e, is) in
    let second : kind_at 1 mid ≡ Some k.Name = ap (kind_at 1) e ∙ kind-second t t1 ∙ next-word k.Name w t1 t2 s in
    longer p 8 ts mid rest o (λ _. lit≤ tt) (sees-kind k.Name k.Dot mid next) (rw (next, second) refl)

opens : (room : ℕ) (inner : (p : ℕ) (e : Expr) (ts rest : List Token) → Spells room p e ts rest → Opening p ts rest) (p : ℕ) (f : Expr-F Expr) (ts rest : List Token) → Layered room (Spells room) p f ts rest → Opening p ts rest
opens room inner p (Expr-F.Int w) ts rest (other, s) = by_kind p k.IntLiteral ts rest (next-word k.IntLiteral w ts rest s) refl (λ _. refl) refl (λ e. cc)
opens room inner p (Expr-F.Str w) ts rest s = by_kind p k.StrLiteral ts rest (next-word k.StrLiteral w ts rest s) refl (λ _. refl) refl (λ e. cc)
opens room inner p (Expr-F.True at) ts rest s = by_kind p k.True ts rest (next-sign k.True at ts rest s) refl (λ _. refl) refl (λ e. cc)
opens room inner p (Expr-F.False at) ts rest s = by_kind p k.False ts rest (next-sign k.False at ts rest s) refl (λ _. refl) refl (λ e. cc)
opens room inner p (Expr-F.Null at) ts rest s = by_kind p k.Null ts rest (next-sign k.Null at ts rest s) refl (λ _. refl) refl (λ e. cc)
opens room inner p (Expr-F.This at) ts rest s = by_kind p k.This ts rest (next-sign k.This at ts rest s) refl (λ _. refl) refl (λ e. cc)
opens room inner p (Expr-F.Name w) ts rest s = name-opening w p ts rest s
opens room inner p (Expr-F.Call w args closing) ts rest (t1, s, (t2, m, tail)) = call-opening w p ts t1 t2 rest s m
opens room inner p (Expr-F.New at w args closing) ts rest (other, (t1, s1, (t2, s2, tail))) =
    by_kind p k.New ts rest (next-sign k.New at ts t1 s1) refl (λ _. refl) refl (λ _. no_thread w at ts t1 t2 s1 s2 other)
opens room inner p (Expr-F.Paren opening e closing) ts rest (t1, s, tail) = by_kind p k.LParen ts rest (next-sign k.LParen opening ts t1 s) refl (λ _. refl) refl (λ e. cc)
opens room inner p (Expr-F.Select from w) ts rest (low, (mid, s, (t1, m, s2))) = selection-opening p w ts mid t1 rest rest (inner 8 from ts mid s) m s2
opens room inner p (Expr-F.CallOn from w args closing) ts rest (low, (mid, s, (t1, m, (t2, s2, tail)))) = selection-opening p w ts mid t1 t2 rest (inner 8 from ts mid s) m s2
opens room inner p (Expr-F.Not at e) ts rest (low, (t1, s, tail)) = by_kind p k.Not ts rest (next-sign k.Not at ts t1 s) refl (λ high. absurd (omega arith)) refl (λ e. cc)
opens room inner p (Expr-F.Neg at e) ts rest (low, (t1, s, tail)) = by_kind p k.Minus ts rest (next-sign k.Minus at ts t1 s) refl (λ high. absurd (omega arith)) refl (λ e. cc)
opens room inner p (Expr-F.Binary l o at r) ts rest (low, (mid, s, (t1, s1, s2))) =
    let next = next-sign (sign_of o) at mid t1 s1 in
    let top : level_of o + 1 ≤ 7 = next-level o in
    longer p (level_of o) ts mid rest (inner (level_of o) l ts mid s) (λ high. omega arith) (sees-kind k.Name (sign_of o) mid next ∙ no_name o) (rw next (class-operator o (kind_at 1 mid)))

pub spells-opening : (m p : ℕ) (e : Expr) (ts rest : List Token) → Spells m p e ts rest → Opening p ts rest
unfolding Spells
spells-opening zero p e ts rest s = absurd s
spells-opening (suc m) p e ts rest s = opens m (λ q x us r s1. spells-opening m q x us r s1) p (out-Expr e) ts rest s

-- ---- what ends an action or an expression: a semicolon or a closing parenthesis

abbrev pub ends_action : Kind → Bool
ends_action k.Semicolon = true
ends_action k.RParen = true
ends_action _ = false

pub record Ended (ts : List Token) : Type 0 where
  pub kind : Kind
  pub next : next_kind ts ≡ Some kind
  pub is : ends_action kind ≡ true

pub ended-semicolon : (at : Span) (ts rest : List Token) → Sign k.Semicolon at ts rest → Ended ts
ended-semicolon at ts rest s = record { kind = k.Semicolon; next = next-sign k.Semicolon at ts rest s; is = refl }

pub ended-mark : (kind : Kind) (ts rest : List Token) → ends_action kind ≡ true → Mark kind ts rest → Ended ts
ended-mark kind ts rest is m = record { kind = kind; next = next-mark kind ts rest m; is = is }

ended_by : (asked kind : Kind) (b : Bool) → same_kind kind asked ≡ b → ends_action asked ≡ false → ends_action kind ≡ true → b ≡ false
ended_by asked kind true is off on = let same : ends_action kind ≡ ends_action asked = ap ends_action (same_is kind asked is) in cc
ended_by asked kind false is off on = refl

ended_no : (asked kind : Kind) → ends_action asked ≡ false → ends_action kind ≡ true → same_kind kind asked ≡ false
ended_no asked kind off on = ended_by asked kind (same_kind kind asked) refl off on

pub ended-off : (asked : Kind) (ts : List Token) → ends_action asked ≡ false → Ended ts → sees asked ts ≡ false
ended-off asked ts off end = sees-kind asked end.kind ts end.next ∙ ended_no asked end.kind off end.is

-- ---- actions

-- With which tokens an action begins.
pub record Begins (ts : List Token) : Type 0 where
  pub kind : Kind
  pub next : next_kind ts ≡ Some kind
  pub acts : begins_action kind ≡ true
  pub no_local : begins_local ts ≡ false

from_post : (ts rest : List Token) → Opening 8 ts rest → sees k.Name rest ≡ false → Begins ts
from_post ts rest o off = record { kind = o.kind; next = o.next; acts = post-action o.kind (o.post (lit≤ tt)); no_local = o.no_local off }

target_by-opening : (room : ℕ) (e : Expr) (f : Expr-F Expr) (ts rest : List Token) → TargetBy room e f ts rest → Opening 8 ts rest
target_by-opening room e (Expr-F.Name w) ts rest s = name-opening w 8 ts rest s
target_by-opening room e (Expr-F.Select from w) ts rest s = spells-opening room 8 e ts rest s
target_by-opening room e _ ts rest s = absurd s

pub target-opening : (room : ℕ) (e : Expr) (ts rest : List Token) → TargetSpells room e ts rest → Opening 8 ts rest
target-opening room e ts rest s = target_by-opening room e (out-Expr e) ts rest s

assign-no_name : (o : AssignOp) → same_kind (sign_of_assign o) k.Name ≡ false
assign-no_name assign.Set = refl
assign-no_name _ = refl

step-no_name : (o : StepOp) → same_kind (sign_of_step o) k.Name ≡ false
step-no_name step.Increment = refl
step-no_name step.Decrement = refl

step-begins : (o : StepOp) (ts : List Token) → next_kind ts ≡ Some (sign_of_step o) → Begins ts
unfolding begins_local
step-begins step.Increment ts e = record { kind = k.Increment; next = e; acts = refl; no_local = rw e refl }
step-begins step.Decrement ts e = record { kind = k.Decrement; next = e; acts = refl; no_local = rw e refl }

pub action-begins : (limit : ℕ) (a : Action) (ts rest : List Token) → ActionSpells limit a ts rest → Ended rest → Begins ts
unfolding ActionSpells begins_local
action-begins zero a ts rest s end = absurd s
action-begins (suc room) (action.Assign target o at value) ts rest (mid, s, (t1, s1, s2)) end =
    from_post ts mid (target-opening room target ts mid s) (sees-kind k.Name (sign_of_assign o) mid (next-sign (sign_of_assign o) at mid t1 s1) ∙ assign-no_name o)
action-begins (suc room) (action.StepAfter target o at) ts rest (mid, s, s1) end =
    from_post ts mid (target-opening room target ts mid s) (sees-kind k.Name (sign_of_step o) mid (next-sign (sign_of_step o) at mid rest s1) ∙ step-no_name o)
action-begins (suc room) (action.StepBefore at o target) ts rest (t1, s, s1) end = step-begins o ts (next-sign (sign_of_step o) at ts t1 s)
action-begins (suc room) (action.Call call) ts rest (is, s) end = from_post ts rest (spells-opening (suc room) 8 call ts rest s) (ended-off k.Name rest refl end)
action-begins (suc room) (action.New made) ts rest (is, s) end = from_post ts rest (spells-opening (suc room) 8 made ts rest s) (ended-off k.Name rest refl end)
action-begins (suc room) (action.Start at started closing) ts rest (t1, s, tail) end =
    let next = next-sign k.New at ts t1 s in
    record { kind = k.New; next = next; acts = refl; no_local = rw next refl }

-- ---- locals

ty-begins : (y : Ty) (w : Lexeme) (ts t1 t2 : List Token) → TySpells y ts t1 → Spelled k.Name w t1 t2 → (begins_local ts ≡ true) × (sees k.Final ts ≡ false) × (sees k.Semicolon ts ≡ false) × (sees k.RBrace ts ≡ false) × (sees k.Else ts ≡ false)
unfolding begins_local
ty-begins (type.Int at) w ts t1 t2 s s1 =
    let next = next-sign k.IntType at ts t1 s in
    (rw next refl, sees-kind k.Final k.IntType ts next, sees-kind k.Semicolon k.IntType ts next, sees-kind k.RBrace k.IntType ts next, sees-kind k.Else k.IntType ts next)
ty-begins (type.Boolean at) w ts t1 t2 s s1 =
    let next = next-sign k.BooleanType at ts t1 s in
    (rw next refl, sees-kind k.Final k.BooleanType ts next, sees-kind k.Semicolon k.BooleanType ts next, sees-kind k.RBrace k.BooleanType ts next, sees-kind k.Else k.BooleanType ts next)
ty-begins (type.Named name) w ts t1 t2 (t, e, is, stands) s1 =
    let next = next-word k.Name name ts t1 (t, e, is, stands) in
    let second : kind_at 1 ts ≡ Some k.Name = ap (kind_at 1) e ∙ kind-second t t1 ∙ next-word k.Name w t1 t2 s1 in
    (rw (next, second) refl, sees-kind k.Final k.Name ts next, sees-kind k.Semicolon k.Name ts next, sees-kind k.RBrace k.Name ts next, sees-kind k.Else k.Name ts next)

-- what a local's declaration begins with, and whether that is `final`
pub local-begins : (w : Option Span) (y : Ty) (name : Lexeme) (ts t1 t2 t3 : List Token) → Optional (Sign k.Final) w ts t1 → TySpells y t1 t2 → Spelled k.Name name t2 t3
    → (begins_local ts ≡ true) × (sees k.Semicolon ts ≡ false) × (sees k.RBrace ts ≡ false) × (sees k.Else ts ≡ false)
unfolding begins_local
local-begins (Some at) y name ts t1 t2 t3 s s1 s2 =
    let next = next-sign k.Final at ts t1 s in
    (rw next refl, sees-kind k.Semicolon k.Final ts next, sees-kind k.RBrace k.Final ts next, sees-kind k.Else k.Final ts next)
local-begins None y name ts t1 t2 t3 s s1 s2 =
    let (a, b, c, d, e) = ty-begins y name t1 t2 t3 s1 s2 in
    let P : List Token → Type 0 = λ us. (begins_local us ≡ true) × (sees k.Semicolon us ≡ false) × (sees k.RBrace us ≡ false) × (sees k.Else us ≡ false) in
    subst P (sym s) (a, c, d, e)

pub no_final : (y : Ty) (w : Lexeme) (ts t1 t2 : List Token) → TySpells y ts t1 → Spelled k.Name w t1 t2 → sees k.Final ts ≡ false
no_final y w ts t1 t2 s s1 = (ty-begins y w ts t1 t2 s s1).1
