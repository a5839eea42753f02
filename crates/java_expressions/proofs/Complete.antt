-- What tokens spell, the reader finds.
use Rattle.std.proofs.Common.{◌≡◌, ◌≢◌, ℕ, zero, suc, ◌+◌, ◌<◌, ◌≤◌, Bool, true, false, cond, nat_lt, List, [], ◌∷◌, ◌++◌, length, Option, Some, None, is_some, refl, ap, ◌∙◌, sym, subst, arith, lit≤}
use Rattle.std.proofs.Math.Seq.{append_snoc}
use Rattle.std.proofs.lemmas.List.{append-nil}
use Rattle.std.proofs.lemmas.Bool.{ltb-true, lt-ltb, le-ltb}
use Rattle.std.specs.Str.{bytes_eq}
use Rattle.std.proofs.lemmas.Slice.Eq.{bytes_eq-Decides}
use Rattle.java_phrases.specs.Tree.{Span, Kind, Kind as k, Token, Lexeme, Expr, out-Expr, roll-Expr, Expr-F, BinaryOp, BinaryOp as op}
use Rattle.java_phrases.specs.Common.{Phrase, ◌⨾◌, Mark, Sign, Spelled, Separated, Each, smallest_digits, thread_name, Outcome, Found, Parser, ◌>>=◌, pure, same_kind, next_kind, sees, sees_text, sign, turns_from, turns}
use Rattle.java_tree.specs.declared.expr.Expr.TheVariants as tree
use Rattle.java_tree.specs.declared.expr.Expr.TheVariants.{rolls-Int, rolls-Str, rolls-True, rolls-False, rolls-Null, rolls-This, rolls-Name, rolls-Call, rolls-New, rolls-Paren, rolls-Select, rolls-CallOn, rolls-Not, rolls-Neg, rolls-Binary}
use Rattle.java_expressions.specs.declared.tall.Tall.{Tall}
use Rattle.java_expressions.specs.declared.tall.Listed.{Listed}
use Rattle.java_expressions.specs.declared.tall.Arguments.{Arguments}
use Rattle.java_expressions.specs.Spelling.{sign_of, level_of, Args, Layered, Spells}
use Rattle.java_expressions.specs.Reading.{tall, none, with_item, small, class_name, one_more, some_items, items_by, arguments, named, created, parenthesized, primary_by, primary, climbs, next_operator, operator_by, operator, tight, sees_smallest}
use Rattle.java_phrases.proofs.Phrases.{sees-next, next-sign, next-mark, next-word, sign-complete, word-complete, sign-mark}
use Rattle.java_phrases.proofs.Loops.{turn_once, turn_ends}
use Rattle.java_expressions.proofs.Sound.{Reading-sound, sign-shorter, next-level}

-- ---- what stands next

pub sees-kind : (asked kind : Kind) (ts : List Token) → next_kind ts ≡ Some kind → sees asked ts ≡ same_kind kind asked
sees-kind asked kind ts e = rw (sees-next asked ts, e) refl

-- no operator of the level or a tighter one stands next, nor a sign of a selection or call
pub record Closed (p : ℕ) (ts : List Token) : Type 0 where
  pub operators : climbs p ts ≡ false
  pub dot : sees k.Dot ts ≡ false
  pub call : sees k.LParen ts ≡ false

climbs-kind : (p : ℕ) (kind : Kind) (ts : List Token) → next_kind ts ≡ Some kind → operator kind ≡ None → climbs p ts ≡ false
unfolding next_operator
climbs-kind p kind ts e is = rw (e, is) refl

pub closed-by : (p : ℕ) (kind : Kind) (ts : List Token) → next_kind ts ≡ Some kind → operator kind ≡ None → same_kind kind k.Dot ≡ false → same_kind kind k.LParen ≡ false → Closed p ts
closed-by p kind ts e is a b = record { operators = climbs-kind p kind ts e is; dot = sees-kind k.Dot kind ts e ∙ a; call = sees-kind k.LParen kind ts e ∙ b }

tighter_on : (c : Bool) (a b : ℕ) (f : BinaryOp) → nat_lt (level_of f) a ≡ c → is_some (cond c None (Some f)) ≡ false → a ≤ b → is_some (tight b (Some f)) ≡ false
tighter_on true a b f is off more = let less = ltb-true (level_of f) a is in rw (lt-ltb (level_of f) b (omega arith)) refl
tighter_on false a b f is off more = cc

tighter_by : (a b : ℕ) (found : Option BinaryOp) → is_some (tight a found) ≡ false → a ≤ b → is_some (tight b found) ≡ false
tighter_by a b None off more = refl
tighter_by a b (Some f) off more = tighter_on (nat_lt (level_of f) a) a b f refl off more

tighter_kind : (a b : ℕ) (next : Option Kind) → is_some (operator_by a next) ≡ false → a ≤ b → is_some (operator_by b next) ≡ false
tighter_kind a b None off more = refl
tighter_kind a b (Some kind) off more = tighter_by a b (operator kind) off more

pub tighter : (a b : ℕ) (ts : List Token) → climbs a ts ≡ false → a ≤ b → climbs b ts ≡ false
unfolding next_operator
tighter a b ts off more = tighter_kind a b (next_kind ts) off more

seven_by : (found : Option BinaryOp) → is_some (tight 7 found) ≡ false
seven_by None = refl
seven_by (Some f) = let h = next-level f in rw (lt-ltb (level_of f) 7 (omega arith)) refl

seven_kind : (next : Option Kind) → is_some (operator_by 7 next) ≡ false
seven_kind None = refl
seven_kind (Some kind) = seven_by (operator kind)

-- no operator is of the level of a sign before an operand
pub seven : (ts : List Token) → climbs 7 ts ≡ false
unfolding next_operator
seven ts = seven_kind (next_kind ts)

operator_sign : (o : BinaryOp) → operator (sign_of o) ≡ Some o
operator_sign op.Or = refl
operator_sign _ = refl

no_dot : (o : BinaryOp) → same_kind (sign_of o) k.Dot ≡ false
no_dot op.Or = refl
no_dot _ = refl

no_call : (o : BinaryOp) → same_kind (sign_of o) k.LParen ≡ false
no_call op.Or = refl
no_call _ = refl

pub next_is : (least : ℕ) (o : BinaryOp) (ts : List Token) → next_kind ts ≡ Some (sign_of o) → least ≤ level_of o → next_operator least ts ≡ Some o
unfolding next_operator
next_is least o ts e low = rw (e, operator_sign o, le-ltb (level_of o) least low) refl

-- behind the left operand stands its own operator, and no tighter one
pub closed-operator : (o : BinaryOp) (ts : List Token) → next_kind ts ≡ Some (sign_of o) → Closed (level_of o + 1) ts
unfolding next_operator
closed-operator o ts e = record {
  operators = rw (e, operator_sign o, lt-ltb (level_of o) (level_of o + 1) (omega arith)) refl;
  dot = sees-kind k.Dot (sign_of o) ts e ∙ no_dot o;
  call = sees-kind k.LParen (sign_of o) ts e ∙ no_call o;
}

-- ---- with what an expression begins

other_by : (b : Bool) (xs ys : List ℕ) → bytes_eq xs ys ≡ b → xs ≢ ys → b ≡ false
other_by true xs ys is other = absurd (other ((bytes_eq-Decides xs ys).0 is))
other_by false xs ys is other = refl

other_bytes : (xs ys : List ℕ) → xs ≢ ys → bytes_eq xs ys ≡ false
other_bytes xs ys other = other_by (bytes_eq xs ys) xs ys refl other

abbrev pub Opens : List Token → Type 0
Opens ts = (sees k.RParen ts ≡ false) × (sees_smallest ts ≡ false)

no_number : (kind : Kind) (ts : List Token) → next_kind ts ≡ Some kind → same_kind kind k.IntLiteral ≡ false → sees_smallest ts ≡ false
unfolding next_kind sees_text
no_number kind [] e off = refl
no_number kind (t ∷ ts) e off = let is : t.kind ≡ kind = cc in rw (is, off) refl

opens-kind : (kind : Kind) (ts : List Token) → next_kind ts ≡ Some kind → same_kind kind k.RParen ≡ false → same_kind kind k.IntLiteral ≡ false → Opens ts
opens-kind kind ts e a b = (sees-kind k.RParen kind ts e ∙ a, no_number kind ts e b)

opens-int : (w : Lexeme) (ts rest : List Token) → w.text ≢ smallest_digits → Spelled k.IntLiteral w ts rest → Opens ts
unfolding sees_text
opens-int w ts rest other (t, e, is, stands) =
    let bytes : t.bytes ≡ w.text = ap (λ (v : Lexeme). v.text) stands in
    let P : List ℕ → Type 0 = λ l. bytes_eq l smallest_digits ≡ false in
    let off : bytes_eq t.bytes smallest_digits ≡ false = subst P (sym bytes) (other_bytes w.text smallest_digits other) in
    (sees-kind k.RParen k.IntLiteral ts (next-word k.IntLiteral w ts rest (t, e, is, stands)), rw (e, is, off) refl)

opens : (room : ℕ) (inner : (p : ℕ) (e : Expr) (ts rest : List Token) → Spells room p e ts rest → Opens ts) (p : ℕ) (f : Expr-F Expr) (ts rest : List Token) → Layered room (Spells room) p f ts rest → Opens ts
opens room inner p (Expr-F.Int w) ts rest (other, s) = opens-int w ts rest other s
opens room inner p (Expr-F.Str w) ts rest s = opens-kind k.StrLiteral ts (next-word k.StrLiteral w ts rest s) refl refl
opens room inner p (Expr-F.True at) ts rest s = opens-kind k.True ts (next-sign k.True at ts rest s) refl refl
opens room inner p (Expr-F.False at) ts rest s = opens-kind k.False ts (next-sign k.False at ts rest s) refl refl
opens room inner p (Expr-F.Null at) ts rest s = opens-kind k.Null ts (next-sign k.Null at ts rest s) refl refl
opens room inner p (Expr-F.This at) ts rest s = opens-kind k.This ts (next-sign k.This at ts rest s) refl refl
opens room inner p (Expr-F.Name w) ts rest s = opens-kind k.Name ts (next-word k.Name w ts rest s) refl refl
opens room inner p (Expr-F.Call w args closing) ts rest (t1, s, tail) = opens-kind k.Name ts (next-word k.Name w ts t1 s) refl refl
opens room inner p (Expr-F.New at w args closing) ts rest (other, (t1, s, tail)) = opens-kind k.New ts (next-sign k.New at ts t1 s) refl refl
opens room inner p (Expr-F.Paren opening e closing) ts rest (t1, s, tail) = opens-kind k.LParen ts (next-sign k.LParen opening ts t1 s) refl refl
opens room inner p (Expr-F.Select from w) ts rest (low, (t1, s, tail)) = inner 8 from ts t1 s
opens room inner p (Expr-F.CallOn from w args closing) ts rest (low, (t1, s, tail)) = inner 8 from ts t1 s
opens room inner p (Expr-F.Not at e) ts rest (low, (t1, s, tail)) = opens-kind k.Not ts (next-sign k.Not at ts t1 s) refl refl
opens room inner p (Expr-F.Neg at e) ts rest (low, (t1, s, tail)) = opens-kind k.Minus ts (next-sign k.Minus at ts t1 s) refl refl
opens room inner p (Expr-F.Binary l o at r) ts rest (low, (t1, s, tail)) = inner (level_of o) l ts t1 s

pub spells-opens : (m p : ℕ) (e : Expr) (ts rest : List Token) → Spells m p e ts rest → Opens ts
unfolding Spells
spells-opens zero p e ts rest s = absurd s
spells-opens (suc m) p e ts rest s = opens m (λ q x us r s1. spells-opens m q x us r s1) p (out-Expr e) ts rest s

-- ---- three kinds of trees

abbrev pub is_unary : Expr-F Expr → Bool
is_unary (Expr-F.Binary l o at r) = false
is_unary _ = true

abbrev pub is_post : Expr-F Expr → Bool
is_post (Expr-F.Binary l o at r) = false
is_post (Expr-F.Not at e) = false
is_post (Expr-F.Neg at e) = false
is_post _ = true

abbrev pub is_primary : Expr-F Expr → Bool
is_primary (Expr-F.Binary l o at r) = false
is_primary (Expr-F.Not at e) = false
is_primary (Expr-F.Neg at e) = false
is_primary (Expr-F.Select from w) = false
is_primary (Expr-F.CallOn from w args closing) = false
is_primary _ = true

-- the kinds of the tokens with which an expression without a sign before it begins
abbrev pub leads : Kind → Bool
leads k.Not = false
leads k.Minus = false
leads _ = true

pub as_post : (room : ℕ) (Inner : ℕ → Expr → Phrase) (p : ℕ) (f : Expr-F Expr) (ts rest : List Token) → is_post f ≡ true → Layered room Inner p f ts rest → Layered room Inner 8 f ts rest
as_post room Inner p (Expr-F.Select from w) ts rest is (low, s) = (lit≤ tt, s)
as_post room Inner p (Expr-F.CallOn from w args closing) ts rest is (low, s) = (lit≤ tt, s)
as_post room Inner p (Expr-F.Binary l o at r) ts rest is s = cc
as_post room Inner p (Expr-F.Not at e) ts rest is s = cc
as_post room Inner p (Expr-F.Neg at e) ts rest is s = cc
as_post room Inner p _ ts rest is s = s

-- what an inner parser finds
pub record FindsTall (m : ℕ) (outcome : Outcome Tall) (e : Expr) (rest : List Token) : Type 0 where
  pub height : ℕ
  pub low : height ≤ m
  pub is : outcome ≡ Found (tall e height) rest

abbrev pub Reading-complete : ℕ → (ℕ → Parser Tall) → Type 0
Reading-complete room inner = (m p : ℕ) (e : Expr) (ts rest : List Token) → m ≤ room → p ≤ 7 → Spells m p e ts rest → Closed p rest → FindsTall m (inner p ts) e rest

pub record FindsList (m : ℕ) (outcome : Outcome Listed) (items : List Expr) (rest : List Token) : Type 0 where
  pub height : ℕ
  pub low : height ≤ m
  pub is : outcome ≡ Found (record { items = items; height = height }) rest

pub record FindsArgs (m : ℕ) (outcome : Outcome Arguments) (items : List Expr) (closing : Span) (rest : List Token) : Type 0 where
  pub height : ℕ
  pub low : height ≤ m
  pub is : outcome ≡ Found (record { items = items; height = height; closing = closing }) rest

-- what an inner parser finds, and with which kind of token it begins
pub record Leads (m : ℕ) (outcome : Outcome Tall) (e : Expr) (ts rest : List Token) : Type 0 where
  pub finds : FindsTall m outcome e rest
  pub kind : Kind
  pub next : next_kind ts ≡ Some kind
  pub leading : leads kind ≡ true

pub same-tree : {x y : Expr} (height : ℕ) (rest : List Token) → x ≡ y → Found (tall x height) rest ≡ Found (tall y height) rest
same-tree height rest e = ap (λ x. Found (tall x height) rest) e

module _ (room : ℕ) (inner : ℕ → Parser Tall) (known : Reading-sound room inner) (complete : Reading-complete room inner) where
  -- ---- lists

  list-closed : (P : Expr → Phrase) (p : ℕ) (xs : List Expr) (ts rest : List Token) → Each (λ y. Mark k.Comma ⨾ P y) xs ts rest → next_kind rest ≡ Some k.RParen → Closed p ts
  list-closed P p [] ts rest each end = closed-by p k.RParen ts (ap next_kind each ∙ end) refl refl refl
  list-closed P p (x ∷ xs) ts rest (t2, (t1, comma, s), each) end = closed-by p k.Comma ts (next-mark k.Comma ts t1 comma) refl refl refl

  one_more-is : (found : Listed) (x : Expr) (h : ℕ) (at : Span) (ts t1 t2 : List Token) → Sign k.Comma at ts t1 → inner 1 t1 ≡ Found (tall x h) t2 → one_more inner found ts ≡ Found (with_item found (tall x h)) t2
  unfolding one_more
  one_more-is found x h at ts t1 t2 comma is = rw (sign-complete k.Comma ts t1 at comma, is) refl

  more-complete : (m j : ℕ) (found : Listed) (xs : List Expr) (ts rest : List Token) → m ≤ room → length ts < j → Each (λ y. Mark k.Comma ⨾ Spells m 1 y) xs ts rest → next_kind rest ≡ Some k.RParen → found.height ≤ m
      → FindsList m (turns_from (sees k.Comma) (one_more inner) j found ts) (found.items ++ xs) rest
  more-complete m j found [] ts rest fits enough each end low =
      let off : sees k.Comma ts ≡ false = sees-kind k.Comma k.RParen ts (ap next_kind each ∙ end) in
      record {
        height = found.height;
        low = low;
        is = turn_ends (sees k.Comma) (one_more inner) j found ts enough off ∙ ap (λ r. Found found r) each ∙ ap (λ l. Found (record { items = l; height = found.height }) rest) (sym (append-nil found.items));
      }
  more-complete m j found (x ∷ xs) ts rest fits enough (t2, (t1, comma, s), each) end low =
      let (at, c) = sign-mark k.Comma ts t1 comma in
      let item = complete m 1 x t1 t2 fits (lit≤ tt) s (list-closed (Spells m 1) 1 xs t2 rest each end) in
      let (sound, under, off) = known 1 t1 t2 (tall x item.height) (lit≤ tt) item.is in
      let a : length ts ≡ suc (length t1) = sign-shorter k.Comma ts t1 at c in
      let b : length t2 < length t1 = sound.shorter in
      let h : item.height ≤ m = item.low in
      let (i, enough1, same) = turn_once (sees k.Comma) (one_more inner) j found (with_item found (tall x item.height)) ts t2 enough (sees-kind k.Comma k.Comma ts (next-mark k.Comma ts t1 comma)) (one_more-is found x item.height at ts t1 t2 c item.is) (omega arith) in
      let later = more-complete m i (with_item found (tall x item.height)) xs t2 rest fits enough1 each end (omega arith) in
      record { height = later.height; low = later.low; is = same ∙ later.is ∙ ap (λ l. Found (record { items = l; height = later.height }) rest) (append_snoc found.items x xs) }

  some_items-complete : (m : ℕ) (x : Expr) (xs : List Expr) (ts t1 rest : List Token) → m ≤ room → Spells m 1 x ts t1 → Each (λ y. Mark k.Comma ⨾ Spells m 1 y) xs t1 rest → next_kind rest ≡ Some k.RParen
      → FindsList m (some_items inner ts) (x ∷ xs) rest
  unfolding some_items turns
  some_items-complete m x xs ts t1 rest fits s each end =
      let item = complete m 1 x ts t1 fits (lit≤ tt) s (list-closed (Spells m 1) 1 xs t1 rest each end) in
      let h : item.height ≤ m = item.low in
      let later = more-complete m (suc (length t1)) (with_item none (tall x item.height)) xs t1 rest fits (omega arith) each end (omega arith) in
      record { height = later.height; low = later.low; is = rw (item.is) later.is }

  items-complete : (m : ℕ) (args : List Expr) (closing : Span) (ts mid rest : List Token) → m ≤ room → Separated (Spells m 1) args ts mid → Sign k.RParen closing mid rest → FindsList m (items_by inner (sees k.RParen ts) ts) args mid
  items-complete m [] closing ts mid rest fits s end =
      let on : sees k.RParen ts ≡ true = ap (sees k.RParen) s ∙ sees-kind k.RParen k.RParen mid (next-sign k.RParen closing mid rest end) in
      record { height = 0; low = omega arith; is = rw on (ap (λ r. Found none r) s) }
  items-complete m (x ∷ xs) closing ts mid rest fits (t1, s, each) end =
      let off : sees k.RParen ts ≡ false = (spells-opens m 1 x ts t1 s).0 in
      let found = some_items-complete m x xs ts t1 mid fits s each (next-sign k.RParen closing mid rest end) in
      record { height = found.height; low = found.low; is = rw off found.is }

  pub args-complete : (m : ℕ) (args : List Expr) (closing : Span) (ts rest : List Token) → m ≤ room → Args (Spells m 1) args closing ts rest → FindsArgs m (arguments inner ts) args closing rest
  unfolding arguments
  args-complete m args closing ts rest fits (t1, open_at, (t2, items, end)) =
      let (opening, s1) = sign-mark k.LParen ts t1 open_at in
      let found = items-complete m args closing t1 t2 rest fits items end in
      record { height = found.height; low = found.low; is = rw (sign-complete k.LParen ts t1 opening s1, found.is, sign-complete k.RParen t2 rest closing end) refl }

  -- ---- leaves, calls, parentheses

  class_name-complete : (w : Lexeme) (ts rest : List Token) → w.text ≢ thread_name → Spelled k.Name w ts rest → class_name ts ≡ Found w rest
  unfolding class_name
  class_name-complete w ts rest other s = rw (word-complete k.Name ts rest w s, other_bytes w.text thread_name other) refl

  leaf-sign : (kind : Kind) (at : Span) (make : Span → Expr) (f : Expr-F Expr) (m : ℕ) (ts rest : List Token) → roll-Expr f ≡ make at → leads kind ≡ true → primary_by inner (Some kind) ≡ (sign kind >>= (λ at. pure (tall (make at) 1)))
      → Sign kind at ts rest → Leads (m + 1) (primary inner ts) (roll-Expr f) ts rest
  unfolding primary
  leaf-sign kind at make f m ts rest is leading by s = record {
    finds = record { height = 1; low = omega arith; is = rw (next-sign kind at ts rest s) (ap (λ p. p ts) by ∙ rw (sign-complete kind ts rest at s) (same-tree 1 rest (sym is))) };
    kind = kind;
    next = next-sign kind at ts rest s;
    leading = leading;
  }

  pub primary-complete : (m p : ℕ) (f : Expr-F Expr) (ts rest : List Token) → m ≤ room → is_primary f ≡ true → Layered m (Spells m) p f ts rest → sees k.LParen rest ≡ false → Leads (m + 1) (primary inner ts) (roll-Expr f) ts rest
  unfolding primary small named created parenthesized
  primary-complete m p (Expr-F.Int w) ts rest fits is (other, s) free = record {
    finds = record { height = 1; low = omega arith; is = rw (next-word k.IntLiteral w ts rest s, word-complete k.IntLiteral ts rest w s, other_bytes w.text smallest_digits other) (same-tree 1 rest (sym (rolls-Int w))) };
    kind = k.IntLiteral;
    next = next-word k.IntLiteral w ts rest s;
    leading = refl;
  }
  primary-complete m p (Expr-F.Str w) ts rest fits is s free = record {
    finds = record { height = 1; low = omega arith; is = rw (next-word k.StrLiteral w ts rest s, word-complete k.StrLiteral ts rest w s) (same-tree 1 rest (sym (rolls-Str w))) };
    kind = k.StrLiteral;
    next = next-word k.StrLiteral w ts rest s;
    leading = refl;
  }
  primary-complete m p (Expr-F.True at) ts rest fits is s free = leaf-sign k.True at (λ at. tree.True at) (Expr-F.True at) m ts rest (rolls-True at) refl refl s
  primary-complete m p (Expr-F.False at) ts rest fits is s free = leaf-sign k.False at (λ at. tree.False at) (Expr-F.False at) m ts rest (rolls-False at) refl refl s
  primary-complete m p (Expr-F.Null at) ts rest fits is s free = leaf-sign k.Null at (λ at. tree.Null at) (Expr-F.Null at) m ts rest (rolls-Null at) refl refl s
  primary-complete m p (Expr-F.This at) ts rest fits is s free = leaf-sign k.This at (λ at. tree.This at) (Expr-F.This at) m ts rest (rolls-This at) refl refl s
  primary-complete m p (Expr-F.Name w) ts rest fits is s free = record {
    finds = record { height = 1; low = omega arith; is = rw (next-word k.Name w ts rest s, word-complete k.Name ts rest w s, free) (same-tree 1 rest (sym (rolls-Name w))) };
    kind = k.Name;
    next = next-word k.Name w ts rest s;
    leading = refl;
  }
  primary-complete m p (Expr-F.Call w args closing) ts rest fits is (t1, s, (t2, open_at, tail)) free =
      let a = args-complete m args closing t1 rest fits (t2, open_at, tail) in
      let h : a.height ≤ m = a.low in
      record {
        finds = record {
          height = a.height + 1;
          low = omega arith;
          is = rw (next-word k.Name w ts t1 s, word-complete k.Name ts t1 w s, sees-kind k.LParen k.LParen t1 (next-mark k.LParen t1 t2 open_at), a.is) (same-tree (a.height + 1) rest (sym (rolls-Call w args closing)));
        };
        kind = k.Name;
        next = next-word k.Name w ts t1 s;
        leading = refl;
      }
  primary-complete m p (Expr-F.New at w args closing) ts rest fits is (other, (t1, s1, (t2, s2, tail))) free =
      let a = args-complete m args closing t2 rest fits tail in
      let h : a.height ≤ m = a.low in
      record {
        finds = record {
          height = a.height + 1;
          low = omega arith;
          is = rw (next-sign k.New at ts t1 s1, sign-complete k.New ts t1 at s1, class_name-complete w t1 t2 other s2, a.is) (same-tree (a.height + 1) rest (sym (rolls-New at w args closing)));
        };
        kind = k.New;
        next = next-sign k.New at ts t1 s1;
        leading = refl;
      }
  primary-complete m p (Expr-F.Paren opening e closing) ts rest fits is (t1, s1, (t2, s2, s3)) free =
      let y = complete m 1 e t1 t2 fits (lit≤ tt) s2 (closed-by 1 k.RParen t2 (next-sign k.RParen closing t2 rest s3) refl refl refl) in
      let h : y.height ≤ m = y.low in
      record {
        finds = record {
          height = y.height + 1;
          low = omega arith;
          is = rw (next-sign k.LParen opening ts t1 s1, sign-complete k.LParen ts t1 opening s1, y.is, sign-complete k.RParen t2 rest closing s3) (same-tree (y.height + 1) rest (sym (rolls-Paren opening e closing)));
        };
        kind = k.LParen;
        next = next-sign k.LParen opening ts t1 s1;
        leading = refl;
      }
  primary-complete m p _ ts rest fits is s free = cc
