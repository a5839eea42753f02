-- Selections, signs before an operand and operators, as far as tokens spell them, are found.
use Rattle.std.proofs.Common.{◌≡◌, ℕ, zero, suc, ◌+◌, ◌<◌, ◌≤◌, max, Bool, true, false, ◌==◌, List, length, Some, refl, ap, ◌∙◌, sym, arith, inl, inr, lit≤}
use Rattle.std.proofs.lemmas.Bool.{le-ltb}
use Rattle.std.proofs.Math.Dec.{eqb-suc-zero}
use Rattle.std.specs.Str.{bytes_eq}
use Rattle.std.proofs.lemmas.Slice.Eq.{bytes_eq-Decides}
use Rattle.java_phrases.specs.Tree.{Span, Kind, Kind as k, Token, Lexeme, Expr, out-Expr, roll-Expr, Expr-F, BinaryOp}
use Rattle.java_phrases.specs.Common.{Mark, Sign, Spelled, smallest_digits, Outcome, Found, Parser, next_kind, sees, sees_text, word, turns_from, turns}
use Rattle.java_tree.specs.declared.expr.Expr.TheViews.{roll-out-Expr}
use Rattle.java_tree.specs.declared.expr.Expr.TheVariants as tree
use Rattle.java_tree.specs.declared.expr.Expr.TheVariants.{rolls-Int, rolls-Select, rolls-CallOn, rolls-Not, rolls-Neg, rolls-Binary}
use Rattle.java_expressions.specs.declared.tall.Tall.{Tall}
use Rattle.java_expressions.specs.declared.tall.Arguments.{Arguments}
use Rattle.java_expressions.specs.Spelling.{sign_of, level_of, Smallest, Layered, Spells}
use Rattle.java_expressions.specs.Reading.{tall, binary_tree, selection, post, post_read, inverted, smallest, negated, unary_by, unary, operation, climb, climbs, level, expr, arguments, sees_smallest}
use Rattle.java_phrases.proofs.Phrases.{next-sign, next-mark, sign-complete, word-complete, sign-mark}
use Rattle.java_phrases.proofs.Loops.{turn_once, turn_ends}
use Rattle.java_expressions.proofs.Sound.{Reading-sound, sign-shorter, word-shorter, next-level, arguments-sound, expr-sound}
use Rattle.java_expressions.proofs.Complete.{sees-kind, Closed, closed-operator, next_is, tighter, seven, spells-opens, is_unary, is_post, is_primary, leads, as_post, FindsTall, Reading-complete, Leads, same-tree, args-complete, primary-complete}

-- A loop has come to the expression, and may go on at rest.
pub record Reaches (m : ℕ) (outcome : Outcome Tall) (goes : List Token → Bool) (turn : Tall → Parser Tall) (e : Expr) (rest : List Token) : Type 0 where
  pub height : ℕ
  pub low : height ≤ m
  pub left : ℕ
  pub enough : length rest < left
  pub is : outcome ≡ turns_from goes turn left (tall e height) rest

-- the same of selections, with the kind of the first token
pub record Selects (m : ℕ) (outcome : Outcome Tall) (goes : List Token → Bool) (turn : Tall → Parser Tall) (e : Expr) (ts rest : List Token) : Type 0 where
  pub reaches : Reaches m outcome goes turn e rest
  pub kind : Kind
  pub next : next_kind ts ≡ Some kind
  pub leading : leads kind ≡ true

unary-plain : (inner : ℕ → Parser Tall) (room : ℕ) (kind : Kind) → leads kind ≡ true → unary_by inner room (Some kind) ≡ post inner room
unary-plain inner room k.Not e = cc
unary-plain inner room k.Minus e = cc
unary-plain inner room _ e = refl

not_zero : (n : ℕ) → 0 < n → (n == 0) ≡ false
not_zero zero some = absurd (omega arith)
not_zero (suc n) some = eqb-suc-zero n

record IsSmallest (f : Expr-F Expr) (ts rest : List Token) : Type 0 where
  word_is : Lexeme
  is : f ≡ Expr-F.Int word_is
  sees_it : sees_smallest ts ≡ true
  read : word k.IntLiteral ts ≡ Found word_is rest

smallest-complete : (f : Expr-F Expr) (ts rest : List Token) → Smallest f ts rest → IsSmallest f ts rest
unfolding sees_text
smallest-complete (Expr-F.Int w) ts rest (big, (t, e, is, stands)) =
    let bytes : t.bytes ≡ smallest_digits = ap (λ (v : Lexeme). v.text) stands ∙ big in
    let on : bytes_eq t.bytes smallest_digits ≡ true = (bytes_eq-Decides t.bytes smallest_digits).1 bytes in
    record { word_is = w; is = refl; sees_it = rw (e, is, on) refl; read = word-complete k.IntLiteral ts rest w (t, e, is, stands) }
smallest-complete _ ts rest s = absurd s

module _ (room : ℕ) (inner : ℕ → Parser Tall) (known : Reading-sound room inner) (complete : Reading-complete room inner) where
  -- ---- selections

  select-is : (x : Tall) (w : Lexeme) (dot : Span) (ts t1 rest : List Token) → x.height ≤ room → Sign k.Dot dot ts t1 → Spelled k.Name w t1 rest → sees k.LParen rest ≡ false
      → selection inner room x ts ≡ Found (tall (tree.Select x.expr w) (x.height + 1)) rest
  unfolding selection
  select-is x w dot ts t1 rest low s1 s2 free = rw (le-ltb room x.height low, sign-complete k.Dot ts t1 dot s1, word-complete k.Name t1 rest w s2, free) refl

  call-is : (x : Tall) (w : Lexeme) (a : Arguments) (dot : Span) (ts t1 t2 t3 rest : List Token) → x.height ≤ room → Sign k.Dot dot ts t1 → Spelled k.Name w t1 t2 → Mark k.LParen t2 t3 → arguments inner t2 ≡ Found a rest
      → selection inner room x ts ≡ Found (tall (tree.CallOn x.expr w a.items a.closing) (max x.height a.height + 1)) rest
  unfolding selection
  call-is x w a dot ts t1 t2 t3 rest low s1 s2 open_at is =
      rw (le-ltb room x.height low, sign-complete k.Dot ts t1 dot s1, word-complete k.Name t1 t2 w s2, sees-kind k.LParen k.LParen t2 (next-mark k.LParen t2 t3 open_at), is) refl

  post-primary : (m p : ℕ) (f : Expr-F Expr) (ts rest : List Token) → m ≤ room → is_primary f ≡ true → Layered m (Spells m) p f ts rest → sees k.LParen rest ≡ false
      → Selects (m + 1) (post inner room ts) (sees k.Dot) (selection inner room) (roll-Expr f) ts rest
  unfolding post turns
  post-primary m p f ts rest fits is s free =
      let found = primary-complete room inner known complete m p f ts rest fits is s free in
      record {
        reaches = record { height = found.finds.height; low = found.finds.low; left = suc (length rest); enough = omega arith; is = rw (found.finds.is) refl };
        kind = found.kind;
        next = found.next;
        leading = found.leading;
      }

  post-reaches : (m : ℕ) (f : Expr-F Expr) (ts rest : List Token) → m ≤ room → Layered m (Spells m) 8 f ts rest → sees k.LParen rest ≡ false
      → Selects (m + 1) (post inner room ts) (sees k.Dot) (selection inner room) (roll-Expr f) ts rest
  unfolding Spells
  post-reaches zero (Expr-F.Select from w) ts rest fits (low, (mid, s, tail)) free = absurd s
  post-reaches zero (Expr-F.CallOn from w args closing) ts rest fits (low, (mid, s, tail)) free = absurd s
  post-reaches (suc m) (Expr-F.Select from w) ts rest fits (low, (mid, s, (t1, dot_at, s2))) free =
      let (dot, s1) = sign-mark k.Dot mid t1 dot_at in
      let before = post-reaches m (out-Expr from) ts mid (omega arith) s (sees-kind k.LParen k.Dot mid (next-sign k.Dot dot mid t1 s1)) in
      let b = before.reaches in
      let a : length mid ≡ suc (length t1) = sign-shorter k.Dot mid t1 dot s1 in
      let d : length t1 ≡ suc (length rest) = word-shorter k.Name t1 rest w s2 in
      let under : b.height ≤ m + 1 = b.low in
      let x : Tall = tall (roll-Expr (out-Expr from)) b.height in
      let (j, enough, same) = turn_once (sees k.Dot) (selection inner room) b.left x (tall (tree.Select x.expr w) (x.height + 1)) mid rest b.enough (sees-kind k.Dot k.Dot mid (next-sign k.Dot dot mid t1 s1)) (select-is x w dot mid t1 rest (omega arith) s1 s2 free) (omega arith) in
      record {
        reaches = record {
          height = b.height + 1;
          low = omega arith;
          left = j;
          enough = enough;
          is = b.is ∙ same ∙ ap (λ e. turns_from (sees k.Dot) (selection inner room) j (tall e (b.height + 1)) rest) (ap (λ e. tree.Select e w) (roll-out-Expr from) ∙ sym (rolls-Select from w));
        };
        kind = before.kind;
        next = before.next;
        leading = before.leading;
      }
  post-reaches (suc m) (Expr-F.CallOn from w args closing) ts rest fits (low, (mid, s, (t1, dot_at, (t2, s2, (t3, open_at, tail))))) free =
      let (dot, s1) = sign-mark k.Dot mid t1 dot_at in
      let before = post-reaches m (out-Expr from) ts mid (omega arith) s (sees-kind k.LParen k.Dot mid (next-sign k.Dot dot mid t1 s1)) in
      let b = before.reaches in
      let found = args-complete room inner known complete (suc m) args closing t2 rest fits (t3, open_at, tail) in
      let given : Arguments = record { items = args; height = found.height; closing = closing } in
      let (sound, cap) = arguments-sound room inner known t2 rest given found.is in
      let a : length mid ≡ suc (length t1) = sign-shorter k.Dot mid t1 dot s1 in
      let d : length t1 ≡ suc (length t2) = word-shorter k.Name t1 t2 w s2 in
      let g : length rest < length t2 = sound.shorter in
      let under : b.height ≤ m + 1 = b.low in
      let fit : found.height ≤ suc m = found.low in
      let x : Tall = tall (roll-Expr (out-Expr from)) b.height in
      let (j, enough, same) = turn_once (sees k.Dot) (selection inner room) b.left x (tall (tree.CallOn x.expr w args closing) (max x.height found.height + 1)) mid rest b.enough (sees-kind k.Dot k.Dot mid (next-sign k.Dot dot mid t1 s1))
      (call-is x w given dot mid t1 t2 t3 rest (omega arith) s1 s2 open_at found.is) (omega arith) in
      record {
        reaches = record {
          height = max b.height found.height + 1;
          low = omega arith;
          left = j;
          enough = enough;
          is = b.is ∙ same ∙ ap (λ e. turns_from (sees k.Dot) (selection inner room) j (tall e (max b.height found.height + 1)) rest) (ap (λ e. tree.CallOn e w args closing) (roll-out-Expr from) ∙ sym (rolls-CallOn from w args closing));
        };
        kind = before.kind;
        next = before.next;
        leading = before.leading;
      }
  post-reaches m (Expr-F.Not at e) ts rest fits (low, s) free = absurd (omega arith)
  post-reaches m (Expr-F.Neg at e) ts rest fits (low, s) free = absurd (omega arith)
  post-reaches m (Expr-F.Binary l o at r) ts rest fits (low, s) free = let h = next-level o in absurd (omega arith)
  post-reaches m f ts rest fits s free = post-primary m 8 f ts rest fits refl s free

  pub post-complete : (m : ℕ) (f : Expr-F Expr) (ts rest : List Token) → m ≤ room → Layered m (Spells m) 8 f ts rest → sees k.Dot rest ≡ false → sees k.LParen rest ≡ false → Leads (m + 1) (post inner room ts) (roll-Expr f) ts rest
  post-complete m f ts rest fits s stop free =
      let found = post-reaches m f ts rest fits s free in
      let b = found.reaches in
      record {
        finds = record { height = b.height; low = b.low; is = b.is ∙ turn_ends (sees k.Dot) (selection inner room) b.left (tall (roll-Expr f) b.height) rest b.enough stop };
        kind = found.kind;
        next = found.next;
        leading = found.leading;
      }

  -- ---- signs before an operand

  operand-closed : (ts : List Token) → sees k.Dot ts ≡ false → sees k.LParen ts ≡ false → Closed 7 ts
  operand-closed ts stop free = record { operators = seven ts; dot = stop; call = free }

  unary-post : (m p : ℕ) (f : Expr-F Expr) (ts rest : List Token) → m ≤ room → is_post f ≡ true → Layered m (Spells m) p f ts rest → sees k.Dot rest ≡ false → sees k.LParen rest ≡ false → FindsTall (m + 1) (unary inner room ts) (roll-Expr f) rest
  unfolding unary
  unary-post m p f ts rest fits is s stop free =
      let found = post-complete m f ts rest fits (as_post m (Spells m) p f ts rest is s) stop free in
      record { height = found.finds.height; low = found.finds.low; is = rw (found.next) (ap (λ q. q ts) (unary-plain inner room found.kind found.leading) ∙ found.finds.is) }

  unary-complete : (m p : ℕ) (f : Expr-F Expr) (ts rest : List Token) → m ≤ room → is_unary f ≡ true → Layered m (Spells m) p f ts rest → sees k.Dot rest ≡ false → sees k.LParen rest ≡ false → FindsTall (m + 1) (unary inner room ts) (roll-Expr f) rest
  unfolding unary inverted negated smallest
  unary-complete m p (Expr-F.Not at e) ts rest fits is (low, (t1, s1, s2)) stop free =
      let y = complete m 7 e t1 rest fits (lit≤ tt) s2 (operand-closed rest stop free) in
      let h : y.height ≤ m = y.low in
      record { height = y.height + 1; low = omega arith; is = rw (next-sign k.Not at ts t1 s1, sign-complete k.Not ts t1 at s1, y.is) (same-tree (y.height + 1) rest (sym (rolls-Not at e))) }
  unary-complete m p (Expr-F.Neg at e) ts rest fits is (low, (t1, s1, inl s2)) stop free =
      let y = complete m 7 e t1 rest fits (lit≤ tt) s2 (operand-closed rest stop free) in
      let h : y.height ≤ m = y.low in
      let (closed, small) = spells-opens m 7 e t1 rest s2 in
      record { height = y.height + 1; low = omega arith; is = rw (next-sign k.Minus at ts t1 s1, sign-complete k.Minus ts t1 at s1, small, y.is) (same-tree (y.height + 1) rest (sym (rolls-Neg at e))) }
  unary-complete m p (Expr-F.Neg at e) ts rest fits is (low, (t1, s1, inr (some, s2))) stop free =
      let big = smallest-complete (out-Expr e) t1 rest s2 in
      let above : 0 < room = omega arith in
      let number : tree.Int big.word_is ≡ e = sym (rolls-Int big.word_is) ∙ ap roll-Expr (sym big.is) ∙ roll-out-Expr e in
      record { height = 2; low = omega arith; is = rw (next-sign k.Minus at ts t1 s1, sign-complete k.Minus ts t1 at s1, big.sees_it, not_zero room above, big.read) (same-tree 2 rest (ap (λ x. tree.Neg at x) number ∙ sym (rolls-Neg at e))) }
  unary-complete m p (Expr-F.Binary l o at r) ts rest fits is s stop free = cc
  unary-complete m p f ts rest fits is s stop free = unary-post m p f ts rest fits refl s stop free

  -- ---- operators

  operation-is : (least : ℕ) (x : Tall) (o : BinaryOp) (at : Span) (r : Expr) (h : ℕ) (ts t1 rest : List Token) → x.height ≤ room → least ≤ level_of o → Sign (sign_of o) at ts t1 → inner (level_of o + 1) t1 ≡ Found (tall r h) rest
      → climb inner room least x ts ≡ Found (binary_tree x o at (tall r h)) rest
  unfolding climb operation
  operation-is least x o at r h ts t1 rest low loose s is =
      rw (next_is least o ts (next-sign (sign_of o) at ts t1 s) loose, le-ltb room x.height low, sign-complete (sign_of o) ts t1 at s, is) refl

  climbs-on : (least : ℕ) (o : BinaryOp) (ts : List Token) → next_kind ts ≡ Some (sign_of o) → least ≤ level_of o → climbs least ts ≡ true
  climbs-on least o ts e loose = rw (next_is least o ts e loose) refl

  level-unary : (least m p : ℕ) (f : Expr-F Expr) (ts rest : List Token) → m ≤ room → is_unary f ≡ true → Layered m (Spells m) p f ts rest → Closed (p + 1) rest
      → Reaches (m + 1) (level inner room least ts) (climbs least) (climb inner room least) (roll-Expr f) rest
  unfolding level turns
  level-unary least m p f ts rest fits is s closed =
      let found = unary-complete m p f ts rest fits is s closed.dot closed.call in
      record { height = found.height; low = found.low; left = suc (length rest); enough = omega arith; is = rw (found.is) refl }

  level-reaches : (least m p : ℕ) (f : Expr-F Expr) (ts rest : List Token) → m ≤ room → least ≤ p → Layered m (Spells m) p f ts rest → Closed (p + 1) rest
      → Reaches (m + 1) (level inner room least ts) (climbs least) (climb inner room least) (roll-Expr f) rest
  unfolding Spells
  level-reaches least zero p (Expr-F.Binary l o at r) ts rest fits above (low, (mid, s, tail)) closed = absurd s
  level-reaches least (suc m) p (Expr-F.Binary l o at r) ts rest fits above (low, (mid, s, (t1, s1, s2))) closed =
      let next = next-sign (sign_of o) at mid t1 s1 in
      let b = level-reaches least m (level_of o) (out-Expr l) ts mid (omega arith) (omega arith) s (closed-operator o mid next) in
      let right-closed : Closed (level_of o + 1) rest = record { operators = tighter (p + 1) (level_of o + 1) rest closed.operators (omega arith); dot = closed.dot; call = closed.call } in
      let y = complete (suc m) (level_of o + 1) r t1 rest fits (next-level o) s2 right-closed in
      let (sound, cap, off) = known (level_of o + 1) t1 rest (tall r y.height) (next-level o) y.is in
      let a : length mid ≡ suc (length t1) = sign-shorter (sign_of o) mid t1 at s1 in
      let g : length rest < length t1 = sound.shorter in
      let under : b.height ≤ m + 1 = b.low in
      let fit : y.height ≤ suc m = y.low in
      let x : Tall = tall (roll-Expr (out-Expr l)) b.height in
      let (j, enough, same) = turn_once (climbs least) (climb inner room least) b.left x (binary_tree x o at (tall r y.height)) mid rest b.enough (climbs-on least o mid next (omega arith))
      (operation-is least x o at r y.height mid t1 rest (omega arith) (omega arith) s1 y.is) (omega arith) in
      record {
        height = max b.height y.height + 1;
        low = omega arith;
        left = j;
        enough = enough;
        is = b.is ∙ same ∙ ap (λ e. turns_from (climbs least) (climb inner room least) j (tall e (max b.height y.height + 1)) rest) (ap (λ e. tree.Binary e o at r) (roll-out-Expr l) ∙ sym (rolls-Binary l o at r));
      }
  level-reaches least m p f ts rest fits above s closed = level-unary least m p f ts rest fits refl s closed

  pub level-complete : (m p : ℕ) (f : Expr-F Expr) (ts rest : List Token) → m ≤ room → Layered m (Spells m) p f ts rest → Closed p rest → FindsTall (m + 1) (level inner room p ts) (roll-Expr f) rest
  level-complete m p f ts rest fits s closed =
      let b = level-reaches p m p f ts rest fits (omega arith) s (record { operators = tighter p (p + 1) rest closed.operators (omega arith); dot = closed.dot; call = closed.call }) in
      record { height = b.height; low = b.low; is = b.is ∙ turn_ends (climbs p) (climb inner room p) b.left (tall (roll-Expr f) b.height) rest b.enough closed.operators }

unrolled : (m : ℕ) (outcome : Outcome Tall) (e : Expr) (rest : List Token) → FindsTall (m + 1) outcome (roll-Expr (out-Expr e)) rest → FindsTall (suc m) outcome e rest
unrolled m outcome e rest found = record { height = found.height; low = let h = found.low in omega arith; is = found.is ∙ same-tree found.height rest (roll-out-Expr e) }

pub expr-complete : (room : ℕ) → Reading-complete room (expr room)
unfolding expr Spells
expr-complete zero zero p e ts rest fits at s closed = absurd s
expr-complete zero (suc m) p e ts rest fits at s closed = absurd (omega arith)
expr-complete (suc room) zero p e ts rest fits at s closed = absurd s
expr-complete (suc room) (suc m) p e ts rest fits at s closed =
    unrolled m (level (expr room) room p ts) e rest (level-complete room (expr room) (expr-sound room) (expr-complete room) m p (out-Expr e) ts rest (omega arith) s closed)

pub post_read-complete : (limit : ℕ) (e : Expr) (ts rest : List Token) → Spells limit 8 e ts rest → sees k.Dot rest ≡ false → sees k.LParen rest ≡ false → FindsTall limit (post_read limit ts) e rest
unfolding post_read Spells
post_read-complete zero e ts rest s stop free = absurd s
post_read-complete (suc room) e ts rest s stop free =
    unrolled room (post (expr room) room ts) e rest (post-complete room (expr room) (expr-sound room) (expr-complete room) room (out-Expr e) ts rest (omega arith) s stop free).finds
