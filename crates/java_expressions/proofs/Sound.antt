-- What the reader finds, the tokens spell.
use Rattle.std.proofs.Common.{◌≡◌, ◌≢◌, ℕ, zero, suc, ◌+◌, ◌<◌, ◌≤◌, max, Bool, true, false, cond, nat_lt, ◌==◌, ◌&&◌, List, [], ◌∷◌, ◌++◌, length, Option, Some, None, is_some, refl, ap, ◌∙◌, sym, subst, arith, inl, inr, lit≤}
use Rattle.std.proofs.lemmas.Bool.{ltb-false, ltb-true}
use Rattle.std.specs.Str.{bytes_eq}
use Rattle.std.proofs.lemmas.Slice.Eq.{bytes_eq-Decides}
use Rattle.java_phrases.specs.Tree.{Span, Kind, Kind as k, Token, Lexeme, Expr, out-Expr, Expr-F, BinaryOp, BinaryOp as op}
use Rattle.java_phrases.specs.Common.{Phrase, ◌⨾◌, Mark, Sign, Spelled, Separated, Each, smallest_digits, thread_name, Found, Parser, and_then, ◌>>=◌, pure, fail, same_kind, next_kind, sees, sees_text, sign, word, turns_from, turns}
use Rattle.java_tree.specs.declared.expr.Expr.TheVariants as tree
use Rattle.java_tree.specs.declared.expr.Expr.TheVariants.{outs-Int, outs-Str, outs-True, outs-False, outs-Null, outs-This, outs-Name, outs-Call, outs-New, outs-Paren, outs-Select, outs-CallOn, outs-Not, outs-Neg, outs-Binary}
use Rattle.java_expressions.specs.declared.tall.Tall.{Tall}
use Rattle.java_expressions.specs.declared.tall.Listed.{Listed}
use Rattle.java_expressions.specs.declared.tall.Arguments.{Arguments}
use Rattle.java_expressions.specs.Spelling.{sign_of, level_of, Smallest, Args, Layered, Spells}
use Rattle.java_expressions.specs.Reading.{tall, none, with_item, in_parentheses, call_tree, named_tree, new_tree, paren_tree, select_tree, call_on_tree, not_tree, neg_tree, smallest_tree, binary_tree, small, class_name, one_more, some_items, items_by, arguments, named_by, named, created, parenthesized, primary_by, primary, selected_by, selection, post, inverted, smallest, negated_by, negated, unary_by, unary, operation, climb_by, climb, climbs, level, expr, post_read, next_operator, operator_by, operator, tight, sees_smallest}
use Rattle.java_phrases.proofs.Phrases.{and_then-some, pure-is, sign-sound, word-sound, mark-sign}

-- ---- tokens that were taken

pub sign-shorter : (kind : Kind) (ts rest : List Token) (at : Span) → Sign kind at ts rest → length ts ≡ suc (length rest)
sign-shorter kind ts rest at (t, e, is, stands) = ap length e

pub word-shorter : (kind : Kind) (ts rest : List Token) (w : Lexeme) → Spelled kind w ts rest → length ts ≡ suc (length rest)
word-shorter kind ts rest w (t, e, is, stands) = ap length e

-- ---- loops

turns_by : {A : Type 0} (P : A → List Token → Type 0) (goes : List Token → Bool) (turn : A → Parser A) (n : ℕ) (x y : A) (ts rest : List Token)
    → ((x y : A) (ts rest : List Token) → P x ts → turn x ts ≡ Found y rest → P y rest)
    → ((x : A) (ts : List Token) → P x ts → turns_from goes turn n x ts ≡ Found y rest → P y rest × (goes rest ≡ false))
    → P x ts → (b : Bool) → goes ts ≡ b → cond b (and_then (turn x ts) (turns_from goes turn n)) (Found x ts) ≡ Found y rest → P y rest × (goes rest ≡ false)
turns_by P goes turn n x y ts rest step later p true test e =
    let (z, mid, is, e1) = and_then-some (turn x ts) _ y rest e in
    later z mid (step x z ts mid p is) e1
turns_by P goes turn n x y ts rest step later p false test e = pure-is (λ y r. P y r × (goes r ≡ false)) x y ts rest e (p, test)

turns_from-sound : {A : Type 0} (P : A → List Token → Type 0) (goes : List Token → Bool) (turn : A → Parser A) (n : ℕ) (x y : A) (ts rest : List Token)
    → ((x y : A) (ts rest : List Token) → P x ts → turn x ts ≡ Found y rest → P y rest)
    → P x ts → turns_from goes turn n x ts ≡ Found y rest → P y rest × (goes rest ≡ false)
unfolding turns_from
turns_from-sound P goes turn zero x y ts rest step p e = cc
turns_from-sound P goes turn (suc n) x y ts rest step p e =
    turns_by P goes turn n x y ts rest step (λ z mid q f. turns_from-sound P goes turn n z y mid rest step q f) p (goes ts) refl e

pub turns-sound : {A : Type 0} (P : A → List Token → Type 0) (goes : List Token → Bool) (turn : A → Parser A) (x y : A) (ts rest : List Token)
    → ((x y : A) (ts rest : List Token) → P x ts → turn x ts ≡ Found y rest → P y rest)
    → P x ts → turns goes turn x ts ≡ Found y rest → P y rest × (goes rest ≡ false)
unfolding turns
turns-sound P goes turn x y ts rest step p e = turns_from-sound P goes turn (suc (length ts)) x y ts rest step p e

-- ---- a tree of a height

pub record IsNode (most : ℕ) (ts : List Token) (y : Tall) (rest : List Token) : Type 0 where
  pub some : 0 < y.height
  pub shorter : length rest < length ts
  pub spelled : (m p : ℕ) → y.height ≤ m → p ≤ most → Spells m p y.expr ts rest

-- The list stands between ts and rest.
pub record IsList (ts : List Token) (y : Listed) (rest : List Token) : Type 0 where
  pub shorter : length rest ≤ length ts
  pub spelled : (m : ℕ) → y.height ≤ m → Separated (Spells m 1) y.items ts rest

-- The list isn't empty.
pub record IsMany (ts : List Token) (y : Listed) (rest : List Token) : Type 0 where
  pub is_list : IsList ts y rest
  pub head : Expr
  pub tail : List Expr
  pub is : y.items ≡ head ∷ tail

pub record AreArgs (ts : List Token) (y : Arguments) (rest : List Token) : Type 0 where
  pub shorter : length rest < length ts
  pub spelled : (m : ℕ) → y.height ≤ m → Args (Spells m 1) y.items y.closing ts rest

node_by : (f : Expr-F Expr) (e : Expr) (h most : ℕ) (ts rest : List Token) → out-Expr e ≡ f
    → ((n p : ℕ) → h ≤ n → p ≤ most → Layered n (Spells n) p f ts rest)
    → (m p : ℕ) → h + 1 ≤ m → p ≤ most → Spells m p e ts rest
unfolding Spells
node_by f e h most ts rest is layer zero p low at = absurd (omega arith)
node_by f e h most ts rest is layer (suc n) p low at =
    let P : Expr-F Expr → Type 0 = λ g. Layered n (Spells n) p g ts rest in
    subst P (sym is) (layer n p (omega arith) at)

node : (f : Expr-F Expr) (e : Expr) (h most : ℕ) (ts rest : List Token) → out-Expr e ≡ f → length rest < length ts
    → ((n p : ℕ) → h ≤ n → p ≤ most → Layered n (Spells n) p f ts rest)
    → IsNode most ts (tall e (h + 1)) rest
node f e h most ts rest is less layer = record { some = omega arith; shorter = less; spelled = node_by f e h most ts rest is layer }

leaf : (f : Expr-F Expr) (e : Expr) (ts rest : List Token) → out-Expr e ≡ f → length ts ≡ suc (length rest)
    → ((n p : ℕ) → Layered n (Spells n) p f ts rest)
    → IsNode 8 ts (tall e 1) rest
leaf f e ts rest is less layer = node f e 0 8 ts rest is (omega arith) (λ n p low at. layer n p)

-- ---- leaves

not_bytes : (b : Bool) (xs ys : List ℕ) → bytes_eq xs ys ≡ b → b ≡ false → xs ≢ ys
not_bytes b xs ys is off same = let on = (bytes_eq-Decides xs ys).1 same in cc

small_by : (w : Lexeme) (y : Tall) (ts mid rest : List Token) (b : Bool) → Spelled k.IntLiteral w ts mid → bytes_eq w.text smallest_digits ≡ b
    → cond b fail (pure (tall (tree.Int w) 1)) mid ≡ Found y rest → IsNode 8 ts y rest
small_by w y ts mid rest true s is e = cc
small_by w y ts mid rest false s is e =
    pure-is (λ y r. IsNode 8 ts y r) (tall (tree.Int w) 1) y mid rest e
    (leaf (Expr-F.Int w) (tree.Int w) ts mid (outs-Int w) (word-shorter k.IntLiteral ts mid w s) (λ n p. (not_bytes false w.text smallest_digits is refl, s)))

small-sound : (ts rest : List Token) (y : Tall) → small ts ≡ Found y rest → IsNode 8 ts y rest
unfolding small
small-sound ts rest y e =
    let (w, mid, is, e1) = and_then-some (word k.IntLiteral ts) _ y rest e in
    small_by w y ts mid rest (bytes_eq w.text smallest_digits) (word-sound k.IntLiteral ts mid w is) refl e1

class_by : (w v : Lexeme) (ts mid rest : List Token) (b : Bool) → Spelled k.Name w ts mid → bytes_eq w.text thread_name ≡ b
    → cond b fail (pure w) mid ≡ Found v rest → (v.text ≢ thread_name) × Spelled k.Name v ts rest
class_by w v ts mid rest true s is e = cc
class_by w v ts mid rest false s is e =
    pure-is (λ y r. (y.text ≢ thread_name) × Spelled k.Name y ts r) w v mid rest e (not_bytes false w.text thread_name is refl, s)

class_name-sound : (ts rest : List Token) (v : Lexeme) → class_name ts ≡ Found v rest → (v.text ≢ thread_name) × Spelled k.Name v ts rest
unfolding class_name
class_name-sound ts rest v e =
    let (w, mid, is, e1) = and_then-some (word k.Name ts) _ v rest e in
    class_by w v ts mid rest (bytes_eq w.text thread_name) (word-sound k.Name ts mid w is) refl e1

-- ---- lists

each-snoc : {A : Type 0} (P : A → Phrase) (xs : List A) (y : A) (ts mid rest : List Token) → Each P xs ts mid → P y mid rest → Each P (xs ++ y ∷ []) ts rest
each-snoc P [] y ts mid rest each last = let Q : List Token → Type 0 = λ l. P y l rest in (rest, subst Q (sym each) last, refl)
each-snoc P (x ∷ xs) y ts mid rest (t1, p, each) last = (t1, p, each-snoc P xs y t1 mid rest each last)

separated-snoc : (P : Expr → Phrase) (l xs : List Expr) (x y : Expr) (ts mid t1 rest : List Token) → l ≡ x ∷ xs → Separated P l ts mid → Mark k.Comma mid t1 → P y t1 rest
    → Separated P (l ++ y ∷ []) ts rest
separated-snoc P l xs x y ts mid t1 rest is s comma last =
    let Q : List Expr → Type 0 = λ l. Separated P l ts mid in
    let R : List Expr → Type 0 = λ l. Separated P (l ++ y ∷ []) ts rest in
    let (t0, p, each) = subst Q is s in
    subst R (sym is) (t0, p, each-snoc (λ z. Mark k.Comma ⨾ P z) xs y t0 mid rest each (t1, comma, last))

snoc-some : (l : List Expr) (x y : Expr) (xs : List Expr) → l ≡ x ∷ xs → l ++ y ∷ [] ≡ x ∷ (xs ++ y ∷ [])
snoc-some l x y xs is = ap (λ l. l ++ y ∷ []) is

-- ---- levels

pub next-level : (o : BinaryOp) → level_of o + 1 ≤ 7
next-level op.Or = lit≤ tt
next-level _ = lit≤ tt

tight_by : (b : Bool) (least : ℕ) (found o : BinaryOp) → nat_lt (level_of found) least ≡ b → cond b None (Some found) ≡ Some o → least ≤ level_of o
tight_by true least found o is e = cc
tight_by false least found o is e = let same : found ≡ o = cc in let P : BinaryOp → Type 0 = λ f. least ≤ level_of f in subst P same (ltb-false (level_of found) least is)

tight-low : (least : ℕ) (found : Option BinaryOp) (o : BinaryOp) → tight least found ≡ Some o → least ≤ level_of o
tight-low least None o e = cc
tight-low least (Some found) o e = tight_by (nat_lt (level_of found) least) least found o refl e

operator_low : (least : ℕ) (next : Option Kind) (o : BinaryOp) → operator_by least next ≡ Some o → least ≤ level_of o
operator_low least None o e = cc
operator_low least (Some kind) o e = tight-low least (operator kind) o e

pub next-low : (least : ℕ) (ts : List Token) (o : BinaryOp) → next_operator least ts ≡ Some o → least ≤ level_of o
unfolding next_operator
next-low least ts o e = operator_low least (next_kind ts) o e

unbound_by : (b c : Bool) (least l : ℕ) (f o : BinaryOp) → nat_lt (level_of f) least ≡ c → cond b None (Some f) ≡ Some o → is_some (cond c None (Some f)) ≡ false → level_of o < least
unbound_by true c least l f o is e off = cc
unbound_by false true least l f o is e off = let same : f ≡ o = cc in let P : BinaryOp → Type 0 = λ g. level_of g < least in subst P same (ltb-true (level_of f) least is)
unbound_by false false least l f o is e off = cc

unbound : (least l : ℕ) (found : Option BinaryOp) (o : BinaryOp) → tight l found ≡ Some o → is_some (tight least found) ≡ false → level_of o < least
unbound least l None o e off = cc
unbound least l (Some f) o e off = unbound_by (nat_lt (level_of f) l) (nat_lt (level_of f) least) least l f o refl e off

unbound_kind : (least l : ℕ) (next : Option Kind) (o : BinaryOp) → operator_by l next ≡ Some o → is_some (operator_by least next) ≡ false → level_of o < least
unbound_kind least l None o e off = cc
unbound_kind least l (Some kind) o e off = unbound least l (operator kind) o e off

pub unbound_next : (q l : ℕ) (ts : List Token) (o : BinaryOp) → next_operator l ts ≡ Some o → climbs (q + 1) ts ≡ false → level_of o ≤ q
unfolding next_operator
unbound_next q l ts o e off = let less = unbound_kind (q + 1) l (next_kind ts) o e off in omega arith

-- What was read so far of a chain of operators, and that the next one binds no tighter than its last.
pub record Climbing (room least : ℕ) (start : List Token) (x : Tall) (ts : List Token) : Type 0 where
  pub top : ℕ
  pub node : IsNode top start x ts
  pub loose : least ≤ top
  pub low : x.height ≤ room + 1
  pub stops : (l : ℕ) (o : BinaryOp) → next_operator l ts ≡ Some o → level_of o ≤ top

-- what an inner parser is known for
abbrev pub Reading-sound : ℕ → (ℕ → Parser Tall) → Type 0
Reading-sound room inner = (p : ℕ) (ts rest : List Token) (y : Tall) → p ≤ 7 → inner p ts ≡ Found y rest → IsNode p ts y rest × (y.height ≤ room) × (climbs p rest ≡ false)

module _ (room : ℕ) (inner : ℕ → Parser Tall) (known : Reading-sound room inner) where
  one_more-sound : (start ts rest : List Token) (x y : Listed) → IsMany start x ts × (x.height ≤ room) → one_more inner x ts ≡ Found y rest → IsMany start y rest × (y.height ≤ room)
  unfolding one_more
  one_more-sound start ts rest x y (many, low) e =
      let (comma, t1, is1, e1) = and_then-some (sign k.Comma ts) _ y rest e in
      let (z, t2, is2, e2) = and_then-some (inner 1 t1) _ y rest e1 in
      let s1 = sign-sound k.Comma ts t1 comma is1 in
      let (item, under, off) = known 1 t1 t2 z (lit≤ tt) is2 in
      let a : length ts ≡ suc (length t1) = sign-shorter k.Comma ts t1 comma s1 in
      let b : length t2 < length t1 = item.shorter in
      let d : length ts ≤ length start = many.is_list.shorter in
      pure-is (λ y r. IsMany start y r × (y.height ≤ room)) (with_item x z) y t2 rest e2 (
        record {
          is_list = record {
            shorter = omega arith;
            spelled = λ m h. separated-snoc (Spells m 1) x.items many.tail many.head z.expr start ts t1 t2 many.is (many.is_list.spelled m (omega arith)) (mark-sign k.Comma comma ts t1 s1) (item.spelled m 1 (omega arith) (lit≤ tt));
          };
          head = many.head;
          tail = many.tail ++ z.expr ∷ [];
          is = snoc-some x.items many.head z.expr many.tail many.is;
        },
        omega arith,
      )

  first-many : (z : Tall) (ts mid : List Token) → IsNode 1 ts z mid → IsMany ts (with_item none z) mid
  first-many z ts mid item =
      let b : length mid < length ts = item.shorter in
      record {
        is_list = record { shorter = omega arith; spelled = λ m h. (mid, item.spelled m 1 (omega arith) (lit≤ tt), refl) };
        head = z.expr;
        tail = [];
        is = refl;
      }

  more_items-sound : (start ts rest : List Token) (x y : Listed) → IsMany start x ts → x.height ≤ room → turns (sees k.Comma) (one_more inner) x ts ≡ Found y rest → IsMany start y rest × (y.height ≤ room)
  more_items-sound start ts rest x y many low e =
      (turns-sound (λ y r. IsMany start y r × (y.height ≤ room)) (sees k.Comma) (one_more inner) x y ts rest (λ x y ts rest. one_more-sound start ts rest x y) (many, low) e).0

  some_items-sound : (ts rest : List Token) (y : Listed) → some_items inner ts ≡ Found y rest → IsMany ts y rest × (y.height ≤ room)
  unfolding some_items
  some_items-sound ts rest y e =
      let (z, t1, is1, e1) = and_then-some (inner 1 ts) _ y rest e in
      let (item, under, off) = known 1 ts t1 z (lit≤ tt) is1 in
      more_items-sound ts t1 rest (with_item none z) y (first-many z ts t1 item) (omega arith) e1

  items_by-sound : (b : Bool) (ts rest : List Token) (y : Listed) → items_by inner b ts ≡ Found y rest → IsList ts y rest × (y.height ≤ room)
  items_by-sound true ts rest y e =
      pure-is (λ y r. IsList ts y r × (y.height ≤ room)) none y ts rest e (record { shorter = omega arith; spelled = λ m h. refl }, omega arith)
  items_by-sound false ts rest y e = let (many, low) = some_items-sound ts rest y e in (many.is_list, low)

  pub arguments-sound : (ts rest : List Token) (y : Arguments) → arguments inner ts ≡ Found y rest → AreArgs ts y rest × (y.height ≤ room)
  unfolding arguments
  arguments-sound ts rest y e =
      let (opening, t1, is1, e1) = and_then-some (sign k.LParen ts) _ y rest e in
      let (found, t2, is2, e2) = and_then-some (items_by inner (sees k.RParen t1) t1) _ y rest e1 in
      let (closing, t3, is3, e3) = and_then-some (sign k.RParen t2) _ y rest e2 in
      let s1 = sign-sound k.LParen ts t1 opening is1 in
      let s3 = sign-sound k.RParen t2 t3 closing is3 in
      let (list, low) = items_by-sound (sees k.RParen t1) t1 t2 found is2 in
      let a : length ts ≡ suc (length t1) = sign-shorter k.LParen ts t1 opening s1 in
      let b : length t2 ≤ length t1 = list.shorter in
      let d : length t2 ≡ suc (length t3) = sign-shorter k.RParen t2 t3 closing s3 in
      pure-is (λ y r. AreArgs ts y r × (y.height ≤ room)) (in_parentheses found closing) y t3 rest e3
      (record { shorter = omega arith; spelled = λ m h. (t1, mark-sign k.LParen opening ts t1 s1, (t2, list.spelled m h, s3)) }, low)

  -- ---- what begins a selection

  pub named_by-sound : (b : Bool) (w : Lexeme) (ts mid rest : List Token) (y : Tall) → Spelled k.Name w ts mid → named_by inner w b mid ≡ Found y rest → IsNode 8 ts y rest × (y.height ≤ room + 1)
  named_by-sound true w ts mid rest y s e =
      let (a, t1, is1, e1) = and_then-some (arguments inner mid) _ y rest e in
      let (args, low) = arguments-sound mid t1 a is1 in
      let b : length ts ≡ suc (length mid) = word-shorter k.Name ts mid w s in
      let d : length t1 < length mid = args.shorter in
      pure-is (λ y r. IsNode 8 ts y r × (y.height ≤ room + 1)) (call_tree w a) y t1 rest e1
      (node (Expr-F.Call w a.items a.closing) (tree.Call w a.items a.closing) a.height 8 ts t1 (outs-Call w a.items a.closing) (omega arith) (λ n p h at. (mid, s, args.spelled n h)), omega arith)
  named_by-sound false w ts mid rest y s e =
      pure-is (λ y r. IsNode 8 ts y r × (y.height ≤ room + 1)) (named_tree w) y mid rest e
      (leaf (Expr-F.Name w) (tree.Name w) ts mid (outs-Name w) (word-shorter k.Name ts mid w s) (λ n p. s), omega arith)

  named-sound : (ts rest : List Token) (y : Tall) → named inner ts ≡ Found y rest → IsNode 8 ts y rest × (y.height ≤ room + 1)
  unfolding named
  named-sound ts rest y e =
      let (w, t1, is1, e1) = and_then-some (word k.Name ts) _ y rest e in
      named_by-sound (sees k.LParen t1) w ts t1 rest y (word-sound k.Name ts t1 w is1) e1

  created-sound : (ts rest : List Token) (y : Tall) → created inner ts ≡ Found y rest → IsNode 8 ts y rest × (y.height ≤ room + 1)
  unfolding created
  created-sound ts rest y e =
      let (at, t1, is1, e1) = and_then-some (sign k.New ts) _ y rest e in
      let (w, t2, is2, e2) = and_then-some (class_name t1) _ y rest e1 in
      let (a, t3, is3, e3) = and_then-some (arguments inner t2) _ y rest e2 in
      let s1 = sign-sound k.New ts t1 at is1 in
      let (other, s2) = class_name-sound t1 t2 w is2 in
      let (args, low) = arguments-sound t2 t3 a is3 in
      let b : length ts ≡ suc (length t1) = sign-shorter k.New ts t1 at s1 in
      let d : length t1 ≡ suc (length t2) = word-shorter k.Name t1 t2 w s2 in
      let g : length t3 < length t2 = args.shorter in
      pure-is (λ y r. IsNode 8 ts y r × (y.height ≤ room + 1)) (new_tree at w a) y t3 rest e3 (
        node (Expr-F.New at w a.items a.closing) (tree.New at w a.items a.closing) a.height 8 ts t3 (outs-New at w a.items a.closing) (omega arith)
            (λ n p h low. (other, (t1, s1, (t2, s2, args.spelled n h)))),
        omega arith,
      )

  parenthesized-sound : (ts rest : List Token) (y : Tall) → parenthesized inner ts ≡ Found y rest → IsNode 8 ts y rest × (y.height ≤ room + 1)
  unfolding parenthesized
  parenthesized-sound ts rest y e =
      let (opening, t1, is1, e1) = and_then-some (sign k.LParen ts) _ y rest e in
      let (z, t2, is2, e2) = and_then-some (inner 1 t1) _ y rest e1 in
      let (closing, t3, is3, e3) = and_then-some (sign k.RParen t2) _ y rest e2 in
      let s1 = sign-sound k.LParen ts t1 opening is1 in
      let (inside, low, off) = known 1 t1 t2 z (lit≤ tt) is2 in
      let s3 = sign-sound k.RParen t2 t3 closing is3 in
      let b : length ts ≡ suc (length t1) = sign-shorter k.LParen ts t1 opening s1 in
      let d : length t2 < length t1 = inside.shorter in
      let g : length t2 ≡ suc (length t3) = sign-shorter k.RParen t2 t3 closing s3 in
      pure-is (λ y r. IsNode 8 ts y r × (y.height ≤ room + 1)) (paren_tree opening z closing) y t3 rest e3 (
        node (Expr-F.Paren opening z.expr closing) (tree.Paren opening z.expr closing) z.height 8 ts t3 (outs-Paren opening z.expr closing) (omega arith)
            (λ n p h at. (t1, s1, (t2, inside.spelled n 1 h (lit≤ tt), s3))),
        omega arith,
      )

  leaf-low : (ts rest : List Token) (y : Tall) → IsNode 8 ts y rest → y.height ≡ 1 → IsNode 8 ts y rest × (y.height ≤ room + 1)
  leaf-low ts rest y is one = (is, omega arith)

  small_low : (w : Lexeme) (y : Tall) (mid rest : List Token) (b : Bool) → cond b fail (pure (tall (tree.Int w) 1)) mid ≡ Found y rest → y.height ≡ 1
  small_low w y mid rest true e = cc
  small_low w y mid rest false e = pure-is (λ y r. y.height ≡ 1) (tall (tree.Int w) 1) y mid rest e refl

  small-low : (ts rest : List Token) (y : Tall) → small ts ≡ Found y rest → y.height ≡ 1
  unfolding small
  small-low ts rest y e =
      let (w, mid, is, e1) = and_then-some (word k.IntLiteral ts) _ y rest e in
      small_low w y mid rest (bytes_eq w.text smallest_digits) e1

  sign_leaf : (kind : Kind) (make : Span → Expr) (f : Span → Expr-F Expr) (ts rest : List Token) (y : Tall)
      → ((at : Span) → out-Expr (make at) ≡ f at)
      → ((at : Span) (ts rest : List Token) (n p : ℕ) → Sign kind at ts rest → Layered n (Spells n) p (f at) ts rest)
      → (sign kind >>= (λ at. pure (tall (make at) 1))) ts ≡ Found y rest → IsNode 8 ts y rest × (y.height ≤ room + 1)
  sign_leaf kind make f ts rest y outs layer e =
      let (at, t1, is1, e1) = and_then-some (sign kind ts) _ y rest e in
      let s = sign-sound kind ts t1 at is1 in
      pure-is (λ y r. IsNode 8 ts y r × (y.height ≤ room + 1)) (tall (make at) 1) y t1 rest e1
      (leaf (f at) (make at) ts t1 (outs at) (sign-shorter kind ts t1 at s) (λ n p. layer at ts t1 n p s), omega arith)

  primary_by-sound : (next : Option Kind) (ts rest : List Token) (y : Tall) → primary_by inner next ts ≡ Found y rest → IsNode 8 ts y rest × (y.height ≤ room + 1)
  primary_by-sound (Some k.IntLiteral) ts rest y e = leaf-low ts rest y (small-sound ts rest y e) (small-low ts rest y e)
  primary_by-sound (Some k.StrLiteral) ts rest y e =
      let (w, t1, is1, e1) = and_then-some (word k.StrLiteral ts) _ y rest e in
      let s = word-sound k.StrLiteral ts t1 w is1 in
      pure-is (λ y r. IsNode 8 ts y r × (y.height ≤ room + 1)) (tall (tree.Str w) 1) y t1 rest e1
      (leaf (Expr-F.Str w) (tree.Str w) ts t1 (outs-Str w) (word-shorter k.StrLiteral ts t1 w s) (λ n p. s), omega arith)
  primary_by-sound (Some k.True) ts rest y e = sign_leaf k.True (λ at. tree.True at) (λ at. Expr-F.True at) ts rest y (λ at. outs-True at) (λ at ts rest n p s. s) e
  primary_by-sound (Some k.False) ts rest y e = sign_leaf k.False (λ at. tree.False at) (λ at. Expr-F.False at) ts rest y (λ at. outs-False at) (λ at ts rest n p s. s) e
  primary_by-sound (Some k.Null) ts rest y e = sign_leaf k.Null (λ at. tree.Null at) (λ at. Expr-F.Null at) ts rest y (λ at. outs-Null at) (λ at ts rest n p s. s) e
  primary_by-sound (Some k.This) ts rest y e = sign_leaf k.This (λ at. tree.This at) (λ at. Expr-F.This at) ts rest y (λ at. outs-This at) (λ at ts rest n p s. s) e
  primary_by-sound (Some k.Name) ts rest y e = named-sound ts rest y e
  primary_by-sound (Some k.New) ts rest y e = created-sound ts rest y e
  primary_by-sound (Some k.LParen) ts rest y e = parenthesized-sound ts rest y e
  primary_by-sound _ ts rest y e = cc

  pub primary-sound : (ts rest : List Token) (y : Tall) → primary inner ts ≡ Found y rest → IsNode 8 ts y rest × (y.height ≤ room + 1)
  unfolding primary
  primary-sound ts rest y e = primary_by-sound (next_kind ts) ts rest y e

  -- ---- selections

  selected_by-sound : (b : Bool) (x y : Tall) (w : Lexeme) (dot : Span) (start ts t1 t2 rest : List Token) → IsNode 8 start x ts → x.height ≤ room
      → Sign k.Dot dot ts t1 → Spelled k.Name w t1 t2 → selected_by inner x w b t2 ≡ Found y rest → IsNode 8 start y rest × (y.height ≤ room + 1)
  selected_by-sound true x y w dot start ts t1 t2 rest from low s1 s2 e =
      let (a, t3, is3, e3) = and_then-some (arguments inner t2) _ y rest e in
      let (args, under) = arguments-sound t2 t3 a is3 in
      let b : length ts ≡ suc (length t1) = sign-shorter k.Dot ts t1 dot s1 in
      let d : length t1 ≡ suc (length t2) = word-shorter k.Name t1 t2 w s2 in
      let g : length t3 < length t2 = args.shorter in
      let h : length ts < length start = from.shorter in
      pure-is (λ y r. IsNode 8 start y r × (y.height ≤ room + 1)) (call_on_tree x w a) y t3 rest e3 (
        node (Expr-F.CallOn x.expr w a.items a.closing) (tree.CallOn x.expr w a.items a.closing) (max x.height a.height) 8 start t3 (outs-CallOn x.expr w a.items a.closing) (omega arith)
            (λ n p h at. (at, (ts, from.spelled n 8 (omega arith) (lit≤ tt), (t1, mark-sign k.Dot dot ts t1 s1, (t2, s2, args.spelled n (omega arith)))))),
        omega arith,
      )
  selected_by-sound false x y w dot start ts t1 t2 rest from low s1 s2 e =
      let b : length ts ≡ suc (length t1) = sign-shorter k.Dot ts t1 dot s1 in
      let d : length t1 ≡ suc (length t2) = word-shorter k.Name t1 t2 w s2 in
      let h : length ts < length start = from.shorter in
      pure-is (λ y r. IsNode 8 start y r × (y.height ≤ room + 1)) (select_tree x w) y t2 rest e (
        node (Expr-F.Select x.expr w) (tree.Select x.expr w) x.height 8 start t2 (outs-Select x.expr w) (omega arith)
            (λ n p h at. (at, (ts, from.spelled n 8 h (lit≤ tt), (t1, mark-sign k.Dot dot ts t1 s1, s2)))),
        omega arith,
      )

  selection_by : (b : Bool) (x y : Tall) (start ts rest : List Token) → IsNode 8 start x ts → nat_lt room x.height ≡ b
      → cond b fail (sign k.Dot >>= (λ _. word k.Name >>= (λ name ts. selected_by inner x name (sees k.LParen ts) ts))) ts ≡ Found y rest → IsNode 8 start y rest × (y.height ≤ room + 1)
  selection_by true x y start ts rest from is e = cc
  selection_by false x y start ts rest from is e =
      let (dot, t1, is1, e1) = and_then-some (sign k.Dot ts) _ y rest e in
      let (w, t2, is2, e2) = and_then-some (word k.Name t1) _ y rest e1 in
      selected_by-sound (sees k.LParen t2) x y w dot start ts t1 t2 rest from (ltb-false room x.height is) (sign-sound k.Dot ts t1 dot is1) (word-sound k.Name t1 t2 w is2) e2

  pub selection-sound : (start ts rest : List Token) (x y : Tall) → IsNode 8 start x ts → selection inner room x ts ≡ Found y rest → IsNode 8 start y rest × (y.height ≤ room + 1)
  unfolding selection
  selection-sound start ts rest x y from e = selection_by (nat_lt room x.height) x y start ts rest from refl e

  pub selections-sound : (start ts rest : List Token) (x y : Tall) → IsNode 8 start x ts × (x.height ≤ room + 1) → turns (sees k.Dot) (selection inner room) x ts ≡ Found y rest → IsNode 8 start y rest × (y.height ≤ room + 1)
  selections-sound start ts rest x y from e =
      (turns-sound (λ y r. IsNode 8 start y r × (y.height ≤ room + 1)) (sees k.Dot) (selection inner room) x y ts rest (λ x y ts rest (p, low) f. selection-sound start ts rest x y p f) from e).0

  pub post-sound : (ts rest : List Token) (y : Tall) → post inner room ts ≡ Found y rest → IsNode 8 ts y rest × (y.height ≤ room + 1)
  unfolding post
  post-sound ts rest y e =
      let (x, t1, is1, e1) = and_then-some (primary inner ts) _ y rest e in
      selections-sound ts t1 rest x y (primary-sound ts t1 x is1) e1

  -- ---- signs before an operand

  looser : (a b : ℕ) (ts rest : List Token) (y : Tall) → a ≤ b → IsNode b ts y rest → IsNode a ts y rest
  looser a b ts rest y low is = record { some = is.some; shorter = is.shorter; spelled = λ m p h at. is.spelled m p h (omega arith) }

  inverted-sound : (ts rest : List Token) (y : Tall) → inverted inner room ts ≡ Found y rest → IsNode 7 ts y rest × (y.height ≤ room + 1)
  unfolding inverted
  inverted-sound ts rest y e =
      let (at, t1, is1, e1) = and_then-some (sign k.Not ts) _ y rest e in
      let (z, t2, is2, e2) = and_then-some (inner 7 t1) _ y rest e1 in
      let s1 = sign-sound k.Not ts t1 at is1 in
      let (operand, low, off) = known 7 t1 t2 z (lit≤ tt) is2 in
      let b : length ts ≡ suc (length t1) = sign-shorter k.Not ts t1 at s1 in
      let d : length t2 < length t1 = operand.shorter in
      pure-is (λ y r. IsNode 7 ts y r × (y.height ≤ room + 1)) (not_tree at z) y t2 rest e2 (
        node (Expr-F.Not at z.expr) (tree.Not at z.expr) z.height 7 ts t2 (outs-Not at z.expr) (omega arith)
            (λ n p h low. (low, (t1, s1, operand.spelled n 7 h (lit≤ tt)))),
        omega arith,
      )

  both : (a b : Bool) → (a && b) ≡ true → b ≡ true
  both true b e = e
  both false b e = cc

  sees_smallest-sound : (ts rest : List Token) (w : Lexeme) → sees_smallest ts ≡ true → Spelled k.IntLiteral w ts rest → w.text ≡ smallest_digits
  unfolding sees_text
  sees_smallest-sound [] rest w sees (t, e, is, stands) = cc
  sees_smallest-sound (t ∷ ts) rest w sees (t', e, is, stands) =
      let same : t ≡ t' = cc in
      let bytes : t.bytes ≡ smallest_digits = (bytes_eq-Decides t.bytes smallest_digits).0 (both (same_kind t.kind k.IntLiteral) (bytes_eq t.bytes smallest_digits) sees) in
      ap (λ (v : Lexeme). v.text) (sym stands) ∙ ap (λ (u : Token). u.bytes) (sym same) ∙ bytes

  positive : (n : ℕ) → (n == 0) ≡ false → 1 ≤ n
  positive zero e = cc
  positive (suc n) e = omega arith

  smallest-int : (w : Lexeme) (ts rest : List Token) → w.text ≡ smallest_digits → Spelled k.IntLiteral w ts rest → Smallest (out-Expr (tree.Int w)) ts rest
  smallest-int w ts rest big s = let P : Expr-F Expr → Type 0 = λ f. Smallest f ts rest in subst P (sym (outs-Int w)) (big, s)

  smallest_by : (b : Bool) (at : Span) (y : Tall) (ts t1 rest : List Token) → Sign k.Minus at ts t1 → sees_smallest t1 ≡ true → (room == 0) ≡ b
      → cond b fail (word k.IntLiteral >>= (λ number. pure (smallest_tree at number))) t1 ≡ Found y rest → IsNode 7 ts y rest × (y.height ≤ room + 1)
  smallest_by true at y ts t1 rest s1 sees is e = cc
  smallest_by false at y ts t1 rest s1 sees is e =
      let (w, t2, is2, e2) = and_then-some (word k.IntLiteral t1) _ y rest e in
      let s2 = word-sound k.IntLiteral t1 t2 w is2 in
      let big : w.text ≡ smallest_digits = sees_smallest-sound t1 t2 w sees s2 in
      let b : length ts ≡ suc (length t1) = sign-shorter k.Minus ts t1 at s1 in
      let d : length t1 ≡ suc (length t2) = word-shorter k.IntLiteral t1 t2 w s2 in
      let room_is : 1 ≤ room = positive room is in
      pure-is (λ y r. IsNode 7 ts y r × (y.height ≤ room + 1)) (smallest_tree at w) y t2 rest e2 (
        node (Expr-F.Neg at (tree.Int w)) (tree.Neg at (tree.Int w)) 1 7 ts t2 (outs-Neg at (tree.Int w)) (omega arith)
            (λ n p h low. (low, (t1, s1, inr (h, smallest-int w t1 t2 big s2)))),
        omega arith,
      )

  negated_by-sound : (b : Bool) (at : Span) (y : Tall) (ts t1 rest : List Token) → Sign k.Minus at ts t1 → sees_smallest t1 ≡ b → negated_by inner room at b t1 ≡ Found y rest → IsNode 7 ts y rest × (y.height ≤ room + 1)
  unfolding smallest
  negated_by-sound true at y ts t1 rest s1 sees e = smallest_by (room == 0) at y ts t1 rest s1 sees refl e
  negated_by-sound false at y ts t1 rest s1 sees e =
      let (z, t2, is2, e2) = and_then-some (inner 7 t1) _ y rest e in
      let (operand, low, off) = known 7 t1 t2 z (lit≤ tt) is2 in
      let b : length ts ≡ suc (length t1) = sign-shorter k.Minus ts t1 at s1 in
      let d : length t2 < length t1 = operand.shorter in
      pure-is (λ y r. IsNode 7 ts y r × (y.height ≤ room + 1)) (neg_tree at z) y t2 rest e2 (
        node (Expr-F.Neg at z.expr) (tree.Neg at z.expr) z.height 7 ts t2 (outs-Neg at z.expr) (omega arith)
            (λ n p h low. (low, (t1, s1, inl (operand.spelled n 7 h (lit≤ tt))))),
        omega arith,
      )

  negated-sound : (ts rest : List Token) (y : Tall) → negated inner room ts ≡ Found y rest → IsNode 7 ts y rest × (y.height ≤ room + 1)
  unfolding negated
  negated-sound ts rest y e =
      let (at, t1, is1, e1) = and_then-some (sign k.Minus ts) _ y rest e in
      negated_by-sound (sees_smallest t1) at y ts t1 rest (sign-sound k.Minus ts t1 at is1) refl e1

  unary_by-sound : (next : Option Kind) (ts rest : List Token) (y : Tall) → unary_by inner room next ts ≡ Found y rest → IsNode 7 ts y rest × (y.height ≤ room + 1)
  unary_by-sound (Some k.Not) ts rest y e = inverted-sound ts rest y e
  unary_by-sound (Some k.Minus) ts rest y e = negated-sound ts rest y e
  unary_by-sound _ ts rest y e = let (is, low) = post-sound ts rest y e in (looser 7 8 ts rest y (lit≤ tt) is, low)

  unary-sound : (ts rest : List Token) (y : Tall) → unary inner room ts ≡ Found y rest → IsNode 7 ts y rest × (y.height ≤ room + 1)
  unfolding unary
  unary-sound ts rest y e = unary_by-sound (next_kind ts) ts rest y e

  -- ---- operators

  operation_by : (b : Bool) (least : ℕ) (x y : Tall) (o : BinaryOp) (start ts rest : List Token) (from : Climbing room least start x ts) → least ≤ level_of o → level_of o ≤ from.top → nat_lt room x.height ≡ b
      → cond b fail (sign (sign_of o) >>= (λ at. inner (level_of o + 1) >>= (λ y. pure (binary_tree x o at y)))) ts ≡ Found y rest → Climbing room least start y rest
  operation_by true least x y o start ts rest from loose under is e = cc
  operation_by false least x y o start ts rest from loose under is e =
      let (at, t1, is1, e1) = and_then-some (sign (sign_of o) ts) _ y rest e in
      let (z, t2, is2, e2) = and_then-some (inner (level_of o + 1) t1) _ y rest e1 in
      let s1 = sign-sound (sign_of o) ts t1 at is1 in
      let (right, low, off) = known (level_of o + 1) t1 t2 z (next-level o) is2 in
      let left : x.height ≤ room = ltb-false room x.height is in
      let b : length ts ≡ suc (length t1) = sign-shorter (sign_of o) ts t1 at s1 in
      let d : length t2 < length t1 = right.shorter in
      let h : length ts < length start = from.node.shorter in
      pure-is (λ y r. Climbing room least start y r) (binary_tree x o at z) y t2 rest e2
      (record {
        top = level_of o;
        node = node (Expr-F.Binary x.expr o at z.expr) (tree.Binary x.expr o at z.expr) (max x.height z.height) (level_of o) start t2 (outs-Binary x.expr o at z.expr) (omega arith)
            (λ n p h fits. (fits, (ts, from.node.spelled n (level_of o) (omega arith) under, (t1, s1, right.spelled n (level_of o + 1) (omega arith) (omega arith)))));
        loose = loose;
        low = omega arith;
        stops = λ l other next. unbound_next (level_of o) l t2 other next off;
      })

  climb_by-sound : (least : ℕ) (next : Option BinaryOp) (x y : Tall) (start ts rest : List Token) → Climbing room least start x ts → next_operator least ts ≡ next → climb_by inner room x next ts ≡ Found y rest → Climbing room least start y rest
  unfolding operation
  climb_by-sound least None x y start ts rest from is e = cc
  climb_by-sound least (Some o) x y start ts rest from is e = operation_by (nat_lt room x.height) least x y o start ts rest from (next-low least ts o is) (from.stops least o is) refl e

  climb-sound : (least : ℕ) (start ts rest : List Token) (x y : Tall) → Climbing room least start x ts → climb inner room least x ts ≡ Found y rest → Climbing room least start y rest
  unfolding climb
  climb-sound least start ts rest x y from e = climb_by-sound least (next_operator least ts) x y start ts rest from refl e

  pub operations-sound : (least : ℕ) (start ts rest : List Token) (x y : Tall) → Climbing room least start x ts → turns (climbs least) (climb inner room least) x ts ≡ Found y rest
      → Climbing room least start y rest × (climbs least rest ≡ false)
  operations-sound least start ts rest x y from e =
      turns-sound (λ y r. Climbing room least start y r) (climbs least) (climb inner room least) x y ts rest (λ x y ts rest p f. climb-sound least start ts rest x y p f) from e

  pub climbing : (least : ℕ) (start ts : List Token) (x : Tall) → least ≤ 7 → IsNode 7 start x ts → x.height ≤ room + 1 → Climbing room least start x ts
  climbing least start ts x at is low = record { top = 7; node = is; loose = at; low = low; stops = λ l o next. let h = next-level o in omega arith }

  pub level-sound : (least : ℕ) (ts rest : List Token) (y : Tall) → least ≤ 7 → level inner room least ts ≡ Found y rest → IsNode least ts y rest × (y.height ≤ room + 1) × (climbs least rest ≡ false)
  unfolding level
  level-sound least ts rest y at e =
      let (x, t1, is1, e1) = and_then-some (unary inner room ts) _ y rest e in
      let (first, low) = unary-sound ts t1 x is1 in
      let (all, off) = operations-sound least ts t1 rest x y (climbing least ts t1 x at first low) e1 in
      (looser least all.top ts rest y all.loose all.node, all.low, off)

pub expr-sound : (room : ℕ) → Reading-sound room (expr room)
unfolding expr
expr-sound zero p ts rest y at e = cc
expr-sound (suc room) p ts rest y at e =
    let (is, low, off) = level-sound room (expr room) (expr-sound room) p ts rest y at e in
    (is, omega arith, off)

pub post_read-sound : (limit : ℕ) (ts rest : List Token) (y : Tall) → post_read limit ts ≡ Found y rest → IsNode 8 ts y rest × (y.height ≤ limit)
unfolding post_read
post_read-sound zero ts rest y e = cc
post_read-sound (suc room) ts rest y e = let (is, low) = post-sound room (expr room) (expr-sound room) ts rest y e in (is, omega arith)
