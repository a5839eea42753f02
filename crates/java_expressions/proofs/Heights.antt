-- What the functions of the code need of what was read: that it is low enough, and that tokens were taken.
use Rattle.std.proofs.Common.{◌≡◌, ℕ, suc, ◌+◌, ◌<◌, ◌≤◌, Bool, true, false, cond, nat_lt, List, length, Some, Result, Ok, Err, IfOk, refl, ◌∙◌, arith}
use Rattle.java_phrases.specs.Tree.{Kind as k, Token, Lexeme, BinaryOp}
use Rattle.java_phrases.specs.Common.{Steps, Found, Lost, ◌>>=◌, pure, fail, sees, sign, word}
use Rattle.java_phrases.specs.declared.error.SyntaxError.{SyntaxError}
use Rattle.java_phrases.specs.declared.tokens.Tokens.{Tokens}
use Rattle.java_expressions.specs.declared.tall.Tall.{Tall}
use Rattle.java_expressions.specs.declared.tall.Listed.{Listed}
use Rattle.java_expressions.specs.declared.tall.Arguments.{Arguments}
use Rattle.java_expressions.specs.Spelling.{sign_of, level_of}
use Rattle.java_expressions.specs.Reading.{with_item, binary_tree, select_tree, call_on_tree, one_more, arguments, selected_by, selection, operation, climb, next_operator, expr}
use Rattle.java_phrases.proofs.Phrases.{and_then-some, pure-is, sign-sound, word-sound}
use Rattle.java_expressions.proofs.Sound.{sign-shorter, word-shorter, arguments-sound, expr-sound, next-level}

pub low_expr : (room least : ℕ) (r : Result Tall SyntaxError) (old new : Tokens) → least ≤ 7 → room ≤ 255 → Steps (expr room least) old r new → IfOk r (λ y. y.height ≤ 255)
low_expr room least (Ok y) old new at fits (e, kept) = let (is, low, off) = expr-sound room least _ _ y at e in omega arith
low_expr room least (Err e) old new at fits reads = tt

pub low_args : (room : ℕ) (r : Result Arguments SyntaxError) (old new : Tokens) → room ≤ 255 → Steps (arguments (expr room)) old r new → IfOk r (λ a. a.height ≤ 255)
low_args room (Ok a) old new fits (e, kept) = let (is, low) = arguments-sound room (expr room) (expr-sound room) _ _ a e in omega arith
low_args room (Err e) old new fits reads = tt

pub one_more-shorter : (room : ℕ) (ts rest : List Token) (x y : Listed) → one_more (expr room) x ts ≡ Found y rest → length rest < length ts
unfolding one_more
one_more-shorter room ts rest x y e =
    let (comma, t1, is1, e1) = and_then-some (sign k.Comma ts) _ y rest e in
    let (z, t2, is2, e2) = and_then-some (expr room 1 t1) _ y rest e1 in
    let (item, low, off) = expr-sound room 1 t1 t2 z (omega arith) is2 in
    let a : length ts ≡ suc (length t1) = sign-shorter k.Comma ts t1 comma (sign-sound k.Comma ts t1 comma is1) in
    let b : length t2 < length t1 = item.shorter in
    pure-is (λ y r. length r < length ts) (with_item x z) y t2 rest e2 (omega arith)

selected_shorter : (b : Bool) (room : ℕ) (x y : Tall) (w : Lexeme) (ts rest : List Token) → selected_by (expr room) x w b ts ≡ Found y rest → length rest ≤ length ts
selected_shorter true room x y w ts rest e =
    let (a, t1, is1, e1) = and_then-some (arguments (expr room) ts) _ y rest e in
    let (args, low) = arguments-sound room (expr room) (expr-sound room) ts t1 a is1 in
    let b : length t1 < length ts = args.shorter in
    pure-is (λ y r. length r ≤ length ts) (call_on_tree x w a) y t1 rest e1 (omega arith)
selected_shorter false room x y w ts rest e = pure-is (λ y r. length r ≤ length ts) (select_tree x w) y ts rest e (omega arith)

selection_by : (b : Bool) (room : ℕ) (x y : Tall) (ts rest : List Token)
    → cond b fail (sign k.Dot >>= (λ _. word k.Name >>= (λ name ts. selected_by (expr room) x name (sees k.LParen ts) ts))) ts ≡ Found y rest → length rest < length ts
selection_by true room x y ts rest e = cc
selection_by false room x y ts rest e =
    let (dot, t1, is1, e1) = and_then-some (sign k.Dot ts) _ y rest e in
    let (w, t2, is2, e2) = and_then-some (word k.Name t1) _ y rest e1 in
    let a : length ts ≡ suc (length t1) = sign-shorter k.Dot ts t1 dot (sign-sound k.Dot ts t1 dot is1) in
    let b : length t1 ≡ suc (length t2) = word-shorter k.Name t1 t2 w (word-sound k.Name t1 t2 w is2) in
    let d : length rest ≤ length t2 = selected_shorter (sees k.LParen t2) room x y w t2 rest e2 in
    omega arith

pub selection-shorter : (room : ℕ) (ts rest : List Token) (x y : Tall) → selection (expr room) room x ts ≡ Found y rest → length rest < length ts
unfolding selection
selection-shorter room ts rest x y e = selection_by (nat_lt room x.height) room x y ts rest e

operation_by : (b : Bool) (room : ℕ) (x y : Tall) (o : BinaryOp) (ts rest : List Token)
    → cond b fail (sign (sign_of o) >>= (λ at. expr room (level_of o + 1) >>= (λ y. pure (binary_tree x o at y)))) ts ≡ Found y rest → length rest < length ts
operation_by true room x y o ts rest e = cc
operation_by false room x y o ts rest e =
    let (at, t1, is1, e1) = and_then-some (sign (sign_of o) ts) _ y rest e in
    let (z, t2, is2, e2) = and_then-some (expr room (level_of o + 1) t1) _ y rest e1 in
    let (right, low, off) = expr-sound room (level_of o + 1) t1 t2 z (next-level o) is2 in
    let a : length ts ≡ suc (length t1) = sign-shorter (sign_of o) ts t1 at (sign-sound (sign_of o) ts t1 at is1) in
    let b : length t2 < length t1 = right.shorter in
    pure-is (λ y r. length r < length ts) (binary_tree x o at z) y t2 rest e2 (omega arith)

pub operation-shorter : (room : ℕ) (ts rest : List Token) (x y : Tall) (o : BinaryOp) → operation (expr room) room x o ts ≡ Found y rest → length rest < length ts
unfolding operation
operation-shorter room ts rest x y o e = operation_by (nat_lt room x.height) room x y o ts rest e

-- a turn of the loop over operators, where the next one is this
pub climb_is : (room least : ℕ) (x : Tall) (o : BinaryOp) (ts : List Token) → next_operator least ts ≡ Some o → climb (expr room) room least x ts ≡ operation (expr room) room x o ts
unfolding climb
climb_is room least x o ts is = rw is refl

pub climb_lost : (room least : ℕ) (x : Tall) (o : BinaryOp) (ts : List Token) → next_operator least ts ≡ Some o → operation (expr room) room x o ts ≡ Lost → climb (expr room) room least x ts ≡ Lost
climb_lost room least x o ts is lost = climb_is room least x o ts is ∙ lost
