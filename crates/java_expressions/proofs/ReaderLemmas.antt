-- The two laws of the reader over tokens, as its functions need them.
use Rattle.std.proofs.Common.{◌≡◌, ℕ, Bool, true, false, List, [], ◌∷◌, None, Result, Ok, Err, IfOk, refl, ap, ◌∙◌, sym, subst, lit≤, rules}
use Rattle.std.proofs.Math.Nat.{le_refl}
use Rattle.java_phrases.specs.Tree.{Kind, Kind as k, Token, Expr}
use Rattle.java_phrases.specs.Common.{Steps, ahead, Gives, Outcome, Found, Parser, same_kind, next_kind, sees}
use Rattle.java_phrases.specs.declared.error.SyntaxError.{SyntaxError}
use Rattle.java_phrases.specs.declared.tokens.Tokens.{Tokens}
use Rattle.java_expressions.specs.declared.tall.Tall.{Tall}
use Rattle.java_expressions.specs.Spelling.{Spells, Ends, goes_on_with}
use Rattle.java_expressions.specs.Reading.{tall, ended, ended_by, expr, post_read, goes_on, operator, next_operator}
use Rattle.java_phrases.proofs.Answered.{gives}
use Rattle.java_phrases.proofs.Phrases.{and_then-some}
use Rattle.java_expressions.proofs.Complete.{Closed, closed-by, FindsTall}
use Rattle.java_expressions.proofs.Chains.{expr-complete, post_read-complete}
use Rattle.java_expressions.proofs.Sound.{expr-sound, post_read-sound}

goes_off : (ts : List Token) → goes_on ts ≡ false → Ends ts
unfolding goes_on next_kind
goes_off [] e = tt
goes_off (t ∷ ts) e = e

off_goes : (ts : List Token) → Ends ts → goes_on ts ≡ false
unfolding goes_on next_kind
off_goes [] e = refl
off_goes (t ∷ ts) e = e

ended-sound_by : (b : Bool) (y : Tall) (e : Expr) (ts rest : List Token) → goes_on ts ≡ b → ended_by y b ts ≡ Found e rest → (e ≡ y.expr) × (rest ≡ ts) × (goes_on ts ≡ false)
ended-sound_by true y e ts rest is f = cc
ended-sound_by false y e ts rest is f = (cc, cc, is)

ended-sound : (p : Parser Tall) (least limit : ℕ) (ts rest : List Token) (e : Expr) → ((y : Tall) (mid : List Token) → p ts ≡ Found y mid → Spells limit least y.expr ts mid)
    → ended p ts ≡ Found e rest → Spells limit least e ts rest × Ends rest
ended-sound p least limit ts rest e sound f =
    let (y, mid, is, f1) = and_then-some (p ts) _ e rest f in
    let (a, b, off) = ended-sound_by (goes_on mid) y e mid rest refl f1 in
    let P : Expr → Type 0 = λ x. Spells limit least x ts rest in
    let Q : List Token → Type 0 = λ r. Spells limit least y.expr ts r in
    let R : List Token → Type 0 = λ r. Ends r in
    (subst P (sym a) (subst Q (sym b) (sound y mid is)), subst R (sym b) (goes_off mid off))

pub found_expr : (limit : ℕ) (r : Result Expr SyntaxError) (old new : Tokens) → Steps (ended (expr limit 1)) old r new → IfOk r (λ e. Spells limit 1 e (ahead old) (ahead new) × Ends (ahead new))
found_expr limit (Ok e) old new (is, kept) =
    ended-sound (expr limit 1) 1 limit (ahead old) (ahead new) e (λ y mid f. let (node, low, off) = expr-sound limit 1 (ahead old) mid y (lit≤ tt) f in node.spelled limit 1 low (lit≤ tt)) is
found_expr limit (Err e) old new reads = tt

pub found_post : (limit : ℕ) (r : Result Expr SyntaxError) (old new : Tokens) → Steps (ended (post_read limit)) old r new → IfOk r (λ e. Spells limit 8 e (ahead old) (ahead new) × Ends (ahead new))
found_post limit (Ok e) old new (is, kept) =
    ended-sound (post_read limit) 8 limit (ahead old) (ahead new) e (λ y mid f. let (node, low) = post_read-sound limit (ahead old) mid y f in node.spelled limit 8 low (lit≤ tt)) is
found_post limit (Err e) old new reads = tt

-- ---- what tokens spell is found

kinds-off : (kind : Kind) → goes_on_with kind ≡ false → (operator kind ≡ None) × (same_kind kind k.Dot ≡ false) × (same_kind kind k.LParen ≡ false)
kinds-off k.Or e = cc
kinds-off _ e = first_of (cc, search rules)

closed-end : (p : ℕ) (ts : List Token) → Ends ts → Closed p ts
unfolding next_operator next_kind sees
closed-end p [] ends = record { operators = refl; dot = refl; call = refl }
closed-end p (t ∷ ts) ends = let (a, b, d) = kinds-off t.kind (ends) in closed-by p t.kind (t ∷ ts) refl a b d

ended-complete : (p : Parser Tall) (e : Expr) (h : ℕ) (ts rest : List Token) → p ts ≡ Found (tall e h) rest → Ends rest → ended p ts ≡ Found e rest
ended-complete p e h ts rest is ends = rw (is, off_goes rest ends) refl

gives-tall : (p : Parser Tall) (limit : ℕ) (r : Result Expr SyntaxError) (old new : Tokens) → Steps (ended p) old r new → (e : Expr) (rest : List Token) → FindsTall limit (p (ahead old)) e rest → Ends rest → Gives r (ahead new) e rest
gives-tall p limit r old new reads e rest finds ends = gives (ended p) old new r reads e rest (ended-complete p e finds.height (ahead old) rest finds.is ends)

pub only_expr : (limit : ℕ) (r : Result Expr SyntaxError) (old new : Tokens) → Steps (ended (expr limit 1)) old r new
    → (e : Expr) (rest : List Token) → Spells limit 1 e (ahead old) rest → Ends rest → Gives r (ahead new) e rest
only_expr limit r old new reads e rest s ends =
    gives-tall (expr limit 1) limit r old new reads e rest (expr-complete limit limit 1 e (ahead old) rest (le_refl limit) (lit≤ tt) s (closed-end 1 rest ends)) ends

pub only_post : (limit : ℕ) (r : Result Expr SyntaxError) (old new : Tokens) → Steps (ended (post_read limit)) old r new
    → (e : Expr) (rest : List Token) → Spells limit 8 e (ahead old) rest → Ends rest → Gives r (ahead new) e rest
only_post limit r old new reads e rest s ends =
    let closed = closed-end 8 rest ends in
    gives-tall (post_read limit) limit r old new reads e rest (post_read-complete limit e (ahead old) rest s closed.dot closed.call) ends

-- ---- tokens begin with one expression at most

same_found : (one other : Expr) (h g : ℕ) (one_rest other_rest : List Token) → Found (tall one h) one_rest ≡ Found (tall other g) other_rest → (one ≡ other) × (one_rest ≡ other_rest)
same_found one other h g one_rest other_rest same =
    let tree : tall one h ≡ tall other g = cc in
    (ap (λ (y : Tall). y.expr) tree, cc)

one_found : {limit : ℕ} (ts one_rest other_rest : List Token) (one other : Expr) (outcome : Outcome Tall) → FindsTall limit outcome one one_rest → FindsTall limit outcome other other_rest → (one ≡ other) × (one_rest ≡ other_rest)
one_found ts one_rest other_rest one other outcome x y = same_found one other x.height y.height one_rest other_rest (sym x.is ∙ y.is)

pub one_expr : (limit : ℕ) (ts one_rest other_rest : List Token) (one other : Expr) → Spells limit 1 one ts one_rest → Ends one_rest → Spells limit 1 other ts other_rest → Ends other_rest
    → (one ≡ other) × (one_rest ≡ other_rest)
one_expr limit ts one_rest other_rest one other a b s t =
    one_found ts one_rest other_rest one other (expr limit 1 ts)
    (expr-complete limit limit 1 one ts one_rest (le_refl limit) (lit≤ tt) a (closed-end 1 one_rest b))
    (expr-complete limit limit 1 other ts other_rest (le_refl limit) (lit≤ tt) s (closed-end 1 other_rest t))
