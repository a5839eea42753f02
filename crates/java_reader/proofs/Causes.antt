-- A text is read or has one cause why it isn't.
use Rattle.std.proofs.Common.{◌≡◌, ◌≢◌, inl, inr, ℕ, ◌≤◌, List, length, Some, None, Result, Ok, Err, IfOk, IfErr, refl, ap, ◌∙◌, sym, subst, arith}
use Rattle.desk_base.specs.declared.limit.LimitName.{LimitName}
use Rattle.desk_base.specs.declared.limit.LimitName.TheVariants as limit
use Rattle.java_phrases.specs.Tree.{Token, FileTree}
use Rattle.java_lexer.specs.Lexing.{Lexes, LexAt}
use Rattle.java_reader.specs.declared.error.ReadError.{ReadError}
use Rattle.java_reader.specs.declared.error.ReadError.TheVariants as error
use Rattle.java_reader.specs.Spelling.{Spells}
use Rattle.java_reader.specs.Reads.{Reads, IsTooLongAt, IsLexAt, IsLongNameAt, IsGrammarAt, IsLimitAt, IsCauseOf, first_long_name, place_of, GivesFile, Refuses}
use Rattle.desk_base.specs.Limit.{limit_max}
use Rattle.java_reader.specs.Answers.{IsTokenCause}
use Rattle.java_reader.specs.Parts.{LeftByLongest}
use Rattle.java_reader.proofs.Unique.{one-left}
use Rattle.java_reader.proofs.Spelled.{one-file}

data View (text : List ℕ) (e : ReadError) : Type 0 where
  too_long : (at : ℕ) → e ≡ error.Limit limit.FileBytes at → IsTooLongAt text at → View text e
  lexical : (at : ℕ) → e ≡ error.Lex at → IsLexAt text at → View text e
  long_name : (at : ℕ) → e ≡ error.Limit limit.NameBytes at → IsLongNameAt text at → View text e
  grammar : (at : ℕ) → e ≡ error.Grammar at → IsGrammarAt text at → View text e

limit-view : (which : LimitName) (at : ℕ) (text : List ℕ) → IsLimitAt which text at → View text (error.Limit which at)
limit-view limit.FileBytes at text h = too_long at refl h
limit-view limit.NameBytes at text h = long_name at refl h
limit-view _ at text none = absurd none

view : (text : List ℕ) (e : ReadError) → IsCauseOf text e → e ≢ error.OutOfMemory → View text e
view text (error.Limit which at) h other = limit-view which at text h
view text (error.Lex at) h other = lexical at refl h
view text (error.Grammar at) h other = grammar at refl h
view text error.OutOfMemory h other = absurd (other refl)

-- the causes that tokens have
pub text-cause : (text : List ℕ) (tokens : List Token) (r : Result FileTree ReadError) → length text ≤ limit_max limit.FileBytes → Lexes text tokens → IfErr r (IsTokenCause (length text) tokens) → IfErr r (IsCauseOf text)
text-cause text tokens (Ok tree) fits lexed h = tt
text-cause text tokens (Err error.OutOfMemory) fits lexed h = tt
text-cause text tokens (Err (error.Lex at)) fits lexed none = absurd none
text-cause text tokens (Err (error.Grammar at)) fits lexed (names, fault) = record { fits = fits; tokens = tokens; lexed = lexed; names = names; fault = fault }
text-cause text tokens (Err (error.Limit limit.NameBytes at)) fits lexed (name, first, place) = record { fits = fits; tokens = tokens; lexed = lexed; name = name; first = first; place = place }
text-cause text tokens (Err (error.Limit _ at)) fits lexed none = absurd none

module _ (list : (text : List ℕ) (first second : List Token) → Lexes text first → Lexes text second → first ≡ second)
    (place : (text : List ℕ) (first second : ℕ) → LexAt text first → LexAt text second → first ≡ second)
    (apart : (text : List ℕ) (tokens : List Token) (at : ℕ) → Lexes text tokens → LexAt text at → ⊥) where
  name-place : (text : List ℕ) (a b : ℕ) → IsLongNameAt text a → IsLongNameAt text b → a ≡ b
  name-place text a b x y =
      let e : Some x.name ≡ Some y.name = sym x.first ∙ ap first_long_name (list text x.tokens y.tokens x.lexed y.lexed) ∙ y.first in
      let same : x.name ≡ y.name = cc in
      x.place ∙ ap (λ (t : Token). t.span.start) same ∙ sym y.place

  grammar-place : (text : List ℕ) (a b : ℕ) → IsGrammarAt text a → IsGrammarAt text b → a ≡ b
  grammar-place text a b x y =
      let P : List Token → Type 0 = λ ts. LeftByLongest ts y.fault.left in
      let same : x.fault.left ≡ y.fault.left = one-left x.tokens x.fault.left y.fault.left x.fault.begun (subst P (list text y.tokens x.tokens y.lexed x.lexed) y.fault.begun) in
      x.fault.place ∙ ap (λ l. place_of l (length text)) same ∙ sym y.fault.place

  no-name : (text : List ℕ) (tokens : List Token) (at : ℕ) → Lexes text tokens → first_long_name tokens ≡ None → IsLongNameAt text at → ⊥
  no-name text tokens at lexed none x =
      let e : None ≡ Some x.name = sym none ∙ ap first_long_name (list text tokens x.tokens lexed x.lexed) ∙ x.first in
      cc

  same-cause : (text : List ℕ) (a b : ReadError) → View text a → View text b → a ≡ b
  same-cause text a b (too_long i e (x, p)) (too_long j f (y, q)) = e ∙ ap (error.Limit limit.FileBytes) (p ∙ sym q) ∙ sym f
  same-cause text a b (too_long i e (x, p)) (lexical j f (y, q)) = absurd (omega arith)
  same-cause text a b (too_long i e (x, p)) (long_name j f y) = let fits = y.fits in absurd (omega arith)
  same-cause text a b (too_long i e (x, p)) (grammar j f y) = let fits = y.fits in absurd (omega arith)
  same-cause text a b (lexical i e (x, p)) (too_long j f (y, q)) = absurd (omega arith)
  same-cause text a b (lexical i e (x, p)) (lexical j f (y, q)) = e ∙ ap error.Lex (place text i j p q) ∙ sym f
  same-cause text a b (lexical i e (x, p)) (long_name j f y) = absurd (apart text y.tokens i y.lexed p)
  same-cause text a b (lexical i e (x, p)) (grammar j f y) = absurd (apart text y.tokens i y.lexed p)
  same-cause text a b (long_name i e x) (too_long j f (y, q)) = let fits = x.fits in absurd (omega arith)
  same-cause text a b (long_name i e x) (lexical j f (y, q)) = absurd (apart text x.tokens j x.lexed q)
  same-cause text a b (long_name i e x) (long_name j f y) = e ∙ ap (error.Limit limit.NameBytes) (name-place text i j x y) ∙ sym f
  same-cause text a b (long_name i e x) (grammar j f y) = absurd (no-name text y.tokens i y.lexed y.names x)
  same-cause text a b (grammar i e x) (too_long j f (y, q)) = let fits = x.fits in absurd (omega arith)
  same-cause text a b (grammar i e x) (lexical j f (y, q)) = absurd (apart text x.tokens j x.lexed q)
  same-cause text a b (grammar i e x) (long_name j f y) = absurd (no-name text x.tokens j x.lexed x.names y)
  same-cause text a b (grammar i e x) (grammar j f y) = e ∙ ap error.Grammar (grammar-place text i j x y) ∙ sym f

  read-none : (text : List ℕ) (tree : FileTree) (e : ReadError) → Reads text tree → View text e → ⊥
  read-none text tree e r (too_long i is (x, p)) = let fits = r.fits in absurd (omega arith)
  read-none text tree e r (lexical i is (x, p)) = apart text r.tokens i r.lexed p
  read-none text tree e r (long_name i is x) = no-name text r.tokens i r.lexed r.names x
  read-none text tree e r (grammar i is x) =
      let P : List Token → Type 0 = λ ts. Spells ts tree in
      x.fault.unspelled tree (subst P (list text r.tokens x.tokens r.lexed x.lexed) r.spelled)

  pub one-tree : (text : List ℕ) (a b : FileTree) → Reads text a → Reads text b → a ≡ b
  one-tree text a b x y = let P : List Token → Type 0 = λ ts. Spells ts b in one-file a b x.tokens x.spelled (subst P (list text y.tokens x.tokens y.lexed x.lexed) y.spelled)

  read-err : (text : List ℕ) (tree : FileTree) (e : ReadError) → Reads text tree → IsCauseOf text e → e ≢ error.OutOfMemory → ⊥
  read-err text tree e r h other = read-none text tree e r (view text e h other)

  pub only-tree : (text : List ℕ) (r : Result FileTree ReadError) → IfOk r (Reads text) → IfErr r (IsCauseOf text) → (tree : FileTree) → Reads text tree → GivesFile r tree
  only-tree text (Ok found) reads cause tree s = one-tree text found tree reads s
  only-tree text (Err error.OutOfMemory) reads cause tree s = refl
  only-tree text (Err (error.Limit which at)) reads cause tree s = absurd (read-err text tree (error.Limit which at) s cause (λ e. cc))
  only-tree text (Err (error.Lex at)) reads cause tree s = absurd (read-err text tree (error.Lex at) s cause (λ e. cc))
  only-tree text (Err (error.Grammar at)) reads cause tree s = absurd (read-err text tree (error.Grammar at) s cause (λ e. cc))

  same-err : (text : List ℕ) (a b : ReadError) → IsCauseOf text a → IsCauseOf text b → a ≢ error.OutOfMemory → b ≢ error.OutOfMemory → a ≡ b
  same-err text a b x y other also = same-cause text a b (view text a x other) (view text b y also)

  pub only-cause : (text : List ℕ) (r : Result FileTree ReadError) → IfOk r (Reads text) → IfErr r (IsCauseOf text) → (e : ReadError) → IsCauseOf text e → e ≢ error.OutOfMemory → Refuses r e
  only-cause text (Ok found) reads cause e h other = read-err text found e reads h other
  only-cause text (Err error.OutOfMemory) reads cause e h other = inr refl
  only-cause text (Err (error.Limit which at)) reads cause e h other = inl (same-err text (error.Limit which at) e cause h (λ e. cc) other)
  only-cause text (Err (error.Lex at)) reads cause e h other = inl (same-err text (error.Lex at) e cause h (λ e. cc) other)
  only-cause text (Err (error.Grammar at)) reads cause e h other = inl (same-err text (error.Grammar at) e cause h (λ e. cc) other)
