-- What tokens spell, moved tokens spell moved: what phrases are made of, and types.
use Rattle.std.proofs.Common.{◌≡◌, ℕ, List, [], ◌∷◌, ◌++◌, Option, Some, None, map, refl, ap, ◌∙◌, sym, subst, inl, inr, append_assoc}
use Rattle.std.proofs.lemmas.List.{map-append}
use Rattle.std.specs.Option.{option_map}
use Rattle.desk_base.specs.declared.span.Span.{Span}
use Rattle.java_tree.specs.declared.kind.Kind.{Kind}
use Rattle.java_tree.specs.declared.kind.Kind.TheVariants as k
use Rattle.java_tree.specs.declared.token.Token.{Token}
use Rattle.java_tree.specs.declared.token.Lexeme.{Lexeme}
use Rattle.java_tree.specs.declared.member.Ty.{Ty}
use Rattle.java_tree.specs.declared.member.Ty.TheVariants as tree
use Rattle.java_phrases.specs.Phrase.{Phrase, Nothing, ◌⨾◌, ◌⊢◌, ◌∣◌, Never, Mark, Sign, Spelled, Named, Optional, Each, Separated}
use Rattle.java_phrases.specs.Types.{TySpells}
use Rattle.tree_places.specs.Moved.{moved_token, moved_lexeme, moved_tokens, moved_ty}

-- Where the first phrase takes some tokens, the second one takes these tokens moved, whatever follows.
pub record TakesMoved (place : Span → Span) (Q : Phrase) (ts rest : List Token) : Type 0 where
  pub own : List Token
  pub is : ts ≡ own ++ rest
  pub anywhere : (other : List Token) → Q (moved_tokens place own ++ other) other

-- What P spells, Q spells where its tokens are moved.
pub record Moves (place : Span → Span) (P Q : Phrase) : Type 0 where
  pub moves : (ts rest : List Token) → P ts rest → TakesMoved place Q ts rest

joined : (place : Span → Span) (a b other : List Token) → moved_tokens place (a ++ b) ++ other ≡ moved_tokens place a ++ (moved_tokens place b ++ other)
joined place a b other = ap (λ l. l ++ other) (map-append (moved_token place) a b) ∙ append_assoc (moved_tokens place a) (moved_tokens place b) other

module _ {place : Span → Span} where
  pub moves-never : (Q : Phrase) → Moves place Never Q
  moves-never Q = record { moves = λ ts rest s. absurd s }

  pub moves-nothing : Moves place Nothing Nothing
  moves-nothing = record { moves = λ ts rest e. record { own = []; is = e; anywhere = λ other. refl } }

  pub moves-mark : (kind : Kind) → Moves place (Mark kind) (Mark kind)
  moves-mark kind = record { moves = λ ts rest s. record { own = s.0 ∷ []; is = s.1; anywhere = λ other. (moved_token place s.0, refl, s.2) } }

  pub moves-sign : (kind : Kind) (at : Span) → Moves place (Sign kind at) (Sign kind (place at))
  moves-sign kind at = record { moves = λ ts rest s. record { own = s.0 ∷ []; is = s.1; anywhere = λ other. (moved_token place s.0, refl, s.2, ap place s.3) } }

  pub moves-lexeme : (kind : Kind) (w : Lexeme) → Moves place (Spelled kind w) (Spelled kind (moved_lexeme place w))
  moves-lexeme kind w = record { moves = λ ts rest s. record { own = s.0 ∷ []; is = s.1; anywhere = λ other. (moved_token place s.0, refl, s.2, ap (moved_lexeme place) s.3) } }

  pub moves-named : (text : List ℕ) → Moves place (Named text) (Named text)
  moves-named text = record { moves = λ ts rest s. record { own = s.0 ∷ []; is = s.1; anywhere = λ other. (moved_token place s.0, refl, s.2, s.3) } }

  one_then : {Q S : Phrase} (ts mid rest : List Token) → TakesMoved place Q ts mid → TakesMoved place S mid rest → TakesMoved place (Q ⨾ S) ts rest
  one_then {Q} {S} ts mid rest a b = record {
    own = a.own ++ b.own;
    is = a.is ∙ ap (λ l. a.own ++ l) b.is ∙ sym (append_assoc a.own b.own rest);
    anywhere = λ other.
        subst (λ l. (Q ⨾ S) l other) (sym (joined place a.own b.own other)) (moved_tokens place b.own ++ other, a.anywhere (moved_tokens place b.own ++ other), b.anywhere other);
  }

  infixr 12 ◌then◌
  pub ◌then◌ : {P Q R S : Phrase} → Moves place P Q → Moves place R S → Moves place (P ⨾ R) (Q ⨾ S)
  p then q = record { moves = λ ts rest s. one_then ts s.0 rest (p.moves ts s.0 s.1) (q.moves s.0 rest s.2) }

  pub moves-when : {C D : Type 0} (from : C → D) {P Q : Phrase} → Moves place P Q → Moves place (C ⊢ P) (D ⊢ Q)
  moves-when from p = record {
    moves = λ ts rest s. let t = p.moves ts rest s.1 in record { own = t.own; is = t.is; anywhere = λ other. (from s.0, t.anywhere other) };
  }

  pub moves-if : (C : Type 0) {P Q : Phrase} → Moves place P Q → Moves place (C ⊢ P) (C ⊢ Q)
  moves-if C = moves-when (λ c. c)

  either : {P Q R S : Phrase} → Moves place P Q → Moves place R S → (ts rest : List Token) → (P ∣ R) ts rest → TakesMoved place (Q ∣ S) ts rest
  either p q ts rest (inl s) = let t = p.moves ts rest s in record { own = t.own; is = t.is; anywhere = λ other. inl (t.anywhere other) }
  either p q ts rest (inr s) = let t = q.moves ts rest s in record { own = t.own; is = t.is; anywhere = λ other. inr (t.anywhere other) }

  pub moves-or : {P Q R S : Phrase} → Moves place P Q → Moves place R S → Moves place (P ∣ R) (Q ∣ S)
  moves-or p q = record { moves = either p q }

  pub moves-each : {A : Type 0} (f : A → A) (P Q : A → Phrase) → ((x : A) → Moves place (P x) (Q (f x))) → (xs : List A) → Moves place (Each P xs) (Each Q (map f xs))
  moves-each f P Q m [] = moves-nothing
  moves-each f P Q m (x ∷ xs) = m x then moves-each f P Q m xs

  pub moves-separated : {A : Type 0} (f : A → A) (P Q : A → Phrase) → ((x : A) → Moves place (P x) (Q (f x))) → (xs : List A) → Moves place (Separated P xs) (Separated Q (map f xs))
  moves-separated f P Q m [] = moves-nothing
  moves-separated f P Q m (x ∷ xs) = m x then moves-each f (λ y. Mark k.Comma ⨾ P y) (λ y. Mark k.Comma ⨾ Q y) (λ y. moves-mark k.Comma then m y) xs

  pub moves-ty : (y : Ty) → Moves place (TySpells y) (TySpells (moved_ty place y))
  moves-ty (tree.Int at) = moves-sign k.IntType at
  moves-ty (tree.Boolean at) = moves-sign k.BooleanType at
  moves-ty (tree.Named name) = moves-lexeme k.Name name

  pub moves-optional : {A : Type 0} (f : A → A) (P Q : A → Phrase) → ((x : A) → Moves place (P x) (Q (f x))) → (x : Option A) → Moves place (Optional P x) (Optional Q (option_map f x))
  moves-optional f P Q m None = moves-nothing
  moves-optional f P Q m (Some x) = m x
