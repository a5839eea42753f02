-- Trees that keep the tokens that spell them, wherever these stand.
use Rattle.std.proofs.Common.{◌≡◌, ℕ, List, ◌++◌, ap, ◌∙◌, sym, subst}
use Rattle.std.proofs.lemmas.List.{append_cancel_right}
use Rattle.desk_base.specs.declared.span.Span.{Span}
use Rattle.java_tree.specs.declared.token.Token.{Token}
use Rattle.java_phrases.specs.Phrase.{Phrase}
use Rattle.java_reader.specs.Alike.{Alike}
use Rattle.tree_places.specs.Moved.{moved_tokens}
use Rattle.tree_places.specs.Bare.{nowhere}
use Rattle.tree_places.specs.Numbers.{numbered_span, placed_span}
use Rattle.tree_places.proofs.Moves.{Moves}
use Rattle.tree_places.proofs.Alike.{moved-alike}
use Rattle.tree_places.proofs.Numbers.{Rising, in_order-alike, numbered-tokens, placed-in_order}

-- P spells trees that keep their tokens, moved trees of moved tokens, and one tree of some tokens with
-- these behind them.
pub record Keeps {A : Type 0} (P : A → Phrase) (tokens : A → List Token) (move : (Span → Span) → A → A) (Behind : List Token → Type 0) : Type 0 where
  pub moves : (place : Span → Span) (x : A) → Moves place (P x) (P (move place x))
  pub keeps : (x : A) (ts rest : List Token) → P x ts rest → ts ≡ tokens x ++ rest
  pub once : (x y : A) (ts rest : List Token) → Behind rest → P x ts rest → P y ts rest → x ≡ y
  pub end : List Token
  pub ends : Behind end

module _ {A : Type 0} (P : A → Phrase) (tokens : A → List Token) (move : (Span → Span) → A → A) (Behind : List Token → Type 0) (k : Keeps P tokens move Behind) where
  -- the moved tree of its moved tokens, whatever follows
  takes : (place : Span → Span) (x : A) (ts rest : List Token) → P x ts rest → (other : List Token) → P (move place x) (moved_tokens place (tokens x) ++ other) other
  takes place x ts rest s other =
      let t = (k.moves place x).moves ts rest s in
      let own : t.own ≡ tokens x = append_cancel_right t.own (tokens x) rest (sym t.is ∙ k.keeps x ts rest s) in
      subst (λ l. P (move place x) (moved_tokens place l ++ other) other) own (t.anywhere other)

  -- of the same tokens, once they are moved, the same tree
  pub same : (p q : Span → Span) (x y : A) (ts rest us left : List Token) → P x ts rest → P y us left → moved_tokens p (tokens x) ≡ moved_tokens q (tokens y) → move p x ≡ move q y
  same p q x y ts rest us left s t is =
      k.once (move p x) (move q y) (moved_tokens p (tokens x) ++ k.end) k.end k.ends (takes p x ts rest s k.end)
      (subst (λ l. P (move q y) (l ++ k.end) k.end) (sym is) (takes q y us left t k.end))

  pub bare : (x y : A) (ts rest us left : List Token) → P x ts rest → P y us left → Alike (tokens x) (tokens y) → move nowhere x ≡ move nowhere y
  bare x y ts rest us left s t alike = same nowhere nowhere x y ts rest us left s t (moved-alike (tokens x) (tokens y) alike)

  pub numbered : (x y : A) (ts rest us left : List Token) (from other : ℕ) → P x ts rest → P y us left → Rising from (tokens x) → Rising other (tokens y) → Alike (tokens x) (tokens y)
      → move (numbered_span (tokens x)) x ≡ move (numbered_span (tokens y)) y
  numbered x y ts rest us left from other s t up climbing alike =
      same (numbered_span (tokens x)) (numbered_span (tokens y)) x y ts rest us left s t
      (numbered-tokens (tokens x) from up ∙ in_order-alike 0 (tokens x) (tokens y) alike ∙ sym (numbered-tokens (tokens y) other climbing))

  pub placed : (x : A) (ts rest : List Token) (from : ℕ) → Behind rest → P x ts rest → Rising from (tokens x) → move (placed_span (tokens x)) (move (numbered_span (tokens x)) x) ≡ x
  placed x ts rest from behind s up =
      let own = tokens x in
      let p = numbered_span own in
      let q = placed_span own in
      let a : P (move p x) (moved_tokens p own ++ rest) rest = takes p x ts rest s rest in
      let b : P (move q (move p x)) (moved_tokens q (tokens (move p x)) ++ rest) rest = takes q (move p x) (moved_tokens p own ++ rest) rest a rest in
      let kept : moved_tokens p own ≡ tokens (move p x) = append_cancel_right (moved_tokens p own) (tokens (move p x)) rest (k.keeps (move p x) (moved_tokens p own ++ rest) rest a) in
      let again : moved_tokens q (tokens (move p x)) ≡ own = ap (moved_tokens q) (sym kept ∙ numbered-tokens own from up) ∙ placed-in_order own in
      k.once (move q (move p x)) x ts rest behind (subst (λ l. P (move q (move p x)) l rest) (ap (λ l. l ++ rest) again ∙ sym (k.keeps x ts rest s)) b) s
