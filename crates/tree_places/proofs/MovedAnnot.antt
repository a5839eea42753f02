-- What tokens spell as an annotation, moved tokens spell as the moved annotation.
use Rattle.std.proofs.Common.{◌≡◌, ℕ, zero, suc, List, [], ◌∷◌, ◌++◌, map, Option, Some, None, refl, ap, ◌∙◌}
use Rattle.std.specs.Option.{option_map}
use Rattle.std.proofs.lemmas.List.{map-append}
use Rattle.desk_base.specs.declared.span.Span.{Span}
use Rattle.java_tree.specs.declared.kind.Kind.{Kind}
use Rattle.java_tree.specs.declared.kind.Kind.TheVariants as k
use Rattle.java_tree.specs.declared.token.Lexeme.{Lexeme}
use Rattle.java_tree.specs.declared.member.Annot.{Annot}
use Rattle.java_tree.specs.declared.member.AnnotLayer.{AnnotLayer}
use Rattle.java_tree.specs.declared.member.InnerAnnot.{InnerAnnot}
use Rattle.java_tree.specs.declared.member.Elements.{Elements}
use Rattle.java_tree.specs.declared.member.Elements.TheVariants as elements
use Rattle.java_tree.specs.declared.member.Elem.{Elem}
use Rattle.java_tree.specs.declared.member.Elem.TheVariants as element
use Rattle.java_phrases.specs.Phrase.{Phrase, Spelled}
use Rattle.java_heads.specs.Annotation.{Joined, Qualified, ValueWord, Held, elems_of, inner_of, Listed, ElementsBy, AnnotBy, inner_annot, InnerSpells, ElemBy, ElemWithin, AnnotSpells}
use Rattle.tree_places.specs.Moved.{moved_lexeme, moved_lexemes}
use Rattle.tree_places.specs.MovedAnnot.{moved_elem, moved_elements, moved_annot_layer, moved_inner, moved_annot}
use Rattle.tree_places.proofs.Moves.{Moves, moves-never, moves-nothing, moves-mark, moves-sign, moves-lexeme, ◌then◌, moves-if, moves-when, moves-each, moves-separated}

module _ (place : Span → Span) where
  pub moves-joined : {A : Type 0} (sign : Kind) (f : A → A) (P Q : A → Phrase) → ((x : A) → Moves place (P x) (Q (f x))) → (xs : List A) → Moves place (Joined sign P xs) (Joined sign Q (map f xs))
  moves-joined sign f P Q moves [] = moves-never _
  moves-joined sign f P Q moves (x ∷ xs) = moves x then moves-each f _ _ (λ y. moves-mark sign then moves y) xs

  pub moves-qualified : (names : List Lexeme) → Moves place (Qualified names) (Qualified (moved_lexemes place names))
  moves-qualified = moves-joined k.Dot (moved_lexeme place) (Spelled k.Name) (Spelled k.Name) (moves-lexeme k.Name)

  moves-value : (w : Option Lexeme) → Moves place (ValueWord w) (ValueWord (option_map (moved_lexeme place) w))
  moves-value None = moves-nothing
  moves-value (Some w) = moves-if _ (moves-lexeme k.Name w then moves-mark k.Assign)

  abbrev moved_inners : List InnerAnnot → List InnerAnnot
  moved_inners = map (moved_inner place)

  abbrev moved_held : Held → Held
  moved_held h = record { elem = moved_elem place h.elem; inner = moved_inners h.inner }

  elems-moved : (held : List Held) → map (moved_elem place) (elems_of held) ≡ elems_of (map moved_held held)
  elems-moved [] = refl
  elems-moved (h ∷ held) = ap (λ l. moved_elem place h.elem ∷ l) (elems-moved held)

  inner-moved : (held : List Held) → moved_inners (inner_of held) ≡ inner_of (map moved_held held)
  inner-moved [] = refl
  inner-moved (h ∷ held) = map-append (moved_inner place) h.inner (inner_of held) ∙ ap (λ l. moved_inners h.inner ++ l) (inner-moved held)

  last-moved : (within : List InnerAnnot) (i : InnerAnnot) → moved_inners (within ++ i ∷ []) ≡ moved_inners within ++ moved_inner place i ∷ []
  last-moved within i = map-append (moved_inner place) within (i ∷ [])

  module _ (Inner : Held → Phrase) (inner : (h : Held) → Moves place (Inner h) (Inner (moved_held h))) where
    moves-listed : (elems : List Elem) (is : List InnerAnnot) → Moves place (Listed Inner elems is) (Listed Inner (map (moved_elem place) elems) (moved_inners is))
    moves-listed elems is = record {
      moves = λ ts rest s.
          let t = (moves-separated moved_held Inner Inner inner s.0).moves ts rest s.3 in
          let e = ap (map (moved_elem place)) s.1 ∙ elems-moved s.0 in
          let i = ap moved_inners s.2 ∙ inner-moved s.0 in
          record { own = t.own; is = t.is; anywhere = λ other. (map moved_held s.0, e, i, t.anywhere other) };
    }

    moves-elements : (e : Elements) (is : List InnerAnnot) → Moves place (ElementsBy Inner e is) (ElementsBy Inner (moved_elements place e) (moved_inners is))
    moves-elements elements.Bare is = moves-when (λ none. ap moved_inners none) moves-nothing
    moves-elements (elements.Empty opening closing) is = moves-when (λ none. ap moved_inners none) (moves-sign k.LParen opening then moves-sign k.RParen closing)
    moves-elements (elements.One opening value elem closing) is =
        moves-sign k.LParen opening then moves-value value then inner (record { elem = elem; inner = is }) then moves-sign k.RParen closing
    moves-elements (elements.Many opening value elems closing) is =
        moves-sign k.LParen opening then moves-value value then moves-mark k.LBrace then moves-listed elems is then moves-mark k.RBrace then moves-sign k.RParen closing

    moves-layer : (l : AnnotLayer) (is : List InnerAnnot) → Moves place (AnnotBy Inner l is) (AnnotBy Inner (moved_annot_layer place l) (moved_inners is))
    moves-layer l is = moves-sign k.At l.at then moves-qualified l.name then moves-elements l.elements is

    moves-inner : (depth : ℕ) (is : List InnerAnnot) → Moves place (InnerSpells Inner depth is) (InnerSpells Inner depth (moved_inners is))
    moves-inner depth is = record {
      moves = λ ts rest s.
          let t = (moves-layer s.0 s.1).moves ts rest s.3 in
          let e = ap moved_inners s.2 ∙ last-moved s.1 (inner_annot depth s.0) in
          record { own = t.own; is = t.is; anywhere = λ other. (moved_annot_layer place s.0, moved_inners s.1, e, t.anywhere other) };
    }

    moves-elem : (depth : ℕ) (e : Elem) (is : List InnerAnnot) → Moves place (ElemBy Inner depth e is) (ElemBy Inner depth (moved_elem place e) (moved_inners is))
    moves-elem depth (element.Str text) is = moves-when (λ none. ap moved_inners none) (moves-lexeme k.StrLiteral text)
    moves-elem depth element.Annot is = moves-inner depth is

  moves-within : (limit depth : ℕ) (h : Held) → Moves place (ElemWithin limit depth h) (ElemWithin limit depth (moved_held h))
  unfolding ElemWithin
  moves-within zero depth h = moves-never _
  moves-within (suc limit) depth h = moves-elem (ElemWithin limit (suc depth)) (moves-within limit (suc depth)) depth h.elem h.inner

  pub moves-annot : (a : Annot) → Moves place (AnnotSpells a) (AnnotSpells (moved_annot place a))
  moves-annot a = record {
    moves = λ ts rest s.
        let t = (moves-layer (ElemWithin s.0 1) (moves-within s.0 1) a.layer a.inner).moves ts rest s.1 in
        record { own = t.own; is = t.is; anywhere = λ other. (s.0, t.anywhere other) };
  }
