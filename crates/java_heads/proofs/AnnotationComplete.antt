-- What tokens spell as an annotation, the reader finds.
use Rattle.std.proofs.Common.{◌≡◌, ℕ, zero, suc, ◌<◌, Bool, true, false, List, [], ◌∷◌, ◌++◌, length, Option, Some, None, refl, ap, ◌∙◌, sym, subst, arith, append_assoc}
use Rattle.std.specs.Str.{bytes_eq}
use Rattle.std.proofs.lemmas.Slice.Eq.{bytes_eq-Decides}
use Rattle.std.proofs.lemmas.List.{reverse-reverse, append-nil, length-append}
use Rattle.java_phrases.specs.Tree.{Span, Kind, Kind as k, Token, Lexeme, Annot, AnnotLayer, InnerAnnot, Elements, Elements as elements, Elem, Elem as element}
use Rattle.java_phrases.specs.Common.{Phrase, ◌⨾◌, Mark, Sign, Spelled, Separated, Each, Found, next_kind, same_kind, sees}
use Rattle.java_phrases.proofs.Phrases.{sign-complete, word-complete, next-sign, next-mark, next-word}
use Rattle.java_phrases.proofs.Turned.{reverse_push}
use Rattle.java_heads.specs.declared.nest.Frame.{Frame}
use Rattle.java_heads.specs.declared.nest.Opened.{Opened}
use Rattle.java_heads.specs.declared.nest.Opened.TheVariants as opened
use Rattle.java_heads.specs.declared.nest.Nest.{Nest}
use Rattle.java_heads.specs.Annotation.{Qualified, value_name, ValueWord, Held, elems_of, inner_of, ElementsBy, AnnotBy, inner_annot, ElemBy, ElemWithin, AnnotSpells}
use Rattle.java_heads.specs.Reading.{value_word, layer, frame, with_elem, one_tree, many_tree, closed, inside, filled_by, parenthesized, head, placed, text_placed, nest, surrounded, entered, turn, none_outside, is_whole, nested_from, nested, annotation, goes_on}
use Rattle.java_heads.proofs.Lists.{mark-complete, sees-kind}
use Rattle.java_heads.proofs.NameLaws.{qualified-complete, goes_off}
use Rattle.java_heads.proofs.AnnotationSound.{turn-shorter}
use Rattle.java_heads.proofs.NestLoop.{turn_once, turn_ends}

-- ---- what may follow an annotation

pub record Suits (ts : List Token) : Type 0 where
  pub call : sees k.LParen ts ≡ false
  pub dot : goes_on ts ≡ false

pub suits-kind : (kind : Kind) (ts : List Token) → next_kind ts ≡ Some kind → same_kind kind k.LParen ≡ false → same_kind kind k.Dot ≡ false → Suits ts
suits-kind kind ts e a b = record { call = sees-kind k.LParen kind ts e ∙ a; dot = goes_off kind ts e b }

-- ---- turns

record Comes (x : Nest) (ts : List Token) (y : Nest) (rest : List Token) : Type 0 where
  go : (n : ℕ) → length ts < n → (j : ℕ) × (length rest < j) × (nested_from n x ts ≡ nested_from j y rest)

comes-here : (x : Nest) (ts : List Token) → Comes x ts x ts
comes-here x ts = record { go = λ n enough. (n, enough, refl) }

comes-then : (x y z : Nest) (ts mid rest : List Token) → Comes x ts y mid → Comes y mid z rest → Comes x ts z rest
comes-then x y z ts mid rest a b = record {
  go = λ n enough. let (i, more, same) = a.go n enough in let (j, most, so) = b.go i more in (j, most, same ∙ so);
}

comes-turn : (x y : Nest) (ts rest : List Token) → is_whole x ≡ false → turn x ts ≡ Found y rest → Comes x ts y rest
comes-turn x y ts rest on is = record { go = λ n enough. turn_once n x y ts rest enough on is (turn-shorter x y ts rest is) }

open-goes : (outer : List Frame) (ended : List InnerAnnot) (f : Frame) → is_whole (nest outer ended (opened.Open f)) ≡ false
unfolding is_whole
open-goes outer ended f = refl

some_outside : (outer : List Frame) (f : Frame) → none_outside (outer ++ f ∷ []) ≡ false
some_outside [] f = refl
some_outside (g ∷ outer) f = refl

whole-goes : (outer : List Frame) (ended : List InnerAnnot) (f : Frame) (a : AnnotLayer) → is_whole (nest (outer ++ f ∷ []) ended (opened.Whole a)) ≡ false
unfolding is_whole
whole-goes outer ended f a = some_outside outer f

one-deeper : (outer : List Frame) (f : Frame) → length (outer ++ f ∷ []) ≡ suc (length outer)
one-deeper outer f = omega (arith, length-append outer (f ∷ []))

turn-text : (outer : List Frame) (ended : List InnerAnnot) (f : Frame) (text : Lexeme) (o : Opened) (ts mid rest : List Token) → Spelled k.StrLiteral text ts mid → placed f (element.Str text) mid ≡ Found o rest
    → turn (nest outer ended (opened.Open f)) ts ≡ Found (nest outer ended o) rest
unfolding turn entered text_placed
turn-text outer ended f text o ts mid rest s is = rw (sees-kind k.StrLiteral k.StrLiteral ts (next-word k.StrLiteral text ts mid s), word-complete k.StrLiteral ts mid text s, is) refl

turn-enter : (outer : List Frame) (ended : List InnerAnnot) (f : Frame) (o : Opened) (ts rest : List Token) → next_kind ts ≡ Some k.At → head ts ≡ Found o rest
    → turn (nest outer ended (opened.Open f)) ts ≡ Found (nest (outer ++ f ∷ []) ended o) rest
unfolding turn entered
turn-enter outer ended f o ts rest next is = rw (sees-kind k.StrLiteral k.At ts next, is) refl

turn-leave : (outer : List Frame) (ended : List InnerAnnot) (f : Frame) (a : AnnotLayer) (o : Opened) (ts rest : List Token) → placed f element.Annot ts ≡ Found o rest
    → turn (nest (outer ++ f ∷ []) ended (opened.Whole a)) ts ≡ Found (nest outer (ended ++ inner_annot (suc (length outer)) a ∷ []) o) rest
unfolding turn surrounded
turn-leave outer ended f a o ts rest is =
    rw (reverse_push outer f, is)
    (ap (λ l. Found (nest l (ended ++ inner_annot (length (outer ++ f ∷ [])) a ∷ []) o) rest) (reverse-reverse outer)
    ∙ ap (λ m. Found (nest outer (ended ++ inner_annot m a ∷ []) o) rest) (one-deeper outer f))

-- ---- the parts of an annotation

value_word-complete : (v : Option Lexeme) (ts rest : List Token) → ValueWord v ts rest → sees k.Name rest ≡ false → value_word ts ≡ Found v rest
unfolding value_word
value_word-complete None ts rest s off = let P : List Token → Type 0 = λ l. value_word l ≡ Found None rest in subst P (sym s) (rw off refl)
value_word-complete (Some w) ts rest (same, (mid, s, s1)) off =
    let (at, is) = mark-complete k.Assign mid rest s1 in
    let on : bytes_eq w.text value_name ≡ true = (bytes_eq-Decides w.text value_name).1 same in
    rw (sees-kind k.Name k.Name ts (next-word k.Name w ts mid s), word-complete k.Name ts mid w s, on, is) refl

value-first : (kind : Kind) (v : Option Lexeme) (ts rest : List Token) → ValueWord v ts rest → same_kind k.Name kind ≡ false → sees kind rest ≡ false → sees kind ts ≡ false
value-first kind None ts rest s other off = let P : List Token → Type 0 = λ l. sees kind l ≡ false in subst P (sym s) off
value-first kind (Some w) ts rest (same, (mid, s, s1)) other off = sees-kind kind k.Name ts (next-word k.Name w ts mid s) ∙ other

head-bare : (at : Span) (name : List Lexeme) (ts t1 rest : List Token) → Sign k.At at ts t1 → Qualified name t1 rest → Suits rest → head ts ≡ Found (opened.Whole (layer at name elements.Bare)) rest
unfolding head
head-bare at name ts t1 rest s1 s2 suits = rw (sign-complete k.At ts t1 at s1, qualified-complete name t1 rest s2 suits.dot, suits.call) refl

head-filled : (at : Span) (name : List Lexeme) (opening : Span) (o : Opened) (ts t1 t2 t3 rest : List Token) (b : Bool) → Sign k.At at ts t1 → Qualified name t1 t2 → Sign k.LParen opening t2 t3 → sees k.RParen t3 ≡ b → filled_by at name opening b t3 ≡ Found o rest
    → head ts ≡ Found o rest
unfolding head parenthesized
head-filled at name opening o ts t1 t2 t3 rest b s1 s2 s3 is found =
    let next = next-sign k.LParen opening t2 t3 s3 in
    rw (sign-complete k.At ts t1 at s1, qualified-complete name t1 t2 s2 (goes_off k.LParen t2 next refl), sees-kind k.LParen k.LParen t2 next, sign-complete k.LParen t2 t3 opening s3, is) found

-- with what an element begins
record Begins (ts : List Token) : Type 0 where
  paren : sees k.RParen ts ≡ false
  left : sees k.LBrace ts ≡ false
  right : sees k.RBrace ts ≡ false
  name : sees k.Name ts ≡ false

begins-kind : (kind : Kind) (ts : List Token) → next_kind ts ≡ Some kind → same_kind kind k.RParen ≡ false → same_kind kind k.LBrace ≡ false → same_kind kind k.RBrace ≡ false → same_kind kind k.Name ≡ false → Begins ts
begins-kind kind ts e a b d f = record {
  paren = sees-kind k.RParen kind ts e ∙ a;
  left = sees-kind k.LBrace kind ts e ∙ b;
  right = sees-kind k.RBrace kind ts e ∙ d;
  name = sees-kind k.Name kind ts e ∙ f;
}

begins-by : (P : Held → Phrase) (d : ℕ) (elem : Elem) (inner : List InnerAnnot) (ts rest : List Token) → ElemBy P d elem inner ts rest → Begins ts
begins-by P d (element.Str text) inner ts rest (none, s) = begins-kind k.StrLiteral ts (next-word k.StrLiteral text ts rest s) refl refl refl refl
begins-by P d element.Annot inner ts rest (a, within, e, (mid, s, s1)) = begins-kind k.At ts (next-sign k.At a.at ts mid s) refl refl refl refl

begins-elem : (n d : ℕ) (h : Held) (ts rest : List Token) → ElemWithin n d h ts rest → Begins ts
unfolding ElemWithin
begins-elem zero d h ts rest s = absurd s
begins-elem (suc n) d h ts rest s = begins-by (ElemWithin n (suc d)) d h.elem h.inner ts rest s

inside-one : (at : Span) (name : List Lexeme) (opening : Span) (value : Option Lexeme) (ts rest : List Token) → ValueWord value ts rest → Begins rest → inside at name opening ts ≡ Found (opened.Open (frame at name opening value false)) rest
unfolding inside
inside-one at name opening value ts rest s begins = rw (value_word-complete value ts rest s begins.name, begins.left) refl

inside-many : (at : Span) (name : List Lexeme) (opening : Span) (value : Option Lexeme) (ts mid rest : List Token) → ValueWord value ts mid → Mark k.LBrace mid rest → Begins rest
    → inside at name opening ts ≡ Found (opened.Open (frame at name opening value true)) rest
unfolding inside
inside-many at name opening value ts mid rest s s1 begins =
    let next = next-mark k.LBrace mid rest s1 in
    let (brace, is) = mark-complete k.LBrace mid rest s1 in
    rw (value_word-complete value ts mid s (sees-kind k.Name k.LBrace mid next), sees-kind k.LBrace k.LBrace mid next, is, begins.right) refl

inside-none : (at : Span) (name : List Lexeme) (opening : Span) (value : Option Lexeme) (closing : Span) (ts t1 t2 t3 rest : List Token) → ValueWord value ts t1 → Mark k.LBrace t1 t2 → Mark k.RBrace t2 t3 → Sign k.RParen closing t3 rest
    → inside at name opening ts ≡ Found (opened.Whole (many_tree (frame at name opening value true) closing)) rest
unfolding inside closed
inside-none at name opening value closing ts t1 t2 t3 rest s s1 s2 s3 =
    let next = next-mark k.LBrace t1 t2 s1 in
    let (brace, is) = mark-complete k.LBrace t1 t2 s1 in
    let (end, was) = mark-complete k.RBrace t2 t3 s2 in
    rw (value_word-complete value ts t1 s (sees-kind k.Name k.LBrace t1 next), sees-kind k.LBrace k.LBrace t1 next, is, sees-kind k.RBrace k.RBrace t2 (next-mark k.RBrace t2 t3 s2), was, sign-complete k.RParen t3 rest closing s3) refl

placed-single : (f : Frame) (e : Elem) (closing : Span) (ts rest : List Token) → f.in_braces ≡ false → Sign k.RParen closing ts rest → placed f e ts ≡ Found (opened.Whole (one_tree f e closing)) rest
unfolding placed
placed-single f e closing ts rest single s = rw (single, sign-complete k.RParen ts rest closing s) refl

placed-comma : (f : Frame) (e : Elem) (ts rest : List Token) → f.in_braces ≡ true → Mark k.Comma ts rest → placed f e ts ≡ Found (opened.Open (with_elem f e)) rest
unfolding placed
placed-comma f e ts rest braces s = let (at, is) = mark-complete k.Comma ts rest s in rw (braces, sees-kind k.Comma k.Comma ts (next-mark k.Comma ts rest s), is) refl

placed-last : (f : Frame) (e : Elem) (closing : Span) (ts mid rest : List Token) → f.in_braces ≡ true → Mark k.RBrace ts mid → Sign k.RParen closing mid rest → placed f e ts ≡ Found (opened.Whole (many_tree (with_elem f e) closing)) rest
unfolding placed closed
placed-last f e closing ts mid rest braces s s1 =
    let (at, is) = mark-complete k.RBrace ts mid s in
    rw (braces, sees-kind k.Comma k.RBrace ts (next-mark k.RBrace ts mid s), is, sign-complete k.RParen mid rest closing s1) refl

-- ---- elements, the limit being less by one for those within

-- From an open annotation before its element the turns come to where the element is placed.
abbrev ElemComes : ℕ → Type 0
ElemComes n = (h : Held) (f : Frame) (outer : List Frame) (ended : List InnerAnnot) (o : Opened) (ts mid rest : List Token) → ElemWithin n (suc (length outer)) h ts mid → Suits mid → placed f h.elem mid ≡ Found o rest
    → Comes (nest outer ended (opened.Open f)) ts (nest outer (ended ++ h.inner) o) rest

-- The head is read, and the turns come from there to the whole annotation.
record Headed (d : ℕ) (a : AnnotLayer) (inner : List InnerAnnot) (ts rest : List Token) : Type 0 where
  first : Opened
  mid : List Token
  is : head ts ≡ Found first mid
  comes : (outer : List Frame) (ended : List InnerAnnot) → suc (length outer) ≡ d → Comes (nest outer ended first) mid (nest outer (ended ++ inner) (opened.Whole a)) rest

stays : (outer : List Frame) (ended : List InnerAnnot) (a : AnnotLayer) (ts : List Token) → Comes (nest outer ended (opened.Whole a)) ts (nest outer (ended ++ []) (opened.Whole a)) ts
stays outer ended a ts =
    let P : List InnerAnnot → Type 0 = λ l. Comes (nest outer ended (opened.Whole a)) ts (nest outer l (opened.Whole a)) ts in
    subst P (sym (append-nil ended)) (comes-here (nest outer ended (opened.Whole a)) ts)

headed-whole : (d : ℕ) (a : AnnotLayer) (inner : List InnerAnnot) (ts rest : List Token) → inner ≡ [] → head ts ≡ Found (opened.Whole a) rest → Headed d a inner ts rest
headed-whole d a inner ts rest none is =
    let P : List InnerAnnot → Type 0 = λ l. Headed d a l ts rest in
    subst P (sym none) (record { first = opened.Whole a; mid = rest; is = is; comes = λ outer ended low. stays outer ended a rest })

module _ (n : ℕ) (known : ElemComes n) where
  items-come : (x : Held) (xs : List Held) (f : Frame) (outer : List Frame) (ended : List InnerAnnot) (closing : Span) (ts t1 t2 t3 rest : List Token) → f.in_braces ≡ true → ElemWithin n (suc (length outer)) x ts t1
      → Each (λ y. Mark k.Comma ⨾ ElemWithin n (suc (length outer)) y) xs t1 t2 → Mark k.RBrace t2 t3 → Sign k.RParen closing t3 rest
      → Comes (nest outer ended (opened.Open f)) ts (nest outer (ended ++ inner_of (x ∷ xs)) (opened.Whole (layer f.at f.name (elements.Many f.opening f.value (f.elems ++ elems_of (x ∷ xs)) closing)))) rest
  items-come x [] f outer ended closing ts t1 t2 t3 rest braces p each s1 s2 =
      let Q : List Token → Type 0 = λ l. Mark k.RBrace l t3 in
      let end : Mark k.RBrace t1 t3 = subst Q (sym each) s1 in
      let o : Opened = opened.Whole (many_tree (with_elem f x.elem) closing) in
      let R : List InnerAnnot → Type 0 = λ l. Comes (nest outer ended (opened.Open f)) ts (nest outer (ended ++ l) o) rest in
      subst R (sym (append-nil x.inner)) (known x f outer ended o ts t1 rest p (suits-kind k.RBrace t1 (next-mark k.RBrace t1 t3 end) refl refl) (placed-last f x.elem closing t1 t3 rest braces end s2))
  items-come x (z ∷ zs) f outer ended closing ts t1 t2 t3 rest braces p (mid, (c1, comma, q), each) s1 s2 =
      let whole : List Elem → Opened = λ l. opened.Whole (layer f.at f.name (elements.Many f.opening f.value l closing)) in
      let P : List Elem → Type 0 = λ l. Comes (nest outer ended (opened.Open f)) ts (nest outer (ended ++ inner_of (x ∷ z ∷ zs)) (whole l)) rest in
      let R : List InnerAnnot → Type 0 = λ l. Comes (nest outer ended (opened.Open f)) ts (nest outer l (whole ((f.elems ++ x.elem ∷ []) ++ elems_of (z ∷ zs)))) rest in
      subst P (append_assoc f.elems (x.elem ∷ []) (elems_of (z ∷ zs)))
      (subst R (append_assoc ended x.inner (inner_of (z ∷ zs)))
      (comes-then (nest outer ended (opened.Open f)) (nest outer (ended ++ x.inner) (opened.Open (with_elem f x.elem)))
      (nest outer ((ended ++ x.inner) ++ inner_of (z ∷ zs)) (whole ((f.elems ++ x.elem ∷ []) ++ elems_of (z ∷ zs)))) ts c1 rest
      (known x f outer ended (opened.Open (with_elem f x.elem)) ts t1 c1 p (suits-kind k.Comma t1 (next-mark k.Comma t1 c1 comma) refl refl) (placed-comma f x.elem t1 c1 braces comma))
      (items-come z zs (with_elem f x.elem) outer (ended ++ x.inner) closing c1 mid t2 t3 rest braces q each s1 s2)))

  at-depth : (d m : ℕ) (h : Held) (ts rest : List Token) → m ≡ d → ElemWithin n d h ts rest → ElemWithin n m h ts rest
  at-depth d m h ts rest low s = let D : ℕ → Type 0 = λ l. ElemWithin n l h ts rest in subst D (sym low) s

  each-depth : (d m : ℕ) (xs : List Held) (ts rest : List Token) → m ≡ d → Each (λ y. Mark k.Comma ⨾ ElemWithin n d y) xs ts rest → Each (λ y. Mark k.Comma ⨾ ElemWithin n m y) xs ts rest
  each-depth d m xs ts rest low s = let D : ℕ → Type 0 = λ l. Each (λ y. Mark k.Comma ⨾ ElemWithin n l y) xs ts rest in subst D (sym low) s

  opens-many : (d : ℕ) (at : Span) (name : List Lexeme) (opening : Span) (value : Option Lexeme) (held : List Held) (closing : Span) (ts t1 t2 t3 t4 t5 t6 t7 rest : List Token) → Sign k.At at ts t1 → Qualified name t1 t2
      → Sign k.LParen opening t2 t3 → ValueWord value t3 t4 → Mark k.LBrace t4 t5 → Separated (ElemWithin n d) held t5 t6 → Mark k.RBrace t6 t7 → Sign k.RParen closing t7 rest
      → Headed d (layer at name (elements.Many opening value (elems_of held) closing)) (inner_of held) ts rest
  opens-many d at name opening value [] closing ts t1 t2 t3 t4 t5 t6 t7 rest s1 s2 s3 s4 s5 none s7 s8 =
      let Q : List Token → Type 0 = λ l. Mark k.RBrace l t7 in
      let end : Mark k.RBrace t5 t7 = subst Q (sym none) s7 in
      headed-whole d (layer at name (elements.Many opening value [] closing)) [] ts rest refl
      (head-filled at name opening (opened.Whole (layer at name (elements.Many opening value [] closing))) ts t1 t2 t3 rest false s1 s2 s3
      (value-first k.RParen value t3 t4 s4 refl (sees-kind k.RParen k.LBrace t4 (next-mark k.LBrace t4 t5 s5))) (inside-none at name opening value closing t3 t4 t5 t7 rest s4 s5 end s8))
  opens-many d at name opening value (x ∷ xs) closing ts t1 t2 t3 t4 t5 t6 t7 rest s1 s2 s3 s4 s5 (c1, p, each) s7 s8 =
      let begins = begins-elem n d x t5 c1 p in
      let f : Frame = frame at name opening value true in
      record {
        first = opened.Open f;
        mid = t5;
        is = head-filled at name opening (opened.Open f) ts t1 t2 t3 t5 false s1 s2 s3 (value-first k.RParen value t3 t4 s4 refl (sees-kind k.RParen k.LBrace t4 (next-mark k.LBrace t4 t5 s5))) (inside-many at name opening value t3 t4 t5 s4 s5 begins);
        comes = λ outer ended low. items-come x xs f outer ended closing t5 c1 t6 t7 rest refl (at-depth d (suc (length outer)) x t5 c1 low p) (each-depth d (suc (length outer)) xs c1 t6 low each) s7 s8;
      }

  opens : (d : ℕ) (at : Span) (name : List Lexeme) (e : Elements) (inner : List InnerAnnot) (ts t1 t2 rest : List Token) → Sign k.At at ts t1 → Qualified name t1 t2 → ElementsBy (ElemWithin n d) e inner t2 rest → Suits rest
      → Headed d (layer at name e) inner ts rest
  opens d at name elements.Bare inner ts t1 t2 rest s1 s2 (none, here) suits =
      let P : List Token → Type 0 = λ l. Qualified name t1 l in
      headed-whole d (layer at name elements.Bare) inner ts rest none (head-bare at name ts t1 rest s1 (subst P here s2) suits)
  opens d at name (elements.Empty opening closing) inner ts t1 t2 rest s1 s2 (none, (t3, s3, s4)) suits =
      headed-whole d (layer at name (elements.Empty opening closing)) inner ts rest none
      (head-filled at name opening (opened.Whole (layer at name (elements.Empty opening closing))) ts t1 t2 t3 rest true s1 s2 s3 (sees-kind k.RParen k.RParen t3 (next-sign k.RParen closing t3 rest s4)) (rw (sign-complete k.RParen t3 rest closing s4) refl))
  opens d at name (elements.One opening value elem closing) inner ts t1 t2 rest s1 s2 (t3, s3, (t4, s4, (t5, s5, s6))) suits =
      let h : Held = record { elem = elem; inner = inner } in
      let begins = begins-elem n d h t4 t5 s5 in
      let f : Frame = frame at name opening value false in
      record {
        first = opened.Open f;
        mid = t4;
        is = head-filled at name opening (opened.Open f) ts t1 t2 t3 t4 false s1 s2 s3 (value-first k.RParen value t3 t4 s4 refl begins.paren) (inside-one at name opening value t3 t4 s4 begins);
        comes = λ outer ended low. known h f outer ended (opened.Whole (one_tree f elem closing)) t4 t5 rest (at-depth d (suc (length outer)) h t4 t5 low s5)
            (suits-kind k.RParen t5 (next-sign k.RParen closing t5 rest s6) refl refl) (placed-single f elem closing t5 rest refl s6);
      }
  opens d at name (elements.Many opening value elems closing) inner ts t1 t2 rest s1 s2 (t3, s3, (t4, s4, (t5, s5, (t6, (held, es, is, s6), (t7, s7, s8))))) suits =
      let P : List Elem → Type 0 = λ l. Headed d (layer at name (elements.Many opening value l closing)) inner ts rest in
      let R : List InnerAnnot → Type 0 = λ l. Headed d (layer at name (elements.Many opening value (elems_of held) closing)) l ts rest in
      subst P (sym es) (subst R (sym is) (opens-many d at name opening value held closing ts t1 t2 t3 t4 t5 t6 t7 rest s1 s2 s3 s4 s5 s6 s7 s8))

  annot-headed : (d : ℕ) (a : AnnotLayer) (inner : List InnerAnnot) (ts rest : List Token) → AnnotBy (ElemWithin n d) a inner ts rest → Suits rest → Headed d a inner ts rest
  annot-headed d a inner ts rest (t1, s1, (t2, s2, s3)) suits = opens d a.at a.name a.elements inner ts t1 t2 rest s1 s2 s3 suits

  by-comes : (elem : Elem) (inner : List InnerAnnot) (f : Frame) (outer : List Frame) (ended : List InnerAnnot) (o : Opened) (ts mid rest : List Token) → ElemBy (ElemWithin n (suc (suc (length outer)))) (suc (length outer)) elem inner ts mid
      → Suits mid → placed f elem mid ≡ Found o rest → Comes (nest outer ended (opened.Open f)) ts (nest outer (ended ++ inner) o) rest
  by-comes (element.Str text) inner f outer ended o ts mid rest (none, s) suits is =
      let P : List InnerAnnot → Type 0 = λ l. Comes (nest outer ended (opened.Open f)) ts (nest outer l o) rest in
      let same : ended ++ inner ≡ ended = ap (λ l. ended ++ l) none ∙ append-nil ended in
      subst P (sym same) (comes-turn (nest outer ended (opened.Open f)) (nest outer ended o) ts rest (open-goes outer ended f) (turn-text outer ended f text o ts mid rest s is))
  by-comes element.Annot inner f outer ended o ts mid rest (a, within, e, s) suits is =
      let h = annot-headed (suc (suc (length outer))) a within ts mid s suits in
      let (t1, at, tail) = s in
      let x : List InnerAnnot = inner_annot (suc (length outer)) a ∷ [] in
      let low : suc (length (outer ++ f ∷ [])) ≡ suc (suc (length outer)) = ap suc (one-deeper outer f) in
      let P : List InnerAnnot → Type 0 = λ l. Comes (nest outer ended (opened.Open f)) ts (nest outer l o) rest in
      subst P (append_assoc ended within x ∙ ap (λ l. ended ++ l) (sym e))
      (comes-then (nest outer ended (opened.Open f)) (nest (outer ++ f ∷ []) ended h.first) (nest outer ((ended ++ within) ++ x) o) ts h.mid rest
      (comes-turn (nest outer ended (opened.Open f)) (nest (outer ++ f ∷ []) ended h.first) ts h.mid (open-goes outer ended f) (turn-enter outer ended f h.first ts h.mid (next-sign k.At a.at ts t1 at) h.is))
      (comes-then (nest (outer ++ f ∷ []) ended h.first) (nest (outer ++ f ∷ []) (ended ++ within) (opened.Whole a)) (nest outer ((ended ++ within) ++ x) o) h.mid mid rest (h.comes (outer ++ f ∷ []) ended low)
      (comes-turn (nest (outer ++ f ∷ []) (ended ++ within) (opened.Whole a)) (nest outer ((ended ++ within) ++ x) o) mid rest (whole-goes outer (ended ++ within) f a) (turn-leave outer (ended ++ within) f a o mid rest is))))

elem-comes : (n : ℕ) → ElemComes n
unfolding ElemWithin
elem-comes zero h f outer ended o ts mid rest s suits is = absurd s
elem-comes (suc n) h f outer ended o ts mid rest s suits is = by-comes n (elem-comes n) h.elem h.inner f outer ended o ts mid rest s suits is

-- ---- the whole

annotation-by : (a : AnnotLayer) (inner : List InnerAnnot) (o : Opened) (ts mid rest : List Token) → head ts ≡ Found o mid → nested (nest [] [] o) mid ≡ Found (nest [] inner (opened.Whole a)) rest
    → annotation ts ≡ Found (record { layer = a; inner = inner }) rest
unfolding annotation
annotation-by a inner o ts mid rest is found = rw (is, found) refl

alone-whole : (a : AnnotLayer) (inner : List InnerAnnot) → is_whole (nest [] inner (opened.Whole a)) ≡ true
unfolding is_whole
alone-whole a inner = refl

nested-comes : (o : Opened) (a : AnnotLayer) (inner : List InnerAnnot) (ts rest : List Token) → Comes (nest [] [] o) ts (nest [] inner (opened.Whole a)) rest → nested (nest [] [] o) ts ≡ Found (nest [] inner (opened.Whole a)) rest
unfolding nested
nested-comes o a inner ts rest comes =
    let (j, enough, same) = comes.go (suc (length ts)) (omega arith) in
    same ∙ turn_ends j (nest [] inner (opened.Whole a)) rest enough (alone-whole a inner)

pub annotation-complete : (a : Annot) (ts rest : List Token) → AnnotSpells a ts rest → Suits rest → annotation ts ≡ Found a rest
annotation-complete a ts rest (n, s) suits =
    let h = annot-headed n (elem-comes n) 1 a.layer a.inner ts rest s suits in
    annotation-by a.layer a.inner h.first ts h.mid rest h.is (nested-comes h.first a.layer a.inner h.mid rest (h.comes [] [] refl))
