-- What reads as an annotation is spelled as one.
use Rattle.std.proofs.Common.{◌≡◌, ℕ, zero, suc, ◌<◌, ◌≤◌, Bool, true, false, cond, List, [], ◌∷◌, ◌++◌, length, reverse, Option, Some, None, refl, ap, ◌∙◌, sym, subst, arith, append_assoc}
use Rattle.std.specs.Str.{bytes_eq}
use Rattle.std.proofs.lemmas.Slice.Eq.{bytes_eq-Decides}
use Rattle.std.proofs.lemmas.List.{reverse-reverse, length-reverse, append-nil, map-append}
use Rattle.java_phrases.specs.Tree.{Span, Kind as k, Token, Lexeme, Annot, AnnotLayer, InnerAnnot, Elements, Elements as elements, Elem, Elem as element}
use Rattle.java_phrases.specs.Common.{Phrase, Nothing, ◌⨾◌, Never, Mark, Sign, Spelled, Separated, Each, Found, and_then, pure, fail, sees, sign, word}
use Rattle.java_phrases.proofs.Phrases.{and_then-some, pure-is, sign-sound, word-sound, spent-nothing, not_longer}
use Rattle.java_phrases.proofs.Turned.{reverse_push}
use Rattle.java_heads.specs.declared.nest.Frame.{Frame}
use Rattle.java_heads.specs.declared.nest.Opened.{Opened}
use Rattle.java_heads.specs.declared.nest.Opened.TheVariants as opened
use Rattle.java_heads.specs.declared.nest.Nest.{Nest}
use Rattle.java_heads.specs.Annotation.{Qualified, value_name, ValueWord, Held, elems_of, inner_of, Listed, ElementsBy, AnnotBy, inner_annot, ElemBy, ElemWithin, AnnotSpells}
use Rattle.java_heads.specs.Reading.{value_word, value_by, layer, frame, with_elem, one_tree, many_tree, closed, listed_by, inside, inside_by, filled_by, parenthesized, head_by, head, more_by, placed_by, placed, text_placed, nest, surrounded_by, surrounded, entered_by, entered, turn_by, turn, whole_by, is_whole, nested_from, nested, annot_of, annotation, qualified}
use Rattle.java_heads.proofs.Lists.{Spends, spends-mark, spends-sign, spends-spelled, spends-then, spends-each, sign-shorter, word-shorter, mark-sound, each-snoc}
use Rattle.java_heads.proofs.NameLaws.{qualified-sound, spends-qualified}

-- ---- the tokens that an annotation takes

spends-value : (v : Option Lexeme) → Spends (ValueWord v)
spends-value None ts rest s = spent-nothing ts rest s
spends-value (Some w) ts rest (is, s) = spends-then (Spelled k.Name w) (Mark k.Assign) (spends-spelled k.Name w) (spends-mark k.Assign) ts rest s

spends-separated : {A : Type 0} (P : A → Phrase) → ((x : A) → Spends (P x)) → (xs : List A) → Spends (Separated P xs)
spends-separated P p [] ts rest s = spent-nothing ts rest s
spends-separated P p (x ∷ xs) ts rest s =
    spends-then (P x) (Each (λ y. Mark k.Comma ⨾ P y) xs) (p x) (spends-each (λ y. Mark k.Comma ⨾ P y) (λ y. spends-then (Mark k.Comma) (P y) (spends-mark k.Comma) (p y)) xs) ts rest s

spends-listed : (P : Held → Phrase) → ((h : Held) → Spends (P h)) → (elems : List Elem) (inner : List InnerAnnot) → Spends (Listed P elems inner)
spends-listed P p elems inner ts rest (held, e, f, s) = spends-separated P p held ts rest s

spends-elements : (P : Held → Phrase) → ((h : Held) → Spends (P h)) → (e : Elements) (inner : List InnerAnnot) → Spends (ElementsBy P e inner)
spends-elements P p elements.Bare inner ts rest (none, s) = spent-nothing ts rest s
spends-elements P p (elements.Empty opening closing) inner ts rest (none, s) = spends-then (Sign k.LParen opening) (Sign k.RParen closing) (spends-sign k.LParen opening) (spends-sign k.RParen closing) ts rest s
spends-elements P p (elements.One opening value elem closing) inner ts rest s =
    let h : Held = record { elem = elem; inner = inner } in
    spends-then (Sign k.LParen opening) (ValueWord value ⨾ P h ⨾ Sign k.RParen closing) (spends-sign k.LParen opening)
    (spends-then (ValueWord value) (P h ⨾ Sign k.RParen closing) (spends-value value) (spends-then (P h) (Sign k.RParen closing) (p h) (spends-sign k.RParen closing))) ts rest s
spends-elements P p (elements.Many opening value elems closing) inner ts rest s =
    spends-then (Sign k.LParen opening) (ValueWord value ⨾ Mark k.LBrace ⨾ Listed P elems inner ⨾ Mark k.RBrace ⨾ Sign k.RParen closing) (spends-sign k.LParen opening)
    (spends-then (ValueWord value) (Mark k.LBrace ⨾ Listed P elems inner ⨾ Mark k.RBrace ⨾ Sign k.RParen closing) (spends-value value)
    (spends-then (Mark k.LBrace) (Listed P elems inner ⨾ Mark k.RBrace ⨾ Sign k.RParen closing) (spends-mark k.LBrace)
    (spends-then (Listed P elems inner) (Mark k.RBrace ⨾ Sign k.RParen closing) (spends-listed P p elems inner) (spends-then (Mark k.RBrace) (Sign k.RParen closing) (spends-mark k.RBrace) (spends-sign k.RParen closing))))) ts rest s

spends-annot_by : (P : Held → Phrase) → ((h : Held) → Spends (P h)) → (a : AnnotLayer) (inner : List InnerAnnot) → Spends (AnnotBy P a inner)
spends-annot_by P p a inner =
    spends-then (Sign k.At a.at) (Qualified a.name ⨾ ElementsBy P a.elements inner) (spends-sign k.At a.at)
    (spends-then (Qualified a.name) (ElementsBy P a.elements inner) (spends-qualified a.name) (spends-elements P p a.elements inner))

spends-by : (P : Held → Phrase) → ((h : Held) → Spends (P h)) → (d : ℕ) (elem : Elem) (inner : List InnerAnnot) → Spends (ElemBy P d elem inner)
spends-by P p d (element.Str text) inner ts rest (none, s) = spends-spelled k.StrLiteral text ts rest s
spends-by P p d element.Annot inner ts rest (a, within, e, s) = spends-annot_by P p a within ts rest s

pub spends-elem : (n d : ℕ) (h : Held) → Spends (ElemWithin n d h)
unfolding ElemWithin
spends-elem zero d h ts rest s = absurd s
spends-elem (suc n) d h ts rest s = spends-by (ElemWithin n (suc d)) (spends-elem n (suc d)) d h.elem h.inner ts rest s

pub spends-annot : (a : Annot) → Spends (AnnotSpells a)
spends-annot a ts rest (n, s) = spends-annot_by (ElemWithin n 1) (spends-elem n 1) a.layer a.inner ts rest s

pub annot-shorter : (P : Held → Phrase) → ((h : Held) → Spends (P h)) → (a : AnnotLayer) (inner : List InnerAnnot) (ts rest : List Token) → AnnotBy P a inner ts rest → length rest < length ts
annot-shorter P p a inner ts rest (mid, s, tail) =
    let less : length ts ≡ suc (length mid) = sign-shorter k.At ts mid a.at s in
    let more : length rest ≤ length mid = not_longer mid rest (spends-then (Qualified a.name) (ElementsBy P a.elements inner) (spends-qualified a.name) (spends-elements P p a.elements inner) mid rest tail) in
    omega arith

-- ---- what is spelled within a limit is so within a greater one

each-map : {A : Type 0} (P Q : A → Phrase) → ((x : A) (ts rest : List Token) → P x ts rest → Q x ts rest) → (xs : List A) (ts rest : List Token) → Each P xs ts rest → Each Q xs ts rest
each-map P Q f [] ts rest s = s
each-map P Q f (x ∷ xs) ts rest (mid, s, s1) = (mid, f x ts mid s, each-map P Q f xs mid rest s1)

behind-comma : (P Q : Held → Phrase) → ((h : Held) (ts rest : List Token) → P h ts rest → Q h ts rest) → (h : Held) (ts rest : List Token) → (Mark k.Comma ⨾ P h) ts rest → (Mark k.Comma ⨾ Q h) ts rest
behind-comma P Q f h ts rest (mid, s, s1) = (mid, s, f h mid rest s1)

before-comma : (P Q : Held → Phrase) → ((h : Held) (ts rest : List Token) → P h ts rest → Q h ts rest) → (h : Held) (ts rest : List Token) → (P h ⨾ Mark k.Comma) ts rest → (Q h ⨾ Mark k.Comma) ts rest
before-comma P Q f h ts rest (mid, s, s1) = (mid, f h ts mid s, s1)

separated-map : (P Q : Held → Phrase) → ((h : Held) (ts rest : List Token) → P h ts rest → Q h ts rest) → (held : List Held) (ts rest : List Token) → Separated P held ts rest → Separated Q held ts rest
separated-map P Q f [] ts rest s = s
separated-map P Q f (h ∷ held) ts rest (mid, s, s1) = (mid, f h ts mid s, each-map (λ y. Mark k.Comma ⨾ P y) (λ y. Mark k.Comma ⨾ Q y) (behind-comma P Q f) held mid rest s1)

elements-map : (P Q : Held → Phrase) → ((h : Held) (ts rest : List Token) → P h ts rest → Q h ts rest) → (e : Elements) (inner : List InnerAnnot) (ts rest : List Token) → ElementsBy P e inner ts rest → ElementsBy Q e inner ts rest
elements-map P Q f elements.Bare inner ts rest s = s
elements-map P Q f (elements.Empty opening closing) inner ts rest s = s
elements-map P Q f (elements.One opening value elem closing) inner ts rest (t1, s1, (t2, s2, (t3, s3, s4))) = (t1, s1, (t2, s2, (t3, f (record { elem = elem; inner = inner }) t2 t3 s3, s4)))
elements-map P Q f (elements.Many opening value elems closing) inner ts rest (t1, s1, (t2, s2, (t3, s3, (t4, (held, e, g, s4), s5)))) =
    (t1, s1, (t2, s2, (t3, s3, (t4, (held, e, g, separated-map P Q f held t3 t4 s4), s5))))

annot-map : (P Q : Held → Phrase) → ((h : Held) (ts rest : List Token) → P h ts rest → Q h ts rest) → (a : AnnotLayer) (inner : List InnerAnnot) (ts rest : List Token) → AnnotBy P a inner ts rest → AnnotBy Q a inner ts rest
annot-map P Q f a inner ts rest (t1, s1, (t2, s2, s3)) = (t1, s1, (t2, s2, elements-map P Q f a.elements inner t2 rest s3))

by-map : (P Q : Held → Phrase) → ((h : Held) (ts rest : List Token) → P h ts rest → Q h ts rest) → (d : ℕ) (elem : Elem) (inner : List InnerAnnot) (ts rest : List Token) → ElemBy P d elem inner ts rest → ElemBy Q d elem inner ts rest
by-map P Q f d (element.Str text) inner ts rest s = s
by-map P Q f d element.Annot inner ts rest (a, within, e, s) = (a, within, e, annot-map P Q f a within ts rest s)

deeper : (m n : ℕ) → m ≤ n → (d : ℕ) (h : Held) (ts rest : List Token) → ElemWithin m d h ts rest → ElemWithin n d h ts rest
unfolding ElemWithin
deeper zero n low d h ts rest s = absurd s
deeper (suc m) zero low d h ts rest s = absurd (omega arith)
deeper (suc m) (suc n) low d h ts rest s = by-map (ElemWithin m (suc d)) (ElemWithin n (suc d)) (deeper m n (omega arith) (suc d)) d h.elem h.inner ts rest s

-- ---- what was read so far

-- an annotation up to its elements or their brace
abbrev HeadOf : Frame → Phrase
HeadOf f = Sign k.At f.at ⨾ Qualified f.name ⨾ Sign k.LParen f.opening ⨾ ValueWord f.value

-- its elements so far, each with the comma behind it
abbrev SoFar : (Held → Phrase) → Bool → List Held → Phrase
SoFar P true held = Mark k.LBrace ⨾ Each (λ h. P h ⨾ Mark k.Comma) held
SoFar P false [] = Nothing
SoFar P false (h ∷ held) = Never

-- with the annotations that its elements so far hold, which stand in so many
abbrev FrameIs : ℕ → ℕ → Frame → List InnerAnnot → Phrase
FrameIs n d f inner ts rest = (held : List Held) × (f.elems ≡ elems_of held) × (inner ≡ inner_of held) × (HeadOf f ⨾ SoFar (ElemWithin n d) f.in_braces held) ts rest

abbrev OpenedIs : ℕ → ℕ → Opened → List InnerAnnot → Phrase
OpenedIs n d (opened.Whole a) inner = AnnotBy (ElemWithin n d) a inner
OpenedIs n d (opened.Open f) inner = FrameIs n d f inner

-- the innermost first
abbrev StackIs : ℕ → List Frame → List InnerAnnot → Phrase
StackIs n [] inner ts rest = (inner ≡ []) × (ts ≡ rest)
StackIs n (f ∷ outer) inner ts rest =
    (before : List InnerAnnot) × (own : List InnerAnnot) × (inner ≡ before ++ own) × (StackIs n outer before ⨾ FrameIs n (suc (length outer)) f own) ts rest

abbrev NestIs : Nest → Phrase
NestIs x ts rest =
    (n : ℕ) × (before : List InnerAnnot) × (own : List InnerAnnot) × (x.ended ≡ before ++ own)
    × (StackIs n (reverse x.outer) before ⨾ OpenedIs n (suc (length (reverse x.outer))) x.last own) ts rest

so_far-deeper : (m n : ℕ) → m ≤ n → (d : ℕ) (b : Bool) (held : List Held) (ts rest : List Token) → SoFar (ElemWithin m d) b held ts rest → SoFar (ElemWithin n d) b held ts rest
so_far-deeper m n low d true held ts rest (mid, s, s1) =
    (mid, s, each-map (λ h. ElemWithin m d h ⨾ Mark k.Comma) (λ h. ElemWithin n d h ⨾ Mark k.Comma) (before-comma (ElemWithin m d) (ElemWithin n d) (deeper m n low d)) held mid rest s1)
so_far-deeper m n low d false [] ts rest s = s
so_far-deeper m n low d false (h ∷ held) ts rest s = absurd s

frame-deeper : (m n : ℕ) → m ≤ n → (d : ℕ) (f : Frame) (inner : List InnerAnnot) (ts rest : List Token) → FrameIs m d f inner ts rest → FrameIs n d f inner ts rest
frame-deeper m n low d f inner ts rest (held, e, g, (mid, s, s1)) = (held, e, g, (mid, s, so_far-deeper m n low d f.in_braces held mid rest s1))

stack-deeper : (m n : ℕ) → m ≤ n → (outer : List Frame) (inner : List InnerAnnot) (ts rest : List Token) → StackIs m outer inner ts rest → StackIs n outer inner ts rest
stack-deeper m n low [] inner ts rest s = s
stack-deeper m n low (f ∷ outer) inner ts rest (before, own, e, (mid, s, s1)) =
    (before, own, e, (mid, stack-deeper m n low outer before ts mid s, frame-deeper m n low (suc (length outer)) f own mid rest s1))

-- ---- one element more

inner-snoc : (held : List Held) (h : Held) → inner_of (held ++ h ∷ []) ≡ inner_of held ++ h.inner
inner-snoc [] h = append-nil h.inner
inner-snoc (x ∷ held) h = ap (λ l. x.inner ++ l) (inner-snoc held h) ∙ sym (append_assoc x.inner (inner_of held) h.inner)

elems-more : (elems : List Elem) (held : List Held) (h : Held) → elems ≡ elems_of held → elems ++ h.elem ∷ [] ≡ elems_of (held ++ h ∷ [])
elems-more elems held h e = ap (λ l. l ++ h.elem ∷ []) e ∙ sym (map-append (λ (x : Held). x.elem) held (h ∷ []))

inner-more : (inner : List InnerAnnot) (held : List Held) (h : Held) → inner ≡ inner_of held → inner ++ h.inner ≡ inner_of (held ++ h ∷ [])
inner-more inner held h e = ap (λ l. l ++ h.inner) e ∙ sym (inner-snoc held h)

-- ---- its parts

value_if : (w : Lexeme) (v : Option Lexeme) (ts mid rest : List Token) (b : Bool) → Spelled k.Name w ts mid → bytes_eq w.text value_name ≡ b
    → cond b (λ ts. and_then (sign k.Assign ts) (λ _. pure (Some w))) fail mid ≡ Found v rest → ValueWord v ts rest
value_if w v ts mid rest true s is e =
    let (at, t2, is2, e2) = and_then-some (sign k.Assign mid) _ v rest e in
    pure-is (λ v r. ValueWord v ts r) (Some w) v t2 rest e2 ((bytes_eq-Decides w.text value_name).0 is, (mid, s, mark-sound k.Assign mid t2 at is2))
value_if w v ts mid rest false s is e = cc

value_by-sound : (b : Bool) (ts rest : List Token) (v : Option Lexeme) → value_by b ts ≡ Found v rest → ValueWord v ts rest
value_by-sound true ts rest v e =
    let (w, mid, is, e1) = and_then-some (word k.Name ts) _ v rest e in
    value_if w v ts mid rest (bytes_eq w.text value_name) (word-sound k.Name ts mid w is) refl e1
value_by-sound false ts rest v e = pure-is (λ v r. ValueWord v ts r) None v ts rest e refl

value_word-sound : (ts rest : List Token) (v : Option Lexeme) → value_word ts ≡ Found v rest → ValueWord v ts rest
unfolding value_word
value_word-sound ts rest v e = value_by-sound (sees k.Name ts) ts rest v e

many-is : (n d : ℕ) (f : Frame) (inner : List InnerAnnot) (closing : Span) (ts t1 t2 t3 t4 rest : List Token) → HeadOf f ts t1 → Mark k.LBrace t1 t2 → Listed (ElemWithin n d) f.elems inner t2 t3 → Mark k.RBrace t3 t4 → Sign k.RParen closing t4 rest
    → OpenedIs n d (opened.Whole (many_tree f closing)) inner ts rest
many-is n d f inner closing ts t1 t2 t3 t4 rest (a1, s1, (a2, s2, (a3, s3, s4))) s5 s6 s7 s8 = (a1, s1, (a2, s2, (a3, s3, (t1, s4, (t2, s5, (t3, s6, (t4, s7, s8)))))))

one-is : (n d : ℕ) (f : Frame) (h : Held) (closing : Span) (ts t1 t2 rest : List Token) → HeadOf f ts t1 → ElemWithin n d h t1 t2 → Sign k.RParen closing t2 rest → OpenedIs n d (opened.Whole (one_tree f h.elem closing)) h.inner ts rest
one-is n d f h closing ts t1 t2 rest (a1, s1, (a2, s2, (a3, s3, s4))) s5 s6 = (a1, s1, (a2, s2, (a3, s3, (t1, s4, (t2, s5, s6)))))

closed-sound : (n d : ℕ) (f : Frame) (inner : List InnerAnnot) (start t1 t2 ts rest : List Token) (o : Opened) → HeadOf f start t1 → Mark k.LBrace t1 t2 → Listed (ElemWithin n d) f.elems inner t2 ts → closed f ts ≡ Found o rest → OpenedIs n d o inner start rest
unfolding closed
closed-sound n d f inner start t1 t2 ts rest o s1 s2 s3 e =
    let (at, t3, is3, e3) = and_then-some (sign k.RBrace ts) _ o rest e in
    let (closing, t4, is4, e4) = and_then-some (sign k.RParen t3) _ o rest e3 in
    pure-is (λ o r. OpenedIs n d o inner start r) (opened.Whole (many_tree f closing)) o t4 rest e4
    (many-is n d f inner closing start t1 t2 ts t3 t4 s1 s2 s3 (mark-sound k.RBrace ts t3 at is3) (sign-sound k.RParen t3 t4 closing is4))

listed_by-sound : (b : Bool) (n d : ℕ) (at : Span) (name : List Lexeme) (opening : Span) (value : Option Lexeme) (start t1 ts rest : List Token) (o : Opened) → HeadOf (frame at name opening value true) start t1 → Mark k.LBrace t1 ts
    → listed_by (frame at name opening value true) b ts ≡ Found o rest → OpenedIs n d o [] start rest
listed_by-sound true n d at name opening value start t1 ts rest o s1 s2 e = closed-sound n d (frame at name opening value true) [] start t1 ts ts rest o s1 s2 ([], refl, refl, refl) e
listed_by-sound false n d at name opening value start t1 ts rest o s1 s2 e =
    pure-is (λ o r. OpenedIs n d o [] start r) (opened.Open (frame at name opening value true)) o ts rest e ([], refl, refl, (t1, s1, (ts, s2, refl)))

inside_by-sound : (b : Bool) (n d : ℕ) (at : Span) (name : List Lexeme) (opening : Span) (value : Option Lexeme) (start ts rest : List Token) (o : Opened) → HeadOf (frame at name opening value b) start ts
    → inside_by at name opening value b ts ≡ Found o rest → OpenedIs n d o [] start rest
inside_by-sound true n d at name opening value start ts rest o s e =
    let (brace, t1, is1, e1) = and_then-some (sign k.LBrace ts) _ o rest e in
    listed_by-sound (sees k.RBrace t1) n d at name opening value start ts t1 rest o s (mark-sound k.LBrace ts t1 brace is1) e1
inside_by-sound false n d at name opening value start ts rest o s e =
    pure-is (λ o r. OpenedIs n d o [] start r) (opened.Open (frame at name opening value false)) o ts rest e ([], refl, refl, (ts, s, refl))

inside-sound : (n d : ℕ) (at : Span) (name : List Lexeme) (opening : Span) (start t1 t2 ts rest : List Token) (o : Opened) → Sign k.At at start t1 → Qualified name t1 t2 → Sign k.LParen opening t2 ts
    → inside at name opening ts ≡ Found o rest → OpenedIs n d o [] start rest
unfolding inside
inside-sound n d at name opening start t1 t2 ts rest o s1 s2 s3 e =
    let (value, t3, is3, e3) = and_then-some (value_word ts) _ o rest e in
    inside_by-sound (sees k.LBrace t3) n d at name opening value start t3 rest o (t1, s1, (t2, s2, (ts, s3, value_word-sound ts t3 value is3))) e3

filled_by-sound : (b : Bool) (n d : ℕ) (at : Span) (name : List Lexeme) (opening : Span) (start t1 t2 ts rest : List Token) (o : Opened) → Sign k.At at start t1 → Qualified name t1 t2 → Sign k.LParen opening t2 ts
    → filled_by at name opening b ts ≡ Found o rest → OpenedIs n d o [] start rest
filled_by-sound true n d at name opening start t1 t2 ts rest o s1 s2 s3 e =
    let (closing, t3, is3, e3) = and_then-some (sign k.RParen ts) _ o rest e in
    pure-is (λ o r. OpenedIs n d o [] start r) (opened.Whole (layer at name (elements.Empty opening closing))) o t3 rest e3
    (t1, s1, (t2, s2, (refl, (ts, s3, sign-sound k.RParen ts t3 closing is3))))
filled_by-sound false n d at name opening start t1 t2 ts rest o s1 s2 s3 e = inside-sound n d at name opening start t1 t2 ts rest o s1 s2 s3 e

head_by-sound : (b : Bool) (n d : ℕ) (at : Span) (name : List Lexeme) (start t1 ts rest : List Token) (o : Opened) → Sign k.At at start t1 → Qualified name t1 ts → head_by at name b ts ≡ Found o rest → OpenedIs n d o [] start rest
unfolding parenthesized
head_by-sound true n d at name start t1 ts rest o s1 s2 e =
    let (opening, t3, is3, e3) = and_then-some (sign k.LParen ts) _ o rest e in
    filled_by-sound (sees k.RParen t3) n d at name opening start t1 ts t3 rest o s1 s2 (sign-sound k.LParen ts t3 opening is3) e3
head_by-sound false n d at name start t1 ts rest o s1 s2 e =
    pure-is (λ o r. OpenedIs n d o [] start r) (opened.Whole (layer at name elements.Bare)) o ts rest e (t1, s1, (ts, s2, (refl, refl)))

head-sound : (n d : ℕ) (ts rest : List Token) (o : Opened) → head ts ≡ Found o rest → OpenedIs n d o [] ts rest
unfolding head
head-sound n d ts rest o e =
    let (at, t1, is1, e1) = and_then-some (sign k.At ts) _ o rest e in
    let (name, t2, is2, e2) = and_then-some (qualified t1) _ o rest e1 in
    head_by-sound (sees k.LParen t2) n d at name ts t1 t2 rest o (sign-sound k.At ts t1 at is1) (qualified-sound t1 t2 name is2) e2

-- ---- an element that is placed

-- a list behind a comma
behind : (P : Held → Phrase) (ys : List Held) (x : Held) (ts t1 rest : List Token) → Mark k.Comma ts t1 → Separated P (ys ++ x ∷ []) t1 rest → Each (λ y. Mark k.Comma ⨾ P y) (ys ++ x ∷ []) ts rest
behind P [] x ts t1 rest comma (mid, p, each) = (mid, (t1, comma, p), each)
behind P (y ∷ ys) x ts t1 rest comma (mid, p, each) = (mid, (t1, comma, p), each)

last-item : (P : Held → Phrase) (xs : List Held) (x : Held) (ts mid rest : List Token) → Each (λ e. P e ⨾ Mark k.Comma) xs ts mid → P x mid rest → Separated P (xs ++ x ∷ []) ts rest
last-item P [] x ts mid rest each p = let Q : List Token → Type 0 = λ l. P x l rest in (rest, subst Q (sym each) p, refl)
last-item P (y ∷ ys) x ts mid rest (t1, (t0, q, comma), each) p = (t0, q, behind P ys x t0 t1 rest comma (last-item P ys x t1 mid rest each p))

more_by-sound : (b : Bool) (n d : ℕ) (f : Frame) (h : Held) (held : List Held) (own : List InnerAnnot) (start t1 t2 mid ts rest : List Token) (o : Opened) → f.elems ≡ elems_of held → own ≡ inner_of held → f.in_braces ≡ true
    → HeadOf f start t1 → Mark k.LBrace t1 t2 → Each (λ e. ElemWithin n d e ⨾ Mark k.Comma) held t2 mid → ElemWithin n d h mid ts
    → more_by (with_elem f h.elem) b ts ≡ Found o rest → OpenedIs n d o (own ++ h.inner) start rest
more_by-sound true n d f h held own start t1 t2 mid ts rest o es is braces s1 s2 s3 s4 e =
    let (at, t3, is3, e3) = and_then-some (sign k.Comma ts) _ o rest e in
    let P : Bool → Type 0 = λ b. (HeadOf f ⨾ SoFar (ElemWithin n d) b (held ++ h ∷ [])) start t3 in
    pure-is (λ o r. OpenedIs n d o (own ++ h.inner) start r) (opened.Open (with_elem f h.elem)) o t3 rest e3 (
      held ++ h ∷ [],
      elems-more f.elems held h es,
      inner-more own held h is,
      subst P (sym braces) (t1, s1, (t2, s2, each-snoc (λ e. ElemWithin n d e ⨾ Mark k.Comma) held h t2 mid t3 s3 (ts, s4, mark-sound k.Comma ts t3 at is3))),
    )
more_by-sound false n d f h held own start t1 t2 mid ts rest o es is braces s1 s2 s3 s4 e =
    closed-sound n d (with_elem f h.elem) (own ++ h.inner) start t1 t2 ts rest o s1 s2 (held ++ h ∷ [], elems-more f.elems held h es, inner-more own held h is, last-item (ElemWithin n d) held h t2 mid ts s3 s4) e

single : (n d : ℕ) (f : Frame) (h : Held) (held : List Held) (own : List InnerAnnot) (start mid ts rest : List Token) (o : Opened) → own ≡ inner_of held → (HeadOf f ⨾ SoFar (ElemWithin n d) false held) start mid → ElemWithin n d h mid ts
    → placed_by f h.elem false ts ≡ Found o rest → OpenedIs n d o (own ++ h.inner) start rest
single n d f h [] own start mid ts rest o is (t1, s1, none) s2 e =
    let (closing, t3, is3, e3) = and_then-some (sign k.RParen ts) _ o rest e in
    let P : List Token → Type 0 = λ l. HeadOf f start l in
    let Q : List InnerAnnot → Type 0 = λ l. OpenedIs n d (opened.Whole (one_tree f h.elem closing)) (l ++ h.inner) start t3 in
    pure-is (λ o r. OpenedIs n d o (own ++ h.inner) start r) (opened.Whole (one_tree f h.elem closing)) o t3 rest e3
    (subst Q (sym is) (one-is n d f h closing start mid ts t3 (subst P none s1) s2 (sign-sound k.RParen ts t3 closing is3)))
single n d f h (x ∷ held) own start mid ts rest o is (t1, s1, none) s2 e = absurd none

placed_by-sound : (b : Bool) (n d : ℕ) (f : Frame) (h : Held) (held : List Held) (own : List InnerAnnot) (start mid ts rest : List Token) (o : Opened) → f.elems ≡ elems_of held → own ≡ inner_of held → f.in_braces ≡ b
    → (HeadOf f ⨾ SoFar (ElemWithin n d) b held) start mid → ElemWithin n d h mid ts → placed_by f h.elem b ts ≡ Found o rest → OpenedIs n d o (own ++ h.inner) start rest
placed_by-sound true n d f h held own start mid ts rest o es is braces (t1, s1, (t2, s2, s3)) s4 e = more_by-sound (sees k.Comma ts) n d f h held own start t1 t2 mid ts rest o es is braces s1 s2 s3 s4 e
placed_by-sound false n d f h held own start mid ts rest o es is braces s1 s2 e = single n d f h held own start mid ts rest o is s1 s2 e

placed-sound : (n d : ℕ) (f : Frame) (h : Held) (own : List InnerAnnot) (start mid ts rest : List Token) (o : Opened) → FrameIs n d f own start mid → ElemWithin n d h mid ts → placed f h.elem ts ≡ Found o rest → OpenedIs n d o (own ++ h.inner) start rest
unfolding placed
placed-sound n d f h own start mid ts rest o (held, es, is, s1) s2 e = placed_by-sound f.in_braces n d f h held own start mid ts rest o es is refl s1 s2 e

closed-shorter : (f : Frame) (ts rest : List Token) (o : Opened) → closed f ts ≡ Found o rest → length rest < length ts
unfolding closed
closed-shorter f ts rest o e =
    let (at, t3, is3, e3) = and_then-some (sign k.RBrace ts) _ o rest e in
    let (closing, t4, is4, e4) = and_then-some (sign k.RParen t3) _ o rest e3 in
    let a : length ts ≡ suc (length t3) = sign-shorter k.RBrace ts t3 at (sign-sound k.RBrace ts t3 at is3) in
    let b : length t3 ≡ suc (length t4) = sign-shorter k.RParen t3 t4 closing (sign-sound k.RParen t3 t4 closing is4) in
    pure-is (λ o r. length r < length ts) (opened.Whole (many_tree f closing)) o t4 rest e4 (omega arith)

more_by-shorter : (b : Bool) (f : Frame) (ts rest : List Token) (o : Opened) → more_by f b ts ≡ Found o rest → length rest < length ts
more_by-shorter true f ts rest o e =
    let (at, t3, is3, e3) = and_then-some (sign k.Comma ts) _ o rest e in
    let a : length ts ≡ suc (length t3) = sign-shorter k.Comma ts t3 at (sign-sound k.Comma ts t3 at is3) in
    pure-is (λ o r. length r < length ts) (opened.Open f) o t3 rest e3 (omega arith)
more_by-shorter false f ts rest o e = closed-shorter f ts rest o e

placed_by-shorter : (b : Bool) (f : Frame) (elem : Elem) (ts rest : List Token) (o : Opened) → placed_by f elem b ts ≡ Found o rest → length rest < length ts
placed_by-shorter true f elem ts rest o e = more_by-shorter (sees k.Comma ts) (with_elem f elem) ts rest o e
placed_by-shorter false f elem ts rest o e =
    let (closing, t3, is3, e3) = and_then-some (sign k.RParen ts) _ o rest e in
    let a : length ts ≡ suc (length t3) = sign-shorter k.RParen ts t3 closing (sign-sound k.RParen ts t3 closing is3) in
    pure-is (λ o r. length r < length ts) (opened.Whole (one_tree f elem closing)) o t3 rest e3 (omega arith)

pub placed-shorter : (f : Frame) (elem : Elem) (ts rest : List Token) (o : Opened) → placed f elem ts ≡ Found o rest → length rest < length ts
unfolding placed
placed-shorter f elem ts rest o e = placed_by-shorter f.in_braces f elem ts rest o e

spends-so_far : (P : Held → Phrase) → ((h : Held) → Spends (P h)) → (b : Bool) (held : List Held) → Spends (SoFar P b held)
spends-so_far P p true held ts rest s =
    spends-then (Mark k.LBrace) (Each (λ e. P e ⨾ Mark k.Comma) held) (spends-mark k.LBrace) (spends-each (λ e. P e ⨾ Mark k.Comma) (λ e. spends-then (P e) (Mark k.Comma) (p e) (spends-mark k.Comma)) held) ts rest s
spends-so_far P p false [] ts rest s = spent-nothing ts rest s
spends-so_far P p false (h ∷ held) ts rest s = absurd s

frame-shorter : (n d : ℕ) (f : Frame) (inner : List InnerAnnot) (ts rest : List Token) → FrameIs n d f inner ts rest → length rest < length ts
frame-shorter n d f inner ts rest (held, es, is, (t4, (t1, s1, (t2, s2, (t3, s3, s4))), s5)) =
    let a : length ts ≡ suc (length t1) = sign-shorter k.At ts t1 f.at s1 in
    let b : length t2 ≤ length t1 = not_longer t1 t2 (spends-qualified f.name t1 t2 s2) in
    let m : length t2 ≡ suc (length t3) = sign-shorter k.LParen t2 t3 f.opening s3 in
    let g : length t4 ≤ length t3 = not_longer t3 t4 (spends-value f.value t3 t4 s4) in
    let h : length rest ≤ length t4 = not_longer t4 rest (spends-so_far (ElemWithin n d) (spends-elem n d) f.in_braces held t4 rest s5) in
    omega arith

opened-shorter : (n d : ℕ) (o : Opened) (inner : List InnerAnnot) (ts rest : List Token) → OpenedIs n d o inner ts rest → length rest < length ts
opened-shorter n d (opened.Whole a) inner ts rest s = annot-shorter (ElemWithin n d) (spends-elem n d) a inner ts rest s
opened-shorter n d (opened.Open f) inner ts rest s = frame-shorter n d f inner ts rest s

pub head-shorter : (ts rest : List Token) (o : Opened) → head ts ≡ Found o rest → length rest < length ts
head-shorter ts rest o e = opened-shorter 0 1 o [] ts rest (head-sound 0 1 ts rest o e)

-- ---- a turn takes a token

surrounded_by-shorter : (depth : ℕ) (outer : List Frame) (ended : List InnerAnnot) (a : AnnotLayer) (ts rest : List Token) (y : Nest) → surrounded_by depth outer ended a ts ≡ Found y rest → length rest < length ts
surrounded_by-shorter depth [] ended a ts rest y e = cc
surrounded_by-shorter depth (f ∷ outer) ended a ts rest y e =
    let (o, mid, is, e1) = and_then-some (placed f element.Annot ts) _ y rest e in
    pure-is (λ y r. length r < length ts) (nest (reverse outer) (ended ++ inner_annot depth a ∷ []) o) y mid rest e1 (placed-shorter f element.Annot ts mid o is)

text-shorter : (f : Frame) (ts rest : List Token) (o : Opened) → text_placed f ts ≡ Found o rest → length rest < length ts
unfolding text_placed
text-shorter f ts rest o e =
    let (text, t1, is1, e1) = and_then-some (word k.StrLiteral ts) _ o rest e in
    let a : length ts ≡ suc (length t1) = word-shorter k.StrLiteral ts t1 text (word-sound k.StrLiteral ts t1 text is1) in
    let b : length rest < length t1 = placed-shorter f (element.Str text) t1 rest o e1 in
    omega arith

entered_by-shorter : (b : Bool) (outer : List Frame) (ended : List InnerAnnot) (f : Frame) (ts rest : List Token) (y : Nest) → entered_by outer ended f b ts ≡ Found y rest → length rest < length ts
entered_by-shorter true outer ended f ts rest y e =
    let (o, mid, is, e1) = and_then-some (text_placed f ts) _ y rest e in
    pure-is (λ y r. length r < length ts) (nest outer ended o) y mid rest e1 (text-shorter f ts mid o is)
entered_by-shorter false outer ended f ts rest y e =
    let (o, mid, is, e1) = and_then-some (head ts) _ y rest e in
    pure-is (λ y r. length r < length ts) (nest (outer ++ f ∷ []) ended o) y mid rest e1 (head-shorter ts mid o is)

turn_by-shorter : (outer : List Frame) (ended : List InnerAnnot) (last : Opened) (ts rest : List Token) (y : Nest) → turn_by outer ended last ts ≡ Found y rest → length rest < length ts
unfolding surrounded entered
turn_by-shorter outer ended (opened.Whole a) ts rest y e = surrounded_by-shorter (length outer) (reverse outer) ended a ts rest y e
turn_by-shorter outer ended (opened.Open f) ts rest y e = entered_by-shorter (sees k.StrLiteral ts) outer ended f ts rest y e

pub turn-shorter : (x y : Nest) (ts rest : List Token) → turn x ts ≡ Found y rest → length rest < length ts
unfolding turn
turn-shorter x y ts rest e = turn_by-shorter x.outer x.ended x.last ts rest y e

-- ---- turns

elem-annot : (n d depth : ℕ) (a : AnnotLayer) (within : List InnerAnnot) (ts rest : List Token) → depth ≡ d → AnnotBy (ElemWithin n (suc d)) a within ts rest
    → ElemWithin (suc n) d (record { elem = element.Annot; inner = within ++ inner_annot depth a ∷ [] }) ts rest
unfolding ElemWithin
elem-annot n d depth a within ts rest same s = (a, within, ap (λ m. within ++ inner_annot m a ∷ []) same, s)

elem-text : (n d : ℕ) (text : Lexeme) (ts rest : List Token) → Spelled k.StrLiteral text ts rest → ElemWithin (suc n) d (record { elem = element.Str text; inner = [] }) ts rest
unfolding ElemWithin
elem-text n d text ts rest s = (refl, s)

turned : (n : ℕ) (stack outer : List Frame) (before own ended : List InnerAnnot) (o : Opened) (start mid rest : List Token) → reverse outer ≡ stack → ended ≡ before ++ own
    → StackIs n stack before start mid → OpenedIs n (suc (length stack)) o own mid rest → NestIs (nest outer ended o) start rest
turned n stack outer before own ended o start mid rest is e s s1 =
    let P : List Frame → Type 0 = λ l. (StackIs n l before ⨾ OpenedIs n (suc (length l)) o own) start rest in
    (n, before, own, e, subst P (sym is) (mid, s, s1))

surrounded_by-sound : (n depth : ℕ) (outer : List Frame) (a : AnnotLayer) (before own ended : List InnerAnnot) (start mid ts rest : List Token) (y : Nest) → depth ≡ length outer → ended ≡ before ++ own
    → StackIs n outer before start mid → AnnotBy (ElemWithin n (suc (length outer))) a own mid ts → surrounded_by depth outer ended a ts ≡ Found y rest → NestIs y start rest
surrounded_by-sound n depth [] a before own ended start mid ts rest y deep is s s1 e = cc
surrounded_by-sound n depth (f ∷ outer) a before own ended start mid ts rest y deep is (b, c, split, (t0, s, here)) s1 e =
    let (o, t1, found, e1) = and_then-some (placed f element.Annot ts) _ y rest e in
    let more : n ≤ suc n = omega arith in
    let x : List InnerAnnot = inner_annot depth a ∷ [] in
    let h : Held = record { elem = element.Annot; inner = own ++ x } in
    let all : ended ++ x ≡ b ++ (c ++ (own ++ x)) =
    ap (λ l. l ++ x) (is ∙ ap (λ l. l ++ own) split) ∙ append_assoc (b ++ c) own x ∙ append_assoc b c (own ++ x) in
    pure-is (λ y r. NestIs y start r) (nest (reverse outer) (ended ++ x) o) y t1 rest e1
    (turned (suc n) outer (reverse outer) b (c ++ (own ++ x)) (ended ++ x) o start t0 t1 (reverse-reverse outer) all (stack-deeper n (suc n) more outer b start t0 s)
    (placed-sound (suc n) (suc (length outer)) f h c t0 mid ts t1 o (frame-deeper n (suc n) more (suc (length outer)) f c t0 mid here) (elem-annot n (suc (length outer)) depth a own mid ts deep s1) found))

text-sound : (n d : ℕ) (f : Frame) (own : List InnerAnnot) (start mid ts rest : List Token) (o : Opened) → FrameIs n d f own start mid → text_placed f ts ≡ Found o rest → mid ≡ ts → OpenedIs (suc n) d o own start rest
unfolding text_placed
text-sound n d f own start mid ts rest o s e here =
    let (text, t1, is1, e1) = and_then-some (word k.StrLiteral ts) _ o rest e in
    let more : n ≤ suc n = omega arith in
    let P : List InnerAnnot → Type 0 = λ l. OpenedIs (suc n) d o l start rest in
    let Q : List Token → Type 0 = λ l. FrameIs n d f own start l in
    subst P (append-nil own)
    (placed-sound (suc n) d f (record { elem = element.Str text; inner = [] }) own start ts t1 rest o (frame-deeper n (suc n) more d f own start ts (subst Q here s)) (elem-text n d text ts t1 (word-sound k.StrLiteral ts t1 text is1)) e1)

entered_by-sound : (b : Bool) (n : ℕ) (outer : List Frame) (f : Frame) (before own ended : List InnerAnnot) (start mid ts rest : List Token) (y : Nest) → ended ≡ before ++ own
    → StackIs n (reverse outer) before start mid → FrameIs n (suc (length (reverse outer))) f own mid ts → entered_by outer ended f b ts ≡ Found y rest → NestIs y start rest
entered_by-sound true n outer f before own ended start mid ts rest y is s s1 e =
    let (o, t1, found, e1) = and_then-some (text_placed f ts) _ y rest e in
    let more : n ≤ suc n = omega arith in
    pure-is (λ y r. NestIs y start r) (nest outer ended o) y t1 rest e1
    (turned (suc n) (reverse outer) outer before own ended o start mid t1 refl is (stack-deeper n (suc n) more (reverse outer) before start mid s) (text-sound n (suc (length (reverse outer))) f own mid ts ts t1 o s1 found refl))
entered_by-sound false n outer f before own ended start mid ts rest y is s s1 e =
    let (o, t1, found, e1) = and_then-some (head ts) _ y rest e in
    pure-is (λ y r. NestIs y start r) (nest (outer ++ f ∷ []) ended o) y t1 rest e1
    (turned n (f ∷ reverse outer) (outer ++ f ∷ []) ended [] ended o start ts t1 (reverse_push outer f) (sym (append-nil ended)) (before, own, is, (mid, s, s1)) (head-sound n (suc (length (f ∷ reverse outer))) ts t1 o found))

turn_by-sound : (n : ℕ) (outer : List Frame) (last : Opened) (before own ended : List InnerAnnot) (start mid ts rest : List Token) (y : Nest) → ended ≡ before ++ own
    → StackIs n (reverse outer) before start mid → OpenedIs n (suc (length (reverse outer))) last own mid ts → turn_by outer ended last ts ≡ Found y rest → NestIs y start rest
unfolding surrounded entered
turn_by-sound n outer (opened.Whole a) before own ended start mid ts rest y is s s1 e = surrounded_by-sound n (length outer) (reverse outer) a before own ended start mid ts rest y (sym (length-reverse outer)) is s s1 e
turn_by-sound n outer (opened.Open f) before own ended start mid ts rest y is s s1 e = entered_by-sound (sees k.StrLiteral ts) n outer f before own ended start mid ts rest y is s s1 e

turn-sound : (x y : Nest) (start ts rest : List Token) → NestIs x start ts → turn x ts ≡ Found y rest → NestIs y start rest
unfolding turn
turn-sound x y start ts rest (n, before, own, is, (mid, s, s1)) e = turn_by-sound n x.outer x.last before own x.ended start mid ts rest y is s s1 e

nested_by : (left : ℕ) (x y : Nest) (start ts rest : List Token) → ((z : Nest) (mid : List Token) → NestIs z start mid → nested_from left z mid ≡ Found y rest → NestIs y start rest × (is_whole y ≡ true))
    → NestIs x start ts → (b : Bool) → is_whole x ≡ b → cond b (Found x ts) (and_then (turn x ts) (nested_from left)) ≡ Found y rest → NestIs y start rest × (is_whole y ≡ true)
nested_by left x y start ts rest later s true is e = pure-is (λ y r. NestIs y start r × (is_whole y ≡ true)) x y ts rest e (s, is)
nested_by left x y start ts rest later s false is e =
    let (z, mid, is1, e1) = and_then-some (turn x ts) _ y rest e in
    later z mid (turn-sound x z start ts mid s is1) e1

nested_from-sound : (left : ℕ) (x y : Nest) (start ts rest : List Token) → NestIs x start ts → nested_from left x ts ≡ Found y rest → NestIs y start rest × (is_whole y ≡ true)
unfolding nested_from
nested_from-sound zero x y start ts rest s e = cc
nested_from-sound (suc left) x y start ts rest s e = nested_by left x y start ts rest (λ z mid q f. nested_from-sound left z y start mid rest q f) s (is_whole x) refl e

whole_by-sound : (n : ℕ) (outer : List Frame) (last : Opened) (before own ended : List InnerAnnot) (a : Annot) (start mid ts rest : List Token) → ended ≡ before ++ own
    → StackIs n (reverse outer) before start mid → OpenedIs n (suc (length (reverse outer))) last own mid ts → whole_by outer last ≡ true → annot_of ended last ts ≡ Found a rest → AnnotSpells a start rest
whole_by-sound n [] (opened.Whole b) before own ended a start mid ts rest all (none, s) s1 is e =
    let P : List Token → Type 0 = λ l. AnnotBy (ElemWithin n 1) b own l ts in
    let Q : List InnerAnnot → Type 0 = λ l. AnnotBy (ElemWithin n 1) b l start ts in
    let same : ended ≡ own = all ∙ ap (λ l. l ++ own) none in
    pure-is (λ a r. AnnotSpells a start r) (record { layer = b; inner = ended }) a ts rest e (n, subst Q (sym same) (subst P (sym s) s1))
whole_by-sound n (f ∷ outer) (opened.Whole b) before own ended a start mid ts rest all s s1 is e = cc
whole_by-sound n outer (opened.Open f) before own ended a start mid ts rest all s s1 is e = cc

whole-sound : (x : Nest) (a : Annot) (start ts rest : List Token) → NestIs x start ts → is_whole x ≡ true → annot_of x.ended x.last ts ≡ Found a rest → AnnotSpells a start rest
unfolding is_whole
whole-sound x a start ts rest (n, before, own, all, (mid, s, s1)) is e = whole_by-sound n x.outer x.last before own x.ended a start mid ts rest all s s1 is e

pub annotation-sound : (ts rest : List Token) (a : Annot) → annotation ts ≡ Found a rest → AnnotSpells a ts rest
unfolding annotation nested
annotation-sound ts rest a e =
    let (o, t1, is1, e1) = and_then-some (head ts) _ a rest e in
    let (x, t2, is2, e2) = and_then-some (nested_from (suc (length t1)) (nest [] [] o) t1) _ a rest e1 in
    let (s, whole) = nested_from-sound (suc (length t1)) (nest [] [] o) x ts t1 t2 (0, [], [], refl, (ts, (refl, refl), head-sound 0 1 ts t1 o is1)) is2 in
    whole-sound x a ts t2 rest s whole e2
