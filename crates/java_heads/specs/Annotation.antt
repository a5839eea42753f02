-- Which tokens spell which qualified name and annotation (JLS 8, 6.5, 9.7, as far as the subset goes).
use Rattle.std.specs.Prelude.{◌≡◌, ℕ, zero, suc, List, [], ◌∷◌, ◌++◌, Option, Some, None, map, codes}
use Rattle.std.specs.List.{flat_map}
use Rattle.java_phrases.specs.Tree.{Kind, Kind as k, Lexeme, Annot, AnnotLayer, InnerAnnot, Elements, Elements as elements, Elem, Elem as element}
use Rattle.java_phrases.specs.Common.{Phrase, Nothing, ◌⨾◌, ◌⊢◌, Never, Mark, Sign, Spelled, Separated, Each}

-- item {sign item}
abbrev pub Joined : {A : Type 0} → Kind → (A → Phrase) → List A → Phrase
Joined sign P [] = Never
Joined sign P (x ∷ xs) = P x ⨾ Each (λ y. Mark sign ⨾ P y) xs

-- Qname = Name {"." Name}
abbrev pub Qualified : List Lexeme → Phrase
Qualified = Joined k.Dot (Spelled k.Name)

abbrev pub value_name : List ℕ
value_name = codes "value"

-- ["value" "="]
abbrev pub ValueWord : Option Lexeme → Phrase
ValueWord None = Nothing
ValueWord (Some word) = (word.text ≡ value_name) ⊢ Spelled k.Name word ⨾ Mark k.Assign

-- an element, and the annotations that it holds: none, or those within an annotation and itself
pub record Held : Type 0 where
  pub elem : Elem
  pub inner : List InnerAnnot

abbrev pub elems_of : List Held → List Elem
elems_of held = map (λ (h : Held). h.elem) held

-- the annotations that the elements hold, one element's after the other's
abbrev pub inner_of : List Held → List InnerAnnot
inner_of held = flat_map (λ (h : Held). h.inner) held

-- [Elem {"," Elem}]
abbrev pub Listed : (Held → Phrase) → List Elem → List InnerAnnot → Phrase
Listed Inner elems inner ts rest = (held : List Held) × (elems ≡ elems_of held) × (inner ≡ inner_of held) × Separated Inner held ts rest

-- ["(" [["value" "="] (Elem | "{" [Elem {"," Elem}] "}")] ")"], where Inner spells an element with the
-- annotations that it holds
abbrev pub ElementsBy : (Held → Phrase) → Elements → List InnerAnnot → Phrase
ElementsBy Inner elements.Bare inner = (inner ≡ []) ⊢ Nothing
ElementsBy Inner (elements.Empty opening closing) inner = (inner ≡ []) ⊢ Sign k.LParen opening ⨾ Sign k.RParen closing
ElementsBy Inner (elements.One opening value elem closing) inner =
    Sign k.LParen opening ⨾ ValueWord value ⨾ Inner (record { elem = elem; inner = inner }) ⨾ Sign k.RParen closing
ElementsBy Inner (elements.Many opening value elems closing) inner =
    Sign k.LParen opening ⨾ ValueWord value ⨾ Mark k.LBrace ⨾ Listed Inner elems inner ⨾ Mark k.RBrace ⨾ Sign k.RParen closing

-- Annot = "@" Qname with its elements
abbrev pub AnnotBy : (Held → Phrase) → AnnotLayer → List InnerAnnot → Phrase
AnnotBy Inner layer inner = Sign k.At layer.at ⨾ Qualified layer.name ⨾ ElementsBy Inner layer.elements inner

abbrev pub inner_annot : ℕ → AnnotLayer → InnerAnnot
inner_annot depth layer = record { depth = depth; layer = layer }

-- an annotation that stands in so many others: the last one of these
abbrev pub InnerSpells : (Held → Phrase) → ℕ → List InnerAnnot → Phrase
InnerSpells Inner depth inner ts rest =
    (layer : AnnotLayer) × (within : List InnerAnnot) × (inner ≡ within ++ inner_annot depth layer ∷ []) × AnnotBy Inner layer within ts rest

-- Elem = Str | Annot, where Inner spells the elements of the annotation
abbrev pub ElemBy : (Held → Phrase) → ℕ → Elem → List InnerAnnot → Phrase
ElemBy Inner depth (element.Str text) inner = (inner ≡ []) ⊢ Spelled k.StrLiteral text
ElemBy Inner depth element.Annot inner = InnerSpells Inner depth inner

-- an element in which annotations nest less deep than the limit, and which stands in so many
unfoldable pub ElemWithin : ℕ → ℕ → Held → Phrase
ElemWithin zero depth h = Never
ElemWithin (suc limit) depth h = ElemBy (ElemWithin limit (suc depth)) depth h.elem h.inner

-- An annotation. They nest in one another without a limit.
abbrev pub AnnotSpells : Annot → Phrase
AnnotSpells annot ts rest = (limit : ℕ) × AnnotBy (ElemWithin limit 1) annot.layer annot.inner ts rest
