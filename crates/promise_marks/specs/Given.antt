-- What the annotations of a class give: the kind and the content of each promise annotation, in
-- written order.
use Rattle.std.specs.Prelude.{ℕ, ◌+◌, ◌==◌, List, [], ◌∷◌, ◌++◌, Option, Some, None, if◌then◌else◌, codes}
use Rattle.std.specs.List.{flat_map}
use Rattle.std.specs.Str.{bytes_eq}
use Rattle.java_tree.specs.declared.token.Lexeme.{Lexeme}
use Rattle.java_tree.specs.declared.file.ClassTree.{ClassTree}
use Rattle.java_tree.specs.declared.member.Annot.{Annot}
use Rattle.java_tree.specs.declared.member.AnnotLayer.{AnnotLayer}
use Rattle.java_tree.specs.declared.member.InnerAnnot.{InnerAnnot}
use Rattle.java_tree.specs.declared.member.Elements.{Elements}
use Rattle.java_tree.specs.declared.member.Elements.TheVariants as elements
use Rattle.java_tree.specs.declared.member.Elem.{Elem}
use Rattle.java_tree.specs.declared.member.Elem.TheVariants as element
use Rattle.java_tree.specs.declared.member.Mod.{Mod}
use Rattle.java_tree.specs.declared.member.Mod.TheVariants as modifier
use Rattle.java_tree.specs.declared.member.Param.{Param}
use Rattle.java_tree.specs.declared.member.MemberTree.{MemberTree}
use Rattle.java_tree.specs.declared.member.MemberTree.TheVariants as member
use Rattle.java_lexer.specs.Value.{string_value}
use Rattle.promise_grammar.specs.declared.kind.PromiseKind.{PromiseKind}
use Rattle.promise_grammar.specs.declared.kind.PromiseKind.TheVariants as kind
use Rattle.promise_grammar.specs.Kind.{kind_named, kind_text}

-- where it stands, its kind, and its content, which is none where its elements are more than a string
pub record Given : Type 0 where
  pub param : Option ℕ
  pub kind : PromiseKind
  pub content : Option (List ℕ)

-- an annotation goes by the last name of its qualified name
abbrev pub last_name : List Lexeme → List ℕ
last_name [] = []
last_name (w ∷ []) = w.text
last_name (w ∷ v ∷ ws) = last_name (v ∷ ws)

abbrev pub name_of : AnnotLayer → List ℕ
name_of a = last_name a.name

-- the elements, in braces or not
abbrev pub elems_in : Elements → List Elem
elems_in elements.Bare = []
elems_in (elements.Empty opening closing) = []
elems_in (elements.One opening value elem closing) = elem ∷ []
elems_in (elements.Many opening value elems closing) = elems

abbrev pub elems_of : AnnotLayer → List Elem
elems_of a = elems_in a.elements

abbrev pub string_in : Elem → Option (List ℕ)
string_in (element.Str word) = Some (string_value word.text)
string_in element.Annot = None

-- the value of its one string, which is empty where it has no element
abbrev pub content_of : List Elem → Option (List ℕ)
content_of [] = Some []
content_of (e ∷ []) = string_in e
content_of (e ∷ d ∷ es) = None

-- what the containers hold
abbrev pub held_by : List ℕ → Option PromiseKind
held_by name =
    if bytes_eq name (codes "Regions") then Some kind.Region else (
    if bytes_eq name (codes "RegionLocks") then Some kind.RegionLock else (
    if bytes_eq name (codes "Promises") then Some kind.Promise else (
    if bytes_eq name (codes "Assumes") then Some kind.Assume else None)))

abbrev pub given : Option ℕ → PromiseKind → AnnotLayer → Given
given param k a = record { param = param; kind = k; content = content_of (elems_of a) }

-- an annotation in a container: of the container's kind it counts, else it has no effect
abbrev pub by_held : Option ℕ → PromiseKind → AnnotLayer → List Given
by_held param k a = if bytes_eq (name_of a) (kind_text k) then given param k a ∷ [] else []

-- one that stands in another one of the container has none either
abbrev pub by_inner : Option ℕ → PromiseKind → InnerAnnot → List Given
by_inner param k inner = if inner.depth == 1 then by_held param k inner.layer else []

abbrev pub by_all : Option ℕ → PromiseKind → List InnerAnnot → List Given
by_all param k inner = flat_map (by_inner param k) inner

abbrev pub by_container : Option ℕ → Option PromiseKind → Annot → List Given
by_container param None a = []
by_container param (Some k) a = by_all param k a.inner

abbrev pub by_kind : Option ℕ → Option PromiseKind → Annot → List Given
by_kind param (Some k) a = given param k a.layer ∷ []
by_kind param None a = by_container param (held_by (name_of a.layer)) a

abbrev pub by_annot : Option ℕ → Annot → List Given
by_annot param a = by_kind param (kind_named (name_of a.layer)) a

abbrev pub by_mod : Option ℕ → Mod → List Given
by_mod param (modifier.Annot a) = by_annot param a
by_mod param (modifier.Word word at) = []

abbrev pub by_mods : Option ℕ → List Mod → List Given
by_mods param mods = flat_map (by_mod param) mods

-- of parameters, the first of which has this number
abbrev pub by_params : ℕ → List Param → List Given
by_params n [] = []
by_params n (p ∷ ps) = by_mods (Some n) p.mods ++ by_params (n + 1) ps

-- those of a class's header, and of a member: its own, then those of its parameters
abbrev pub by_header : ClassTree → List Given
by_header class = by_mods None class.mods

abbrev pub by_member : MemberTree → List Given
by_member (member.Field f) = by_mods None f.mods
by_member (member.Method m) = by_mods None m.mods ++ by_params 0 m.params
by_member (member.Sig s) = by_mods None s.mods ++ by_params 0 s.params
by_member (member.Ctor c) = by_mods None c.mods ++ by_params 0 c.params
by_member (member.Main m) = by_mods None m.mods
