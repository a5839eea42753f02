-- What promise annotations give, and where they stand, is told without their places.
use Rattle.std.proofs.Common.{◌≡◌, refl, ℕ, ◌+◌, ◌==◌, Bool, false, ◌||◌, not, if◌then◌else◌, List, [], ◌∷◌, ◌++◌, map, Option, Some, None, sym, ap, ap₂, ◌∙◌}
use Rattle.std.specs.Str.{bytes_eq}
use Rattle.std.specs.List.{list_any, slice_get}
use Rattle.std.specs.Option.{option_map}
use Rattle.std.proofs.lemmas.Option.{slice_get-map}
use Rattle.desk_base.specs.declared.span.Span.{Span}
use Rattle.java_tree.specs.declared.token.Lexeme.{Lexeme}
use Rattle.java_tree.specs.declared.member.Annot.{Annot}
use Rattle.java_tree.specs.declared.member.AnnotLayer.{AnnotLayer}
use Rattle.java_tree.specs.declared.member.InnerAnnot.{InnerAnnot}
use Rattle.java_tree.specs.declared.member.Elements.{Elements}
use Rattle.java_tree.specs.declared.member.Elements.TheVariants as elements
use Rattle.java_tree.specs.declared.member.Elem.{Elem}
use Rattle.java_tree.specs.declared.member.Elem.TheVariants as element
use Rattle.java_tree.specs.declared.member.Mod.{Mod}
use Rattle.java_tree.specs.declared.member.Mod.TheVariants as modifier
use Rattle.java_tree.specs.declared.member.ModWord.TheVariants as modword
use Rattle.java_tree.specs.declared.member.Ty.{Ty}
use Rattle.java_tree.specs.declared.member.Ty.TheVariants as ty
use Rattle.java_tree.specs.declared.member.Param.{Param}
use Rattle.java_tree.specs.declared.member.MemberTree.{MemberTree}
use Rattle.java_tree.specs.declared.member.MemberTree.TheVariants as member
use Rattle.tree_places.specs.Moved.{moved_lexemes, moved_ty}
use Rattle.tree_places.specs.MovedAnnot.{moved_elem, moved_elements, moved_annot_layer, moved_inner, moved_annot}
use Rattle.tree_places.specs.MovedMember.{moved_mod, moved_mods, moved_param, moved_params, moved_member}
use Rattle.promise_grammar.specs.declared.kind.PromiseKind.{PromiseKind}
use Rattle.promise_grammar.specs.Kind.{kind_named, kind_text}
use Rattle.promise_grammar.specs.declared.tree.PromiseTree.{PromiseTree}
use Rattle.promise_marks.specs.declared.mark.Mark.{Mark}
use Rattle.promise_marks.specs.Given.{Given, last_name, name_of, elems_in, string_in, content_of, held_by, given, by_held, by_inner, by_all, by_container, by_kind, by_annot, by_mod, by_mods, by_params, by_member}
use Rattle.promise_marks.specs.Marks.{IsTree, IsMark, AreMarks}
use Rattle.class_faces.specs.Faces.{face_ty, is_static_word, is_final_word, is_static, is_final}
use Rattle.scrub_rules.specs.declared.place.TypeSort.{TypeSort}
use Rattle.scrub_rules.specs.declared.place.Site.{Site}
use Rattle.scrub_rules.specs.declared.place.SiteKind.TheVariants as site
use Rattle.scrub_rules.specs.declared.place.TypeSort.TheVariants as sort
use Rattle.scrub_rules.specs.Place.{sort_of, made, member_site, params_of, param_sort, site_of}
use Rattle.scrub_rules.specs.Offers.{name_in, param_name}

module _ (place : Span → Span) where
  -- ---- annotations

  pub name-moved : (ws : List Lexeme) → last_name (moved_lexemes place ws) ≡ last_name ws
  name-moved [] = refl
  name-moved (w ∷ []) = refl
  name-moved (w ∷ v ∷ ws) = name-moved (v ∷ ws)

  string-moved : (e : Elem) → string_in (moved_elem place e) ≡ string_in e
  string-moved (element.Str w) = refl
  string-moved element.Annot = refl

  content-moved : (es : List Elem) → content_of (map (moved_elem place) es) ≡ content_of es
  content-moved [] = refl
  content-moved (e ∷ []) = string-moved e
  content-moved (e ∷ d ∷ es) = refl

  elements-moved : (e : Elements) → content_of (elems_in (moved_elements place e)) ≡ content_of (elems_in e)
  elements-moved elements.Bare = refl
  elements-moved (elements.Empty opening closing) = refl
  elements-moved (elements.One opening value elem closing) = string-moved elem
  elements-moved (elements.Many opening value elems closing) = content-moved elems

  abbrev with_content : Option ℕ → PromiseKind → Option (List ℕ) → Given
  with_content param k c = record { param = param; kind = k; content = c }

  given-moved : (param : Option ℕ) (k : PromiseKind) (a : AnnotLayer) → given param k (moved_annot_layer place a) ≡ given param k a
  given-moved param k a = ap (with_content param k) (elements-moved a.elements)

  held-moved : (param : Option ℕ) (k : PromiseKind) (a : AnnotLayer) → by_held param k (moved_annot_layer place a) ≡ by_held param k a
  held-moved param k a =
      ap₂ (λ (name : List ℕ) (g : Given). if bytes_eq name (kind_text k) then g ∷ [] else []) (name-moved a.name) (given-moved param k a)

  inner-moved : (param : Option ℕ) (k : PromiseKind) (i : InnerAnnot) → by_inner param k (moved_inner place i) ≡ by_inner param k i
  inner-moved param k i = ap (λ (l : List Given). if i.depth == 1 then l else []) (held-moved param k i.layer)

  all-moved : (param : Option ℕ) (k : PromiseKind) (list : List InnerAnnot) → by_all param k (map (moved_inner place) list) ≡ by_all param k list
  all-moved param k [] = refl
  all-moved param k (i ∷ list) = ap₂ (λ (a b : List Given). a ++ b) (inner-moved param k i) (all-moved param k list)

  container-moved : (param : Option ℕ) (k : Option PromiseKind) (a : Annot) → by_container param k (moved_annot place a) ≡ by_container param k a
  container-moved param None a = refl
  container-moved param (Some k) a = all-moved param k a.inner

  kind-moved : (param : Option ℕ) (k : Option PromiseKind) (a : Annot) → by_kind param k (moved_annot place a) ≡ by_kind param k a
  kind-moved param (Some k) a = ap (λ (g : Given). g ∷ []) (given-moved param k a.layer)
  kind-moved param None a =
      ap (λ (name : List ℕ). by_container param (held_by name) (moved_annot place a)) (name-moved a.layer.name)
      ∙ container-moved param (held_by (name_of a.layer)) a

  annot-moved : (param : Option ℕ) (a : Annot) → by_annot param (moved_annot place a) ≡ by_annot param a
  annot-moved param a =
      ap (λ (name : List ℕ). by_kind param (kind_named name) (moved_annot place a)) (name-moved a.layer.name)
      ∙ kind-moved param (kind_named (name_of a.layer)) a

  mod-moved : (param : Option ℕ) (m : Mod) → by_mod param (moved_mod place m) ≡ by_mod param m
  mod-moved param (modifier.Annot a) = annot-moved param a
  mod-moved param (modifier.Word word at) = refl

  pub mods-moved : (param : Option ℕ) (ms : List Mod) → by_mods param (moved_mods place ms) ≡ by_mods param ms
  mods-moved param [] = refl
  mods-moved param (m ∷ ms) = ap₂ (λ (a b : List Given). a ++ b) (mod-moved param m) (mods-moved param ms)

  params-moved : (n : ℕ) (ps : List Param) → by_params n (moved_params place ps) ≡ by_params n ps
  params-moved n [] = refl
  params-moved n (p ∷ ps) = ap₂ (λ (a b : List Given). a ++ b) (mods-moved (Some n) p.mods) (params-moved (n + 1) ps)

  pub member-moved : (m : MemberTree) → by_member (moved_member place m) ≡ by_member m
  member-moved (member.Field f) = mods-moved None f.mods
  member-moved (member.Method m) = ap₂ (λ (a b : List Given). a ++ b) (mods-moved None m.mods) (params-moved 0 m.params)
  member-moved (member.Sig s) = ap₂ (λ (a b : List Given). a ++ b) (mods-moved None s.mods) (params-moved 0 s.params)
  member-moved (member.Ctor c) = ap₂ (λ (a b : List Given). a ++ b) (mods-moved None c.mods) (params-moved 0 c.params)
  member-moved (member.Main m) = mods-moved None m.mods

  -- ---- modifiers and types

  static_word-moved : (m : Mod) → is_static_word (moved_mod place m) ≡ is_static_word m
  static_word-moved (modifier.Word modword.Static at) = refl
  static_word-moved _ = refl

  final_word-moved : (m : Mod) → is_final_word (moved_mod place m) ≡ is_final_word m
  final_word-moved (modifier.Word modword.Final at) = refl
  final_word-moved _ = refl

  module _ (test : Mod → Bool) (same : (m : Mod) → test (moved_mod place m) ≡ test m) where
    pub any-moved : (ms : List Mod) → list_any test (moved_mods place ms) ≡ list_any test ms
    any-moved [] = refl
    any-moved (m ∷ ms) = ap₂ (λ (a b : Bool). a || b) (same m) (any-moved ms)

  pub static-moved : (ms : List Mod) → is_static (moved_mods place ms) ≡ is_static ms
  static-moved ms = any-moved is_static_word static_word-moved ms

  pub final-moved : (ms : List Mod) → is_final (moved_mods place ms) ≡ is_final ms
  final-moved ms = any-moved is_final_word final_word-moved ms

  pub face_ty-moved : (t : Ty) → face_ty (moved_ty place t) ≡ face_ty t
  face_ty-moved (ty.Int at) = refl
  face_ty-moved (ty.Boolean at) = refl
  face_ty-moved (ty.Named w) = refl

  -- ---- sites

  sort-moved : (t : Ty) → sort_of (moved_ty place t) ≡ sort_of t
  sort-moved (ty.Int at) = refl
  sort-moved (ty.Boolean at) = refl
  sort-moved (ty.Named w) = refl

  member_site-moved : (m : MemberTree) → member_site (moved_member place m) ≡ member_site m
  member_site-moved (member.Field f) = ap (λ (s : TypeSort). made site.Field s false) (sort-moved f.ty)
  member_site-moved (member.Method m) = ap (λ (b : Bool). made site.Method sort.Nothing (not b)) (static-moved m.mods)
  member_site-moved (member.Sig s) = refl
  member_site-moved (member.Ctor c) = refl
  member_site-moved (member.Main m) = refl

  params_of-moved : (m : MemberTree) → params_of (moved_member place m) ≡ map (moved_param place) (params_of m)
  params_of-moved (member.Field f) = refl
  params_of-moved (member.Method m) = refl
  params_of-moved (member.Sig s) = refl
  params_of-moved (member.Ctor c) = refl
  params_of-moved (member.Main m) = refl

  param_sort-moved : (p : Option Param) → param_sort (option_map (moved_param place) p) ≡ param_sort p
  param_sort-moved None = refl
  param_sort-moved (Some p) = sort-moved p.ty

  name_in-moved : (p : Option Param) → name_in (option_map (moved_param place) p) ≡ name_in p
  name_in-moved None = refl
  name_in-moved (Some p) = refl

  param-moved : (m : MemberTree) (i : ℕ) → slice_get (params_of (moved_member place m)) i ≡ option_map (moved_param place) (slice_get (params_of m) i)
  param-moved m i = ap (λ (ps : List Param). slice_get ps i) (params_of-moved m) ∙ slice_get-map (moved_param place) (params_of m) i

  pub site-moved : (m : MemberTree) (param : Option ℕ) → site_of (moved_member place m) param ≡ site_of m param
  site-moved m None = member_site-moved m
  site-moved m (Some i) =
      ap₂ (λ (s : TypeSort) (x : Site). made site.Param s x.has_this)
      (ap param_sort (param-moved m i) ∙ param_sort-moved (slice_get (params_of m) i)) (member_site-moved m)

  pub param_name-moved : (m : MemberTree) (param : Option ℕ) → param_name (moved_member place m) param ≡ param_name m param
  param_name-moved m None = refl
  param_name-moved m (Some i) = ap name_in (param-moved m i) ∙ name_in-moved (slice_get (params_of m) i)

-- ---- one tree each

tree-one : (k : PromiseKind) (content : Option (List ℕ)) (t u : Option PromiseTree) → IsTree k content t → IsTree k content u → t ≡ u
tree-one k None t u a b = a ∙ sym b
tree-one k (Some content) None None a b = refl
tree-one k (Some content) None (Some u) a b = absurd (a u b.0)
tree-one k (Some content) (Some t) None a b = absurd (b t a.0)
tree-one k (Some content) (Some t) (Some u) a b = ap Some (b.1 t a.0)

abbrev mark_with : Option ℕ → PromiseKind → Option PromiseTree → Mark
mark_with param k tree = record { param = param; kind = k; tree = tree }

mark-one : (g : Given) (m n : Mark) → IsMark g m → IsMark g n → m ≡ n
mark-one g m n a b =
    ap (λ (p : Option ℕ). mark_with p m.kind m.tree) (a.param ∙ sym b.param)
    ∙ ap (λ (k : PromiseKind). mark_with n.param k m.tree) (a.kind ∙ sym b.kind)
    ∙ ap (mark_with n.param n.kind) (tree-one g.kind g.content m.tree n.tree a.tree b.tree)

pub marks-one : (gs : List Given) (ms ns : List Mark) → AreMarks gs ms → AreMarks gs ns → ms ≡ ns
marks-one [] [] [] a b = refl
marks-one [] [] (n ∷ ns) a b = absurd b
marks-one [] (m ∷ ms) ns a b = absurd a
marks-one (g ∷ gs) [] ns a b = absurd a
marks-one (g ∷ gs) (m ∷ ms) [] a b = absurd b
marks-one (g ∷ gs) (m ∷ ms) (n ∷ ns) a b = ap₂ (λ (x : Mark) (xs : List Mark). x ∷ xs) (mark-one g m n a.0 b.0) (marks-one gs ms ns a.1 b.1)
