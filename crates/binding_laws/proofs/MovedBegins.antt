-- Where the promise annotations of a unit that is moved begin, and what they are.
use Rattle.std.proofs.Common.{◌≡◌, refl, ℕ, ◌==◌, if◌then◌else◌, List, [], ◌∷◌, ◌++◌, map, Option, Some, None, ap, ap₂, ◌∙◌}
use Rattle.std.specs.List.{flat_map}
use Rattle.std.specs.Option.{option_map}
use Rattle.std.specs.Str.{bytes_eq}
use Rattle.desk_base.specs.declared.span.Span.{Span}
use Rattle.java_tree.specs.declared.member.Annot.{Annot}
use Rattle.java_tree.specs.declared.member.AnnotLayer.{AnnotLayer}
use Rattle.java_tree.specs.declared.member.InnerAnnot.{InnerAnnot}
use Rattle.java_tree.specs.declared.member.Mod.{Mod}
use Rattle.java_tree.specs.declared.member.Mod.TheVariants as modifier
use Rattle.java_tree.specs.declared.member.Param.{Param}
use Rattle.java_tree.specs.declared.member.MemberTree.{MemberTree}
use Rattle.java_tree.specs.declared.member.MemberTree.TheVariants as member
use Rattle.class_faces.specs.Keys.{text_of}
use Rattle.tree_places.specs.MovedAnnot.{moved_annot_layer, moved_inner, moved_annot}
use Rattle.tree_places.specs.MovedMember.{moved_mod, moved_mods, moved_params, moved_member}
use Rattle.promise_grammar.specs.declared.kind.PromiseKind.{PromiseKind}
use Rattle.promise_grammar.specs.Kind.{kind_named, kind_text}
use Rattle.promise_marks.specs.declared.mark.Mark.{Mark}
use Rattle.promise_marks.specs.Given.{name_of, held_by}
use Rattle.scrub_rules.specs.declared.place.Site.{Site}
use Rattle.scrub_rules.specs.Offers.{param_name}
use Rattle.unit_rules.specs.Annotations.{begins, held_begins, inner_begins, container_begins, kind_begins, mod_begins, mods_begin, param_begins, with_params, member_begins}
use Rattle.unit_rules.specs.Given.{Written, allowed, each_at, member_annotation}
use Rattle.binding_laws.proofs.MovedMarks.{name-moved, site-moved, param_name-moved}

module _ (place : Span → Span) (number : Span → ℕ) where
  abbrev far : Span → ℕ
  far at = number (place at)

  held-moved : (k : PromiseKind) (a : AnnotLayer) → held_begins number k (moved_annot_layer place a) ≡ held_begins far k a
  held-moved k a = ap (λ (name : List ℕ). if bytes_eq name (kind_text k) then begins far a else []) (name-moved place a.name)

  inner-moved : (k : PromiseKind) (i : InnerAnnot) → inner_begins number k (moved_inner place i) ≡ inner_begins far k i
  inner-moved k i = ap (λ (l : List ℕ). if i.depth == 1 then l else []) (held-moved k i.layer)

  inners-moved : (k : PromiseKind) (list : List InnerAnnot) → flat_map (inner_begins number k) (map (moved_inner place) list) ≡ flat_map (inner_begins far k) list
  inners-moved k [] = refl
  inners-moved k (i ∷ list) = ap₂ (λ (a b : List ℕ). a ++ b) (inner-moved k i) (inners-moved k list)

  container-moved : (k : Option PromiseKind) (list : List InnerAnnot) → container_begins number k (map (moved_inner place) list) ≡ container_begins far k list
  container-moved None list = refl
  container-moved (Some k) list = inners-moved k list

  kind-moved : (k : Option PromiseKind) (a : Annot) → kind_begins number k (moved_annot place a) ≡ kind_begins far k a
  kind-moved (Some k) a = refl
  kind-moved None a =
      ap (λ (name : List ℕ). container_begins number (held_by name) (map (moved_inner place) a.inner)) (name-moved place a.layer.name)
      ∙ container-moved (held_by (name_of a.layer)) a.inner

  mod-moved : (m : Mod) → mod_begins number (moved_mod place m) ≡ mod_begins far m
  mod-moved (modifier.Annot a) =
      ap (λ (name : List ℕ). kind_begins number (kind_named name) (moved_annot place a)) (name-moved place a.layer.name)
      ∙ kind-moved (kind_named (name_of a.layer)) a
  mod-moved (modifier.Word word at) = refl

  pub mods_begin-moved : (ms : List Mod) → mods_begin number (moved_mods place ms) ≡ mods_begin far ms
  mods_begin-moved [] = refl
  mods_begin-moved (m ∷ ms) = ap₂ (λ (a b : List ℕ). a ++ b) (mod-moved m) (mods_begin-moved ms)

  params-moved : (ps : List Param) → flat_map (param_begins number) (moved_params place ps) ≡ flat_map (param_begins far) ps
  params-moved [] = refl
  params-moved (p ∷ ps) = ap₂ (λ (a b : List ℕ). a ++ b) (mods_begin-moved p.mods) (params-moved ps)

  with-moved : (ms : List Mod) (ps : List Param) → with_params number (moved_mods place ms) (moved_params place ps) ≡ with_params far ms ps
  with-moved ms ps = ap₂ (λ (a b : List ℕ). a ++ b) (mods_begin-moved ms) (params-moved ps)

  pub member_begins-moved : (m : MemberTree) → member_begins number (moved_member place m) ≡ member_begins far m
  member_begins-moved (member.Field f) = mods_begin-moved f.mods
  member_begins-moved (member.Method m) = with-moved m.mods m.params
  member_begins-moved (member.Sig s) = with-moved s.mods s.params
  member_begins-moved (member.Ctor c) = with-moved c.mods c.params
  member_begins-moved (member.Main m) = mods_begin-moved m.mods

-- ---- annotations

each-same : (f g : Mark → ℕ → Written) → ((m : Mark) (at : ℕ) → f m at ≡ g m at) → (ms : List Mark) (ps : List ℕ) → each_at f ms ps ≡ each_at g ms ps
each-same f g same [] ps = refl
each-same f g same (m ∷ ms) [] = refl
each-same f g same (m ∷ ms) (at ∷ ps) = ap₂ (λ (w : Written) (ws : List Written). w ∷ ws) (same m at) (each-same f g same ms ps)

module _ (place : Span → Span) (m : MemberTree) where
  abbrev written_by : Mark → ℕ → Site → Option (List ℕ) → Written
  written_by mark at site param = record { content = allowed site mark.tree; param = param; at = at }

  by-param : (q : Option ℕ) → option_map (λ (i : ℕ). text_of (param_name (moved_member place m) (Some i))) q ≡ option_map (λ (i : ℕ). text_of (param_name m (Some i))) q
  by-param None = refl
  by-param (Some i) = ap (λ (name : List ℕ). Some (text_of name)) (param_name-moved place m (Some i))

  annotation-moved : (mark : Mark) (at : ℕ) → member_annotation (moved_member place m) mark at ≡ member_annotation m mark at
  annotation-moved mark at = ap₂ (written_by mark at) (site-moved place m mark.param) (by-param mark.param)

  pub each-moved : (ms : List Mark) (ps : List ℕ) → each_at (member_annotation (moved_member place m)) ms ps ≡ each_at (member_annotation m) ms ps
  each-moved ms ps = each-same (member_annotation (moved_member place m)) (member_annotation m) annotation-moved ms ps
