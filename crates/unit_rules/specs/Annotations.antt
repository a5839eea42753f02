-- Where the promise annotations of a unit begin: the number of the `@` of each, in the order in which they
-- are numbered, the unit's own first, then those of its parameters.
use Rattle.std.specs.Prelude.{ℕ, suc, ◌==◌, List, [], ◌∷◌, ◌++◌, Option, Some, None, if◌then◌else◌}
use Rattle.std.specs.List.{flat_map}
use Rattle.std.specs.Str.{bytes_eq}
use Rattle.desk_base.specs.declared.span.Span.{Span}
use Rattle.java_tree.specs.declared.file.ClassTree.{ClassTree}
use Rattle.java_tree.specs.declared.member.Annot.{Annot}
use Rattle.java_tree.specs.declared.member.AnnotLayer.{AnnotLayer}
use Rattle.java_tree.specs.declared.member.InnerAnnot.{InnerAnnot}
use Rattle.java_tree.specs.declared.member.Mod.{Mod}
use Rattle.java_tree.specs.declared.member.Mod.TheVariants as modifier
use Rattle.java_tree.specs.declared.member.Param.{Param}
use Rattle.java_tree.specs.declared.member.MemberTree.{MemberTree}
use Rattle.java_tree.specs.declared.member.MemberTree.TheVariants as member
use Rattle.promise_grammar.specs.declared.kind.PromiseKind.{PromiseKind}
use Rattle.promise_grammar.specs.Kind.{kind_named, kind_text}
use Rattle.promise_marks.specs.Given.{name_of, held_by}

-- the number of its `@`, from 1
abbrev pub begins : (Span → ℕ) → AnnotLayer → List ℕ
begins number a = suc (number a.at) ∷ []

-- one in a container counts where it is of the container's kind and stands in no other one there
abbrev pub held_begins : (Span → ℕ) → PromiseKind → AnnotLayer → List ℕ
held_begins number k a = if bytes_eq (name_of a) (kind_text k) then begins number a else []

abbrev pub inner_begins : (Span → ℕ) → PromiseKind → InnerAnnot → List ℕ
inner_begins number k inner = if inner.depth == 1 then held_begins number k inner.layer else []

abbrev pub container_begins : (Span → ℕ) → Option PromiseKind → List InnerAnnot → List ℕ
container_begins number None inner = []
container_begins number (Some k) inner = flat_map (inner_begins number k) inner

abbrev pub kind_begins : (Span → ℕ) → Option PromiseKind → Annot → List ℕ
kind_begins number (Some k) a = begins number a.layer
kind_begins number None a = container_begins number (held_by (name_of a.layer)) a.inner

abbrev pub mod_begins : (Span → ℕ) → Mod → List ℕ
mod_begins number (modifier.Annot a) = kind_begins number (kind_named (name_of a.layer)) a
mod_begins number (modifier.Word word at) = []

abbrev pub mods_begin : (Span → ℕ) → List Mod → List ℕ
mods_begin number mods = flat_map (mod_begins number) mods

abbrev pub param_begins : (Span → ℕ) → Param → List ℕ
param_begins number p = mods_begin number p.mods

abbrev pub with_params : (Span → ℕ) → List Mod → List Param → List ℕ
with_params number mods params = mods_begin number mods ++ flat_map (param_begins number) params

abbrev pub header_begins : (Span → ℕ) → ClassTree → List ℕ
header_begins number class = mods_begin number class.mods

abbrev pub member_begins : (Span → ℕ) → MemberTree → List ℕ
member_begins number (member.Field f) = mods_begin number f.mods
member_begins number (member.Method m) = with_params number m.mods m.params
member_begins number (member.Sig s) = with_params number s.mods s.params
member_begins number (member.Ctor c) = with_params number c.mods c.params
member_begins number (member.Main m) = mods_begin number m.mods
