-- Classes that others see alike. They may differ in places in the file, in words such as `synchronized`
-- and `public`, in annotations that are no promises, in what is thrown, in the initializers of fields
-- but for what they do to the forms of these, and in the code of bodies but for which of their own
-- member's parameters it assigns to.
use Rattle.std.specs.Prelude.{◌≡◌, ℕ, List, [], ◌∷◌, Option}
use Rattle.std.specs.Option.{option_map}
use Rattle.java_tree.specs.declared.file.ClassTree.{ClassTree}
use Rattle.java_tree.specs.declared.member.Mod.{Mod}
use Rattle.java_tree.specs.declared.member.Param.{Param}
use Rattle.java_tree.specs.declared.member.Field.{Field}
use Rattle.java_tree.specs.declared.member.Method.{Method}
use Rattle.java_tree.specs.declared.member.Sig.{Sig}
use Rattle.java_tree.specs.declared.member.Ctor.{Ctor}
use Rattle.java_tree.specs.declared.member.Main.{Main}
use Rattle.java_tree.specs.declared.member.MemberTree.{MemberTree}
use Rattle.java_tree.specs.declared.member.MemberTree.TheVariants as member
use Rattle.class_faces.specs.Assigned.{Names, is_among, block_names}
use Rattle.class_faces.specs.Faces.{face_ty, field_face, is_static}
use Rattle.promise_marks.specs.Given.{by_mods}
use Rattle.promise_scrub.specs.Surfaces.{names_of}

-- the same promise annotations with the same contents
abbrev pub SamePromises : List Mod → List Mod → Type 0
SamePromises ms ns = (at : Option ℕ) → by_mods at ms ≡ by_mods at ns

-- parameters of members whose bodies assign to these names
pub record AlikeParam (xs ys : Names) (p q : Param) : Type 0 where
  pub name : p.name.text ≡ q.name.text
  pub ty : face_ty p.ty ≡ face_ty q.ty
  pub assigned : is_among p.name.text xs ≡ is_among q.name.text ys
  pub promises : SamePromises p.mods q.mods

abbrev pub AlikeParams : Names → Names → List Param → List Param → Type 0
AlikeParams xs ys [] [] = Unit {0}
AlikeParams xs ys (p ∷ ps) (q ∷ qs) = AlikeParam xs ys p q × AlikeParams xs ys ps qs
AlikeParams xs ys _ _ = ⊥

-- fields of one form
pub record AlikeField (f g : Field) : Type 0 where
  pub face : field_face f ≡ field_face g
  pub promises : SamePromises f.mods g.mods

pub record AlikeMethod (m n : Method) : Type 0 where
  pub name : m.name.text ≡ n.name.text
  pub result : option_map face_ty m.result ≡ option_map face_ty n.result
  pub static_word : is_static m.mods ≡ is_static n.mods
  pub params : AlikeParams (block_names m.body) (block_names n.body) m.params n.params
  pub promises : SamePromises m.mods n.mods

pub record AlikeSig (s t : Sig) : Type 0 where
  pub name : s.name.text ≡ t.name.text
  pub result : option_map face_ty s.result ≡ option_map face_ty t.result
  pub static_word : is_static s.mods ≡ is_static t.mods
  pub params : AlikeParams [] [] s.params t.params
  pub promises : SamePromises s.mods t.mods

pub record AlikeCtor (c d : Ctor) : Type 0 where
  pub params : AlikeParams (block_names c.body) (block_names d.body) c.params d.params
  pub promises : SamePromises c.mods d.mods

pub record AlikeMain (m n : Main) : Type 0 where
  pub param : m.param.text ≡ n.param.text
  pub promises : SamePromises m.mods n.mods

abbrev pub AlikeMember : MemberTree → MemberTree → Type 0
AlikeMember (member.Field f) (member.Field g) = AlikeField f g
AlikeMember (member.Method m) (member.Method n) = AlikeMethod m n
AlikeMember (member.Sig s) (member.Sig t) = AlikeSig s t
AlikeMember (member.Ctor c) (member.Ctor d) = AlikeCtor c d
AlikeMember (member.Main m) (member.Main n) = AlikeMain m n
AlikeMember _ _ = ⊥

abbrev pub AllAlike : List MemberTree → List MemberTree → Type 0
AllAlike [] [] = Unit {0}
AllAlike (m ∷ ms) (n ∷ ns) = AlikeMember m n × AllAlike ms ns
AllAlike _ _ = ⊥

pub record Alike (a b : ClassTree) : Type 0 where
  pub kind : a.kind ≡ b.kind
  pub name : a.name.text ≡ b.name.text
  pub implements : names_of a.implements ≡ names_of b.implements
  pub promises : SamePromises a.mods b.mods
  pub members : AllAlike a.members b.members
