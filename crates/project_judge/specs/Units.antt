-- The units of a project, where they are written.
use Rattle.std.specs.Prelude.{ℕ, ◌+◌, List, [], ◌∷◌, ◌++◌, Option, Some, None}
use Rattle.std.specs.List.{flat_map}
use Rattle.java_tree.specs.declared.file.ClassTree.{ClassTree}
use Rattle.java_tree.specs.declared.member.MemberTree.{MemberTree}
use Rattle.java_tree.specs.declared.member.MemberTree.TheVariants as member
use Rattle.java_tree.specs.declared.token.Token.{Token}
use Rattle.class_faces.specs.Keys.{member_keys, text_of}
use Rattle.project_files.specs.Trees.{TreeFile}

-- a unit of a class, the header where it has no member, in a file of this number and text
pub record UnitAt : Type 0 where
  pub file : ℕ
  pub text : List ℕ
  pub class : ClassTree
  pub member : Option MemberTree
  pub key : List ℕ

abbrev pub unit_at : ℕ → List ℕ → ClassTree → Option MemberTree → List ℕ → UnitAt
unit_at file text class m key = record { file = file; text = text; class = class; member = m; key = key }

-- ---- of a class

-- a member, where it has a key
abbrev pub unit_if : ℕ → List ℕ → ClassTree → MemberTree → Option (List ℕ) → List UnitAt
unit_if file text class m None = []
unit_if file text class m (Some key) = unit_at file text class (Some m) key ∷ []

-- the members, each with its key
abbrev pub member_units : ℕ → List ℕ → ClassTree → (keys : List (List ℕ)) → List MemberTree → List UnitAt
member_units file text class keys [] = []
member_units file text class [] (m ∷ ms) = []
member_units file text class (k ∷ ks) (m ∷ ms) = unit_at file text class (Some m) k ∷ member_units file text class ks ms

-- the header, then the members in written order
abbrev pub class_units : ℕ → List ℕ → ClassTree → List UnitAt
class_units file text class =
    unit_at file text class None (text_of class.name.text) ∷ member_units file text class (member_keys class) class.members

-- ---- of a project

abbrev pub units_in : ℕ → List ℕ → List ClassTree → List UnitAt
units_in file text classes = flat_map (class_units file text) classes

-- of files that are numbered from this number on
abbrev pub units_from : ℕ → List TreeFile → List UnitAt
units_from file [] = []
units_from file (f ∷ fs) = units_in file f.text f.tree.types ++ units_from (file + 1) fs

-- all units of all types of files, as they are written
abbrev pub all_units : List TreeFile → List UnitAt
all_units trees = units_from 0 trees

-- ---- the tokens of a unit

abbrev pub member_tokens : MemberTree → List Token
member_tokens (member.Field f) = f.tokens
member_tokens (member.Method m) = m.tokens
member_tokens (member.Sig s) = s.tokens
member_tokens (member.Ctor c) = c.tokens
member_tokens (member.Main m) = m.tokens

abbrev pub unit_tokens : ClassTree → Option MemberTree → List Token
unit_tokens class None = class.tokens
unit_tokens class (Some m) = member_tokens m
