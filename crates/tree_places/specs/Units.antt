-- The headers and members of the types of a text.
use Rattle.std.specs.Prelude.{◌≡◌, ℕ, List}
use Rattle.std.specs.List.{Contains}
use Rattle.java_tree.specs.declared.member.MemberTree.{MemberTree}
use Rattle.java_tree.specs.declared.file.TypeKind.{TypeKind}
use Rattle.java_tree.specs.declared.file.ClassTree.{ClassTree}
use Rattle.java_tree.specs.declared.file.FileTree.{FileTree}
use Rattle.java_heads.specs.declared.header.Header.{Header}
use Rattle.java_reader.specs.Spelling.{header_of}
use Rattle.java_reader.specs.Reads.{Reads}

-- the text is read, and one of its types has this header
pub record HasHeader (text : List ℕ) (header : Header) : Type 0 where
  pub file : FileTree
  pub reads : Reads text file
  pub type : ClassTree
  pub is_type : Contains file.types type
  pub is_header : header_of type ≡ header

-- the text is read, and a type of this sort and name in it has the member
pub record HasMember (text : List ℕ) (kind : TypeKind) (name : List ℕ) (member : MemberTree) : Type 0 where
  pub file : FileTree
  pub reads : Reads text file
  pub type : ClassTree
  pub is_type : Contains file.types type
  pub is_kind : type.kind ≡ kind
  pub is_name : type.name.text ≡ name
  pub is_member : Contains type.members member
