-- What is proved of bound units, each as one statement.
use Rattle.std.specs.Prelude.{◌≡◌, ℕ, List, Option, Some, None, Contains, codes}
use Rattle.java_tree.specs.declared.file.ClassTree.{ClassTree}
use Rattle.java_tree.specs.declared.file.FileTree.{FileTree}
use Rattle.java_tree.specs.declared.member.MemberTree.{MemberTree}
use Rattle.java_heads.specs.Spelling.{IsFreeName}
use Rattle.java_members.specs.Spelling.{tokens_of}
use Rattle.java_reader.specs.Alike.{Alike}
use Rattle.java_reader.specs.Reads.{Reads}
use Rattle.promise_scrub.specs.declared.surface.Surface.{Surface}
use Rattle.views.specs.Face.{Seen, surface_named}
use Rattle.bound_unit.specs.UnitFacts.{UnitFacts}
use Rattle.bound_unit.specs.Asked.{Agree, Covers}
use Rattle.binder.specs.Units.{IsBound}

-- ---- what is there without a declaration

-- no class or interface of the project has the name String
abbrev pub DeclaresNoString : Seen → Type 0
DeclaresNoString seen = surface_named seen.surfaces (codes "String") ≡ None

abbrev pub DeclaresNoObject : Seen → Type 0
DeclaresNoObject seen = surface_named seen.surfaces (codes "Object") ≡ None

-- that is so where the types of all surfaces have free names, as those of the texts that are read have
abbrev pub ReadNamesAreFree : Type 0
ReadNamesAreFree = (text : List ℕ) (file : FileTree) (class : ClassTree) → Reads text file → Contains file.types class → IsFreeName class.name.text

abbrev pub FreeNamesDeclareNone : Type 0
FreeNamesDeclareNone = (seen : Seen) → ((s : Surface) → Contains seen.surfaces s → IsFreeName s.name) → DeclaresNoString seen × DeclaresNoObject seen

-- ---- the consulted names

-- BindingCovers: the consulted names of a bound unit cover what may be asked of it under the view that it was
-- bound under.
abbrev pub BindingCovers : Type 0
BindingCovers = (class : ClassTree) (m : Option MemberTree) (key : List ℕ) (seen : Seen) (u : UnitFacts)
    → DeclaresNoString seen → IsBound class m key seen u → Covers u seen

-- ---- one unit

abbrev pub IsMemberOf : ClassTree → Option MemberTree → Type 0
IsMemberOf class None = Unit {0}
IsMemberOf class (Some m) = Contains class.members m

-- the text is read, the class is one of its types, and has the member if it isn't the header
pub record HasUnit (text : List ℕ) (class : ClassTree) (m : Option MemberTree) : Type 0 where
  pub file : FileTree
  pub reads : Reads text file
  pub is_type : Contains file.types class
  pub is_member : IsMemberOf class m

-- headers, or members, of equal tokens, wherever these stand
abbrev pub AlikeUnits : ClassTree → Option MemberTree → ClassTree → Option MemberTree → Type 0
AlikeUnits c None d None = Alike c.tokens d.tokens
AlikeUnits c (Some m) d (Some n) = Alike (tokens_of m) (tokens_of n)
AlikeUnits c None d (Some n) = ⊥
AlikeUnits c (Some m) d None = ⊥

-- units of types of one sort and name, of texts that are read, with equal tokens
pub record IsOneUnit (first second : List ℕ) (c : ClassTree) (m : Option MemberTree) (d : ClassTree) (n : Option MemberTree) : Type 0 where
  pub has : HasUnit first c m
  pub holds : HasUnit second d n
  pub kind : c.kind ≡ d.kind
  pub name : c.name.text ≡ d.name.text
  pub alike : AlikeUnits c m d n

-- The law of binding: under one key they are bound to one unit, under two views that agree on the names that
-- one of them consults.
abbrev pub OneBinding : Type 0
OneBinding = (first second : List ℕ) (c : ClassTree) (m : Option MemberTree) (d : ClassTree) (n : Option MemberTree) (key : List ℕ) (v w : Seen) (u x : UnitFacts)
    → IsOneUnit first second c m d n → DeclaresNoString v → DeclaresNoObject v → DeclaresNoString w → DeclaresNoObject w
    → IsBound c m key v u → IsBound d n key w x → Agree u.consulted v w → u ≡ x
