-- Members and headers keep the tokens that spell them.
use Rattle.std.proofs.Common.{◌≡◌, ℕ, List, [], ◌∷◌, ◌++◌, refl}
use Rattle.java_tree.specs.declared.kind.Kind.TheVariants as k
use Rattle.java_tree.specs.declared.token.Token.{Token}
use Rattle.java_tree.specs.declared.member.MemberTree.{MemberTree}
use Rattle.java_tree.specs.declared.member.MemberTree.TheVariants as member
use Rattle.java_tree.specs.declared.file.TypeKind.{TypeKind}
use Rattle.java_tree.specs.declared.file.TypeKind.TheVariants as sort
use Rattle.java_phrases.specs.Phrase.{Phrase, Mark}
use Rattle.java_heads.specs.declared.header.Header.{Header}
use Rattle.java_heads.specs.Laws.{OneTree}
use Rattle.java_heads.specs.Spelling.{Kept, HeaderParts, HeaderSpells}
use Rattle.java_members.specs.Spelling.{tokens_of}
use Rattle.java_reader.specs.Spelling.{TypeMember}
use Rattle.java_reader.proofs.Unique.{one-inner}
use Rattle.tree_places.specs.MovedMember.{moved_member, moved_header}
use Rattle.tree_places.proofs.MovedMember.{moves-header_kept}
use Rattle.tree_places.proofs.MovedFile.{moves-type_member}
use Rattle.tree_places.proofs.Kept.{Keeps}

-- whatever stands behind
abbrev pub Anything : List Token → Type 0
Anything rest = Unit {0}

kept_tokens : (kind : TypeKind) (name : List ℕ) (m : MemberTree) (ts rest : List Token) → TypeMember kind name m ts rest → ts ≡ tokens_of m ++ rest
kept_tokens sort.Class name m ts rest s = s.1
kept_tokens sort.Interface name (member.Sig m) ts rest s = s.1
kept_tokens sort.Interface name (member.Field m) ts rest s = absurd s
kept_tokens sort.Interface name (member.Method m) ts rest s = absurd s
kept_tokens sort.Interface name (member.Ctor m) ts rest s = absurd s
kept_tokens sort.Interface name (member.Main m) ts rest s = absurd s

pub members_keep : (kind : TypeKind) (name : List ℕ) → Keeps (TypeMember kind name) tokens_of moved_member Anything
members_keep kind name = record {
  moves = λ place m. moves-type_member place kind name m;
  keeps = kept_tokens kind name;
  once = λ m n ts rest behind s t. (one-inner kind name m n ts rest rest s t).0;
  end = [];
  ends = tt;
}

-- a header without the brace behind it
abbrev pub HeaderAlone : Header → Phrase
HeaderAlone h = Kept h.tokens (HeaderParts h)

abbrev pub Braced : List Token → Type 0
Braced rest = (left : List Token) × Mark k.LBrace rest left

abbrev pub header_tokens : Header → List Token
header_tokens h = h.tokens

brace : Token
brace = record { kind = k.LBrace; bytes = []; span = record { start = 0; end = 0 } }

braced : Braced (brace ∷ [])
unfolding brace
braced = ([], (brace, refl, refl))

pub headers_keep : OneTree HeaderSpells → Keeps HeaderAlone header_tokens moved_header Braced
headers_keep one = record {
  moves = moves-header_kept;
  keeps = λ h ts rest s. s.1;
  once = λ g h ts rest behind s t. (one g h ts behind.0 behind.0 (rest, s, behind.1) (rest, t, behind.1)).0;
  end = brace ∷ [];
  ends = braced;
}
