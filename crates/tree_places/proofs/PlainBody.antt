-- The body of a numbered member as plain data.
use Rattle.std.proofs.Common.{◌≡◌, Some, refl, ap}
use Rattle.java_tree.specs.declared.member.MemberTree.{MemberTree}
use Rattle.java_tree.specs.declared.member.MemberTree.TheVariants as member
use Rattle.java_members.specs.Spelling.{tokens_of}
use Rattle.tree_places.specs.Numbers.{number_of, span_number, numbered_span, numbered_member}
use Rattle.tree_places.specs.Plain.{plain_body}
use Rattle.tree_places.proofs.PlainStmt.{plain-moved_block}

pub plain_body-numbered : (m : MemberTree) → plain_body span_number (numbered_member m) ≡ plain_body (number_of (tokens_of m)) m
plain_body-numbered (member.Field f) = refl
plain_body-numbered (member.Sig s) = refl
plain_body-numbered (member.Method m) = ap Some (plain-moved_block (numbered_span m.tokens) span_number m.body)
plain_body-numbered (member.Ctor m) = ap Some (plain-moved_block (numbered_span m.tokens) span_number m.body)
plain_body-numbered (member.Main m) = ap Some (plain-moved_block (numbered_span m.tokens) span_number m.body)
