-- Trees without their places.
use Rattle.desk_base.specs.declared.span.Span.{Span}
use Rattle.java_tree.specs.declared.member.MemberTree.{MemberTree}
use Rattle.java_tree.specs.declared.file.FileTree.{FileTree}
use Rattle.java_heads.specs.declared.header.Header.{Header}
use Rattle.tree_places.specs.MovedMember.{moved_member, moved_header}
use Rattle.tree_places.specs.MovedFile.{moved_file}

-- one place for all
abbrev pub nowhere : Span → Span
nowhere at = record { start = 0; end = 0 }

abbrev pub bare_member : MemberTree → MemberTree
bare_member = moved_member nowhere

abbrev pub bare_header : Header → Header
bare_header = moved_header nowhere

abbrev pub bare_file : FileTree → FileTree
bare_file = moved_file nowhere
