-- Whole files whose spans are put elsewhere, and nothing else.
use Rattle.std.specs.Prelude.{map}
use Rattle.std.specs.Option.{option_map}
use Rattle.desk_base.specs.declared.span.Span.{Span}
use Rattle.java_tree.specs.declared.file.Package.{Package}
use Rattle.java_tree.specs.declared.file.Import.{Import}
use Rattle.java_tree.specs.declared.file.ClassTree.{ClassTree}
use Rattle.java_tree.specs.declared.file.FileTree.{FileTree}
use Rattle.tree_places.specs.Moved.{moved_lexeme, moved_lexemes, moved_tokens}
use Rattle.tree_places.specs.MovedMember.{moved_mods, moved_member}

abbrev pub moved_package : (Span → Span) → Package → Package
moved_package place p = record { name = moved_lexemes place p.name }

abbrev pub moved_import : (Span → Span) → Import → Import
moved_import place i = record { static_word = option_map place i.static_word; name = moved_lexemes place i.name; star = option_map place i.star }

abbrev pub moved_class : (Span → Span) → ClassTree → ClassTree
moved_class place c = record {
  mods = moved_mods place c.mods;
  kind = c.kind;
  name = moved_lexeme place c.name;
  implements = moved_lexemes place c.implements;
  members = map (moved_member place) c.members;
  tokens = moved_tokens place c.tokens;
}

abbrev pub moved_file : (Span → Span) → FileTree → FileTree
moved_file place f = record {
  «package» = option_map (moved_package place) f.«package»;
  imports = map (moved_import place) f.imports;
  types = map (moved_class place) f.types;
}
