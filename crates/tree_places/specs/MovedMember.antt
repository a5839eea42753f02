-- Modifiers, members and headers whose spans are put elsewhere, and nothing else.
use Rattle.std.specs.Prelude.{List, map}
use Rattle.std.specs.Option.{option_map}
use Rattle.desk_base.specs.declared.span.Span.{Span}
use Rattle.java_tree.specs.declared.token.Lexeme.{Lexeme}
use Rattle.java_tree.specs.declared.member.Mod.{Mod}
use Rattle.java_tree.specs.declared.member.Mod.TheVariants as modifier
use Rattle.java_tree.specs.declared.member.Param.{Param}
use Rattle.java_tree.specs.declared.member.Init.{Init}
use Rattle.java_tree.specs.declared.member.Init.TheVariants as init
use Rattle.java_tree.specs.declared.member.Field.{Field}
use Rattle.java_tree.specs.declared.member.Method.{Method}
use Rattle.java_tree.specs.declared.member.Sig.{Sig}
use Rattle.java_tree.specs.declared.member.Ctor.{Ctor}
use Rattle.java_tree.specs.declared.member.Main.{Main}
use Rattle.java_tree.specs.declared.member.MemberTree.{MemberTree}
use Rattle.java_tree.specs.declared.member.MemberTree.TheVariants as member
use Rattle.java_heads.specs.declared.header.Header.{Header}
use Rattle.tree_places.specs.Moved.{moved_lexeme, moved_lexemes, moved_tokens, moved_ty}
use Rattle.tree_places.specs.MovedStmt.{moved_block}
use Rattle.tree_places.specs.MovedAnnot.{moved_annot}

-- ---- parts of members

abbrev pub moved_mod : (Span → Span) → Mod → Mod
moved_mod place (modifier.Annot annot) = modifier.Annot (moved_annot place annot)
moved_mod place (modifier.Word word at) = modifier.Word word (place at)

abbrev pub moved_mods : (Span → Span) → List Mod → List Mod
moved_mods place = map (moved_mod place)

abbrev pub moved_param : (Span → Span) → Param → Param
moved_param place p = record { mods = moved_mods place p.mods; ty = moved_ty place p.ty; name = moved_lexeme place p.name }

abbrev pub moved_params : (Span → Span) → List Param → List Param
moved_params place = map (moved_param place)

abbrev pub moved_throws : (Span → Span) → List (List Lexeme) → List (List Lexeme)
moved_throws place = map (moved_lexemes place)

abbrev pub moved_init : (Span → Span) → Init → Init
moved_init place (init.Int word) = init.Int (moved_lexeme place word)
moved_init place (init.MinusInt at word) = init.MinusInt (place at) (moved_lexeme place word)
moved_init place (init.True at) = init.True (place at)
moved_init place (init.False at) = init.False (place at)
moved_init place (init.Null at) = init.Null (place at)
moved_init place (init.Str word) = init.Str (moved_lexeme place word)
moved_init place (init.NewObject at) = init.NewObject (place at)

-- ---- members

abbrev pub moved_field : (Span → Span) → Field → Field
moved_field place f = record {
  mods = moved_mods place f.mods;
  ty = moved_ty place f.ty;
  name = moved_lexeme place f.name;
  init = option_map (moved_init place) f.init;
  tokens = moved_tokens place f.tokens;
}

abbrev pub moved_method : (Span → Span) → Method → Method
moved_method place m = record {
  mods = moved_mods place m.mods;
  result = option_map (moved_ty place) m.result;
  name = moved_lexeme place m.name;
  params = moved_params place m.params;
  throws = moved_throws place m.throws;
  body = moved_block place m.body;
  tokens = moved_tokens place m.tokens;
}

abbrev pub moved_sig : (Span → Span) → Sig → Sig
moved_sig place m = record {
  mods = moved_mods place m.mods;
  result = option_map (moved_ty place) m.result;
  name = moved_lexeme place m.name;
  params = moved_params place m.params;
  throws = moved_throws place m.throws;
  tokens = moved_tokens place m.tokens;
}

abbrev pub moved_ctor : (Span → Span) → Ctor → Ctor
moved_ctor place c = record {
  mods = moved_mods place c.mods;
  name = moved_lexeme place c.name;
  params = moved_params place c.params;
  throws = moved_throws place c.throws;
  body = moved_block place c.body;
  tokens = moved_tokens place c.tokens;
}

abbrev pub moved_main : (Span → Span) → Main → Main
moved_main place m = record {
  mods = moved_mods place m.mods;
  name = moved_lexeme place m.name;
  final_word = option_map place m.final_word;
  param = moved_lexeme place m.param;
  throws = moved_throws place m.throws;
  body = moved_block place m.body;
  tokens = moved_tokens place m.tokens;
}

abbrev pub moved_member : (Span → Span) → MemberTree → MemberTree
moved_member place (member.Field f) = member.Field (moved_field place f)
moved_member place (member.Method m) = member.Method (moved_method place m)
moved_member place (member.Sig s) = member.Sig (moved_sig place s)
moved_member place (member.Ctor c) = member.Ctor (moved_ctor place c)
moved_member place (member.Main m) = member.Main (moved_main place m)

abbrev pub moved_header : (Span → Span) → Header → Header
moved_header place h = record {
  mods = moved_mods place h.mods;
  kind = h.kind;
  name = moved_lexeme place h.name;
  implements = moved_lexemes place h.implements;
  tokens = moved_tokens place h.tokens;
}
