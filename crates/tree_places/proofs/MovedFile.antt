-- What tokens spell as a file, moved tokens spell as the moved file.
use Rattle.std.proofs.Common.{ℕ, List, Option, Some, None}
use Rattle.std.specs.Option.{option_map}
use Rattle.desk_base.specs.declared.span.Span.{Span}
use Rattle.java_tree.specs.declared.kind.Kind.TheVariants as k
use Rattle.java_tree.specs.declared.member.MemberTree.{MemberTree}
use Rattle.java_tree.specs.declared.member.MemberTree.TheVariants as member
use Rattle.java_tree.specs.declared.file.TypeKind.{TypeKind}
use Rattle.java_tree.specs.declared.file.TypeKind.TheVariants as sort
use Rattle.java_tree.specs.declared.file.Package.{Package}
use Rattle.java_tree.specs.declared.file.Import.{Import}
use Rattle.java_tree.specs.declared.file.ClassTree.{ClassTree}
use Rattle.java_tree.specs.declared.file.FileTree.{FileTree}
use Rattle.java_heads.specs.Spelling.{Star, ImportSpells}
use Rattle.java_reader.specs.Spelling.{SigMember, TypeMember, header_of, TypeSpells, PackagePart, FileSpells}
use Rattle.tree_places.specs.MovedMember.{moved_member}
use Rattle.tree_places.specs.MovedFile.{moved_package, moved_import, moved_class, moved_file}
use Rattle.tree_places.proofs.Moves.{Moves, moves-never, moves-nothing, moves-mark, moves-sign, ◌then◌, moves-each, moves-optional}
use Rattle.tree_places.proofs.MovedAnnot.{moves-qualified}
use Rattle.tree_places.proofs.MovedMember.{moves-sig, moves-member, moves-header}

module _ (place : Span → Span) where
  moves-sig_member : (m : MemberTree) → Moves place (SigMember m) (SigMember (moved_member place m))
  moves-sig_member (member.Sig s) = moves-sig place s
  moves-sig_member (member.Field f) = moves-never _
  moves-sig_member (member.Method m) = moves-never _
  moves-sig_member (member.Ctor c) = moves-never _
  moves-sig_member (member.Main m) = moves-never _

  pub moves-type_member : (kind : TypeKind) (name : List ℕ) (m : MemberTree) → Moves place (TypeMember kind name m) (TypeMember kind name (moved_member place m))
  moves-type_member sort.Class name m = moves-member place name m
  moves-type_member sort.Interface name m = moves-sig_member m

  moves-type : (c : ClassTree) → Moves place (TypeSpells c) (TypeSpells (moved_class place c))
  moves-type c = moves-header place (header_of c) then moves-each (moved_member place) _ _ (moves-type_member c.kind c.name.text) c.members then moves-mark k.RBrace

  moves-package : (p : Option Package) → Moves place (PackagePart p) (PackagePart (option_map (moved_package place) p))
  moves-package None = moves-nothing
  moves-package (Some p) = moves-mark k.Package then moves-qualified place p.name then moves-mark k.Semicolon

  moves-star : (s : Option Span) → Moves place (Star s) (Star (option_map place s))
  moves-star None = moves-nothing
  moves-star (Some at) = moves-mark k.Dot then moves-sign k.Times at

  moves-import : (i : Import) → Moves place (ImportSpells i) (ImportSpells (moved_import place i))
  moves-import i = moves-mark k.Import then moves-optional place _ _ (moves-sign k.Static) i.static_word then moves-qualified place i.name then moves-star i.star then moves-mark k.Semicolon

  pub moves-file : (f : FileTree) → Moves place (FileSpells f) (FileSpells (moved_file place f))
  moves-file f = moves-package f.«package» then moves-each (moved_import place) ImportSpells ImportSpells moves-import f.imports then moves-each (moved_class place) TypeSpells TypeSpells moves-type f.types
