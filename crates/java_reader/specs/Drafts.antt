-- What has been read of a file so far, and what each part adds to it.
use Rattle.std.specs.Prelude.{List, [], ◌∷◌, ◌++◌, Option, Some, None}
use Rattle.java_phrases.specs.Tree.{MemberTree, Package, Import, ClassTree, FileTree}
use Rattle.java_heads.specs.declared.header.Header.{Header}
use Rattle.java_reader.specs.declared.draft.Draft.{Draft}
use Rattle.java_reader.specs.Parts.{Part, PackageLine, ImportLine, Opening, Inner, Closing, Stage, Start, Lines, Types, Body}

abbrev pub file_of : Option Package → List Import → List ClassTree → FileTree
file_of line imports types = record { «package» = line; imports = imports; types = types }

-- nothing
abbrev pub blank : Draft
blank = record { file = file_of None [] []; current = None }

-- no type is open
abbrev pub between : FileTree → Draft
between file = record { file = file; current = None }

abbrev pub within : FileTree → ClassTree → Draft
within file class = record { file = file; current = Some class }

-- a type of this header without members
abbrev pub class_of : Header → ClassTree
class_of h = record { mods = h.mods; kind = h.kind; name = h.name; implements = h.implements; members = []; tokens = h.tokens }

abbrev pub with_member : ClassTree → MemberTree → ClassTree
with_member c m = record { mods = c.mods; kind = c.kind; name = c.name; implements = c.implements; members = c.members ++ m ∷ []; tokens = c.tokens }

-- ---- the stage

abbrev pub lines_stage : List Import → Option Package → Stage
lines_stage (i ∷ imports) line = Lines
lines_stage [] (Some p) = Lines
lines_stage [] None = Start

abbrev pub outside_stage : List ClassTree → List Import → Option Package → Stage
outside_stage (c ∷ types) imports line = Types
outside_stage [] imports line = lines_stage imports line

abbrev pub stage_by : Option ClassTree → FileTree → Stage
stage_by (Some c) file = Body c.kind c.name.text
stage_by None file = outside_stage file.types file.imports file.«package»

abbrev pub stage_of : Draft → Stage
stage_of d = stage_by d.current d.file

-- ---- one part more

abbrev pub closed : Option ClassTree → FileTree → Draft
closed None file = between file
closed (Some c) file = between (file_of file.«package» file.imports (file.types ++ c ∷ []))

abbrev pub filled : Option ClassTree → FileTree → MemberTree → Draft
filled None file m = between file
filled (Some c) file m = within file (with_member c m)

abbrev pub added : Draft → Part → Draft
added d (PackageLine p) = between (file_of (Some p) d.file.imports d.file.types)
added d (ImportLine i) = between (file_of d.file.«package» (d.file.imports ++ i ∷ []) d.file.types)
added d (Opening h) = within d.file (class_of h)
added d (Inner m) = filled d.current d.file m
added d Closing = closed d.current d.file
