-- One more file that was read, and what files that were read are together.
use Rattle.std.proofs.Common.{◌≡◌, ℕ, ◌+◌, ◌<◌, List, [], ◌∷◌, ◌++◌, length, map, take, get_or, sym, ◌∙◌, ap, subst}
use Rattle.std.specs.Prelude.{Option, Some, None, All}
use Rattle.std.proofs.lemmas.List.{flat_map_more, map-append, take_more}
use Rattle.std.proofs.lemmas.List.Elements.{All-push}
use Rattle.bundle.specs.File.{file_of}
use Rattle.bundle.specs.declared.entry.FileEntry.{FileEntry}
use Rattle.project_files.specs.declared.reading.ReadFile.{ReadFile}
use Rattle.project_files.specs.declared.repeats.TypeNames.{TypeNames}
use Rattle.project_files.specs.declared.repeats.Repeat.{Repeat}
use Rattle.project_files.specs.Trees.{ClassText, TreeFile, IsReadAs, class_in, entry_of, types_of}
use Rattle.project_files.specs.Kept.{AreNamed, AreReadTo, NamedBy, RepeatOf, files_of, tree_file}
use Rattle.project_files.proofs.Lists.{map_read}

-- one more file was read
pub read_more : (sorted : List FileEntry) (i : ℕ) (d : FileEntry) (old new : List ReadFile) (r : ReadFile) → i < length sorted → r.file ≡ get_or sorted i d → IsReadAs (tree_file r)
    → new ≡ old ++ r ∷ [] → AreReadTo (files_of (take i sorted)) old → AreReadTo (files_of (take (i + 1) sorted)) new
read_more sorted i d old new r low is reads put so =
    let trees : map tree_file new ≡ map tree_file old ++ tree_file r ∷ [] = ap (map tree_file) put ∙ map-append tree_file old (r ∷ []) in
    record {
      same = ap (map entry_of) trees ∙ map-append entry_of (map tree_file old) (tree_file r ∷ []) ∙ ap (λ l. l ++ entry_of (tree_file r) ∷ []) so.same
          ∙ map_read file_of sorted i d r.file low is;
      each = let P : List TreeFile → Type 0 = λ (l : List TreeFile). All IsReadAs l in subst P (sym trees) (All-push IsReadAs (map tree_file old) (tree_file r) so.each reads);
    }

-- the types of one more file have names
pub types_step : (read : List ReadFile) (i : ℕ) (r : ReadFile) (old new : TypeNames) → i < length read → r ≡ get_or read i r
    → ((types : List ClassText) → AreNamed types old → AreNamed (types ++ map (class_in (tree_file r)) (tree_file r).tree.types) new)
    → AreNamed (types_of (map tree_file (take i read))) old → AreNamed (types_of (map tree_file (take (i + 1) read))) new
types_step read i r old new low is step so =
    let P : List ClassText → Type 0 = λ (types : List ClassText). AreNamed types new in
    let front = map tree_file (take i read) in
    let all : map tree_file (take (i + 1) read) ≡ front ++ tree_file r ∷ [] =
    ap (map tree_file) (take_more read i r low ∙ ap (λ x. take i read ++ x ∷ []) (sym is)) ∙ map-append tree_file (take i read) (r ∷ []) in
    subst P (flat_map_more (λ (g : TreeFile). map (class_in g) g.tree.types) [] front (tree_file r) ∙ ap types_of (sym all)) (step (types_of front) so)

-- the repeat that is kept is the first
pub repeat_is : (types : List ClassText) (names : TypeNames) (r : Option Repeat) → r ≡ names.repeat → AreNamed types names → RepeatOf types r
repeat_is types names r is named = subst (RepeatOf types) (sym is) (go names.repeat named)
  where
    go : (o : Option Repeat) → NamedBy types names.paths o → RepeatOf types o
    go None named = named.0
    go (Some r) named = named
