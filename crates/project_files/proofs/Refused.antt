-- A file that isn't read, and those before it.
use Rattle.std.proofs.Common.{◌≡◌, ◌≢◌, ℕ, ◌+◌, ◌<◌, List, ◌∷◌, ◌++◌, length, get_or, map, take, drop, ap, sym, ◌∙◌, subst, Result, Ok, Err, IfErr, All}
use Rattle.std.specs.Borrow.{Bor}
use Rattle.std.specs.Result.{IsErrAnd}
use Rattle.std.proofs.lemmas.List.{get_or_default}
use Rattle.bundle.specs.File.{file_of}
use Rattle.bundle.specs.declared.entry.FileEntry.{FileEntry}
use Rattle.project_files.proofs.Lists.{map_split}
use Rattle.bundle.specs.Entry.{Entry}
use Rattle.java_tree.specs.declared.file.FileTree.{FileTree}
use Rattle.java_reader.specs.declared.error.ReadError.{ReadError}
use Rattle.java_reader.specs.declared.error.ReadError.TheVariants as fault
use Rattle.java_reader.specs.Reads.{Reads, IsCauseOf}
use Rattle.project_files.specs.declared.error.FilesError.{FilesError}
use Rattle.project_files.specs.declared.error.FilesError.TheVariants as error
use Rattle.project_files.specs.Trees.{TreeFile, IsReadAs, IsRefused, entry_of}
use Rattle.project_files.specs.Kept.{files_of, refusal_for, IsRefusal, IsRefusalIn}

refused : (text : List ℕ) (why : ReadError) → ((tree : FileTree) → Reads text tree → why ≡ fault.OutOfMemory) → IsCauseOf text why → why ≢ fault.OutOfMemory → IsRefused text why
refused text why only cause told = record { unread = λ tree reads. told (only tree reads); cause = cause; told = told }

pub refusal_is : (e : Entry) (path : Bor (List ℕ)) (why : ReadError) → path.now ≡ e.path → ((tree : FileTree) → Reads e.text tree → why ≡ fault.OutOfMemory) → IsCauseOf e.text why → IsRefusal e (refusal_for path why)
refusal_is e path (fault.Limit which at) named only cause = (named, refused e.text (fault.Limit which at) only cause (λ h. cc))
refusal_is e path (fault.Lex at) named only cause = (named, refused e.text (fault.Lex at) only cause (λ h. cc))
refusal_is e path (fault.Grammar at) named only cause = (named, refused e.text (fault.Grammar at) only cause (λ h. cc))
refusal_is e path fault.OutOfMemory named only cause = tt

refusal_in : (sorted : List Entry) (front : List TreeFile) (file : Entry) (rest : List Entry) (e : FilesError) → sorted ≡ map entry_of front ++ file ∷ rest → All IsReadAs front → IsRefusal file e → IsRefusalIn sorted e
refusal_in sorted front file rest (error.Limit which) is each refusal = absurd refusal
refusal_in sorted front file rest (error.Unread path why) is each refusal = record { front = front; file = file; rest = rest; is = is; each = each; refused = refusal.1; named = refusal.0 }
refusal_in sorted front file rest (error.Repeated name first second) is each refusal = absurd refusal
refusal_in sorted front file rest error.OutOfMemory is each refusal = tt

-- the file that isn't read, behind those that were
pub refused_at : (sorted : List FileEntry) (front : List TreeFile) (i : ℕ) (d : FileEntry) (e : FilesError) → i < length sorted → map entry_of front ≡ files_of (take i sorted) → All IsReadAs front
    → IsRefusal (file_of (get_or sorted i d)) e → IsRefusalIn (files_of sorted) e
refused_at sorted front i d e low same each refusal =
    let file = get_or sorted i d in
    let rest = files_of (drop (i + 1) sorted) in
    let split : files_of sorted ≡ files_of (take i sorted) ++ file_of file ∷ rest = map_split file_of sorted i file low (get_or_default sorted i d file low) in
    refusal_in (files_of sorted) front (file_of file) rest e (split ∙ ap (λ l. l ++ file_of file ∷ rest) (sym same)) each refusal

pub err_along : {A E : Type 0} (r : Result A E) (e : E) (P : E → Type 0) → IsErrAnd r (λ x. x ≡ e) → P e → IfErr r P
err_along (Ok x) e P h p = tt
err_along (Err x) e P h p = subst P (sym h) p
