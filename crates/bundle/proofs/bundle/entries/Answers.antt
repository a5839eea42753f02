use Rattle.std.proofs.Common.{◌≡◌, List, [], ◌∷◌, ◌++◌, map, ap, sym, ◌∙◌, subst}
use Rattle.std.proofs.lemmas.List.{map-append}
use Rattle.bundle.specs.Entry.{Entry}
use Rattle.bundle.specs.File.{file_of}
use Rattle.bundle.proofs.Taken.{Taken, one_taken, all_taken}
use Rattle.bundle.proofs.bundle.entries.Goals as goal

pub loop-file-preserved : goal.loop-file-preserved
loop-file-preserved c =
    let found = c.in-Some.ensures.found in
    let taken = map file_of c.loop-file.files.items in
    let longer : map file_of c.push.new.self.items ≡ taken ++ (file_of c.in-Some.file ∷ []) =
    ap (map file_of) c.in_ok-push.ensures.items ∙ map-append file_of c.loop-file.files.items (c.in-Some.file ∷ []) in
    let P : List Entry → Type 0 = λ l. Taken c.args.bytes.now l c.in-Some.after.now in
    subst P (sym longer) (one_taken c.args.bytes.now taken c.loop-file.rest.now c.in-Some.after.now (file_of c.in-Some.file) c.loop-file.invariant found.0 found.1)

pub returns-clause-files : goal.returns-clause-files
returns-clause-files c = all_taken c.args.bytes.now (map file_of c.loop-file.files.items) c.loop-file.rest.now c.loop-file.invariant c.in_default.ensures.only
