use Rattle.std.proofs.Common.{arith, sym, ◌∙◌}
use Rattle.std.proofs.lemmas.List.{length-map}
use Rattle.std.proofs.lemmas.Bool.{le-ltb, lt-ltb}
use Rattle.bundle.specs.File.{file_of}
use Rattle.project_files.specs.Kept.{files_of}
use Rattle.project_files.proofs.LimitMore.{long_file, text_sum, past_file_bytes, past_text_bytes, past_none}
use Rattle.project_files.proofs.limits.passed_limit.Goals as goal

pub returns-then-has_long_file : goal.returns-then-has_long_file
returns-then-has_long_file c =
    let files = files_of c.args.files.now in
    past_file_bytes files (le-ltb _ _ (omega (arith, length-map c.args.files.now file_of, c.if-files-max.false, c.max.ensures)))
    (long_file 262144 c.args.files.now ∙ sym c.has_long_file.ensures ∙ c.if-has_long_file.true)

pub returns-then-text_bytes-max : goal.returns-then-text_bytes-max
returns-then-text_bytes-max c =
    let files = files_of c.args.files.now in
    past_text_bytes files (le-ltb _ _ (omega (arith, length-map c.args.files.now file_of, c.if-files-max.false, c.max.ensures)))
    (long_file 262144 c.args.files.now ∙ sym c.has_long_file.ensures ∙ c.if-has_long_file.false)
    (lt-ltb _ _ (omega (arith, text_sum c.args.files.now, c.text_bytes.ensures, c.if-text_bytes-max.true, c.max-else-has_long_file.ensures)))

pub returns-else-text_bytes-max : goal.returns-else-text_bytes-max
returns-else-text_bytes-max c =
    let files = files_of c.args.files.now in
    past_none files (le-ltb _ _ (omega (arith, length-map c.args.files.now file_of, c.if-files-max.false, c.max.ensures)))
    (long_file 262144 c.args.files.now ∙ sym c.has_long_file.ensures ∙ c.if-has_long_file.false)
    (le-ltb _ _ (omega (arith, text_sum c.args.files.now, c.text_bytes.ensures, c.if-text_bytes-max.false, c.max-else-has_long_file.ensures)))
