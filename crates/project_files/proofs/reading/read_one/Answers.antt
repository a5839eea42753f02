use Rattle.bundle.specs.File.{file_of}
use Rattle.std.proofs.Common.{refl, sym, subst}
use Rattle.project_files.specs.Kept.{IsRefusal}
use Rattle.project_files.proofs.Refused.{refusal_is}
use Rattle.project_files.proofs.reading.read_one.Goals as goal

pub returns-in-Err-clause-cause : goal.returns-in-Err-clause-cause
returns-in-Err-clause-cause c =
    subst (IsRefusal (file_of c.args.file)) (sym c.refusal_for.ensures) (refusal_is (file_of c.args.file) c.args.file.path c.in-Err.why refl c.in-Err.ensures.only c.in-Err.ensures.cause)
