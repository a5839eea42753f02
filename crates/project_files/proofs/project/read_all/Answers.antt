use Rattle.std.proofs.Common.{map}
use Rattle.project_files.specs.Kept.{files_of, tree_file, IsRefusalIn}
use Rattle.project_files.proofs.Gathered.{read_more}
use Rattle.project_files.proofs.Refused.{refused_at, err_along}
use Rattle.project_files.proofs.project.read_all.Goals as goal

pub returns-in_err-one-clause-cause : goal.returns-in_err-one-clause-cause
returns-in_err-one-clause-cause c =
    err_along c.from_residual.result c.in_err-one.field-0.0 (IsRefusalIn (files_of c.args.sorted.now)) c.from_residual.ensures.1
    (refused_at c.args.sorted.now (map tree_file c.loop-file.read.items) c.loop-file.file-index _ c.in_err-one.field-0.0 c.loop-file-test.true c.loop-file.invariant.same c.loop-file.invariant.each c.in_err-one.ensures.cause)

pub loop-file-preserved : goal.loop-file-preserved
loop-file-preserved c =
    read_more c.args.sorted.now c.loop-file.file-index _ c.loop-file.read.items c.push.new.self.items c.in_ok-one.one c.loop-file-test.true c.in_ok-one.ensures.same c.in_ok-one.ensures.read
    c.in_ok-push.ensures.items c.loop-file.invariant
