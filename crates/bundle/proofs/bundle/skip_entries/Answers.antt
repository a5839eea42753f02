use Rattle.std.proofs.Common.{ap, sym, ◌∙◌}
use Rattle.bundle.specs.File.{file_of}
use Rattle.bundle.proofs.Entries.{one_more, stops_at_none, stops_at_old, not_not}
use Rattle.bundle.proofs.bundle.skip_entries.Goals as goal

pub loop-file-preserved : goal.loop-file-preserved
loop-file-preserved c =
    let found = c.in-Some.ensures.found in
    one_more c.loop-file.seen c.add_path.new.seen c.args.bytes.now c.loop-file.rest.now c.in-Some.after.now (file_of c.in-Some.file)
    c.loop-file.invariant found.0 found.1 (sym c.in_ok-add_path.ensures.added ∙ c.if-not-branch.false) c.in_ok-add_path.ensures.kept

pub returns-then-not-branch-clause-ok : goal.returns-then-not-branch-clause-ok
returns-then-not-branch-clause-ok c =
    stops_at_old c.loop-file.seen c.args.bytes.now c.loop-file.rest.now c.in-Some.file.path.now c.loop-file.invariant
    (λ e after fits whole. ap (λ x. x.path) (c.in-Some.ensures.only e after fits whole).0)
    (not_not _ (sym c.in_ok-add_path.ensures.added ∙ c.if-not-branch.true))

pub returns-clause-ok : goal.returns-clause-ok
returns-clause-ok c =
    stops_at_none c.loop-file.seen c.args.bytes.now c.loop-file.rest.now c.loop-file.invariant c.in_default.ensures.only
