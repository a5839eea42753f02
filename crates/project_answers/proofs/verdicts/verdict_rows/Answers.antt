use Rattle.project_answers.proofs.Judging.{known_at, row_more}
use Rattle.project_answers.proofs.verdicts.verdict_rows.Goals as goal

pub verdict_row-requires : goal.verdict_row-requires
verdict_row-requires c = known_at c.args.verdicts.now c.args.promises.now c.loop-key.key-index c.key-item.result c.requires c.loop-key-test.true c.key-item.is

pub loop-key-preserved : goal.loop-key-preserved
loop-key-preserved c =
    row_more c.args.promises.now c.args.verdicts.now c.loop-key.key-index c.key-item.result c.loop-key.rows c.push.new.self c.in_ok-verdict_row.field-0
    c.loop-key-test.true c.key-item.is c.loop-key.invariant c.in_ok-verdict_row.ensures c.in_ok-push.ensures.ok
