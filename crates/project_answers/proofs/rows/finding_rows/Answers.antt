use Rattle.project_answers.proofs.Rowing.{rows_end}
use Rattle.project_answers.proofs.rows.finding_rows.Goals as goal

pub returns : goal.returns
returns c =
    rows_end c.args.paths.now c.loop-site.rows c.loop-site.findings.items c.reverse.new.self.items c.args.apart.findings.items c.as_slice-site-items.result.now c.args.apart.sites.items
    c.loop-site.site-index c.loop-site-test.false c.reverse.ensures.items c.as_slice-site-items.ensures.value c.loop-site.invariant
