use Rattle.std.proofs.Common.{sym, subst}
use Rattle.std.specs.Prelude.{Option}
use Rattle.result_records.specs.declared.finding.FindingKey.{FindingKey}
use Rattle.result_records.specs.declared.finding.FindingLink.{FindingLink}
use Rattle.consistency.specs.Verdicts.{BlamedBy, RestsBy}
use Rattle.project_answers.proofs.Judging.{blamed, rests}
use Rattle.project_answers.proofs.verdicts.verdict_row.Goals as goal

pub returns : goal.returns
returns c = λ ps fs judged among.
    let p = c.args.key.now in
    let v = c.in-Some.verdict in
    let has = c.in-Some.ensures ps fs judged in
    record {
      key = c.in_ok-key_copy.ensures;
      verdict = has.1;
      blame = subst (λ (b : Option FindingKey). BlamedBy ps fs p v b) (sym c.in_ok-blame.ensures) (blamed ps fs p v c.blame.result among has.1 (c.blame.ensures ps fs judged));
      leaf = subst (λ (l : Option FindingLink). RestsBy ps fs p v l) (sym c.in_ok-leaf.ensures) (rests ps fs p v c.leaf.result among has.1 (c.leaf.ensures ps fs judged));
    }
