use Rattle.std.proofs.Common.{◌≡◌, List, refl, sym, ◌∙◌, subst, map}
use Rattle.result_records.specs.declared.finding.Finding.{Finding}
use Rattle.consistency.specs.Among.{FindingsAmong}
use Rattle.consistency.specs.Verdicts.{VerdictsOf}
use Rattle.project_answers.specs.Gathered.{finding_of}
use Rattle.project_answers.proofs.Judging.{known}
use Rattle.project_answers.proofs.Rowing.{rows_of_apart}
use Rattle.project_answers.proofs.answers.project_answers.Goals as goal

pub solved-requires-clause-among : goal.solved-requires-clause-among
solved-requires-clause-among c =
    let same : c.as_slice.result.now ≡ map finding_of c.args.found.items = c.as_slice.ensures.value ∙ c.in_ok-apart.ensures.findings in
    let P : List Finding → Type 0 = λ (fs : List Finding). FindingsAmong c.args.promises.now fs in
    subst P (sym same) c.requires.among

pub verdict_rows-requires : goal.verdict_rows-requires
verdict_rows-requires c = known c.in_ok-verdicts.verdicts c.args.promises.now c.as_slice.result.now c.in_ok-verdicts.ensures

pub returns : goal.returns
returns c =
    let same : c.as_slice.result.now ≡ map finding_of c.args.found.items = c.as_slice.ensures.value ∙ c.in_ok-apart.ensures.findings in
    let P : List Finding → Type 0 = λ (fs : List Finding). VerdictsOf c.args.promises.now fs c.in_ok-verdicts.verdicts in
    record {
      files = refl;
      types = refl;
      units = refl;
      findings = rows_of_apart c.args.paths.now c.args.found.items c.in_ok-apart.apart.findings.items c.in_ok-apart.apart.sites.items c.in_ok-findings.findings
          c.in_ok-apart.ensures.findings c.in_ok-apart.ensures.sites c.in_ok-findings.ensures;
      verdicts = c.in_ok-verdicts-2.ensures (map finding_of c.args.found.items) (subst P same c.in_ok-verdicts.ensures);
    }
