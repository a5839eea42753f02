use Rattle.std.proofs.Common.{◌≡◌, ◌∙◌, ap, length, List, subst}
use Rattle.std.specs.Prelude.{Option}
use Rattle.region_tree.specs.declared.decl.RegionDecl.{RegionDecl}
use Rattle.result_records.specs.declared.code.FindingCode.{FindingCode}
use Rattle.scrub_rules.specs.Target.{kinds_in}
use Rattle.header_scrub.specs.Fields.{Fields, fields_by, fields_in}
use Rattle.header_scrub.specs.Kinds.{region_kind}
use Rattle.header_scrub.specs.Locks.{AreLockCodes}
use Rattle.header_scrub.proofs.Locking.{codes_at, fits}
use Rattle.header_scrub.proofs.header.scrub_header.Goals as goal

pub scrub_locks-requires-clause-long : goal.scrub_locks-requires-clause-long
scrub_locks-requires-clause-long c =
    ap length c.as_slice-3.ensures
    ∙ fits c.args.site c.args.marks.now c.in_ok-scrubbed.scrubbed.regions c.in_ok-scrubbed.scrubbed.codes c.in_ok-scrubbed.ensures.scrubs

pub returns-clause-header : goal.returns-clause-header
returns-clause-header c =
    let marks = c.args.marks.now in
    let regions = c.in_ok-scrubbed.scrubbed.regions in
    let codes = c.in_ok-header.header.codes in
    let kinds = kinds_in c.in_ok-kinds.kinds in
    let known : Fields = fields_in c.in_ok-known.known in
    record {
      between = c.in_ok-scrubbed.scrubbed.codes;
      scrubbed = c.in_ok-scrubbed.ensures.scrubs;
      locks =
          codes_at regions kinds known (fields_by c.args.fields.now) marks c.in_ok-scrubbed.scrubbed.codes codes
          ((λ i name. c.in_ok-kinds.ensures.has name i) ∙ ap region_kind c.as_slice.ensures) (λ i name. c.in_ok-known.ensures.has name i)
          (subst (λ (z : List (Option FindingCode)). AreLockCodes regions kinds known marks z codes) c.as_slice-3.ensures
          (subst (λ (z : List RegionDecl). AreLockCodes z kinds known marks c.as_slice-3.result.now codes) c.as_slice-2.ensures c.in_ok-header.ensures.codes));
    }
