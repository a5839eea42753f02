use Rattle.std.proofs.Common.{◌≡◌, false}
use Rattle.std.specs.Prelude.{Option, is_some}
use Rattle.result_records.specs.declared.code.FindingCode.{FindingCode}
use Rattle.scrub_rules.specs.Target.{kinds_in}
use Rattle.header_scrub.specs.Locks.{early_code, lock_of}
use Rattle.header_scrub.specs.Fields.{fields_in}
use Rattle.header_scrub.proofs.Holding.{holds_more, no_code, late_code, no_late_code}
use Rattle.header_scrub.proofs.locks.lock_code.Goals as goal

pub returns-then-overlaps_held-clause-code : goal.returns-then-overlaps_held-clause-code
returns-then-overlaps_held-clause-code c =
    let locks = c.args.locks.now in
    let early : Option FindingCode = early_code (kinds_in c.args.kinds.now) (fields_in c.args.fields.now) locks.table c.args.content.now in
    let not_some : is_some early ≡ false = cc in
    late_code c.args.declared.now locks.held locks.table c.args.content.now early c.requires.holds (no_code early not_some) c.if-overlaps_held.ensures.some

pub returns-else-overlaps_held-clause-code : goal.returns-else-overlaps_held-clause-code
returns-else-overlaps_held-clause-code c =
    let locks = c.args.locks.now in
    let early : Option FindingCode = early_code (kinds_in c.args.kinds.now) (fields_in c.args.fields.now) locks.table c.args.content.now in
    let not_some : is_some early ≡ false = cc in
    no_late_code c.args.declared.now locks.held locks.table c.args.content.now early c.requires.holds (no_code early not_some) c.if-overlaps_held.ensures.none

pub returns-else-overlaps_held-clause-holds : goal.returns-else-overlaps_held-clause-holds
returns-else-overlaps_held-clause-holds c =
    let locks = c.args.locks.now in
    holds_more c.args.declared.now locks.held c.overlaps_held.new.held locks.table (lock_of (fields_in c.args.fields.now) c.args.content.now) c.requires.holds
    c.if-overlaps_held.ensures.of c.if-overlaps_held.ensures.held
