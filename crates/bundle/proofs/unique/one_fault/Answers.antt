use Rattle.bundle.proofs.Whole.{bad_no_bundle}
use Rattle.bundle.proofs.Faults.{one_place}
use Rattle.bundle.proofs.unique.one_fault.Goals as goal

pub returns-clause-place : goal.returns-clause-place
returns-clause-place c = one_place

pub returns-clause-apart : goal.returns-clause-apart
returns-clause-apart c bytes files at is bad = bad_no_bundle bytes at files bad is
