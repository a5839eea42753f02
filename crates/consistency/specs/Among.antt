-- Findings that speak of the promises alone: those that make a graph with them.
use Rattle.std.specs.Prelude.{List, Contains, All}
use Rattle.desk_base.specs.declared.key.PromiseKey.{PromiseKey}
use Rattle.result_records.specs.declared.finding.Finding.{Finding}
use Rattle.result_records.specs.declared.finding.FindingLink.{FindingLink}
use Rattle.result_records.specs.declared.finding.FindingLink.TheVariants as link

-- a link to a promise leads to one of them; a person's word leads to none
abbrev pub LinkAmong : List PromiseKey → FindingLink → Type 0
LinkAmong ps (link.Promise key) = Contains ps key
LinkAmong ps (link.Vouched key) = Unit {0}
LinkAmong ps (link.Assumed class promise) = Unit {0}

abbrev pub WayAmong : List PromiseKey → List FindingLink → Type 0
WayAmong ps way = All (LinkAmong ps) way

-- the promise of a finding and the promises that it links to are among the promises
pub record FindingAmong (ps : List PromiseKey) (x : Finding) : Type 0 where
  pub on : Contains ps x.key.on
  pub ways : All (WayAmong ps) x.alternatives

abbrev pub FindingsAmong : List PromiseKey → List Finding → Type 0
FindingsAmong ps fs = All (FindingAmong ps) fs
