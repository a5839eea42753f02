-- What is firm is consistent.
use Rattle.std.proofs.Common.{ℕ, zero, suc, List, length, get_or, true, false}
use Rattle.desk_base.specs.declared.key.PromiseKey.{PromiseKey}
use Rattle.result_records.specs.declared.finding.Finding.{Finding}
use Rattle.result_records.specs.declared.finding.FindingLink.{FindingLink}
use Rattle.result_records.specs.declared.finding.FindingLink.TheVariants as link
use Rattle.consistency.specs.Rounds.{Con, Firm, Holds, Round}

holds_more : (S T : PromiseKey → Type 0) → ((q : PromiseKey) → S q → T q) → (l : FindingLink) → Holds false S l → Holds true T l
holds_more S T f (link.Promise key) h = f key h
holds_more S T f (link.Vouched key) h = absurd cc
holds_more S T f (link.Assumed class promise) h = absurd cc

round_more : (ps : List PromiseKey) (fs : List Finding) (k : ℕ) (p : PromiseKey) → Round ps fs false k p → Round ps fs true k p
round_more ps fs zero p h = h
round_more ps fs (suc k) p h = (
  h.0,
  λ x has on.
      let w = h.1 x has on in
      (w.0, w.1, λ j d lt. holds_more (Round ps fs false k) (Round ps fs true k) (λ q. round_more ps fs k q) (get_or w.0 j d) (w.2 j d lt)),
)

pub con_of_firm : (ps : List PromiseKey) (fs : List Finding) (p : PromiseKey) → Firm ps fs p → Con ps fs p
con_of_firm ps fs p h = round_more ps fs (length ps) p h
