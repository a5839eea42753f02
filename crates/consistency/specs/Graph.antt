-- What the numbers of a graph stand for: it is the graph of promises and findings.
use Rattle.std.specs.Prelude.{◌≡◌, ℕ, List, Some, Vec}
use Rattle.std.specs.List.{slice_get, AllZip}
use Rattle.std.specs.Global.{Global}
use Rattle.desk_base.specs.declared.key.PromiseKey.{PromiseKey}
use Rattle.result_records.specs.declared.finding.Finding.{Finding}
use Rattle.result_records.specs.declared.finding.FindingLink.{FindingLink}
use Rattle.result_records.specs.declared.finding.FindingLink.TheVariants as link
use Rattle.consistency.specs.declared.graph.Clause.{Clause}
use Rattle.consistency.specs.declared.graph.Graph.{Graph}
use Rattle.consistency.specs.declared.graph.Link.{Link}
use Rattle.consistency.specs.declared.graph.Link.TheVariants.{Promise, Word}
use Rattle.consistency.specs.Keys.{Distinct}

-- the number stands for the link
abbrev pub LinkOf : List PromiseKey → List FindingLink → Link → FindingLink → Type 0
LinkOf ps ws (Promise q) (link.Promise key) = slice_get ps q ≡ Some key
LinkOf ps ws (Promise q) (link.Vouched key) = ⊥
LinkOf ps ws (Promise q) (link.Assumed class promise) = ⊥
LinkOf ps ws (Word w) (link.Promise key) = ⊥
LinkOf ps ws (Word w) (link.Vouched key) = slice_get ws w ≡ Some (link.Vouched key)
LinkOf ps ws (Word w) (link.Assumed class promise) = slice_get ws w ≡ Some (link.Assumed class promise)

abbrev pub WayOf : List PromiseKey → List FindingLink → Vec Link Global → List FindingLink → Type 0
WayOf ps ws ls way = AllZip (LinkOf ps ws) ls.items way

pub record ClauseOf (ps : List PromiseKey) (ws : List FindingLink) (c : Clause) (x : Finding) : Type 0 where
  pub key : c.key ≡ x.key
  pub on : slice_get ps c.on ≡ Some x.key.on
  pub ways : AllZip (WayOf ps ws) c.alternatives.items x.alternatives

-- the graph is that of these promises and findings
pub record GraphOf (ps : List PromiseKey) (fs : List Finding) (g : Graph) : Type 0 where
  pub keys : g.keys.items ≡ ps
  pub distinct : Distinct ps
  pub clauses : AllZip (ClauseOf ps g.words.items) g.clauses.items fs

-- words that stood in a table stand there still
abbrev pub Extends : List FindingLink → List FindingLink → Type 0
Extends old new = (w : ℕ) (l : FindingLink) → slice_get old w ≡ Some l → slice_get new w ≡ Some l
