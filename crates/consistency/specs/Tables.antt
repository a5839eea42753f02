-- What is looked up of the rounds, by number.
use Rattle.std.specs.Prelude.{◌≡◌, ℕ, ◌-◌, ◌<◌, Bool, true, false, not, List, [], ◌∷◌, Option, Some, None, length, slice_index_or, find, Vec, Contains}
use Rattle.std.specs.List.{slice_get, list_all, list_any}
use Rattle.std.specs.Global.{Global}
use Rattle.consistency.specs.declared.graph.Clause.{Clause}
use Rattle.consistency.specs.declared.graph.Link.{Link}
use Rattle.consistency.specs.declared.graph.Link.TheVariants.{Promise, Word}
use Rattle.consistency.specs.declared.steps.Step.{Step}
use Rattle.consistency.specs.declared.steps.Step.TheVariants.{Own, Via}
use Rattle.consistency.specs.declared.verdict.Verdict.TheVariants as verdict
use Rattle.consistency.specs.declared.verdicts.Judged.{Judged}
use Rattle.consistency.specs.Steps.{still_in}
use Rattle.result_records.specs.declared.finding.FindingKey.{FindingKey}
use Rattle.result_records.specs.declared.finding.FindingLink.{FindingLink}

-- a link survives round k, by the rounds in which promises left
abbrev pub stays : List (Option ℕ) → Bool → ℕ → Link → Bool
stays left given k (Promise q) = still_in (slice_index_or left q None) k
stays left given k (Word w) = given

abbrev pub stays_all : List (Option ℕ) → Bool → ℕ → List Link → Bool
stays_all left given k ls = list_all (λ l. stays left given k l) ls

-- no alternative of the finding survives round k
abbrev pub is_lost : List (Option ℕ) → Bool → ℕ → Clause → Bool
is_lost left given k c = not (list_any (λ (ls : Vec Link Global). stays_all left given k ls.items) c.alternatives.items)

abbrev pub lost_by : List (Option ℕ) → Bool → Option ℕ → Clause → Bool
lost_by left given None c = false
lost_by left given (Some out) c = is_lost left given (out - 1) c

-- the same at the last round in which its promise is
abbrev pub lost_of : List (Option ℕ) → Bool → Clause → Bool
lost_of left given c = lost_by left given (slice_index_or left c.on None) c

-- f is the first lost finding of p among the first n
abbrev pub CauseTo : List Clause → List (Option ℕ) → Bool → ℕ → ℕ → Option ℕ → Type 0
CauseTo cs left given n p None = (j : ℕ) (d : Clause) → j < n → (slice_index_or cs j d).on ≡ p → lost_of left given (slice_index_or cs j d) ≡ false
CauseTo cs left given n p (Some f) = (f < n) × ((d : Clause) → ((slice_index_or cs f d).on ≡ p) × (lost_of left given (slice_index_or cs f d) ≡ true))
    × ((j : ℕ) (d : Clause) → j < f → (slice_index_or cs j d).on ≡ p → lost_of left given (slice_index_or cs j d) ≡ false)

abbrev pub Causes : List Clause → List (Option ℕ) → Bool → ℕ → List (Option ℕ) → Type 0
Causes cs left given n causes = (p : ℕ) → p < length left → CauseTo cs left given n p (slice_index_or causes p None)

-- the first of two causes, one after the other
abbrev pub cause_next : Option ℕ → Bool → ℕ → Option ℕ
cause_next (Some f) lost i = Some f
cause_next None true i = Some i
cause_next None false i = None

-- ---- one step towards a blame or a leaf

abbrev pub step_by : Option Link → Option Step
step_by None = None
step_by (Some (Promise q)) = Some (Via q)
step_by (Some (Word w)) = Some (Own w)

-- the first link that doesn't survive round k
abbrev pub missing : List (Option ℕ) → Bool → ℕ → List Link → Option Link
missing left given k ls = find (λ l. not (stays left given k l)) ls

abbrev pub blame_in : List (Option ℕ) → ℕ → ℕ → List (Vec Link Global) → Option Step
blame_in left f k [] = Some (Own f)
blame_in left f k (ls ∷ rest) = step_by (missing left true k ls.items)

abbrev pub blame_at : List (Option ℕ) → ℕ → ℕ → Option Clause → Option Step
blame_at left f k None = None
blame_at left f k (Some c) = blame_in left f k c.alternatives.items

abbrev pub blame_by : List Clause → List (Option ℕ) → Option ℕ → Option ℕ → Option Step
blame_by cs left None cause = None
blame_by cs left (Some out) None = None
blame_by cs left (Some out) (Some f) = blame_at left f (out - 1) (slice_get cs f)

abbrev pub leaf_in : List (Option ℕ) → ℕ → Option (Vec Link Global) → Option Step
leaf_in firm k None = None
leaf_in firm k (Some ls) = step_by (missing firm false k ls.items)

abbrev pub leaf_at : List (Option ℕ) → List (Option ℕ) → ℕ → Option Clause → Option Step
leaf_at con firm k None = None
leaf_at con firm k (Some c) = leaf_in firm k (find (λ (ls : Vec Link Global). stays_all con true (length con) ls.items) c.alternatives.items)

abbrev pub leaf_by : List Clause → List (Option ℕ) → List (Option ℕ) → Option ℕ → Option ℕ → Option ℕ → Option Step
leaf_by cs con firm (Some gone) out cause = None
leaf_by cs con firm None None cause = None
leaf_by cs con firm None (Some out) None = None
leaf_by cs con firm None (Some out) (Some f) = leaf_at con firm (out - 1) (slice_get cs f)

abbrev pub BlameSteps : List Clause → List (Option ℕ) → List (Option ℕ) → ℕ → List (Option Step) → Type 0
BlameSteps cs left causes n steps = (p : ℕ) → p < n → slice_index_or steps p None ≡ blame_by cs left (slice_index_or left p None) (slice_index_or causes p None)

abbrev pub LeafSteps : List Clause → List (Option ℕ) → List (Option ℕ) → List (Option ℕ) → ℕ → List (Option Step) → Type 0
LeafSteps cs con firm causes n steps = (p : ℕ) → p < n
    → slice_index_or steps p None ≡ leaf_by cs con firm (slice_index_or con p None) (slice_index_or firm p None) (slice_index_or causes p None)

-- ---- the ends of the steps

abbrev pub end_by : List (Option ℕ) → Option Step → Option ℕ
end_by ends None = None
end_by ends (Some (Own x)) = Some x
end_by ends (Some (Via q)) = slice_index_or ends q None

-- each step leads to a promise that left in a round before
abbrev pub Falls : List (Option ℕ) → List (Option Step) → Type 0
Falls left steps = (p q : ℕ) → p < length left → slice_index_or steps p None ≡ Some (Via q) → (r : ℕ) × (s : ℕ) × (slice_index_or left p None ≡ Some r) × (slice_index_or left q None ≡ Some s) × (s < r)

abbrev pub Ends : List (Option ℕ) → List (Option Step) → List (Option ℕ) → Type 0
Ends left steps ends = (p r : ℕ) → slice_index_or left p None ≡ Some r → slice_index_or ends p None ≡ end_by ends (slice_index_or steps p None)

-- ---- what the tables hold

-- blames by number, and how they come about
pub record BlameEnds (cs : List Clause) (left blames : List (Option ℕ)) : Type 0 where
  pub causes : List (Option ℕ)
  pub steps : List (Option Step)
  pub are_causes : Causes cs left true (length cs) causes
  pub are_steps : BlameSteps cs left causes (length left) steps
  pub ends : Falls left steps → Ends left steps blames

-- leaves by number, and how they come about
pub record LeafEnds (cs : List Clause) (con firm leaves : List (Option ℕ)) : Type 0 where
  pub causes : List (Option ℕ)
  pub steps : List (Option Step)
  pub are_causes : Causes cs firm false (length cs) causes
  pub are_steps : LeafSteps cs con firm causes (length firm) steps
  pub ends : Falls firm steps → Ends firm steps leaves

-- ---- the row of a promise

abbrev pub key_of : Option Clause → Option FindingKey
key_of None = None
key_of (Some c) = Some c.key

abbrev pub key_at : List Clause → Option ℕ → Option FindingKey
key_at cs None = None
key_at cs (Some f) = key_of (slice_get cs f)

abbrev pub word_at : List FindingLink → Option ℕ → Option FindingLink
word_at ws None = None
word_at ws (Some w) = slice_get ws w

-- by the rounds in which it left, and the numbers of its blame and its leaf
abbrev pub row_of : List Clause → List FindingLink → Option ℕ → Option ℕ → Option ℕ → Option ℕ → Judged
row_of cs ws None None blame leaf = record { verdict = verdict.Firm; blame = None; leaf = None }
row_of cs ws None (Some out) blame leaf = record { verdict = verdict.Contingent; blame = None; leaf = word_at ws leaf }
row_of cs ws (Some out) firm blame leaf = record { verdict = verdict.Inconsistent; blame = key_at cs blame; leaf = None }

abbrev pub RowsTo : List Clause → List FindingLink → List (Option ℕ) → List (Option ℕ) → List (Option ℕ) → List (Option ℕ) → ℕ → List Judged → Type 0
RowsTo cs ws con firm blames leaves n rows = (p : ℕ) → p < n
    → slice_get rows p ≡ Some (row_of cs ws (slice_index_or con p None) (slice_index_or firm p None) (slice_index_or blames p None) (slice_index_or leaves p None))

-- the ends of the steps from the promises so far; those promises' steps lead among them
pub record EndsTo (left : List (Option ℕ)) (steps : List (Option Step)) (front : List ℕ) (ends : List (Option ℕ)) : Type 0 where
  pub each : (p : ℕ) → Contains front p → slice_index_or ends p None ≡ end_by ends (slice_index_or steps p None)
  pub among : (p q : ℕ) → Contains front p → slice_index_or steps p None ≡ Some (Via q) → Contains front q
