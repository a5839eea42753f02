-- The numbers of the findings of a unit: each counts, from 1, those of its code and promise up to itself.
use Rattle.std.specs.Prelude.{◌≡◌, ℕ, ◌+◌, Bool, List, [], ◌∷◌, ◌++◌, count_by, unwrap_or}
use Rattle.std.specs.Ordering.{is_eq, ordering_then}
use Rattle.std.specs.declared.cmp.Ordering.{Ordering}
use Rattle.std.specs.BTreeMap.{BTreeMap, get}
use Rattle.result_records.specs.declared.finding.Finding.{Finding}
use Rattle.finding_order.specs.declared.number.Group.{Group}
use Rattle.finding_order.specs.Order.{code_cmp, promise_cmp, in_place}

-- a finding's code and promise
abbrev pub group_of : Finding → Group
group_of f = record { code = f.key.code; on = f.key.on }

abbrev pub group_cmp : Group → Group → Ordering
group_cmp a b = ordering_then (code_cmp a.code b.code) (promise_cmp a.on b.on)

-- one code and one promise
abbrev pub same_group : Group → Group → Bool
same_group a b = is_eq (group_cmp a b)

-- how many of the findings are of the code and promise
abbrev pub times : List Finding → Group → ℕ
times findings group = count_by (λ f. same_group (group_of f) group) findings

abbrev pub with_number : Finding → ℕ → Finding
with_number f n = record f { key = record f.key { number = n } }

-- the findings, behind those that are numbered already
abbrev pub numbered_after : List Finding → List Finding → List Finding
numbered_after before [] = []
numbered_after before (f ∷ fs) = with_number f (times before (group_of f) + 1) ∷ numbered_after (before ++ f ∷ []) fs

-- The findings of a unit in their order, with their numbers.
abbrev pub in_order : List Finding → List Finding
in_order findings = numbered_after [] (in_place findings)

-- how often the map has the code and promise
abbrev pub count_in : BTreeMap Group ℕ → Group → ℕ
count_in map group = unwrap_or (get group_cmp map group) 0

-- the map has how many of these findings are of each code and promise
pub record Counts (map : BTreeMap Group ℕ) (findings : List Finding) : Type 0 where
  pub counts : (group : Group) → count_in map group ≡ times findings group

-- the map has one more of the code and promise, and k is how many there are now
pub record Counted (map : BTreeMap Group ℕ) (before : List Finding) (group : Group) (k : ℕ) : Type 0 where
  pub counts : (f : Finding) → group_of f ≡ group → Counts map (before ++ f ∷ [])
  pub number : k ≡ times before group + 1

-- the next finding, counted, has its number
pub record Numbered (map : BTreeMap Group ℕ) (before : List Finding) (finding done : Finding) : Type 0 where
  pub counts : Counts map (before ++ finding ∷ [])
  pub is : done ≡ with_number finding (times before (group_of finding) + 1)
