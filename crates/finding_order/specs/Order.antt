-- The order of the findings of a unit: by place, then by code, then by promise. Those that are alike in
-- all three stay in the order in which they were made.
use Rattle.std.specs.Prelude.{Bool, List, [], ◌∷◌, if◌then◌else◌}
use Rattle.std.specs.declared.cmp.Ordering.{Ordering}
use Rattle.std.specs.Ordering.{is_lt, nat_cmp, ordering_then}
use Rattle.desk_base.specs.declared.key.PromiseKey.{PromiseKey}
use Rattle.desk_base.specs.contracts.key.PromiseKeyOrd.TheImpl as key_ord
use Rattle.result_records.specs.declared.code.FindingCode.{FindingCode}
use Rattle.result_records.specs.contracts.code.FindingCodeOrd.TheImpl as code_ord
use Rattle.result_records.specs.declared.finding.Finding.{Finding}

-- promises by target, kind and detail
abbrev pub promise_cmp : PromiseKey → PromiseKey → Ordering
promise_cmp = (key_ord.ghosts).cmp

-- codes by the bytes of what is printed for them
abbrev pub code_cmp : FindingCode → FindingCode → Ordering
code_cmp = (code_ord.ghosts).cmp

abbrev pub finding_cmp : Finding → Finding → Ordering
finding_cmp a b =
    ordering_then (nat_cmp a.place b.place) (ordering_then (code_cmp a.key.code b.key.code) (promise_cmp a.key.on b.key.on))

abbrev pub is_before : Finding → Finding → Bool
is_before a b = is_lt (finding_cmp a b)

-- one among such that are in order and stood behind it: behind those that come before it
abbrev pub put : {X : Type 0} → (X → X → Bool) → X → List X → List X
put before x [] = x ∷ []
put before x (y ∷ ys) = if before y x then y ∷ put before x ys else x ∷ y ∷ ys

abbrev pub ordered : {X : Type 0} → (X → X → Bool) → List X → List X
ordered before [] = []
ordered before (x ∷ xs) = put before x (ordered before xs)

-- the findings of a unit in order
abbrev pub in_place : List Finding → List Finding
in_place findings = ordered is_before findings
