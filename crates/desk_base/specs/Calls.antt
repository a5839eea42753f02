-- Which calls fail, by their numbers, and how many have failed.
use Rattle.std.specs.Prelude.{Option, Some, None, ℕ, zero, suc, ◌+◌, ◌==◌, Bool, true, false, List, [], ◌∷◌, if◌then◌else◌}
use Rattle.std.specs.List.{list_any}
use Rattle.desk_base.specs.Fault.{last_count}

-- the list has nothing in it
abbrev pub is_nil : List ℕ → Bool
is_nil [] = true
is_nil (x ∷ xs) = false

-- the number of the call after so many calls; after the last number calls have none
abbrev pub next_call : ℕ → ℕ
next_call calls = if calls == last_count then calls else calls + 1

-- how many of the first calls were to fail
abbrev pub faults_before : List ℕ → ℕ → ℕ
faults_before fails zero = 0
faults_before fails (suc n) = faults_before fails n + (if list_any (λ f. f == suc n) fails then 1 else 0)

-- a sink that fails at none of its calls by number takes what it has room for
abbrev pub room_of : List ℕ → ℕ → Option ℕ
room_of [] room = Some room
room_of (f ∷ fails) room = None

-- which calls are to fail, by their numbers from 1, and how many were made
pub record Script : Type 0 where
  pub fails : List ℕ
  pub made : ℕ

-- whether the next call is to fail: a call after the last number has none
abbrev pub fails_next : Script → Bool
fails_next script = if script.made == last_count then false else list_any (λ f. f == script.made + 1) script.fails

-- how many of the calls made failed by their numbers
abbrev pub faults_told : Script → ℕ
faults_told script = faults_before script.fails script.made

-- the script after one call more
abbrev pub after_call : Script → Script
after_call script = record { fails = script.fails; made = next_call script.made }

-- an input in memory: the bytes that are left, and its script
pub record MemInput : Type 0 where
  pub left : List ℕ
  pub script : Script

-- an output in memory: the bytes written, the room that is left, its script, and how many calls
-- found no room
pub record MemOutput : Type 0 where
  pub written : List ℕ
  pub room : ℕ
  pub script : Script
  pub full : ℕ
