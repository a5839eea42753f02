-- The bind findings of a unit, of what is told of it: in order of places, at one place at most one, of the
-- first code, each with its number among those of its code.
use Rattle.std.specs.Prelude.{ℕ, ◌-◌, ◌==◌, Bool, true, false, List, [], ◌∷◌, codes, Option, Some, None, if◌then◌else◌}
use Rattle.std.specs.List.{flat_map, slice_get}
use Rattle.desk_base.specs.declared.key.PromiseKey.{PromiseKey}
use Rattle.desk_base.specs.declared.key.PromiseName.TheVariants as kind
use Rattle.java_tree.specs.declared.token.Token.{Token}
use Rattle.class_faces.specs.Keys.{text_of}
use Rattle.result_records.specs.declared.code.FindingCode.{FindingCode}
use Rattle.result_records.specs.declared.code.FindingCode.TheVariants as code
use Rattle.result_records.specs.declared.finding.Finding.{Finding}
use Rattle.finding_order.specs.Numbers.{in_order}
use Rattle.name_rules.specs.declared.note.Note.{Note}
use Rattle.name_rules.specs.declared.note.Note.TheVariants as note

abbrev pub program_key : PromiseKey
program_key = record { target = []; name = kind.Program; detail = [] }

abbrev pub bytes_if_any : Option Token → List ℕ
bytes_if_any None = []
bytes_if_any (Some t) = t.bytes

-- the token of a number, from 1, as it is written
abbrev pub token_text : List Token → ℕ → List ℕ
token_text tokens at = text_of (bytes_if_any (slice_get tokens (at - 1)))

abbrev pub is_assume : FindingCode → Bool
is_assume code.BadAssume = true
is_assume _ = false

abbrev pub subject_of : List Token → FindingCode → ℕ → List ℕ
subject_of tokens c at = if is_assume c then codes "Assume" else token_text tokens at

-- a finding on `Program`, which nothing makes hold
abbrev pub fault : (key : List ℕ) → List Token → FindingCode → ℕ → Finding
fault key tokens c at = record {
  key = record { code = c; number = 0; unit = key; on = program_key };
  place = at;
  subject = subject_of tokens c at;
  alternatives = [];
}

abbrev pub told_fault : (key : List ℕ) → List Token → Note → List Finding
told_fault key tokens (note.Finding c at) = fault key tokens c at ∷ []
told_fault key tokens (note.Names n) = []
told_fault key tokens (note.Calls c name count) = []

-- of findings in order the first at each place, but none at that one
abbrev pub firsts_after : ℕ → List Finding → List Finding
firsts_after at [] = []
firsts_after at (f ∷ fs) = if f.place == at then firsts_after at fs else f ∷ firsts_after f.place fs

-- places are from 1
abbrev pub firsts : List Finding → List Finding
firsts fs = firsts_after 0 fs

-- Faults: the bind findings of a unit.
abbrev pub faults : (key : List ℕ) → List Token → List Note → List Finding
faults key tokens notes = in_order (firsts (in_order (flat_map (told_fault key tokens) notes)))
