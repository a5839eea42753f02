-- Which code counts of several: the first in the order of the codes.
use Rattle.std.specs.Prelude.{ℕ, Option, Some, None, nat_le, if◌then◌else◌}
use denote.Enum.Declared.{tag_of}
use Rattle.result_records.specs.declared.code.FindingCode.{FindingCode}
use Rattle.result_records.specs.contracts.code.FindingCode.{the_type}

-- the place of a code among all
abbrev pub rank_of : FindingCode → ℕ
rank_of code = tag_of the_type code

-- the code that counts of two
abbrev pub least : Option FindingCode → Option FindingCode → Option FindingCode
least None b = b
least (Some a) None = Some a
least (Some a) (Some b) = if nat_le (rank_of a) (rank_of b) then Some a else Some b
