-- The limits on the files of a project.
use Rattle.std.specs.Prelude.{nat_lt, List, length, Option, Some, None, if◌then◌else◌}
use Rattle.std.specs.List.{list_any, sum_by}
use Rattle.desk_base.specs.Limit.{limit_max}
use Rattle.desk_base.specs.declared.limit.LimitName.{LimitName}
use Rattle.desk_base.specs.declared.limit.LimitName.TheVariants as limit
use Rattle.bundle.specs.Entry.{Entry}

-- the first limit that is passed of files, file bytes and text bytes
abbrev pub passed_limit : List Entry → Option LimitName
passed_limit files =
    if nat_lt (limit_max limit.Files) (length files) then Some limit.Files else
    (if list_any (λ (e : Entry). nat_lt (limit_max limit.FileBytes) (length e.text)) files then Some limit.FileBytes else
    (if nat_lt (limit_max limit.TextBytes) (sum_by (λ (e : Entry). length e.text) files) then Some limit.TextBytes else None))
