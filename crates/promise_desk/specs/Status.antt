-- The exit statuses and the lines that go with them.
use Rattle.std.specs.Prelude.{ℕ, List, [], ◌++◌, codes, decimal}
use Rattle.desk_base.specs.Limit.{limit_text, limit_max}
use Rattle.desk_base.specs.declared.limit.LimitName.{LimitName}
use Rattle.java_reader.specs.declared.error.ReadError.{ReadError}
use Rattle.java_reader.specs.declared.error.ReadError.TheVariants as error
use Rattle.promise_desk.specs.declared.status.Status.{Status}
use Rattle.promise_desk.specs.declared.status.Status.TheVariants as status

abbrev pub code_of : Status → ℕ
code_of status.Consistent = 0
code_of status.Inconsistent = 1
code_of status.Usage = 2
code_of status.InputFault = 3
code_of status.OutputFault = 4
code_of status.BadBundle = 6
code_of status.Unreadable = 7
code_of status.DuplicateType = 8
code_of status.Limit = 9
code_of status.Memory = 11

-- the line of a status, where it is always the same
abbrev pub fixed_line : Status → List ℕ
fixed_line status.Usage = codes "usage: promise_desk check | script DB | serve DB PORT COUNT | sample N\n"
fixed_line status.InputFault = codes "input fault\n"
fixed_line status.Memory = codes "memory\n"
fixed_line other = []

-- what is at fault in a file that isn't read; the one limit that a file of no too many bytes passes is
-- that of a name
abbrev pub kind_of : ReadError → List ℕ
kind_of (error.Limit which at) = codes "name"
kind_of (error.Lex at) = codes "lex"
kind_of (error.Grammar at) = codes "grammar"
kind_of error.OutOfMemory = []

abbrev pub place_of : ReadError → ℕ
place_of (error.Limit which at) = at
place_of (error.Lex at) = at
place_of (error.Grammar at) = at
place_of error.OutOfMemory = 0

-- the line that names a file which isn't read, and the place at which it is at fault
abbrev pub unread_line : List ℕ → ReadError → List ℕ
unread_line path why = codes "unreadable " ++ path ++ codes " " ++ kind_of why ++ codes " at " ++ decimal (place_of why) ++ codes "\n"

-- the line that names a file which has a type that isn't judged so far
abbrev pub unfit_line : List ℕ → List ℕ
unfit_line path = codes "unreadable " ++ path ++ codes " form at 0\n"

-- the line that names the place at which bytes stop being a bundle
abbrev pub bad_bundle_line : ℕ → List ℕ
bad_bundle_line at = codes "bad bundle at " ++ decimal at ++ codes "\n"

-- the line of a type whose name is used before: the name, the first file with it, and its own
abbrev pub duplicate_line : List ℕ → List ℕ → List ℕ → List ℕ
duplicate_line name first second = codes "type " ++ name ++ codes " in " ++ first ++ codes " and " ++ second ++ codes "\n"

-- the line of a limit that is passed: its name and the greatest number that is allowed
abbrev pub limit_line : LimitName → List ℕ
limit_line which = codes "limit " ++ limit_text which ++ codes " " ++ decimal (limit_max which) ++ codes "\n"
