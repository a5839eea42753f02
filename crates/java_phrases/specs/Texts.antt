-- Texts of which more than one production speaks.
use Rattle.std.specs.Prelude.{ℕ, List, codes}

-- the number that is written only behind a minus
abbrev pub smallest_digits : List ℕ
smallest_digits = codes "2147483648"

-- the class that a `new` names only where a thread is started
abbrev pub thread_name : List ℕ
thread_name = codes "Thread"
