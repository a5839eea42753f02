-- Names in the order in which they are first seen.
use Rattle.std.specs.Prelude.{ℕ, Bool, List, [], ◌∷◌, ◌++◌, Option, if◌then◌else◌}
use Rattle.std.specs.List.{list_any, position_from}
use Rattle.std.specs.Str.{bytes_eq}

abbrev pub Name : Type 0
Name = List ℕ

abbrev pub is_name : Name → Name → Bool
is_name name n = bytes_eq n name

-- the place of the first that is the name
abbrev pub place_of : List Name → Name → Option ℕ
place_of names name = position_from (is_name name) 0 names

-- one more stands behind the others, where it isn't among them yet
abbrev pub with_new : List Name → Name → List Name
with_new names name = if list_any (is_name name) names then names else names ++ name ∷ []

abbrev pub seen_after : List Name → List Name → List Name
seen_after before [] = before
seen_after before (n ∷ ns) = seen_after (with_new before n) ns

-- each of the names once, in the order in which they first come
abbrev pub first_seen : List Name → List Name
first_seen names = seen_after [] names
