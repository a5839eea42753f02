-- Cases whose numbers are those of promises.
use Rattle.std.specs.Prelude.{ℕ, ◌&&◌, Bool, true, List, Vec, nat_lt}
use Rattle.std.specs.List.{list_all}
use Rattle.std.specs.Global.{Global}
use Rattle.consistency_cases.specs.declared.case.Case.{Case}
use Rattle.consistency_cases.specs.declared.case.Link.{Link}
use Rattle.consistency_cases.specs.declared.case.Link.TheVariants.{Promise, Word}

-- the link is to one of n promises, or to a word
abbrev pub link_in : ℕ → Link → Bool
link_in n (Promise p) = nat_lt p n
link_in n (Word w) = true

abbrev pub way_in : ℕ → List Link → Bool
way_in n links = list_all (λ l. link_in n l) links

abbrev pub ways_in : ℕ → List (Vec Link Global) → Bool
ways_in n ways = list_all (λ (way : Vec Link Global). way_in n way.items) ways

-- the finding is on one of n promises, and links to those alone
abbrev pub case_in : ℕ → Case → Bool
case_in n c = nat_lt c.on n && ways_in n c.ways.items

abbrev pub cases_in : ℕ → List Case → Bool
cases_in n cs = list_all (λ (c : Case). case_in n c) cs
