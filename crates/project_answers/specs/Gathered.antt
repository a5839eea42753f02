-- The findings of a project.
use Rattle.std.specs.Prelude.{Bool, true, false, not, List, ◌++◌, filter}
use Rattle.std.specs.List.{flat_map}
use Rattle.std.specs.Ordering.{nat_cmp, is_lt}
use Rattle.std.specs.Cmp.Lexicographic.{slice_cmp}
use Rattle.result_records.specs.declared.code.FindingCode.{FindingCode}
use Rattle.result_records.specs.declared.code.FindingCode.TheVariants as code
use Rattle.result_records.specs.declared.finding.Finding.{Finding}
use Rattle.finding_order.specs.Order.{ordered, promise_cmp}
use Rattle.project_answers.specs.declared.sited.Site.{Site}
use Rattle.project_answers.specs.declared.sited.Sited.{Sited}
use Rattle.project_answers.specs.declared.gather.UnitFound.{UnitFound}

abbrev pub finding_of : Sited → Finding
finding_of s = s.finding

abbrev pub site_of : Sited → Site
site_of s = s.site

abbrev pub is_standing_code : FindingCode → Bool
is_standing_code code.Standing = true
is_standing_code kind = false

-- it says that a promise is one of the project, and no more
abbrev pub is_standing : Sited → Bool
is_standing s = is_standing_code s.finding.key.code

abbrev pub says_more : Sited → Bool
says_more s = not (is_standing s)

-- units by the bytes of their keys
abbrev pub unit_before : UnitFound → UnitFound → Bool
unit_before a b = is_lt (slice_cmp nat_cmp a.key b.key)

-- findings by their promises
abbrev pub first_before : Sited → Sited → Bool
first_before a b = is_lt (promise_cmp a.finding.key.on b.finding.key.on)

-- the findings of units, one unit after another
abbrev pub all_found : List UnitFound → List Sited
all_found units = flat_map (λ (u : UnitFound). u.found.items) units

-- those that make a promise rest on the project, by promise; then all others, by unit
abbrev pub project_findings : List UnitFound → List Sited
project_findings units =
    ordered first_before (filter is_standing (all_found (ordered unit_before units)))
    ++ filter says_more (all_found (ordered unit_before units))
