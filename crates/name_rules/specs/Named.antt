-- Where the names in scope stand.
use Rattle.std.specs.Prelude.{◌≡◌, ℕ, Option, Some, List}
use Rattle.std.specs.List.{slice_get}
use Rattle.std.specs.Ordering.{nat_cmp}
use Rattle.std.specs.Cmp.Lexicographic.{slice_cmp}
use Rattle.std.specs.BTreeMap.{BTreeMap, get}
use Rattle.name_rules.specs.declared.scope.Entry.{Entry}
use Rattle.name_rules.specs.Types.{Name}

abbrev pub place_at : BTreeMap Name ℕ → Name → Option ℕ
place_at places name = get (slice_cmp nat_cmp) places name

-- each name in scope has its place in the map
pub record IsNamed (places : BTreeMap Name ℕ) (scope : List Entry) : Type 0 where
  pub stands : (i : ℕ) (e : Entry) → slice_get scope i ≡ Some e → place_at places e.name ≡ Some i
