-- Maps from names to numbers.
use Rattle.std.specs.Prelude.{◌≡◌, ℕ, List, map, Option, Some, None, if◌then◌else◌}
use Rattle.std.specs.Option.{option_or}
use Rattle.std.specs.Ordering.{nat_cmp}
use Rattle.std.specs.Cmp.Lexicographic.{slice_cmp}
use Rattle.std.specs.Borrow.{Bor}
use Rattle.std.specs.BTreeMap.{BTreeMap, get_by}
use Rattle.std.specs.Str.{bytes_eq}
use Rattle.program_maker.specs.Seen.{Name, place_of}
use Rattle.program_maker.specs.declared.numbering.SeenNames.{SeenNames}

-- the names that are lent
abbrev pub lent : List (Bor Name) → List Name
lent names = map (λ (b : Bor Name). b.now) names

-- the number that the map has at the name
abbrev pub number_at : BTreeMap (Bor Name) ℕ → Name → Option ℕ
number_at numbers name = get_by (λ (k : Bor Name). slice_cmp nat_cmp name k.now) numbers

-- a name that was not there has the number now, and all others are as before
pub record PutsFirst (old new : BTreeMap (Bor Name) ℕ) (name : Name) (number : ℕ) : Type 0 where
  pub puts : (q : Name) → number_at new q ≡ option_or (number_at old q) (if bytes_eq name q then Some number else None)

-- each name has this number
pub record HasNumbers (numbers : BTreeMap (Bor Name) ℕ) (number : Name → Option ℕ) : Type 0 where
  pub has : (q : Name) → number_at numbers q ≡ number q

-- what is kept of names that were seen: these, each with the place at which it stands first
pub record AreSeen (kept : SeenNames) (list : List Name) : Type 0 where
  pub names : lent kept.names ≡ list
  pub numbers : HasNumbers kept.numbers (place_of list)
