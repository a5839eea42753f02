-- Whether the regions and the locks of a class are static, by their names.
use Rattle.std.specs.Prelude.{◌≡◌, ℕ, Bool, true, false, List, [], ◌∷◌, Option, Some, None, codes, if◌then◌else◌}
use Rattle.std.specs.Option.{option_or}
use Rattle.std.specs.Str.{bytes_eq}
use Rattle.std.specs.BTreeMap.{BTreeMap}
use Rattle.region_tree.specs.declared.decl.RegionDecl.{RegionDecl}
use Rattle.scrub_rules.specs.Target.{Kinds, kinds_in}
use Rattle.header_scrub.specs.declared.lock.Lock.{Lock}

-- whether the region of a name is static, where there is one: the roots', or the first declared one's
abbrev pub declared_kind : List RegionDecl → Kinds
declared_kind [] name = None
declared_kind (d ∷ ds) name = if bytes_eq d.name name then Some d.is_static else declared_kind ds name

abbrev pub region_kind : List RegionDecl → Kinds
region_kind declared name =
    if bytes_eq name (codes "Instance") then Some false else (
    if bytes_eq name (codes "Static") then Some true else declared_kind declared name)

-- whether the lock of a name is static, where there is one: the first of that name
abbrev pub lock_kind : List Lock → Kinds
lock_kind [] name = None
lock_kind (l ∷ ls) name = if bytes_eq l.name name then Some l.is_static else lock_kind ls name

-- the map has these kinds
pub record HasKinds (known : BTreeMap (List ℕ) Bool) (kinds : Kinds) : Type 0 where
  pub has : (name : List ℕ) → kinds_in known name ≡ kinds name

-- a name that was not there has a kind now, and all others are as before
pub record PutsKind (old new : BTreeMap (List ℕ) Bool) (name : List ℕ) (is_static : Bool) : Type 0 where
  pub puts : (q : List ℕ) → kinds_in new q ≡ option_or (kinds_in old q) (if bytes_eq name q then Some is_static else None)
