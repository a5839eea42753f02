-- How the kinds of promises are written.
use Rattle.std.specs.Prelude.{ℕ, List, codes}
use Rattle.desk_base.specs.declared.key.PromiseName.{PromiseName}
use Rattle.desk_base.specs.declared.key.PromiseName.TheVariants as kind

-- the kind's written name
abbrev pub name_text : PromiseName → List ℕ
name_text kind.Assume = codes "Assume"
name_text kind.Borrowed = codes "Borrowed"
name_text kind.InRegion = codes "InRegion"
name_text kind.Program = codes "Program"
name_text kind.Promise = codes "Promise"
name_text kind.Region = codes "Region"
name_text kind.RegionEffects = codes "RegionEffects"
name_text kind.RegionLock = codes "RegionLock"
name_text kind.RequiresLock = codes "RequiresLock"
name_text kind.Starts = codes "Starts"
name_text kind.Unique = codes "Unique"
name_text kind.Vouch = codes "Vouch"
