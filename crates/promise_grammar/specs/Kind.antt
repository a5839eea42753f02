-- How the kinds of promises are written.
use Rattle.std.specs.Prelude.{ℕ, List, Option, Some, None, if◌then◌else◌}
use Rattle.std.specs.Str.{bytes_eq}
use Rattle.desk_base.specs.Key.{name_text}
use Rattle.desk_base.specs.declared.key.PromiseName.{PromiseName}
use Rattle.desk_base.specs.declared.key.PromiseName.TheVariants as name
use Rattle.promise_grammar.specs.declared.kind.PromiseKind.{PromiseKind}
use Rattle.promise_grammar.specs.declared.kind.PromiseKind.TheVariants as kind

-- the kind's name among the names of promises
abbrev pub name_of : PromiseKind → PromiseName
name_of kind.Region = name.Region
name_of kind.InRegion = name.InRegion
name_of kind.RegionLock = name.RegionLock
name_of kind.RequiresLock = name.RequiresLock
name_of kind.Unique = name.Unique
name_of kind.Borrowed = name.Borrowed
name_of kind.RegionEffects = name.RegionEffects
name_of kind.Starts = name.Starts
name_of kind.Promise = name.Promise
name_of kind.Assume = name.Assume
name_of kind.Vouch = name.Vouch

-- the kind's written name
abbrev pub kind_text : PromiseKind → List ℕ
kind_text k = name_text (name_of k)

-- ---- the reader

abbrev pub kind_named : List ℕ → Option PromiseKind
kind_named w =
    if bytes_eq w (kind_text kind.Region) then Some kind.Region else (if bytes_eq w (kind_text kind.InRegion) then Some kind.InRegion else (if bytes_eq w (kind_text kind.RegionLock) then Some kind.RegionLock else (
    if bytes_eq w (kind_text kind.RequiresLock) then Some kind.RequiresLock else (if bytes_eq w (kind_text kind.Unique) then Some kind.Unique else (if bytes_eq w (kind_text kind.Borrowed) then Some kind.Borrowed else (
    if bytes_eq w (kind_text kind.RegionEffects) then Some kind.RegionEffects else (if bytes_eq w (kind_text kind.Starts) then Some kind.Starts else (if bytes_eq w (kind_text kind.Promise) then Some kind.Promise else (
    if bytes_eq w (kind_text kind.Assume) then Some kind.Assume else (if bytes_eq w (kind_text kind.Vouch) then Some kind.Vouch else (None)))))))))))
