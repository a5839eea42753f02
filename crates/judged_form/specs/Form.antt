-- Which types are judged so far.
use Rattle.std.specs.Prelude.{◌≡◌, Bool, true, false, [], All}
use Rattle.desk_base.specs.declared.key.PromiseName.{PromiseName}
use Rattle.desk_base.specs.declared.key.PromiseName.TheVariants as kind
use Rattle.promise_scrub.specs.declared.surface.Standing.{Standing}
use Rattle.promise_scrub.specs.declared.surface.Aside.{Aside}
use Rattle.promise_scrub.specs.declared.surface.Surface.{Surface}

-- the kinds of promises on which no finding is made so far; those about locks and regions are judged
abbrev pub is_unjudged : PromiseName → Bool
is_unjudged kind.Assume = true
is_unjudged kind.Borrowed = true
is_unjudged kind.InRegion = false
is_unjudged kind.Program = false
is_unjudged kind.Promise = false
is_unjudged kind.Region = false
is_unjudged kind.RegionEffects = true
is_unjudged kind.RegionLock = false
is_unjudged kind.RequiresLock = false
is_unjudged kind.Starts = true
is_unjudged kind.Unique = true
is_unjudged kind.Vouch = true

abbrev pub stands_unjudged : Standing → Bool
stands_unjudged promise = is_unjudged promise.key.name

abbrev pub aside_unjudged : Aside → Bool
aside_unjudged promise = is_unjudged promise.key.name

-- all promises of the type are of the other kinds, those that stand and those that are set aside, and it
-- assumes nothing and vouches for nothing
pub record IsJudged (surface : Surface) : Type 0 where
  pub standing : All (λ p. stands_unjudged p ≡ false) surface.standing
  pub aside : All (λ p. aside_unjudged p ≡ false) surface.aside
  pub no_assumption : surface.assumptions ≡ []
  pub no_vouch : surface.vouched ≡ []
