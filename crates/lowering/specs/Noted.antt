-- Claims as they stand in notes.
use Rattle.bound_tree.specs.Claim.{Claim}
use Rattle.bound_tree.specs.Claim as claim
use Rattle.lowering.specs.declared.instr.NamedClaim.{NamedClaim}
use Rattle.lowering.specs.declared.instr.NamedClaim.TheVariants as named

abbrev pub noted_as : Claim → NamedClaim
noted_as (claim.Local x) = named.Local x
noted_as (claim.Field x c f) = named.Field x c f
noted_as (claim.Static c f) = named.Static c f
noted_as (claim.Class c) = named.Class c

abbrev pub claim_in : NamedClaim → Claim
claim_in (named.Local x) = claim.Local x
claim_in (named.Field x c f) = claim.Field x c f
claim_in (named.Static c f) = claim.Static c f
claim_in (named.Class c) = claim.Class c
