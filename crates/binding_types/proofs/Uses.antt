-- A use of what has a declared type that is there, without a finding, is one.
use Rattle.std.proofs.Common.{◌≡◌, ℕ, refl, Bool, true, false, if◌then◌else◌, Option, Some, None}
use Rattle.bound_tree.proofs.Tests.{false-true}
use Rattle.class_faces.specs.declared.face.FaceTy.{FaceTy}
use Rattle.name_rules.specs.declared.uses.Use.{Use}
use Rattle.name_rules.specs.declared.uses.Use.TheVariants as usage
use Rattle.name_rules.specs.Types.{Types, is_known}
use Rattle.name_rules.specs.Places.{judged, use_of, use_notes}
use Rattle.typed_units.specs.Named.{is_known_result}
use Rattle.binding_types.specs.Silent.{Silent}

-- it is in its place, and can be used
pub record IsUsed (misused : Bool) (u : Use) : Type 0 where
  pub placed : misused ≡ false
  pub is : u ≡ usage.Used

judged-used : (at : ℕ) (b : Bool) → Silent (use_notes at (judged b)) → IsUsed b (judged b)
judged-used at true s = absurd s
judged-used at false s = record { placed = refl; is = refl }

known-used : (at : ℕ) (k b : Bool) → k ≡ true → Silent (use_notes at (if k then judged b else usage.Unjudged)) → IsUsed b (if k then judged b else usage.Unjudged)
known-used at true b known s = judged-used at b s
known-used at false b known s = false-true known

pub use_used : (types : Types) (at : ℕ) (misused : Bool) (given : Option FaceTy) → is_known_result types given ≡ true
    → Silent (use_notes at (use_of types misused given)) → IsUsed misused (use_of types misused given)
use_used types at misused None known s = judged-used at misused s
use_used types at misused (Some ty) known s = known-used at (is_known types ty) misused known s
