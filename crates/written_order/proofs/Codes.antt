-- The order of codes.
use Rattle.std.proofs.Common.{◌≡◌, refl}
use Rattle.std.specs.Ordering.{nat_cmp}
use Rattle.std.specs.Cmp.Lexicographic.{slice_cmp}
use Rattle.result_records.specs.Code.{code_bytes}
use Rattle.result_records.specs.declared.code.FindingCode.{FindingCode}
use Rattle.result_records.specs.declared.code.FindingCode.TheVariants as code
use Rattle.finding_order.specs.Order.{code_cmp}

-- each code beside the first, and beside all others
pub codes_as_written : (a b : FindingCode) → code_cmp a b ≡ slice_cmp nat_cmp (code_bytes a) (code_bytes b)
codes_as_written code.UnknownType code.UnknownType = refl
codes_as_written code.RepeatedMember code.UnknownType = refl
codes_as_written code.BadImplements code.UnknownType = refl
codes_as_written code.UnboundName code.UnknownType = refl
codes_as_written code.UnknownMember code.UnknownType = refl
codes_as_written code.WrongType code.UnknownType = refl
codes_as_written code.StaticUse code.UnknownType = refl
codes_as_written code.FinalWrite code.UnknownType = refl
codes_as_written code.BadReturn code.UnknownType = refl
codes_as_written code.BadStart code.UnknownType = refl
codes_as_written code.RepeatedLocal code.UnknownType = refl
codes_as_written code.BadAssume code.UnknownType = refl
codes_as_written code.ReadOutsideEffects code.UnknownType = refl
codes_as_written code.WriteOutsideEffects code.UnknownType = refl
codes_as_written code.CallOutsideEffects code.UnknownType = refl
codes_as_written code.MoreEffectsThanInterface code.UnknownType = refl
codes_as_written code.UnguardedRead code.UnknownType = refl
codes_as_written code.UnguardedWrite code.UnknownType = refl
codes_as_written code.UnlockedCall code.UnknownType = refl
codes_as_written code.MoreLocksThanInterface code.UnknownType = refl
codes_as_written code.LockedMain code.UnknownType = refl
codes_as_written code.GuardedUnique code.UnknownType = refl
codes_as_written code.AbsentName code.UnknownType = refl
codes_as_written code.Standing code.UnknownType = refl
codes_as_written code.BadContent code.UnknownType = refl
codes_as_written code.BadPlace code.UnknownType = refl
codes_as_written code.NameUsedTwice code.UnknownType = refl
codes_as_written code.UnknownRegion code.UnknownType = refl
codes_as_written code.RegionCycle code.UnknownType = refl
codes_as_written code.MixedKinds code.UnknownType = refl
codes_as_written code.BadLockField code.UnknownType = refl
codes_as_written code.OverlappingRegions code.UnknownType = refl
codes_as_written code.UnknownLock code.UnknownType = refl
codes_as_written code.RepeatedPromise code.UnknownType = refl
codes_as_written code.AssignedParameter code.UnknownType = refl
codes_as_written code.ThreadStart code.UnknownType = refl
codes_as_written code.StartingCall code.UnknownType = refl
codes_as_written code.StartsUnlikeInterface code.UnknownType = refl
codes_as_written code.ValueNotUnique code.UnknownType = refl
codes_as_written code.ArgumentNotUnique code.UnknownType = refl
codes_as_written code.ResultNotUnique code.UnknownType = refl
codes_as_written code.LentFurther code.UnknownType = refl
codes_as_written code.UniqueTakenOut code.UnknownType = refl
codes_as_written code.UniqueHoldsUnique code.UnknownType = refl
codes_as_written code.UniqueLent code.UnknownType = refl
codes_as_written code.NotKeptByClass code.UnknownType = refl
codes_as_written code.AsksMoreThanInterface code.UnknownType = refl
codes_as_written code.NotOfClassType code.UnknownType = refl
codes_as_written a b = refl
