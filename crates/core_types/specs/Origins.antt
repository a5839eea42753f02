-- Where the temporaries come from: a temporary is what a local of its call holds (`this` is local 0), or something else.
use Rattle.std.specs.Prelude.{◌≡◌, ℕ, zero, suc, ◌+◌, ◌==◌, ◌||◌, not, Bool, true, false, List, [], ◌∷◌, Option, Some, None, slice_get, is_some, reverse}
use Rattle.core_model.specs.Code.{Code, Do}
use Rattle.core_model.specs.declared.instr.Claim.{Claim}
use Rattle.core_model.specs.declared.instr.Claim.TheVariants as claim
use Rattle.core_model.specs.declared.instr.Known.{Known}
use Rattle.core_model.specs.declared.instr.Known.TheVariants as known
use Rattle.core_model.specs.declared.instr.Note.{Note}
use Rattle.core_model.specs.declared.instr.Plain.{Plain}
use Rattle.core_model.specs.declared.instr.Plain.TheVariants as plain
use Rattle.core_model.specs.declared.program.Program.{Program}
use Rattle.core_model.specs.declared.program.UnitCode.{UnitCode}
use Rattle.core_model.specs.declared.value.Value.{Value}
use Rattle.core_laws.specs.Places.{Always}
use Rattle.core_types.specs.Types.{Ty, Types, of_unit}
use Rattle.core_types.specs.Slots.{Use, Goes, Leaves, Wrong, Uses, need_by, FitsBy}
use Rattle.core_types.specs.Uses.{use_of}

-- the local whose value it is; nothing is known of something else
abbrev pub Origin : Type 0
Origin = Option ℕ

-- what comes from the first may be asked to come from the second
abbrev pub OriginSuits : Origin → Origin → Type 0
OriginSuits given None = Unit {0}
OriginSuits given (Some i) = given ≡ Some i

-- of each unit and place: the origins of a base, a receiver or a started value, and then of the arguments
abbrev pub Operands : Type 0
Operands = ℕ → ℕ → List Origin

abbrev pub first_of : List Origin → Origin
first_of [] = None
first_of (o ∷ os) = o

-- so many of them; those that aren't told are something else
abbrev pub operands_of : ℕ → List Origin → List Origin
operands_of zero os = []
operands_of (suc n) [] = None ∷ operands_of n []
operands_of (suc n) (o ∷ os) = o ∷ operands_of n os

abbrev pub unknown : List Ty → List Origin
unknown [] = []
unknown (t ∷ ts) = None ∷ unknown ts

abbrev pub gives_of : {S : Type 0} → Use S → List S
gives_of (Goes takes gives) = gives
gives_of (Leaves takes) = []
gives_of Wrong = []

abbrev pub takes_of : {S : Type 0} → Use S → List S
takes_of (Goes takes gives) = takes
takes_of (Leaves takes) = takes
takes_of Wrong = []

-- by the origins of the operands, and, for a call, by what the use gives
abbrev pub origin_use : List Origin → List Ty → Plain → Use Origin
origin_use os gives (plain.Const v) = Goes [] (None ∷ [])
origin_use os gives (plain.Get i) = Goes [] (Some i ∷ [])
origin_use os gives (plain.Set i) = Goes (None ∷ []) []
origin_use os gives plain.Drop = Goes (None ∷ []) []
origin_use os gives (plain.Field i) = Goes (first_of os ∷ []) (None ∷ [])
origin_use os gives (plain.FieldKeep i) = Goes (first_of os ∷ []) (None ∷ first_of os ∷ [])
origin_use os gives (plain.PutField i) = Goes (None ∷ first_of os ∷ []) []
origin_use os gives (plain.Static c i) = Goes [] (None ∷ [])
origin_use os gives (plain.PutStatic c i) = Goes (None ∷ []) []
origin_use os gives (plain.Make c n) = Goes (reverse (operands_of n os)) (None ∷ [])
origin_use os gives plain.MakePlain = Goes [] (None ∷ [])
origin_use os gives (plain.Call m n) = Goes (reverse (operands_of (n + 1) os)) (unknown gives)
origin_use os gives (plain.CallStatic c m n) = Goes (reverse (operands_of n os)) (unknown gives)
origin_use os gives (plain.Op o) = Goes (None ∷ None ∷ []) (None ∷ [])
origin_use os gives plain.Neg = Goes (None ∷ []) (None ∷ [])
origin_use os gives plain.Not = Goes (None ∷ []) (None ∷ [])
origin_use os gives plain.Start = Goes (first_of os ∷ []) []
origin_use os gives plain.Return = Leaves []
origin_use os gives plain.ReturnValue = Leaves (None ∷ [])

abbrev pub claim_origin : Claim → Origin
claim_origin (claim.Local i) = Some i
claim_origin _ = None

-- a monitor that is claimed by a local comes from that local
abbrev pub monitor_origin : Known → Origin
monitor_origin (known.Monitor m) = claim_origin m
monitor_origin _ = None

-- slots are origins: what the instructions of unit u use
abbrev pub by_origin : Program → Types → Operands → ℕ → Uses Origin
by_origin p T O u = record {
  use_by = λ (n : Note) (i : Plain). origin_use (O u n.place) (gives_of (use_of p T (of_unit T u) n i)) i;
  flag = None;
  monitor = λ (n : Note). monitor_origin n.known;
  there = λ (c : ℕ). is_some (slice_get p.classes c);
}

-- the origins that are known of the temporaries, k being what is left of a call of unit u
abbrev pub origins : Program → Types → Operands → ℕ → Code → List Origin
origins p T O u k = need_by (by_origin p T O u) k []

abbrev pub asks : ℕ → List Origin → Bool
asks i [] = false
asks i (None ∷ os) = asks i os
asks i (Some j ∷ os) = (j == i) || asks i os

abbrev pub sets_apart : Plain → List Origin → Bool
sets_apart (plain.Set i) os = not (asks i os)
sets_apart _ os = true

-- a local that is set is that of no temporary that waits
abbrev pub is_apart : Program → Types → Operands → ℕ → Code → Bool
is_apart p T O u (Do n i k) = sets_apart i (origins p T O u k)
is_apart p T O u _ = true

-- the code fits the origins that are told
pub record OriginsFit (p : Program) (T : Types) (O : Operands) : Type 0 where
  pub fits : (u : ℕ) (code : UnitCode) → slice_get p.units u ≡ Some code → FitsBy OriginSuits (by_origin p T O u) code.code []
  pub needs : (u : ℕ) (code : UnitCode) → slice_get p.units u ≡ Some code → origins p T O u code.code ≡ []
  pub apart : (u : ℕ) (code : UnitCode) → slice_get p.units u ≡ Some code → Always (λ (k : Code). is_apart p T O u k ≡ true) code.code

-- the value is what the local holds
abbrev pub HasOrigin : List Value → Value → Origin → Type 0
HasOrigin locals v None = Unit {0}
HasOrigin locals v (Some i) = slice_get locals i ≡ Some v

-- the temporaries come from these, one by one
abbrev pub HaveOrigins : List Value → List Value → List Origin → Type 0
HaveOrigins locals [] [] = Unit {0}
HaveOrigins locals [] (o ∷ os) = ⊥
HaveOrigins locals (v ∷ ts) [] = ⊥
HaveOrigins locals (v ∷ ts) (o ∷ os) = HasOrigin locals v o × HaveOrigins locals ts os
