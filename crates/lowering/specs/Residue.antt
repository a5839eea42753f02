-- What core code that is left in a run does, with the claims of the marks that are still to come.
use Rattle.std.specs.Prelude.{ℕ, List, [], ◌∷◌, ◌++◌, Option, Some, None}
use Rattle.core_model.specs.Code.{Code, Done, Do, If, While, Enter, EnterClass, Exit}
use Rattle.core_model.specs.declared.instr.Claim.{Claim}
use Rattle.core_model.specs.declared.instr.Known.{Known}
use Rattle.core_model.specs.declared.instr.Known.TheVariants as known
use Rattle.core_model.specs.declared.instr.Plain.{Plain}
use Rattle.core_model.specs.declared.instr.Plain.TheVariants as plain
use Rattle.bound_tree.specs.Claim.{Claim as TreeClaim}
use Rattle.core_laws.specs.Places.{Each}
use Rattle.lowering.specs.Acts.{Act, Acted, put_act, NamedAct, NamedActed, ReadsField, WritesField, ReadsStatic, WritesStatic, CallsOn, CallsStatic, MakesOf, MakesPlain, StartsThread}
use Rattle.lowering.specs.Numbers.{Numbers, class_number, claim_number, or_empty}

abbrev pub CoreAct : Type 0
CoreAct = Act ℕ

abbrev pub CoreActed : Type 0
CoreActed = Acted ℕ Claim

abbrev pub known_class : Known → Option ℕ
known_class known.Nothing = None
known_class (known.Class c) = Some c
known_class (known.Monitor m) = None

abbrev pub core_act : Known → Plain → Option CoreAct
core_act n (plain.Field f) = Some (ReadsField (known_class n) f)
core_act n (plain.FieldKeep f) = Some (ReadsField (known_class n) f)
core_act n (plain.PutField f) = Some (WritesField (known_class n) f)
core_act n (plain.Static c f) = Some (ReadsStatic c f)
core_act n (plain.PutStatic c f) = Some (WritesStatic c f)
core_act n (plain.Call m k) = Some (CallsOn (known_class n) m k)
core_act n (plain.CallStatic c m k) = Some (CallsStatic c m k)
core_act n (plain.Make c k) = Some (MakesOf c k)
core_act n plain.MakePlain = Some MakesPlain
core_act n plain.Start = Some StartsThread
core_act n _ = None

abbrev pub known_claim : Known → List Claim
known_claim known.Nothing = []
known_claim (known.Class c) = []
known_claim (known.Monitor m) = m ∷ []

abbrev pub core_acts : List Claim → Code → List CoreActed → List CoreActed
core_acts held Done rest = rest
core_acts held (Do n p k) rest = put_act n.place held (core_act n.known p) (core_acts held k rest)
core_acts held (If n a b k) rest = core_acts held a (core_acts held b (core_acts held k rest))
core_acts held (While n c b k) rest = core_acts held c (core_acts held b (core_acts held k rest))
core_acts held (Enter n b k) rest = core_acts (held ++ known_claim n.known) b (core_acts held k rest)
core_acts held (EnterClass n c b k) rest = core_acts (held ++ known_claim n.known) b (core_acts held k rest)
core_acts held (Exit n r k) rest = core_acts held k rest

-- the claims of the marks that are left, outermost first: those of the monitors that the call holds by its own blocks
abbrev pub held_claims : Code → List Claim
held_claims Done = []
held_claims (Do n p k) = held_claims k
held_claims (If n a b k) = held_claims k
held_claims (While n c b k) = held_claims k
held_claims (Enter n b k) = held_claims k
held_claims (EnterClass n c b k) = held_claims k
held_claims (Exit n r k) = held_claims k ++ known_claim n.known

-- what the next instruction does, with the claims of the marks that are left, has Q
abbrev pub Next : (CoreActed → Type 0) → Code → Type 0
Next Q (Do n p k) = Each Q (put_act n.place (held_claims k) (core_act n.known p) [])
Next Q _ = Unit {0}

-- ---- named acts by their numbers

abbrev pub class_if : Numbers → Option (List ℕ) → Option ℕ
class_if r None = None
class_if r (Some c) = r.class c

abbrev pub act_number : Numbers → NamedAct → CoreAct
act_number r (ReadsField c f) = ReadsField (class_if r c) (r.field (or_empty c) f)
act_number r (WritesField c f) = WritesField (class_if r c) (r.field (or_empty c) f)
act_number r (ReadsStatic c f) = ReadsStatic (class_number r c) (r.field c f)
act_number r (WritesStatic c f) = WritesStatic (class_number r c) (r.field c f)
act_number r (CallsOn c m k) = CallsOn (class_if r c) (r.member m) k
act_number r (CallsStatic c m k) = CallsStatic (class_number r c) (r.member m) k
act_number r (MakesOf c k) = MakesOf (class_number r c) k
act_number r MakesPlain = MakesPlain
act_number r StartsThread = StartsThread

abbrev pub claims_numbers : Numbers → List TreeClaim → List Claim
claims_numbers r [] = []
claims_numbers r (m ∷ ms) = claim_number r m ∷ claims_numbers r ms

abbrev pub acted_number : Numbers → NamedActed → CoreActed
acted_number r a = record { at = a.at; act = act_number r a.act; claims = claims_numbers r a.claims }

abbrev pub acted_numbers : Numbers → List NamedActed → List CoreActed
acted_numbers r [] = []
acted_numbers r (a ∷ more) = acted_number r a ∷ acted_numbers r more
