-- What code does at places that findings name: reads and writes of fields, calls, `new` and starts, each with the claims of the
-- monitors that its code holds there.
use Rattle.std.specs.Prelude.{ℕ, Bool, false, List, [], ◌∷◌, ◌++◌, Option, Some, None, if◌then◌else◌, codes}
use Rattle.std.specs.Str.{bytes_eq}
use Rattle.bound_tree.specs.Claim.{Claim}
use Rattle.bound_tree.specs.declared.unit.Part.{Part}
use Rattle.bound_tree.specs.declared.unit.Part.TheVariants as part
use Rattle.bound_tree.specs.Reading.{statement_of}
use Rattle.bound_tree.specs.Places.{Place, What, Reads, Writes, Calls, Makes, Starts, Locks, Flows, Of, OfClass}
use Rattle.bound_tree.specs.Claims.{claims_of, varies_of}
use Rattle.lowering.specs.declared.instr.NamedKnown.{NamedKnown}
use Rattle.lowering.specs.declared.instr.NamedKnown.TheVariants as known
use Rattle.lowering.specs.declared.instr.NamedPlain.{NamedPlain}
use Rattle.lowering.specs.declared.instr.NamedPlain.TheVariants as plain
use Rattle.lowering.specs.Noted.{claim_in}
use Rattle.lowering.specs.Code.{Code, Done, Do, If, While, Enter, EnterClass}
use Rattle.lowering.specs.Lower.{count}

-- what is done, `N` being what stands for names: a field's read or write has its class, and a call the static class of its
-- receiver, where one is noted; a call and a `new` have the number of arguments
pub data Act (N : Type 0) : Type 0 where
  ReadsField : Option N → N → Act N
  WritesField : Option N → N → Act N
  ReadsStatic : N → N → Act N
  WritesStatic : N → N → Act N
  CallsOn : Option N → N → ℕ → Act N
  CallsStatic : N → N → ℕ → Act N
  MakesOf : N → ℕ → Act N
  MakesPlain : Act N
  StartsThread : Act N

-- at a place, with the claims around it, outermost first, `M` being what claims are
pub record Acted (N M : Type 0) : Type 0 where
  pub at : ℕ
  pub act : Act N
  pub claims : List M

-- one more in front of the others, where there is one
abbrev pub put_act : {N M : Type 0} → ℕ → List M → Option (Act N) → List (Acted N M) → List (Acted N M)
put_act p held None rest = rest
put_act p held (Some a) rest = record { at = p; act = a; claims = held } ∷ rest

abbrev pub NamedAct : Type 0
NamedAct = Act (List ℕ)

abbrev pub NamedActed : Type 0
NamedActed = Acted (List ℕ) Claim

-- ---- of code

-- the class that is noted
abbrev pub noted : NamedKnown → Option (List ℕ)
noted known.Nothing = None
noted (known.Class c) = Some c
noted (known.Monitor m) = None

abbrev pub act_of : NamedKnown → NamedPlain → Option NamedAct
act_of n (plain.Field f) = Some (ReadsField (noted n) f)
act_of n (plain.FieldKeep f) = Some (ReadsField (noted n) f)
act_of n (plain.PutField f) = Some (WritesField (noted n) f)
act_of n (plain.Static c f) = Some (ReadsStatic c f)
act_of n (plain.PutStatic c f) = Some (WritesStatic c f)
act_of n (plain.Call m k) = Some (CallsOn (noted n) m k)
act_of n (plain.CallStatic c m k) = Some (CallsStatic c m k)
act_of n (plain.Make c k) = Some (MakesOf c k)
act_of n plain.MakePlain = Some MakesPlain
act_of n plain.Start = Some StartsThread
act_of n _ = None

abbrev pub noted_claim : NamedKnown → List Claim
noted_claim known.Nothing = []
noted_claim (known.Class c) = []
noted_claim (known.Monitor m) = claim_in m ∷ []

-- those of the code in its order, where monitors of the claims `held` stand around all of it, and then the others
abbrev pub code_acts : List Claim → Code → List NamedActed → List NamedActed
code_acts held Done rest = rest
code_acts held (Do n p k) rest = put_act n.place held (act_of n.known p) (code_acts held k rest)
code_acts held (If n a b k) rest = code_acts held a (code_acts held b (code_acts held k rest))
code_acts held (While n c b k) rest = code_acts held c (code_acts held b (code_acts held k rest))
code_acts held (Enter n b k) rest = code_acts (held ++ noted_claim n.known) b (code_acts held k rest)
code_acts held (EnterClass n c b k) rest = code_acts (held ++ noted_claim n.known) b (code_acts held k rest)

abbrev pub acts_in : Code → List NamedActed
acts_in k = code_acts [] k []

-- ---- of the tree, as far as code shows it

abbrev pub makes_act : List ℕ → ℕ → NamedAct
makes_act c n = if bytes_eq c (codes "Object") then MakesPlain else MakesOf c n

-- a monitor that is named and a value that goes somewhere are no steps of their own
abbrev pub act_at : What → Option NamedAct
act_at (Reads f (Of b)) = Some (ReadsField (Some f.class) f.name)
act_at (Reads f OfClass) = Some (ReadsStatic f.class f.name)
act_at (Writes f (Of b)) = Some (WritesField (Some f.class) f.name)
act_at (Writes f OfClass) = Some (WritesStatic f.class f.name)
act_at (Calls m (Of r) es) = Some (CallsOn (Some m.class) m.name (count es))
act_at (Calls m OfClass es) = Some (CallsStatic m.class m.name (count es))
act_at (Makes c es) = Some (makes_act c (count es))
act_at (Starts v) = Some StartsThread
act_at (Locks v) = None
act_at (Flows v g) = None

-- those of places, where monitors of the claims `held` stand around them all, and then the others
abbrev pub place_acts : (ℕ → Bool) → List Claim → List Place → List NamedActed → List NamedActed
place_acts varies held [] rest = rest
place_acts varies held (p ∷ ps) rest =
    put_act p.at (held ++ claims_of varies p.around) (act_at p.what) (place_acts varies held ps rest)

-- the locals that are assigned in a unit
abbrev pub part_varies : Part → ℕ → Bool
part_varies (part.Body b) = varies_of (statement_of b.block)
part_varies _ = λ (x : ℕ). false
