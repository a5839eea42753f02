-- Calls that can go on, as code goes on and as objects change.
use Rattle.std.proofs.Common.{◌≡◌, ℕ, Bool, true, false, List, [], ◌∷◌, Option, Some, None, slice_get, refl}
use Rattle.core_model.specs.Code.{Code}
use Rattle.core_model.specs.declared.program.Program.{Program}
use Rattle.core_model.specs.declared.object.Obj.{Obj}
use Rattle.core_model.specs.declared.config.Call.{Call}
use Rattle.core_model.specs.declared.config.Gives.{Gives}
use Rattle.core_model.specs.declared.config.Gives.TheVariants.{Own, Object}
use Rattle.core_model.specs.declared.config.Mode.{Mode}
use Rattle.core_model.specs.declared.config.Mode.TheVariants as mode
use Rattle.core_model.specs.declared.config.Thread.{Thread}
use Rattle.core_model.specs.declared.value.Value.{Value}
use Rattle.core_model.specs.declared.value.Value.TheVariants as value
use Rattle.core_laws.specs.Places.{Each}
use Rattle.core_types.specs.Types.{Ty, Types, of_unit, locals_of}
use Rattle.core_types.specs.Need.{Fits}
use Rattle.core_types.specs.Paths.{reads, ends, true_on_top}
use Rattle.core_types.specs.Programs.{Returns}
use Rattle.core_types.specs.Configs.{LocalFits, IsGoing, need_in, result_in, AwaitsType, Awaits, known_beneath, BeneathFit, ResultFits, CallsFit, ThreadFits}
use Rattle.core_types.proofs.Widening.{Grows, belongs-grows, all-grow}
use Rattle.core_types.proofs.Codes.{ends-known}
use Rattle.core_types.proofs.Numbers.{temps-there-grow}

-- ---- code goes on

unless : (x y : Bool) → (y ≡ true → x ≡ true) → x ≡ false → y ≡ false
unless x true f e = absurd (let t : x ≡ true = f refl in let no : ⊥ = cc in no)
unless x false f e = refl

pub returns-on : (r : Option Ty) (known now : Bool) (k l : Code) → (ends now l true ≡ true → ends known k true ≡ true)
    → Returns r known k → Returns r now l
returns-on None known now k l f h = tt
returns-on (Some t) known now k l f h = unless (ends known k true) (ends now l true) f h

pub returns-known : (r : Option Ty) (known : Bool) (k : Code) → Returns r false k → Returns r known k
returns-known r known k h = returns-on r false known k k (ends-known known k true) h

-- the call with other code, whatever its temporaries
pub going-on : (p : Program) (T : Types) (os : List Obj) (c : Call) (known now : Bool) (k : Code) (ts : List Value)
    → Fits p T (of_unit T c.unit) k []
    → ((i : ℕ) → reads i k false ≡ true → reads i c.rest false ≡ true)
    → (ends now k true ≡ true → ends known c.rest true ≡ true)
    → IsGoing p T os known c → IsGoing p T os now (record c { rest = k; temps = ts })
going-on p T os c known now k ts fits reads-less ends-less g = record {
  fits = fits;
  long = g.long;
  locals = λ i h. g.locals i (reads-less i h);
  returns = returns-on (of_unit T c.unit).result known now c.rest k ends-less g.returns;
}

pub going-known : (p : Program) (T : Types) (os : List Obj) (c : Call) (known : Bool) (ts : List Value)
    → IsGoing p T os false c → IsGoing p T os known (record c { temps = ts })
going-known p T os c known ts g = record {
  fits = g.fits;
  long = g.long;
  locals = g.locals;
  returns = returns-known (of_unit T c.unit).result known c.rest g.returns;
}

pub going-same : (p : Program) (T : Types) (os : List Obj) (c : Call) (known : Bool) (ts : List Value)
    → IsGoing p T os known c → IsGoing p T os known (record c { temps = ts })
going-same p T os c known ts g = record { fits = g.fits; long = g.long; locals = g.locals; returns = g.returns }

-- ---- objects change

local-grows : (T : Types) (os ns : List Obj) (v : Option Value) (t : Option Ty) → Grows os ns → LocalFits T os v t → LocalFits T ns v t
local-grows T os ns None t g h = absurd h
local-grows T os ns (Some v) None g h = absurd h
local-grows T os ns (Some v) (Some t) g h = belongs-grows T os ns v t g h

pub going-grows : (p : Program) (T : Types) (os ns : List Obj) (known : Bool) (c : Call) → Grows os ns → IsGoing p T os known c → IsGoing p T ns known c
going-grows p T os ns known c g h = record {
  fits = h.fits;
  long = h.long;
  locals = λ i r. local-grows T os ns (slice_get c.locals i) (slice_get (locals_of (of_unit T c.unit)) i) g (h.locals i r);
  returns = h.returns;
}

awaits-type-grows : (T : Types) (os ns : List Obj) (t : Ty) (ts : List Value) (l : List Ty) → Grows os ns → AwaitsType T os t ts l → AwaitsType T ns t ts l
awaits-type-grows T os ns t ts [] g h = absurd h
awaits-type-grows T os ns t ts (n ∷ l) g h = (h.0, all-grow T os ns ts l g h.1)

awaits-grows : (T : Types) (os ns : List Obj) (w : Gives) (r : Option Ty) (ts : List Value) (l : List Ty) → Grows os ns → Awaits T os w r ts l → Awaits T ns w r ts l
awaits-grows T os ns Own None ts l g h = all-grow T os ns ts l g h
awaits-grows T os ns Own (Some t) ts l g h = awaits-type-grows T os ns t ts l g h
awaits-grows T os ns (Object q) r ts [] g h = absurd h
awaits-grows T os ns (Object q) r ts (n ∷ l) g h = (belongs-grows T os ns (value.Ref q) n g h.0, all-grow T os ns ts l g h.1)

pub beneath-grows : (p : Program) (T : Types) (os ns : List Obj) (w : Gives) (r : Option Ty) (cs : List Call) → Grows os ns
    → BeneathFit p T os w r cs → BeneathFit p T ns w r cs
beneath-grows p T os ns w r [] g h = tt
beneath-grows p T os ns w r (c ∷ cs) g h = (
  going-grows p T os ns (known_beneath w r c.temps) c g h.0,
  awaits-grows T os ns w r c.temps (need_in p T c) g h.1,
  beneath-grows p T os ns c.gives (result_in T c) cs g h.2,
)

pub result-grows : (T : Types) (os ns : List Obj) (t : Option Ty) (v : Option Value) → Grows os ns → ResultFits T os t v → ResultFits T ns t v
result-grows T os ns None None g h = tt
result-grows T os ns None (Some v) g h = absurd h
result-grows T os ns (Some t) None g h = absurd h
result-grows T os ns (Some t) (Some v) g h = belongs-grows T os ns v t g h

calls-grow : (p : Program) (T : Types) (os ns : List Obj) (m : Mode) (cs : List Call) → Grows os ns → CallsFit p T os m cs → CallsFit p T ns m cs
calls-grow p T os ns mode.Running [] g h = absurd h
calls-grow p T os ns mode.Running (c ∷ cs) g h = (
  (going-grows p T os ns (true_on_top c.temps) c g h.0.0, all-grow T os ns c.temps (need_in p T c) g h.0.1),
  beneath-grows p T os ns c.gives (result_in T c) cs g h.1,
)
calls-grow p T os ns (mode.Leaving v) [] g h = absurd h
calls-grow p T os ns (mode.Leaving v) (c ∷ cs) g h =
    (result-grows T os ns (result_in T c) v g h.0, h.1, beneath-grows p T os ns c.gives (result_in T c) cs g h.2)
calls-grow p T os ns mode.Ending [] g h = absurd h
calls-grow p T os ns mode.Ending (c ∷ cs) g h = (h.0, temps-there-grow T os ns cs g h.1)
calls-grow p T os ns mode.Over [] g h = tt
calls-grow p T os ns mode.Over (c ∷ cs) g h = absurd h

pub threads-grow : (p : Program) (T : Types) (os ns : List Obj) (ts : List Thread) → Grows os ns
    → Each (λ (h : Thread). ThreadFits p T os h) ts → Each (λ (h : Thread). ThreadFits p T ns h) ts
threads-grow p T os ns [] g h = tt
threads-grow p T os ns (t ∷ ts) g h = (calls-grow p T os ns t.mode t.calls g h.0, threads-grow p T os ns ts g h.1)
