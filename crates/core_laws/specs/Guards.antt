-- What a table and the code say of guarded reads.
use Rattle.std.specs.Prelude.{◌≡◌, ℕ, zero, suc, if◌then◌else◌, ◌==◌, ◌&&◌, ◌||◌, not, Bool, true, false, Option, Some, None}
use Rattle.core_model.specs.Code.{Code, Done, Do, If, While, Enter, EnterClass, Exit, ◌⧺◌}
use Rattle.core_model.specs.declared.instr.Claim.{Claim}
use Rattle.core_model.specs.declared.instr.Claim.TheVariants as claim
use Rattle.core_model.specs.declared.instr.Known.{Known}
use Rattle.core_model.specs.declared.instr.Known.TheVariants as known
use Rattle.core_model.specs.declared.instr.Plain.{Plain}
use Rattle.core_model.specs.declared.instr.Plain.TheVariants as plain
use Rattle.core_model.specs.Units.{unit_number}
use Rattle.core_model.specs.declared.program.TheConstants.{NEW, MAIN, RUN}
use Rattle.core_model.specs.declared.program.Program.{Program}
use Rattle.core_laws.specs.Places.{again}

abbrev pub claimed_local : Claim → Option ℕ
claimed_local (claim.Local i) = Some i
claimed_local (claim.Field i f) = None
claimed_local (claim.Static c f) = None
claimed_local (claim.Class c) = None

abbrev pub known_local : Known → Option ℕ
known_local known.Nothing = None
known_local (known.Class c) = None
known_local (known.Monitor m) = claimed_local m

abbrev pub is_at : ℕ → Option ℕ → Bool
is_at i None = false
is_at i (Some j) = j == i

-- a mark is left whose monitor was named by local i
abbrev pub claims : ℕ → Code → Bool
claims i Done = false
claims i (Do n p k) = claims i k
claims i (If n a b k) = claims i k
claims i (While n c b k) = claims i k
claims i (Enter n b k) = claims i k
claims i (EnterClass n c b k) = claims i k
claims i (Exit n r k) = is_at i (known_local n.known) || claims i k

-- what promises say: which units are to be called by threads that own the monitor of their `this`, and which members such units have
pub record Promised : Type 0 where
  pub base : ℕ → ℕ → Option ℕ
  pub requires : ℕ → Bool
  pub members : ℕ → Bool

abbrev pub based_by : Promised → Option ℕ → Plain → Option ℕ
based_by T o (plain.Field i) = o
based_by T o (plain.Call m zero) = if T.members m then o else None
based_by T o _ = None

-- the local that the value on top was got from, where the code reads a guarded field of it, calls such a member of it or enters its monitor
abbrev pub based : Promised → ℕ → Code → Option ℕ
based T u Done = None
based T u (Do n p k) = based_by T (T.base u n.place) p
based T u (If n a b k) = None
based T u (While n c b k) = None
based T u (Enter n b k) = known_local n.known
based T u (EnterClass n c b k) = None
based T u (Exit n r k) = None

abbrev pub gets : ℕ → Plain → Bool
gets i (plain.Get j) = j == i
gets i _ = false

abbrev pub follows : Option ℕ → Plain → Bool
follows None p = true
follows (Some i) p = gets i p

abbrev pub is_none : Option ℕ → Bool
is_none None = true
is_none (Some i) = false

-- a local that a mark names isn't set, nor a `this` that is required
abbrev pub leaves_claims : Bool → Plain → Code → Bool
leaves_claims required (plain.Set i) k = not (claims i k) && not (required && (i == 0))
leaves_claims required _ k = true

-- the base's monitor is claimed, or is that of a `this` which is required
abbrev pub guarded : Bool → Option ℕ → Code → Bool
guarded required None k = true
guarded required (Some i) k = claims i k || (required && (i == 0))

-- such a member is called without arguments, on a base that is known, and in no other way
abbrev pub called_well : Promised → Option ℕ → Plain → Bool
called_well T o (plain.Call m zero) = not (T.members m && is_none o)
called_well T o (plain.Call m (suc a)) = not (T.members m)
called_well T o (plain.CallStatic c m a) = not (T.members m)
called_well T o _ = true

abbrev pub sound : Promised → ℕ → Code → Bool
sound T u Done = true
sound T u (Do n p k) =
    follows (based T u k) p
    && (leaves_claims (T.requires u) p k && (guarded (T.requires u) (based_by T (T.base u n.place) p) k && called_well T (T.base u n.place) p))
sound T u (If n a b k) = is_none (based T u (a ⧺ k)) && is_none (based T u (b ⧺ k))
sound T u (While n c b k) = is_none (based T u (c ⧺ again n c b k))
sound T u (Enter n b k) = is_none (based T u b)
sound T u (EnterClass n c b k) = is_none (based T u b) && is_none (known_local n.known)
sound T u (Exit n r k) = is_none (based T u k)

-- each unit whose `this` is required is one of such a member alone, which is no constructor, no main and no run
pub record Dispatched (p : Program) (T : Promised) : Type 0 where
  pub unit : (d m a u : ℕ) → unit_number p d m a ≡ Some u → T.requires u ≡ true → T.members m ≡ true
  pub special : (T.members NEW ≡ false) × (T.members MAIN ≡ false) × (T.members RUN ≡ false)
