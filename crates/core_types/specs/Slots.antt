-- What code needs of the temporaries, whatever is asked of each: slots of any kind.
use Rattle.std.specs.Prelude.{◌≡◌, ℕ, Bool, true, List, [], ◌∷◌, ◌++◌, length, drop}
use Rattle.core_model.specs.Code.{Code, Done, Do, If, While, Enter, EnterClass, Exit}
use Rattle.core_model.specs.declared.instr.Note.{Note}
use Rattle.core_model.specs.declared.instr.Plain.{Plain}

-- an instruction takes these, top first, and pushes those, top first, or leaves the call; or it finds no such local, field,
-- class or unit
pub data Use (S : Type 0) : Type 0 where
  Goes : List S → List S → Use S
  Leaves : List S → Use S
  Wrong : Use S

-- what the instructions use, what an If and an Enter take, and which classes are there
pub record Uses (S : Type 0) : Type 0 where
  pub use_by : Note → Plain → Use S
  pub flag : S
  pub monitor : Note → S
  pub there : ℕ → Bool

-- what an instruction needs where what comes after it needs these
abbrev pub need_of : {S : Type 0} → Use S → List S → List S
need_of (Goes takes gives) after = takes ++ drop (length gives) after
need_of (Leaves takes) after = takes
need_of Wrong after = after

-- the slots that the code needs, top first, where what comes after it needs the last ones
abbrev pub need_by : {S : Type 0} → Uses S → Code → List S → List S
need_by u Done after = after
need_by u (Do n i k) after = need_of (u.use_by n i) (need_by u k after)
need_by u (If n a b k) after = u.flag ∷ need_by u a (need_by u k after)
need_by u (While n c b k) after = need_by u k after
need_by u (Enter n b k) after = u.monitor n ∷ need_by u b (need_by u k after)
need_by u (EnterClass n c b k) after = need_by u b (need_by u k after)
need_by u (Exit n r k) after = need_by u k after

-- slots suit the first ones of the others, one by one
abbrev pub Suiting : {S : Type 0} → (S → S → Type 0) → List S → List S → Type 0
Suiting Suits [] ts = Unit {0}
Suiting Suits (g ∷ gs) [] = ⊥
Suiting Suits (g ∷ gs) (t ∷ ts) = Suits g t × Suiting Suits gs ts

-- what is pushed suits what comes after
abbrev pub UseSuits : {S : Type 0} → (S → S → Type 0) → Use S → List S → Type 0
UseSuits Suits (Goes takes gives) after = Suiting Suits gives after
UseSuits Suits (Leaves takes) after = Unit {0}
UseSuits Suits Wrong after = ⊥

-- each instruction of the code finds what it uses; the two parts of an If need the same, and a loop leaves the temporaries
-- as it found them
abbrev pub FitsBy : {S : Type 0} → (S → S → Type 0) → Uses S → Code → List S → Type 0
FitsBy Suits u Done after = Unit {0}
FitsBy Suits u (Do n i k) after = UseSuits Suits (u.use_by n i) (need_by u k after) × FitsBy Suits u k after
FitsBy Suits u (If n a b k) after =
    (need_by u a (need_by u k after) ≡ need_by u b (need_by u k after))
    × FitsBy Suits u a (need_by u k after) × FitsBy Suits u b (need_by u k after) × FitsBy Suits u k after
FitsBy Suits u (While n c b k) after =
    (need_by u c (u.flag ∷ need_by u k after) ≡ need_by u k after) × (need_by u b (need_by u k after) ≡ need_by u k after)
    × FitsBy Suits u c (u.flag ∷ need_by u k after) × FitsBy Suits u b (need_by u k after) × FitsBy Suits u k after
FitsBy Suits u (Enter n b k) after = FitsBy Suits u b (need_by u k after) × FitsBy Suits u k after
FitsBy Suits u (EnterClass n c b k) after =
    (u.there c ≡ true) × FitsBy Suits u b (need_by u k after) × FitsBy Suits u k after
FitsBy Suits u (Exit n r k) after = FitsBy Suits u k after
