-- The runs of a flow, which naming of a local can follow which, and when a value's flow is clean.
use Rattle.std.specs.Prelude.{◌≡◌, ◌⊎◌, ℕ, zero, suc, ◌+◌, ◌==◌, ◌&&◌, ◌||◌, Bool, true, false, List, [], ◌∷◌, ◌++◌, if◌then◌else◌}
use Rattle.bound_tree.specs.Tree.{Term, Terms}
use Rattle.bound_tree.specs.Tree as t
use Rattle.bound_tree.specs.Flows.{Flow, End, Names, Sets, Leaves, Either, Again}

-- what a run passes: a local is named at a token, or set
pub data Mark : Type 0 where
  Named : ℕ → ℕ → Mark
  Set : ℕ → Mark

-- a first part that leaves, or one that goes on and then a second part; a run is the marks that are
-- passed, and whether it goes on behind them or has left the call
abbrev pub InTurn : (List Mark → Bool → Type 0) → (List Mark → Bool → Type 0) → List Mark → Bool → Type 0
InTurn P Q t on =
    (P t false × (on ≡ false)) ⊎ ((u : List Mark) × (v : List Mark) × (t ≡ u ++ v) × P u true × Q v on)

abbrev pub Turns : (List Mark → Bool → Type 0) → ℕ → List Mark → Bool → Type 0
Turns P zero t on = (t ≡ []) × (on ≡ true)
Turns P (suc n) t on = InTurn P (Turns P n) t on

-- the runs of a flow, whatever its conditions say
abbrev pub Goes : Flow → List Mark → Bool → Type 0
Goes End t on = (t ≡ []) × (on ≡ true)
Goes (Names x p r) t on = (u : List Mark) × (t ≡ Named x p ∷ u) × Goes r u on
Goes (Sets x r) t on = (u : List Mark) × (t ≡ Set x ∷ u) × Goes r u on
Goes (Leaves r) t on = (t ≡ []) × (on ≡ false)
Goes (Either a b r) t on = InTurn (λ u o. Goes a u o ⊎ Goes b u o) (Goes r) t on
Goes (Again a r) t on = (n : ℕ) × InTurn (Turns (Goes a) n) (Goes r) t on

-- what can come behind the naming of a local at a token: the rest of each part that it stands in
abbrev pub Behind : ℕ → ℕ → Flow → List Mark → Bool → Type 0
Behind x q End t on = ⊥
Behind x q (Names y p r) t on = ((x ≡ y) × (q ≡ p) × Goes r t on) ⊎ Behind x q r t on
Behind x q (Sets y r) t on = Behind x q r t on
Behind x q (Leaves r) t on = Behind x q r t on
Behind x q (Either a b r) t on =
    InTurn (λ u o. Behind x q a u o ⊎ Behind x q b u o) (Goes r) t on ⊎ Behind x q r t on
Behind x q (Again a r) t on = InTurn (Behind x q a) (Goes (Again a r)) t on ⊎ Behind x q r t on

-- a run names the local at the token before it is set anew
abbrev pub reaches : ℕ → ℕ → List Mark → Bool
reaches x p [] = false
reaches x p (Named y q ∷ t) = ((x == y) && (p == q)) || reaches x p t
reaches x p (Set y ∷ t) = if x == y then false else reaches x p t

-- the naming of the local at p can follow that at q, without passing what sets it
abbrev pub Follows : Flow → ℕ → ℕ → ℕ → Type 0
Follows f x q p = (t : List Mark) × (on : Bool) × Behind x q f t on × (reaches x p t ≡ true)

-- ---- how often an expression names a local

abbrev pub one_if : Bool → ℕ
one_if true = 1
one_if false = 0

abbrev mutual
  pub namings : ℕ → Term → ℕ
  namings x (t.Const s l) = 0
  namings x (t.This s) = one_if (x == 0)
  namings x (t.Local s y) = one_if (x == y)
  namings x (t.Field s b f) = namings x b
  namings x (t.Static s f) = 0
  namings x (t.New s c es) = namings_in x es
  namings x (t.Call s r m es) = namings x r + namings_in x es
  namings x (t.CallStatic s m es) = namings_in x es
  namings x (t.Unknown s n es) = namings_in x es
  namings x (t.UnknownField s b n) = namings x b
  namings x (t.UnknownCall s r n es) = namings x r + namings_in x es
  namings x (t.Unary s o a) = namings x a
  namings x (t.And s a b) = namings x a + namings x b
  namings x (t.Or s a b) = namings x a + namings x b
  namings x (t.Binary s o a b) = namings x a + namings x b

  pub namings_in : ℕ → Terms → ℕ
  namings_in x t.no_terms = 0
  namings_in x (t.term e es) = namings x e + namings_in x es

-- the flow of a local at a token is clean: the phrase around it names it once, nothing that names it
-- follows, itself included, and every flow that can come before is a lending. `spends` are the tokens
-- of namings that are flows and no lendings
pub record CleanFlow (f : Flow) (spends : ℕ → Bool) (phrase : Terms) (x q : ℕ) : Type 0 where
  pub once : namings_in x phrase ≡ 1
  pub last : (p : ℕ) → Follows f x q p → ⊥
  pub lent : (p : ℕ) → Follows f x p q → spends p ≡ false
