-- The working forms: what is asked of all runs, by one pass over the flow. A pass backwards knows of a
-- local whether it can be named later, a pass forwards whether it can have been spent before.
use Rattle.std.specs.Prelude.{ℕ, ◌==◌, ◌&&◌, ◌||◌, not, Bool, true, false, List, get_or, if◌then◌else◌}
use Rattle.bound_tree.specs.Tree.{Terms}
use Rattle.bound_tree.specs.Runs.{namings_in}
use Rattle.bound_tree.specs.Flows.{Flow, End, Names, Sets, Leaves, Either, Again}

-- ---- backwards, `k` being whether the local is named behind the flow

-- whether the local can be named before it is set
abbrev pub live : ℕ → Flow → Bool → Bool
live x End k = k
live x (Names y p r) k = if x == y then true else live x r k
live x (Sets y r) k = if x == y then false else live x r k
live x (Leaves r) k = false
live x (Either a b r) k = live x a (live x r k) || live x b (live x r k)
live x (Again a r) k = live x r k || live x a (live x r k)

-- whether the local is named at the token and can be named behind it before it is set
abbrev pub named_later : ℕ → ℕ → Flow → Bool → Bool
named_later x q End k = false
named_later x q (Names y p r) k = (((x == y) && (q == p)) && live x r k) || named_later x q r k
named_later x q (Sets y r) k = named_later x q r k
named_later x q (Leaves r) k = named_later x q r k
named_later x q (Either a b r) k =
    (named_later x q a (live x r k) || named_later x q b (live x r k)) || named_later x q r k
named_later x q (Again a r) k = named_later x q a (live x r k || live x a (live x r k)) || named_later x q r k

-- ---- forwards, `k` being whether the local was spent before the flow; `spends` are the tokens at which
-- a naming spends

-- as a table by tokens says
abbrev pub spends_in : List Bool → ℕ → Bool
spends_in table p = get_or table p false

abbrev pub spent_by : ℕ → (ℕ → Bool) → ℕ → ℕ → Bool → Bool
spent_by x spends y p k = if x == y then spends p || k else k

-- whether the local can be spent behind the flow and not set since
abbrev pub spent : ℕ → (ℕ → Bool) → Flow → Bool → Bool
spent x spends End k = k
spent x spends (Names y p r) k = spent x spends r (spent_by x spends y p k)
spent x spends (Sets y r) k = spent x spends r (if x == y then false else k)
spent x spends (Leaves r) k = spent x spends r false
spent x spends (Either a b r) k = spent x spends r (spent x spends a k || spent x spends b k)
spent x spends (Again a r) k = spent x spends r (k || spent x spends a k)

-- whether the local is named at the token, and can be spent by then
abbrev pub spent_before : ℕ → (ℕ → Bool) → ℕ → Flow → Bool → Bool
spent_before x spends p End k = false
spent_before x spends p (Names y q r) k =
    (((x == y) && (p == q)) && k) || spent_before x spends p r (spent_by x spends y q k)
spent_before x spends p (Sets y r) k = spent_before x spends p r (if x == y then false else k)
spent_before x spends p (Leaves r) k = spent_before x spends p r false
spent_before x spends p (Either a b r) k =
    (spent_before x spends p a k || spent_before x spends p b k)
    || spent_before x spends p r (spent x spends a k || spent x spends b k)
spent_before x spends p (Again a r) k =
    spent_before x spends p a (k || spent x spends a k) || spent_before x spends p r (k || spent x spends a k)

-- ---- clean flow, by the two passes

-- whether the flow of the local at the token is clean
abbrev pub is_clean : Flow → (ℕ → Bool) → Terms → ℕ → ℕ → Bool
is_clean f spends phrase x q = (namings_in x phrase == 1) && (not (named_later x q f false) && not (spent_before x spends q f false))
