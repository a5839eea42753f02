-- What the paths through code may do: read a local before they set it, or come to an end without a result. Both parts of an
-- If are taken, and a loop may go on or end, whatever the conditions say (JLS 8, 14.21 and 16).
use Rattle.std.specs.Prelude.{ℕ, ◌==◌, ◌||◌, ◌&&◌, not, Bool, true, false, List, [], ◌∷◌, if◌then◌else◌}
use Rattle.core_model.specs.Code.{Code, Done, Do, If, While, Enter, EnterClass, Exit}
use Rattle.core_model.specs.declared.instr.Plain.{Plain}
use Rattle.core_model.specs.declared.instr.Plain.TheVariants as plain
use Rattle.core_model.specs.declared.value.Value.{Value}
use Rattle.core_model.specs.declared.value.Value.TheVariants as value

abbrev pub reads_by : ℕ → Plain → Bool → Bool
reads_by i (plain.Get j) later = (i == j) || later
reads_by i (plain.Set j) later = not (i == j) && later
reads_by i plain.Return later = false
reads_by i plain.ReturnValue later = false
reads_by i _ later = later

-- whether a path through the code may read local i before it sets it; `after` says so of what comes after the code
abbrev pub reads : ℕ → Code → Bool → Bool
reads i Done after = after
reads i (Do n p k) after = reads_by i p (reads i k after)
reads i (If n a b k) after = reads i a (reads i k after) || reads i b (reads i k after)
reads i (While n c b k) after = reads i c (reads i b false || reads i k after)
reads i (Enter n b k) after = reads i b (reads i k after)
reads i (EnterClass n c b k) after = reads i b (reads i k after)
reads i (Exit n r k) after = reads i k after

abbrev pub is_true : Value → Bool
is_true (value.Bool b) = b
is_true _ = false

-- whether the temporary on top is true
abbrev pub true_on_top : List Value → Bool
true_on_top [] = false
true_on_top (v ∷ ts) = is_true v

-- whether the instruction pushes true as it stands
abbrev pub pushes_true : Plain → Bool
pushes_true (plain.Const v) = is_true v
pushes_true _ = false

abbrev pub is_done : Code → Bool
is_done Done = true
is_done _ = false

-- whether the code is the one constant true
abbrev pub is_always_true : Code → Bool
is_always_true (Do n p k) = pushes_true p && is_done k
is_always_true _ = false

abbrev pub ends_by : Plain → Bool → Bool
ends_by plain.Return later = true
ends_by plain.ReturnValue later = false
ends_by _ later = later

-- whether a path through the code may come to an end other than by ReturnValue; `after` says so of what comes after the code,
-- and `known` that the temporary on top is known to be true. A loop on the constant true comes to no end by itself
abbrev pub ends : Bool → Code → Bool → Bool
ends known Done after = after
ends known (Do n p k) after = ends_by p (ends (pushes_true p) k after)
ends known (If n a b k) after = ends false a (ends false k after) || (not known && ends false b (ends false k after))
ends known (While n c b k) after =
    if is_always_true c then ends false b false else ends false c (ends false b false || ends false k after)
ends known (Enter n b k) after = ends false b (ends false k after)
ends known (EnterClass n c b k) after = ends false b (ends false k after)
ends known (Exit n r k) after = ends false k after
