-- Code that sets locals only where no other temporary waits.
use Rattle.std.specs.Prelude.{◌≡◌, List, [], ◌∷◌}
use Rattle.core_model.specs.Code.{Code, Done, Do, If, While, Enter, EnterClass, Exit}
use Rattle.core_model.specs.declared.instr.Plain.{Plain}
use Rattle.core_model.specs.declared.instr.Plain.TheVariants as plain
use Rattle.core_types.specs.Slots.{Uses, need_by}

-- where an instruction sets a local, what comes after it needs no temporary
abbrev pub SetsBare : {S : Type 0} → Plain → List S → Type 0
SetsBare (plain.Set x) after = after ≡ []
SetsBare _ after = Unit {0}

abbrev pub BareBy : {S : Type 0} → Uses S → Code → List S → Type 0
BareBy u Done after = Unit {0}
BareBy u (Do n i k) after = SetsBare i (need_by u k after) × BareBy u k after
BareBy u (If n a b k) after = BareBy u a (need_by u k after) × BareBy u b (need_by u k after) × BareBy u k after
BareBy u (While n c b k) after =
    BareBy u c (u.flag ∷ need_by u k after) × BareBy u b (need_by u k after) × BareBy u k after
BareBy u (Enter n b k) after = BareBy u b (need_by u k after) × BareBy u k after
BareBy u (EnterClass n c b k) after = BareBy u b (need_by u k after) × BareBy u k after
BareBy u (Exit n r k) after = BareBy u k after
