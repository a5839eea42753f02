-- One more unit, and one more finding.
use Rattle.std.proofs.Common.{◌≡◌, List, [], ◌∷◌, ◌++◌, sym, ◌∙◌, ap, append_assoc, append-nil, Bool}
use Rattle.std.specs.Prelude.{filter}
use Rattle.std.proofs.lemmas.List.Elements.{filter-append}
use Rattle.std.proofs.lemmas.Grind.{flat_map-append}
use Rattle.project_answers.specs.declared.gather.UnitFound.{UnitFound}
use Rattle.project_answers.specs.declared.sited.Sited.{Sited}
use Rattle.project_answers.specs.Gathered.{all_found}

pub unit_more : (p : Sited → Bool) (us : List UnitFound) (u : UnitFound) (old mid new : List Sited)
    → mid ≡ old ++ filter p (all_found us) → new ≡ mid ++ filter p u.found.items → new ≡ old ++ filter p (all_found (us ++ u ∷ []))
unit_more p us u old mid new before put =
    put ∙ ap (λ l. l ++ filter p u.found.items) before ∙ append_assoc old (filter p (all_found us)) (filter p u.found.items)
    ∙ ap (λ l. old ++ l) (sym (filter-append p (all_found us) u.found.items))
    ∙ ap (λ l. old ++ filter p (all_found us ++ l)) (sym (append-nil u.found.items))
    ∙ ap (λ l. old ++ filter p l) (sym (flat_map-append (λ (x : UnitFound). x.found.items) us (u ∷ [])))
