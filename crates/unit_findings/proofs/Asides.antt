-- One more promise among those that may be set aside.
use Rattle.std.proofs.Common.{◌≡◌, ℕ, ◌+◌, ◌<◌, List, [], ◌∷◌, ◌++◌, length, map, take, get_or, sym, ◌∙◌, ap, append_assoc}
use Rattle.std.specs.Prelude.{Option}
use Rattle.std.proofs.lemmas.List.{take_more, map-append}
use Rattle.std.proofs.lemmas.List.Elements.{filter_map-append}
use Rattle.result_records.specs.declared.finding.Finding.{Finding}
use Rattle.unit_findings.specs.declared.promise.UnitPromise.{UnitPromise}
use Rattle.unit_findings.specs.Promises.{aside_findings, aside_of}
use Rattle.unit_findings.specs.Vouches.{vouched}

pub asides_more : (unit : List ℕ) (vouch : Option (List ℕ)) (ps : List UnitPromise) (i : ℕ) (p : UnitPromise) (old mid new : List Finding)
    → i < length ps → p ≡ get_or ps i p → mid ≡ old ++ map (vouched vouch) (aside_findings unit (take i ps))
    → new ≡ mid ++ map (vouched vouch) (aside_findings unit (p ∷ [])) → new ≡ old ++ map (vouched vouch) (aside_findings unit (take (i + 1) ps))
asides_more unit vouch ps i p old mid new low is before put =
    let front = aside_findings unit (take i ps) in
    let one = aside_findings unit (p ∷ []) in
    let all : take (i + 1) ps ≡ take i ps ++ p ∷ [] = take_more ps i p low ∙ ap (λ x. take i ps ++ x ∷ []) (sym is) in
    let both : aside_findings unit (take (i + 1) ps) ≡ front ++ one = ap (aside_findings unit) all ∙ filter_map-append (aside_of unit) (take i ps) (p ∷ []) in
    put ∙ ap (λ l. l ++ map (vouched vouch) one) before ∙ append_assoc old (map (vouched vouch) front) (map (vouched vouch) one)
    ∙ ap (λ l. old ++ l) (sym (map-append (vouched vouch) front one)) ∙ ap (λ l. old ++ map (vouched vouch) l) (sym both)
