use Rattle.std.specs.Prelude.{ℕ, Bool, IsTrue}
use Rattle.core_model.specs.Code.{Code}
use Rattle.core_model.specs.Begin.{begin}
use Rattle.core_model.specs.Step.{run}
use Rattle.core_model.specs.declared.config.Call.{Call}
use Rattle.core_model.specs.declared.config.Thread.{Thread}
use Rattle.core_laws.specs.Places.{Always, Here, Each}
use Rattle.core_laws.proofs.Lists.{each-map}
use Rattle.core_laws.proofs.Always.{always-closed, always-here}
use Rattle.core_laws.proofs.Carried.{carried}
use Rattle.core_laws.proofs.code.known_code_stays_known.Goals as goal

pub returns-clause-always : goal.returns-clause-always
returns-clause-always c = λ p test h mains schedule.
    carried (λ u. Always (λ k. IsTrue (test u k))) (λ u. always-closed (λ k. IsTrue (test u k))) p h mains schedule

abbrev Known : (ℕ → Code → Bool) → Call → Type 0
Known test c = Always (λ k. IsTrue (test c.unit k)) c.rest

abbrev Seen : (ℕ → Code → Bool) → Call → Type 0
Seen test c = Here (λ k. IsTrue (test c.unit k)) c.rest

seen : (test : ℕ → Code → Bool) (c : Call) → Known test c → Seen test c
seen test c h = always-here (λ k. IsTrue (test c.unit k)) c.rest h

pub returns-clause-here : goal.returns-clause-here
returns-clause-here c = λ p test h mains schedule.
    each-map (λ (t : Thread). Each (Known test) t.calls) (λ (t : Thread). Each (Seen test) t.calls) (run p (begin p mains) schedule).threads
    (λ t g. each-map (Known test) (Seen test) t.calls (seen test) g)
    (carried (λ u. Always (λ k. IsTrue (test u k))) (λ u. always-closed (λ k. IsTrue (test u k))) p h mains schedule)
