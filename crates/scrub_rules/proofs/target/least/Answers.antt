use Rattle.std.proofs.Common.{rules, ◌≡◌, ℕ, ◌<◌, ◌≤◌, Bool, true, false, ap, sym, ◌∙◌, refl, arith}
use Rattle.std.specs.Prelude.{Option, Some, None, nat_le, if◌then◌else◌}
use Rattle.result_records.specs.declared.code.FindingCode.{FindingCode}
use Rattle.scrub_rules.specs.Code.{least, rank_of}
use Rattle.scrub_rules.proofs.target.least.Goals as goal

le_true : (m n : ℕ) → m ≤ n → nat_le m n ≡ true
le_true m n h = grind arith

le_false : (m n : ℕ) → n < m → nat_le m n ≡ false
le_false m n h = grind arith

pub returns-then-a-b : goal.returns-then-a-b
returns-then-a-b c =
    let a : FindingCode = c.in-Some-Some.a in
    let b : FindingCode = c.in-Some-Some.b in
    ap (λ (t : Bool). if t then Some a else Some b) (sym (le_true (rank_of a) (rank_of b) c.if-a-b.true))
    ∙ (λ i. least (sym c.in-Some-Some.is-0 i) (sym c.in-Some-Some.is-1 i))

pub returns-else-a-b : goal.returns-else-a-b
returns-else-a-b c =
    let a : FindingCode = c.in-Some-Some.a in
    let b : FindingCode = c.in-Some-Some.b in
    ap (λ (t : Bool). if t then Some a else Some b) (sym (le_false (rank_of a) (rank_of b) c.if-a-b.false))
    ∙ (λ i. least (sym c.in-Some-Some.is-0 i) (sym c.in-Some-Some.is-1 i))
