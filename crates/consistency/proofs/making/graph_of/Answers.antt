use Rattle.std.proofs.Common.{◌≡◌, ℕ, List, ap, arith, length, subst}
use Rattle.std.specs.Vec.{vec_len}
use Rattle.desk_base.specs.declared.key.PromiseKey.{PromiseKey}
use Rattle.consistency.specs.Wired.{IsWired}
use Rattle.consistency.proofs.Standing.{wired_of}
use Rattle.consistency.proofs.making.graph_of.Goals as goal

pub invariant_of-result : goal.invariant_of-result
invariant_of-result c =
    let copies = c.in_ok-copies.field-0 in
    let size : length c.args.promises.now ≡ vec_len copies = (let e = ap (λ (z : List PromiseKey). length z) c.in_ok-copies.ensures in let o = copies.ok.0 in omega (arith, e, o)) in
    record {
      wired = subst (λ (z : ℕ). IsWired z c.in_ok-clauses.clauses.items) size
          (wired_of c.args.promises.now c.clauses_of.new.words.items c.in_ok-clauses.clauses.items c.args.findings.now c.in_ok-clauses.ensures);
    }
