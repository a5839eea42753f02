use Rattle.std.proofs.Common.{◌≡◌, ◌+◌, ◌++◌, ◌∙◌, ap, length, List, ℕ, sym, arith}
use Rattle.std.specs.Prelude.{Option}
use Rattle.std.proofs.lemmas.List.{length_push}
use Rattle.promise_marks.specs.declared.mark.Mark.{Mark}
use Rattle.scrub_rules.specs.Target.{kinds_in}
use Rattle.header_scrub.specs.declared.lock.Lock.{Lock}
use Rattle.header_scrub.specs.Fields.{fields_in}
use Rattle.header_scrub.specs.Locks.{lock_by, lock_given, locks_in}
use Rattle.header_scrub.proofs.Locking.{each_more, locks_more, whole}
use Rattle.header_scrub.proofs.locks.scrub_locks.Goals as goal

pub loop-i-preserved : goal.loop-i-preserved
loop-i-preserved c =
    let fields = fields_in c.args.fields.now in
    let inv = c.loop-i.invariant in
    rw c.in_ok-push.ensures.ok (record {
      holds = c.in_ok-code.ensures.holds;
      within = omega arith;
      long = length_push c.loop-i.after c.in_ok-code.code ∙ ap (λ (n : ℕ). n + 1) inv.long;
      table = c.in_ok-code.ensures.table ∙ ap (λ (z : List Lock). z ++ lock_given fields (lock_by c.in_ok-code.code c.index-marks-i.result.tree)) inv.table
          ∙ sym (locks_more fields c.args.marks.now c.loop-i.i c.index-marks-i.result c.loop-i.after c.in_ok-code.code c.loop-i-test.true c.index-marks-i.is inv.long);
      each = each_more c.args.declared.now (kinds_in c.args.kinds.now) fields c.args.marks.now c.args.codes.now c.loop-i.after c.loop-i.i c.index-marks-i.result
          c.loop-i.locks.table c.in_ok-code.code c.index-marks-i.is inv.long inv.table c.in_ok-code.ensures.code inv.each;
    })

pub returns : goal.returns
returns c =
    let inv = c.loop-i.invariant in
    record {
      codes = record {
        long = inv.long ∙ (let e : c.loop-i.i ≡ length c.args.marks.now = omega (arith, inv.within, c.loop-i-test.false) in e);
        each = inv.each;
      };
      locks = c.into_items.ensures ∙ inv.table
          ∙ ap (λ (z : List Mark). locks_in (fields_in c.args.fields.now) z c.loop-i.after) (whole c.args.marks.now c.loop-i.i c.loop-i-test.false);
    }
