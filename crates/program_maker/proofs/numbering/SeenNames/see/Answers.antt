use Rattle.std.proofs.Common.{sym, ◌∙◌}
use Rattle.program_maker.proofs.Seeing.{seen_new, seen_old}
use Rattle.program_maker.proofs.numbering.SeenNames.see.Goals as goal

pub returns-then-contains_key : goal.returns-then-contains_key
returns-then-contains_key c list k = seen_old c.args.self.now list c.args.name.now k (sym c.contains_key.ensures ∙ c.if-contains_key.true)

pub returns : goal.returns
returns c list k =
    seen_new c.args.self.now c.push.new.self c.insert.new.self c.args.name c.in_ok-number.number list (sym c.contains_key.ensures ∙ c.if-contains_key.false)
    c.in_ok-push.ensures.ok (c.in_ok-number.ensures ∙ c.len.ensures) c.in_ok-insert.ensures.updates k
