use Rattle.std.proofs.Common.{ℕ, ap, inl, sym, subst}
use Rattle.std.specs.Str.{IsValidUpTo}
use Rattle.java_lexer.specs.declared.error.LexError.TheVariants.{Lex}
use Rattle.java_lexer.proofs.Reading.{gives_tokens, gives_place, one_place}
use Rattle.java_lexer.proofs.lexer.lex.Goals as goal

pub returns-in-Ok-clause-only : goal.returns-in-Ok-clause-only
returns-in-Ok-clause-only c = gives_tokens c.args.text.now c.cut.result c.in-Ok.ensures.cases.1 c.cut.ensures.found c.cut.ensures.place

pub returns-in-Ok-clause-only_place : goal.returns-in-Ok-clause-only_place
returns-in-Ok-clause-only_place c = gives_place c.args.text.now c.cut.result c.in-Ok.ensures.cases.1 c.cut.ensures.found c.cut.ensures.place

pub returns-in-Err-clause-only_place : goal.returns-in-Err-clause-only_place
returns-in-Err-clause-only_place c = λ at h.
    let valid : IsValidUpTo c.args.text.now c.valid_up_to.result = subst (λ (n : ℕ). IsValidUpTo c.args.text.now n) (sym c.valid_up_to.ensures) c.in-Err.ensures.cases.1 in
    inl (ap Lex (one_place c.args.text.now c.valid_up_to.result at (inl valid) h))
