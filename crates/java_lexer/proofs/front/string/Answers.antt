use Rattle.std.proofs.Common.{◌≡◌, ◌≤◌, length, drop, false, None, Some, ℕ, List, sym, ◌∙◌, ap, subst, refl}
use Rattle.std.proofs.lemmas.List.{take_rest}
use Rattle.java_lexer.specs.Scan.{string_from}
use Rattle.java_lexer.specs.Lexing.IsFault.{no_lump}
use Rattle.java_lexer.proofs.Pieces.{longest_string, no_string, some_byte}
use Rattle.java_lexer.proofs.front.string.Goals as goal

pub returns-in-Some : goal.returns-in-Some
returns-in-Some c =
    let text = c.args.text.now in
    let is : string_from false 0 (drop 1 text) ≡ Some c.in-Some.len = ap (string_from false 0) (sym (take_rest text 1)) ∙ sym c.in-Some.ensures.value in
    let within : c.in-Some.len ≤ length (drop 1 text) = subst (λ (z : List ℕ). c.in-Some.len ≤ length z) (take_rest text 1) c.in-Some.ensures.within in
    longest_string text c.in-Some.len c.requires.quote is within

pub returns-in-None : goal.returns-in-None
returns-in-None c =
    let text = c.args.text.now in
    let is : string_from false 0 (drop 1 text) ≡ None = ap (string_from false 0) (sym (take_rest text 1)) ∙ sym c.in-None.ensures.value in
    no_lump 0 refl (some_byte text c.requires.quote) (no_string text c.requires.quote is)
