use Rattle.std.proofs.Common.{◌≡◌, slice_index, false, Some, sym, ◌∙◌}
use Rattle.java_lexer.specs.Chars.{is_name_part}
use Rattle.java_lexer.specs.Scan.{double_sign}
use Rattle.java_lexer.proofs.Pieces.{longest_double}
use Rattle.java_lexer.proofs.front.front_of.Goals as goal

pub returns-in-Some : goal.returns-in-Some
returns-in-Some c =
    let text = c.args.text.now in
    let name : is_name_part (slice_index text 0) ≡ false = sym c.is_name_part.ensures ∙ c.if-is_name_part.false in
    let is : double_sign (slice_index text 0) (slice_index text 1) ≡ Some c.in-Some.sign = rw (← c.byte.ensures.value) (sym c.in-Some.ensures) in
    longest_double text c.in-Some.sign name is
