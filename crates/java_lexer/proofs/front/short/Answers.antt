use Rattle.std.proofs.Common.{◌≡◌, slice_index, true, false, None, Some, sym, ◌∙◌, refl, inl}
use Rattle.java_lexer.specs.Chars.{is_blank}
use Rattle.java_lexer.specs.Scan.{single_sign}
use Rattle.java_lexer.specs.Lexing.IsFault.{no_lump}
use Rattle.java_lexer.proofs.Pieces.{longest_blank, longest_single, no_sign}
use Rattle.java_lexer.proofs.front.short.Goals as goal

pub returns-then-is_blank : goal.returns-then-is_blank
returns-then-is_blank c =
    let text = c.args.text.now in
    let is : is_blank (slice_index text 0) ≡ true = rw (← c.byte-first.ensures.value) (sym c.is_blank.ensures ∙ c.if-is_blank.true) in
    let piece = longest_blank text is in
    (piece.0, inl piece.1)

pub returns-in-Some : goal.returns-in-Some
returns-in-Some c =
    let text = c.args.text.now in
    let no_blank : is_blank (slice_index text 0) ≡ false = rw (← c.byte-first.ensures.value) (sym c.is_blank.ensures ∙ c.if-is_blank.false) in
    let is : single_sign (slice_index text 0) ≡ Some c.in-Some.sign = rw (← c.byte-first.ensures.value) (sym c.in-Some.ensures) in
    longest_single text c.in-Some.sign c.requires.some c.requires.name c.requires.double c.requires.slash no_blank c.requires.quote is

pub returns-in-None : goal.returns-in-None
returns-in-None c =
    let text = c.args.text.now in
    let no_blank : is_blank (slice_index text 0) ≡ false = rw (← c.byte-first.ensures.value) (sym c.is_blank.ensures ∙ c.if-is_blank.false) in
    let is : single_sign (slice_index text 0) ≡ None = rw (← c.byte-first.ensures.value) (sym c.in-None.ensures) in
    no_lump 0 refl c.requires.some (no_sign text c.requires.some c.requires.name c.requires.double c.requires.slash no_blank c.requires.quote is)
