-- What a cursor shows: the pieces from where it stands.
use Rattle.std.specs.Prelude.{List, [], ◌∷◌}
use Rattle.promise_grammar.specs.declared.pieces.Front.{Front}
use Rattle.promise_grammar.specs.declared.pieces.Front.TheVariants as front
use Rattle.promise_grammar.specs.declared.pieces.Pieces.TheInside.{Inside}
use Rattle.promise_grammar.specs.Piece.{Piece, Word, Sign, cut}

-- the pieces with this one in front of them, and none at the end
abbrev pub in_front : Front → List Piece → List Piece
in_front (front.Word w) ps = Word w.now ∷ ps
in_front (front.Sign s) ps = Sign s ∷ ps
in_front front.End ps = []

abbrev pub pieces_of : Inside → List Piece
pieces_of p = in_front p.front (cut p.rest.now)
