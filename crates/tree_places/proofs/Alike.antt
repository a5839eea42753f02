-- Alike tokens, and the same tokens once all stand in one place.
use Rattle.std.proofs.Common.{◌≡◌, List, [], ◌∷◌, refl, ap}
use Rattle.java_tree.specs.declared.token.Token.{Token}
use Rattle.java_lexer.specs.Lexing.{AreSpelled}
use Rattle.java_reader.specs.Alike.{Alike}
use Rattle.tree_places.specs.Moved.{moved_token, moved_tokens}
use Rattle.tree_places.specs.Bare.{nowhere}

pub moved-alike : (ts us : List Token) → Alike ts us → moved_tokens nowhere ts ≡ moved_tokens nowhere us
moved-alike [] [] a = refl
moved-alike [] (u ∷ us) a = absurd a
moved-alike (t ∷ ts) [] a = absurd a
moved-alike (t ∷ ts) (u ∷ us) (kind, bytes, rest) = let more = moved-alike ts us rest in cc

pub alike_from_moved : (ts us : List Token) → moved_tokens nowhere ts ≡ moved_tokens nowhere us → Alike ts us
alike_from_moved [] [] e = tt
alike_from_moved [] (u ∷ us) e = cc
alike_from_moved (t ∷ ts) [] e = cc
alike_from_moved (t ∷ ts) (u ∷ us) e =
    let head : moved_token nowhere t ≡ moved_token nowhere u = cc in
    (ap (λ (x : Token). x.kind) head, ap (λ (x : Token). x.bytes) head, alike_from_moved ts us (cc))

-- alike where they are, if they are alike once they are moved
pub alike_unmoved : (ts us : List Token) → Alike (moved_tokens nowhere ts) (moved_tokens nowhere us) → Alike ts us
alike_unmoved [] [] a = tt
alike_unmoved [] (u ∷ us) a = absurd a
alike_unmoved (t ∷ ts) [] a = absurd a
alike_unmoved (t ∷ ts) (u ∷ us) (kind, bytes, rest) = (kind, bytes, alike_unmoved ts us rest)

pub moved-spelled : (ts : List Token) → AreSpelled ts → AreSpelled (moved_tokens nowhere ts)
moved-spelled [] s = tt
moved-spelled (t ∷ ts) (s, rest) = (s, moved-spelled ts rest)
