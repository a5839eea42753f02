use Rattle.std.proofs.Common.{◌≡◌, ◌+◌, ℕ, List, [], ◌∷◌, ◌++◌, take, drop, sym, ◌∙◌, ap, subst, arith}
use Rattle.std.proofs.lemmas.List.{take_rest, length-drop}
use Rattle.java_tree.specs.declared.token.Token.{Token}
use Rattle.java_lexer.specs.Lexing.{Longest, IsGap, Spells, CutTo, token_at}
use Rattle.java_lexer.specs.Lexing.CutTo.{start, gap, token}
use Rattle.java_lexer.proofs.lexer.cut.Goals as goal

pub loop-at-init : goal.loop-at-init
loop-at-init c = record {
  within = omega arith;
  so_far = subst (λ (ts : List Token). CutTo c.args.text.now 0 ts) (sym c.new-tokens.ensures) start;
}

pub loop-at-preserved-in-Gap : goal.loop-at-preserved-in-Gap
loop-at-preserved-in-Gap c =
    let text = c.args.text.now in let at = c.loop-at.at in let len = c.in-Gap.len in
    let piece : Longest (drop at text) len × IsGap (take len (drop at text)) = subst (λ (z : List ℕ). Longest z len × IsGap (take len z)) (take_rest text at) c.in-Gap.ensures in
    let within = piece.0.within in
    record {
      within = omega (arith, length-drop at text);
      so_far = gap at len c.loop-at.tokens c.loop-at.invariant.so_far piece.0 piece.1;
    }

pub loop-at-preserved : goal.loop-at-preserved
loop-at-preserved c =
    let text = c.args.text.now in let at = c.loop-at.at in let len = c.in-Token.len in let kind = c.in-Token.kind in
    let piece : Longest (drop at text) len × Spells kind (take len (drop at text)) = subst (λ (z : List ℕ). Longest z len × Spells kind (take len z)) (take_rest text at) c.in-Token.ensures in
    let within = piece.0.within in
    let tokens : c.loop-at.tokens ++ token_at text at len kind ∷ [] ≡ c.push.new.self = ap (λ (t : Token). c.loop-at.tokens ++ t ∷ []) (sym c.in_ok-token-in-Token.ensures) ∙ sym c.in_ok-push-in-Token.ensures.ok in
    record {
      within = omega (arith, length-drop at text);
      so_far = subst (λ (ts : List Token). CutTo text (at + len) ts) tokens (token at len c.loop-at.tokens kind c.loop-at.invariant.so_far piece.0 piece.1);
    }
