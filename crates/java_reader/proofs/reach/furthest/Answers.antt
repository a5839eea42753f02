use Rattle.std.proofs.Common.{List, ◌≤◌, length, subst, arith}
use Rattle.java_phrases.specs.Tree.{Token}
use Rattle.java_reader.specs.Reach.{StandsIn}
use Rattle.java_reader.proofs.Reached.{fault-within}
use Rattle.java_reader.proofs.reach.furthest.Goals as goal

pub returns : goal.returns
returns c =
    let within : c.args.at ≤ length c.args.text.now = fault-within c.tokens_follow.ensures c.args.text.now c.args.at c.requires in
    let P : List Token → Type 0 = λ l. StandsIn l (length c.args.text.now) c.token_from.result in
    record {
      tokens = c.in_ok-tokens.tokens;
      lexed = c.in_ok-tokens.ensures;
      stands = subst P c.as_slice.ensures c.token_from.ensures.stands;
      behind = omega (arith, within);
    }
