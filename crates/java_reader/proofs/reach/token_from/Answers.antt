use Rattle.std.proofs.Common.{sym}
use Rattle.java_reader.proofs.Reached.{stands-at_token, stands-at_end}
use Rattle.java_reader.proofs.reach.token_from.Goals as goal

pub returns-in-Some-clause-stands : goal.returns-in-Some-clause-stands
returns-in-Some-clause-stands c = (stands-at_token c.args.place c.args.tokens.now c.args.end c.in-Some.token.now (sym c.in-Some.ensures)).0

pub returns-in-Some-clause-behind : goal.returns-in-Some-clause-behind
returns-in-Some-clause-behind c = (stands-at_token c.args.place c.args.tokens.now c.args.end c.in-Some.token.now (sym c.in-Some.ensures)).1

pub returns-in-None-clause-stands : goal.returns-in-None-clause-stands
returns-in-None-clause-stands c = stands-at_end c.args.tokens.now c.args.end
