use Rattle.java_lexer.proofs.Reading.{one_list, one_place, not_both}
use Rattle.java_lexer.proofs.laws.one_reading.Goals as goal

pub returns-clause-list : goal.returns-clause-list
returns-clause-list c = one_list

pub returns-clause-place : goal.returns-clause-place
returns-clause-place c = one_place

pub returns-clause-apart : goal.returns-clause-apart
returns-clause-apart c = not_both
