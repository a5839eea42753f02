use Rattle.core_types.proofs.Refused.{always-uncalled, no-negated, no-null, no-unset, no-over, no-unended, no-given, no-constructor-called, no-arguments, unit-of-its-class}
use Rattle.core_types.proofs.refusing.ill_typed_code_is_refused.Goals as goal

pub returns-clause-negated : goal.returns-clause-negated
returns-clause-negated c = no-negated

pub returns-clause-null : goal.returns-clause-null
returns-clause-null c = no-null

pub returns-clause-unset : goal.returns-clause-unset
returns-clause-unset c = no-unset

pub returns-clause-over : goal.returns-clause-over
returns-clause-over c = no-over

pub returns-clause-unended : goal.returns-clause-unended
returns-clause-unended c = no-unended

pub returns-clause-given : goal.returns-clause-given
returns-clause-given c = no-given

pub returns-clause-called : goal.returns-clause-called
returns-clause-called c = no-constructor-called

pub returns-clause-made : goal.returns-clause-made
returns-clause-made c = no-arguments

pub returns-clause-listed : goal.returns-clause-listed
returns-clause-listed c = unit-of-its-class

pub returns-clause-uncalled : goal.returns-clause-uncalled
returns-clause-uncalled c = always-uncalled
