use Rattle.bound_tree.proofs.Backwards.{later-follows, follows-later}
use Rattle.bound_tree.proofs.Forwards.{before-follows, follows-before}
use Rattle.bound_tree.proofs.Clean.{tested, clean, live-named, named-live}
use Rattle.bound_tree.proofs.laws.passes_tell_runs.Goals as goal

pub returns-clause-live : goal.returns-clause-live
returns-clause-live c f x = (live-named f x, named-live f x)

pub returns-clause-later : goal.returns-clause-later
returns-clause-later c f x q = (later-follows f x q, λ s. follows-later f x q s.0 s.1)

pub returns-clause-before : goal.returns-clause-before
returns-clause-before c f x spends p = (before-follows f x spends p, λ s. follows-before f x spends s.0 p s.1 s.2)

pub returns-clause-clean : goal.returns-clause-clean
returns-clause-clean c f spends phrase x q = (tested f spends phrase x q, clean f spends phrase x q)
