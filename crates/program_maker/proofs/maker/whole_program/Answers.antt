use Rattle.std.proofs.Common.{◌∙◌, List, ap, map, subst}
use Rattle.std.specs.Borrow.{Bor}
use Rattle.promise_scrub.specs.declared.surface.Surface.{Surface}
use Rattle.program_maker.specs.Kept.{surfaces_lent, units_lent, numbers_as, AreNumbers}
use Rattle.program_maker.specs.Numbered.{lent}
use Rattle.program_maker.specs.Program.{class_info, mains_from}
use Rattle.program_maker.proofs.Meeting.{program-is}
use Rattle.program_maker.proofs.maker.whole_program.Goals as goal

pub returns : goal.returns
returns c =
    program-is c.in_ok-numbers.numbers c.args.surfaces.now c.in_ok-types.types (units_lent c.args.units.now)
    c.in_ok-classes.classes c.in_ok-codes.codes c.in_ok-mains.mains c.in_ok-members.members
    c.in_ok-types.ensures
    (subst (λ (l : List (Bor Surface)). AreNumbers c.in_ok-numbers.numbers (surfaces_lent l) (units_lent c.args.units.now)) c.as_slice.ensures c.in_ok-numbers.ensures)
    (c.in_ok-classes.ensures ∙ ap (λ (l : List (Bor Surface)). map (class_info (numbers_as c.in_ok-numbers.numbers) (units_lent c.args.units.now)) (surfaces_lent l)) c.as_slice-2.ensures)
    c.in_ok-codes.ensures
    (c.in_ok-mains.ensures ∙ ap (λ (l : List (Bor Surface)). mains_from 0 (surfaces_lent l)) c.as_slice-3.ensures)
    (c.in_ok-members.ensures ∙ ap lent c.as_slice-4.ensures)
