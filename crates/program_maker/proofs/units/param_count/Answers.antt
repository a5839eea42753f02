use Rattle.program_maker.proofs.Meeting.{params_found, params_absent}
use Rattle.program_maker.proofs.units.param_count.Goals as goal

pub returns-in-Some : goal.returns-in-Some
returns-in-Some c =
    params_found c.args.surfaces.now c.args.class.now c.args.key.now c.view_of-view.result c.member.result c.in-Some.member c.len.result
    (cc) c.view_of-view.ensures c.member.ensures c.in-Some.is c.len.ensures

pub returns-in-None : goal.returns-in-None
returns-in-None c =
    params_absent c.args.surfaces.now c.args.class.now c.args.key.now c.view_of-view.result c.member.result
    (cc) c.view_of-view.ensures c.member.ensures c.in-None.is
