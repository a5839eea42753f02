use Rattle.std.proofs.Common.{ap, sym, ℕ, List}
use Rattle.views.specs.Face.{Seen}
use Rattle.views.proofs.Showing.{found_name, own_is}
use Rattle.views.proofs.view.view_of.Goals as goal

pub invariant_of-result : goal.invariant_of-result
invariant_of-result c = own_is c.args.surfaces.now c.args.class.now c.in-Some.own.now (sym c.in-Some.ensures)

pub returns : goal.returns
returns c =
    let seen : List ℕ → Seen = λ n. record { surfaces = c.args.surfaces.now; class = n } in
    ap seen (found_name c.args.surfaces.now c.args.class.now c.in-Some.own.now (sym c.in-Some.ensures))
