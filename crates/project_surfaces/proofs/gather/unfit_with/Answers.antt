use Rattle.std.proofs.Common.{◌∙◌, Option, sym, subst}
use Rattle.std.specs.Borrow.{Bor}
use Rattle.std.proofs.Common.{List, ℕ}
use Rattle.project_surfaces.specs.Gathered.{UnfitOf}
use Rattle.project_surfaces.proofs.More.{unfit_first}
use Rattle.project_surfaces.proofs.gather.unfit_with.Goals as goal

pub returns-else-is_judged : goal.returns-else-is_judged
returns-else-is_judged c types t placed is old =
    let P : Option (Bor (List ℕ)) → Type 0 = λ o. UnfitOf types o in
    unfit_first types t c.args.surface.now c.args.path (c.one_surface.ensures t.class) placed is
    (λ judged. let yes = c.is_judged.ensures.1 judged in (cc (sym c.if-is_judged.false ∙ yes))) (subst P c.in-None.is old)
