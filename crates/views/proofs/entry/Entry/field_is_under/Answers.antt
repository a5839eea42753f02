use Rattle.std.proofs.Common.{◌∙◌, ap, sym, subst}
use Rattle.views.proofs.Regioning.{all_within, under-field, under-none}
use Rattle.views.proofs.entry.Entry.field_is_under.Goals as goal

pub field_is_under-requires : goal.field_is_under-requires
field_is_under-requires c = all_within c.self.inside.surface c.self.inside.regions c.self.invariant.has_regions

pub returns-in-Some : goal.returns-in-Some
returns-in-Some c =
    under-field c.self.inside.surface c.args.self.now c.self.inside.shape c.self.inside.regions c.in-Some.at.now c.args.field.now c.args.region.now _
    c.self.view_is c.self.invariant.has_shape c.self.invariant.has_regions c.in-Some.ensures.value c.field_is_under.ensures

pub returns-in-None : goal.returns-in-None
returns-in-None c =
    under-none c.self.inside.surface c.args.self.now c.self.inside.shape c.args.field.now c.args.region.now
    c.self.view_is c.self.invariant.has_shape c.in-None.ensures.value
