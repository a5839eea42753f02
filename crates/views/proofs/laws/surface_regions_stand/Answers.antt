use Rattle.std.proofs.Common.{[], ap, subst}
use Rattle.class_faces.specs.Faces.{field_faces}
use Rattle.scrub_rules.specs.Place.{header_site}
use Rattle.region_tree.specs.Faults.{IsFault}
use Rattle.views.proofs.laws.surface_regions_stand.Goals as goal

pub returns : goal.returns
returns c class shown is error fault =
    c.regions_stand.ensures (header_site class.kind) (field_faces class) is.header is.regions is.codes error is.scrubbed
    (subst (λ rs. IsFault rs [] error) (ap (λ s. s.regions) is.is) fault)
