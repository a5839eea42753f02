use Rattle.std.proofs.Common.{◌≡◌, map, take}
use Rattle.views.specs.Indexed.{region_at}
use Rattle.views.proofs.regions.place_fields.Given as goal

-- the regions of the fields so far
abbrev pub invariant-loop-field : goal.invariant-loop-field
invariant-loop-field l = l.ids ≡ map (region_at l.surface) (take l.field-index l.surface.fields)
