use Rattle.std.proofs.Common.{◌∙◌, ap}
use Rattle.std.specs.Prelude.{option_and_then}
use Rattle.std.specs.List.{slice_get}
use Rattle.views.specs.Indexes.{place_at}
use Rattle.views.specs.Looks.{puts_field, region_given}
use Rattle.views.proofs.Finding.{found_is}
use Rattle.views.proofs.regions.region_named.Goals as goal

pub returns-in-Some : goal.returns-in-Some
returns-in-Some c =
    c.region_content.ensures
    ∙ ap (option_and_then region_given)
    (c.in-Some.ensures ∙ ap (option_and_then (slice_get c.args.standing.now)) c.get.ensures.value
    ∙ found_is (place_at c.args.puts.now) puts_field c.args.standing.now c.args.key.now c.requires)

pub returns-in-None : goal.returns-in-None
returns-in-None c =
    ap (option_and_then region_given)
    (c.in-None.ensures ∙ ap (option_and_then (slice_get c.args.standing.now)) c.get.ensures.value
    ∙ found_is (place_at c.args.puts.now) puts_field c.args.standing.now c.args.key.now c.requires)
