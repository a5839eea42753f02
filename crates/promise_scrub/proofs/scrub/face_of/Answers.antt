use Rattle.std.proofs.Common.{◌∙◌, ap, List}
use Rattle.std.specs.Prelude.{Option}
use Rattle.result_records.specs.declared.code.FindingCode.{FindingCode}
use Rattle.scrub_rules.specs.Target.{kinds_in}
use Rattle.promise_scrub.specs.Found.{found_in, found_nothing}
use Rattle.promise_scrub.specs.Surfaces.{assumptions_of, class_facts, names_of, units_of}
use Rattle.promise_scrub.proofs.Facing.{face_is}
use Rattle.promise_scrub.proofs.scrub.face_of.Goals as goal

pub returns : goal.returns
returns c =
    let class = c.args.class.now in
    let header = c.args.header.now in
    let members = c.args.members.now in
    let rk = kinds_in c.args.scrubbed.region_kinds in
    let lk = kinds_in c.args.scrubbed.lock_kinds in
    face_is class header members c.args.scrubbed.regions rk lk c.args.scrubbed.codes c.in_ok-clone.field-0 c.in_ok-names_of.field-0 c.fields.inside.items.items
    c.in_ok-member_faces.field-0 c.in_ok-found.found c.in_ok-assumptions.assumptions c.in_ok-clone.ensures.cases
    (c.in_ok-names_of.ensures ∙ ap names_of c.as_slice.ensures) (c.fields.view_is ∙ c.requires) c.in_ok-member_faces.ensures
    (c.in_ok-found.ensures ∙ ap (λ (z : List (Option FindingCode)). found_in found_nothing (units_of class header members rk lk z)) c.as_slice-codes.ensures)
    (c.in_ok-assumptions.ensures ∙ ap (λ (z : List (Option FindingCode)). assumptions_of (class_facts class.name.text rk lk) header z) c.as_slice-codes.ensures)
