-- Header: the regions of a class are scrubbed, and then its locks.
use Rattle.std.specs.Prelude.{List, Option}
use Rattle.class_faces.specs.declared.face.FieldFace.{FieldFace}
use Rattle.promise_marks.specs.declared.mark.Mark.{Mark}
use Rattle.region_tree.specs.declared.decl.RegionDecl.{RegionDecl}
use Rattle.result_records.specs.declared.code.FindingCode.{FindingCode}
use Rattle.scrub_rules.specs.declared.place.Site.{Site}
use Rattle.header_scrub.specs.Fields.{fields_by}
use Rattle.header_scrub.specs.Kinds.{region_kind}
use Rattle.header_scrub.specs.Locks.{AreLockCodes}
use Rattle.header_scrub.specs.Regions.{RegionsScrubbed}

-- The regions of a header that stand, and the codes of its annotations.
pub record Header (site : Site) (fields : List FieldFace) (marks : List Mark) (regions : List RegionDecl) (codes : List (Option FindingCode)) : Type 0 where
  pub between : List (Option FindingCode)
  pub scrubbed : RegionsScrubbed site marks regions between
  pub locks : AreLockCodes regions (region_kind regions) (fields_by fields) marks between codes
