-- The regions of a class: faulty declarations are set aside, and their annotations have a code.
use Rattle.std.specs.Prelude.{◌≡◌, ℕ, Bool, true, false, ◌||◌, List, [], ◌∷◌, Option, Some, None, drop, codes, if◌then◌else◌}
use Rattle.std.specs.List.{flat_map}
use Rattle.std.specs.Str.{bytes_eq}
use Rattle.promise_grammar.specs.declared.tree.PromiseTree.{PromiseTree, out-PromiseTree}
use Rattle.promise_grammar.specs.declared.tree.PromiseTree.TheOpen.{PromiseTree-F}
use Rattle.promise_marks.specs.declared.mark.Mark.{Mark}
use Rattle.region_tree.specs.declared.decl.RegionDecl.{RegionDecl}
use Rattle.region_scrub.specs.declared.fault.RegionFault.{RegionFault}
use Rattle.region_scrub.specs.declared.fault.RegionFault.TheVariants as fault
use Rattle.region_scrub.specs.Clearing.{Clears, left}
use Rattle.result_records.specs.declared.code.FindingCode.{FindingCode}
use Rattle.result_records.specs.declared.code.FindingCode.TheVariants as scrub
use Rattle.scrub_rules.specs.declared.place.Site.{Site}
use Rattle.scrub_rules.specs.Place.{first_code}

abbrev pub region_decl : PromiseTree-F PromiseTree → List RegionDecl
region_decl (PromiseTree-F.Region content) =
    record { name = content.name; parent = content.parent; is_static = content.is_static } ∷ []
region_decl _ = []

abbrev pub region_by : Option FindingCode → Option PromiseTree → List RegionDecl
region_by None (Some tree) = region_decl (out-PromiseTree tree)
region_by _ _ = []

-- the region that an annotation declares, if it declares one
abbrev pub region_in : Site → Mark → List RegionDecl
region_in site mark = region_by (first_code site mark.tree) mark.tree

-- the declarations of a header, in written order
abbrev pub decls_of : Site → List Mark → List RegionDecl
decls_of site marks = flat_map (region_in site) marks

abbrev pub is_root : List ℕ → Bool
is_root name = bytes_eq name (codes "Instance") || bytes_eq name (codes "Static")

abbrev pub fault_code : RegionFault → FindingCode
fault_code fault.Repeated = scrub.NameUsedTwice
fault_code fault.UnknownParent = scrub.UnknownRegion
fault_code fault.Mixed = scrub.MixedKinds
fault_code fault.Cycle = scrub.RegionCycle

-- the code of the next declaration, where it is set aside
abbrev pub next_fault : List (Option RegionFault) → Option FindingCode
next_fault [] = None
next_fault (None ∷ more) = None
next_fault (Some why ∷ more) = Some (fault_code why)

abbrev pub is_region : PromiseTree-F PromiseTree → Bool
is_region (PromiseTree-F.Region content) = true
is_region _ = false

abbrev pub declares_by : Option FindingCode → Option PromiseTree → Bool
declares_by None (Some tree) = is_region (out-PromiseTree tree)
declares_by _ _ = false

-- whether an annotation declares a region
abbrev pub declares : Site → Mark → Bool
declares site mark = declares_by (first_code site mark.tree) mark.tree

-- the code of an annotation where the declarations from its own on are set aside so, and those after it
abbrev pub code_here : Site → Mark → List (Option RegionFault) → Option FindingCode
code_here site mark aside = if declares site mark then next_fault aside else first_code site mark.tree

abbrev pub aside_after : Site → Mark → List (Option RegionFault) → List (Option RegionFault)
aside_after site mark aside = if declares site mark then drop 1 aside else aside

-- The codes of annotations whose declarations are set aside so: one that declares a region has the
-- code of its declaration, any other that of its place and content alone.
abbrev pub codes_with : Site → List Mark → List (Option RegionFault) → List (Option FindingCode)
codes_with site [] aside = []
codes_with site (m ∷ ms) aside = code_here site m aside ∷ codes_with site ms (aside_after site m aside)

-- The regions that are left, and the codes after those of the others are set.
pub record RegionsScrubbed (site : Site) (marks : List Mark) (regions : List RegionDecl) (codes : List (Option FindingCode)) : Type 0 where
  pub aside : List (Option RegionFault)
  pub clears : Clears (decls_of site marks) aside
  pub are_left : regions ≡ left (decls_of site marks) aside
  pub coded : codes ≡ codes_with site marks aside
