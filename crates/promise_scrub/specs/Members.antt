-- The annotations of a unit, with what their places and contents say.
use Rattle.std.specs.Prelude.{ℕ, true, false, Bool, List, [], ◌∷◌, ◌++◌, Option, Some, None, map, if◌then◌else◌}
use Rattle.std.specs.List.{flat_map}
use Rattle.java_tree.specs.declared.member.MemberTree.{MemberTree}
use Rattle.java_tree.specs.declared.member.MemberTree.TheVariants as member
use Rattle.desk_base.specs.declared.key.PromiseName.{PromiseName}
use Rattle.desk_base.specs.declared.key.PromiseName.TheVariants as kind
use Rattle.class_faces.specs.Faces.{is_static}
use Rattle.promise_grammar.specs.Kind.{name_of}
use Rattle.promise_grammar.specs.declared.scope.ScopeContent.{ScopeContent}
use Rattle.promise_grammar.specs.declared.tree.PromiseTree.{PromiseTree, out-PromiseTree}
use Rattle.promise_grammar.specs.declared.tree.PromiseTree.TheOpen.{PromiseTree-F}
use Rattle.promise_marks.specs.declared.mark.Mark.{Mark}
use Rattle.result_records.specs.declared.code.FindingCode.{FindingCode}
use Rattle.result_records.specs.declared.code.FindingCode.TheVariants as scrub
use Rattle.scrub_rules.specs.declared.place.Site.{Site}
use Rattle.scrub_rules.specs.Facts.{Facts}
use Rattle.scrub_rules.specs.Offers.{offers_of, param_name, flat}
use Rattle.scrub_rules.specs.Place.{first_code, place_code, site_of}
use Rattle.scrub_rules.specs.Scope.{selects}
use Rattle.promise_scrub.specs.Verdicts.{Content, Bad, Gives, Annotation}
use Rattle.promise_scrub.specs.declared.member.Scoped.{Scoped}

-- what an annotation with this code says at a site
abbrev pub content_by : Facts → Site → List ℕ → Option FindingCode → Option PromiseTree → Content
content_by at site param (Some code) tree = Bad code
content_by at site param None None = Bad scrub.BadContent
content_by at site param None (Some tree) = Gives tree (offers_of at site param (out-PromiseTree tree))

abbrev pub annotation_by : Facts → Site → List ℕ → Bool → PromiseName → Option FindingCode → Option PromiseTree → Annotation
annotation_by at site param spread name code tree = record { spread = spread; name = name; content = content_by at site param code tree }

-- ---- members

-- a written annotation
abbrev pub written : Facts → MemberTree → Mark → Annotation
written at m mark =
    annotation_by at (site_of m mark.param) (param_name m mark.param) false (name_of mark.kind) (first_code (site_of m mark.param) mark.tree) mark.tree

-- the kind of a content
abbrev pub tree_name : PromiseTree-F PromiseTree → PromiseName
tree_name (PromiseTree-F.Region content) = kind.Region
tree_name (PromiseTree-F.InRegion name) = kind.InRegion
tree_name (PromiseTree-F.RegionLock content) = kind.RegionLock
tree_name (PromiseTree-F.RequiresLock items) = kind.RequiresLock
tree_name (PromiseTree-F.Unique u) = kind.Unique
tree_name (PromiseTree-F.Borrowed u) = kind.Borrowed
tree_name (PromiseTree-F.RegionEffects content) = kind.RegionEffects
tree_name PromiseTree-F.Starts = kind.Starts
tree_name (PromiseTree-F.Promise inner scope) = kind.Promise
tree_name (PromiseTree-F.Assume inner member) = kind.Assume
tree_name (PromiseTree-F.Vouch text) = kind.Vouch

-- a scoped promise of the class, where it is for the member
abbrev pub spread_to : Facts → MemberTree → Scoped → List Annotation
spread_to at m s =
    if selects s.scope m then annotation_by at (site_of m None) [] true (tree_name (out-PromiseTree s.inner))
    (place_code (site_of m None) (out-PromiseTree s.inner)) (Some s.inner) ∷ [] else []

-- The annotations of a member: the written ones first, then those that are spread to it.
abbrev pub member_annotations : Facts → MemberTree → List Mark → List Scoped → List Annotation
member_annotations at m marks scoped = map (written at m) marks ++ flat_map (spread_to at m) scoped

-- ---- the header

-- Its annotations, by their codes after regions and locks were judged.
abbrev pub header_annotations : Facts → Site → List Mark → List (Option FindingCode) → List Annotation
header_annotations at site [] codes = []
header_annotations at site (m ∷ ms) [] = []
header_annotations at site (m ∷ ms) (c ∷ cs) =
    annotation_by at site [] false (name_of m.kind) c m.tree ∷ header_annotations at site ms cs

-- what one of them spreads: the promise in it and what it is for, where it stands
abbrev pub scoped_with : ScopeContent → Option PromiseTree → List Scoped
scoped_with scope None = []
scoped_with scope (Some inner) = record { inner = inner; scope = scope } ∷ []

abbrev pub scoped_in : PromiseTree-F PromiseTree → List Scoped
scoped_in (PromiseTree-F.Promise inner scope) = scoped_with scope (flat inner)
scoped_in _ = []

abbrev pub scoped_by : Option FindingCode → Option PromiseTree → List Scoped
scoped_by None (Some tree) = scoped_in (out-PromiseTree tree)
scoped_by _ _ = []

-- the scoped promises of a header that stand, in written order
abbrev pub scoped_of : Site → List Mark → List Scoped
scoped_of site marks = flat_map (λ mark. scoped_by (first_code site mark.tree) mark.tree) marks

abbrev pub field_static : MemberTree → Bool
field_static (member.Field f) = is_static f.mods
field_static _ = false
