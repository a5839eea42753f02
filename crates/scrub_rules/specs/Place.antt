-- What a promise annotation stands on, and what it may stand on.
use Rattle.std.specs.Prelude.{ℕ, Bool, true, false, ◌&&◌, ◌||◌, not, List, [], Option, Some, None, codes, if◌then◌else◌}
use Rattle.std.specs.List.{slice_get}
use Rattle.std.specs.Str.{bytes_eq}
use Rattle.java_tree.specs.declared.file.TypeKind.{TypeKind}
use Rattle.java_tree.specs.declared.file.TypeKind.TheVariants as types
use Rattle.java_tree.specs.declared.member.Ty.{Ty}
use Rattle.java_tree.specs.declared.member.Ty.TheVariants as ty
use Rattle.java_tree.specs.declared.member.Param.{Param}
use Rattle.java_tree.specs.declared.member.MemberTree.{MemberTree}
use Rattle.java_tree.specs.declared.member.MemberTree.TheVariants as member
use Rattle.class_faces.specs.Faces.{is_static}
use Rattle.promise_grammar.specs.declared.tree.PromiseTree.{PromiseTree, out-PromiseTree}
use Rattle.promise_grammar.specs.declared.tree.PromiseTree.TheOpen.{PromiseTree-F}
use Rattle.promise_grammar.specs.declared.mark.UniqueContent.TheVariants as unique_at
use Rattle.promise_grammar.specs.declared.mark.BorrowedContent.TheVariants as borrowed_at
use Rattle.result_records.specs.declared.code.FindingCode.{FindingCode}
use Rattle.result_records.specs.declared.code.FindingCode.TheVariants as scrub
use Rattle.scrub_rules.specs.declared.place.SiteKind.{SiteKind}
use Rattle.scrub_rules.specs.declared.place.SiteKind.TheVariants as at
use Rattle.scrub_rules.specs.declared.place.TypeSort.{TypeSort}
use Rattle.scrub_rules.specs.declared.place.TypeSort.TheVariants as sort
use Rattle.scrub_rules.specs.declared.place.Site.{Site}

abbrev pub sort_of_name : List ℕ → TypeSort
sort_of_name name =
    if bytes_eq name (codes "Object") then sort.Object else (
    if bytes_eq name (codes "String") then sort.Text else (
    if bytes_eq name (codes "Runnable") then sort.Runnable else sort.Declared))

abbrev pub sort_of : Ty → TypeSort
sort_of (ty.Int span) = sort.Primitive
sort_of (ty.Boolean span) = sort.Primitive
sort_of (ty.Named word) = sort_of_name word.text

abbrev pub made : SiteKind → TypeSort → Bool → Site
made k s t = record { kind = k; sort = s; has_this = t }

abbrev pub header_site : TypeKind → Site
header_site types.Class = made at.Class sort.Nothing false
header_site types.Interface = made at.Interface sort.Nothing false

abbrev pub member_site : MemberTree → Site
member_site (member.Field f) = made at.Field (sort_of f.ty) false
member_site (member.Method m) = made at.Method sort.Nothing (not (is_static m.mods))
member_site (member.Sig s) = made at.Sig sort.Nothing true
member_site (member.Ctor c) = made at.Ctor sort.Nothing true
member_site (member.Main m) = made at.Main sort.Nothing false

abbrev pub params_of : MemberTree → List Param
params_of (member.Field f) = []
params_of (member.Method m) = m.params
params_of (member.Sig s) = s.params
params_of (member.Ctor c) = c.params
params_of (member.Main m) = []

abbrev pub param_sort : Option Param → TypeSort
param_sort None = sort.Nothing
param_sort (Some p) = sort_of p.ty

-- the member itself, or its parameter of this number
abbrev pub site_of : MemberTree → Option ℕ → Site
site_of m None = member_site m
site_of m (Some i) = made at.Param (param_sort (slice_get (params_of m) i)) (member_site m).has_this

abbrev pub is_class : SiteKind → Bool
is_class at.Class = true
is_class _ = false

abbrev pub is_field : SiteKind → Bool
is_field at.Field = true
is_field _ = false

abbrev pub is_param : SiteKind → Bool
is_param at.Param = true
is_param _ = false

-- a method, an interface method or a constructor
abbrev pub is_callable : SiteKind → Bool
is_callable at.Method = true
is_callable at.Sig = true
is_callable at.Ctor = true
is_callable _ = false

abbrev pub is_main : SiteKind → Bool
is_main at.Main = true
is_main _ = false

-- a class, a method of one or a constructor
abbrev pub is_vouchable : SiteKind → Bool
is_vouchable at.Class = true
is_vouchable at.Method = true
is_vouchable at.Ctor = true
is_vouchable _ = false

-- every name but Object, String and Runnable
abbrev pub is_class_type : TypeSort → Bool
is_class_type sort.Declared = true
is_class_type _ = false

-- every name but String
abbrev pub is_lendable : TypeSort → Bool
is_lendable sort.Declared = true
is_lendable sort.Object = true
is_lendable sort.Runnable = true
is_lendable _ = false

-- a field or parameter of a class type
abbrev pub is_unique_place : Site → Bool
is_unique_place s = (is_field s.kind || is_param s.kind) && is_class_type s.sort

-- The things that each promise may stand on.
abbrev pub stands_on : Site → PromiseTree-F PromiseTree → Bool
stands_on s (PromiseTree-F.Region content) = is_class s.kind
stands_on s (PromiseTree-F.InRegion name) = is_field s.kind
stands_on s (PromiseTree-F.RegionLock content) = is_class s.kind
stands_on s (PromiseTree-F.RequiresLock items) = is_callable s.kind || is_main s.kind
stands_on s (PromiseTree-F.Unique unique_at.Place) = is_unique_place s
stands_on s (PromiseTree-F.Unique unique_at.Return) = is_callable s.kind
stands_on s (PromiseTree-F.Borrowed borrowed_at.Place) = is_param s.kind && is_lendable s.sort
stands_on s (PromiseTree-F.Borrowed borrowed_at.This) = is_callable s.kind && s.has_this
stands_on s (PromiseTree-F.RegionEffects content) = is_callable s.kind
stands_on s PromiseTree-F.Starts = is_callable s.kind
stands_on s (PromiseTree-F.Promise inner scope) = is_class s.kind
stands_on s (PromiseTree-F.Assume inner member) = is_class s.kind
stands_on s (PromiseTree-F.Vouch text) = is_vouchable s.kind

-- the promises that a scoped promise may give
abbrev pub may_spread : PromiseTree-F PromiseTree → Bool
may_spread (PromiseTree-F.InRegion name) = true
may_spread (PromiseTree-F.Unique u) = true
may_spread (PromiseTree-F.RequiresLock items) = true
may_spread (PromiseTree-F.Borrowed borrowed_at.This) = true
may_spread (PromiseTree-F.RegionEffects content) = true
may_spread PromiseTree-F.Starts = true
may_spread _ = false

-- the promises that may be assumed
abbrev pub may_assume : PromiseTree-F PromiseTree → Bool
may_assume (PromiseTree-F.Borrowed borrowed_at.This) = true
may_assume (PromiseTree-F.Unique unique_at.Return) = true
may_assume (PromiseTree-F.RegionEffects content) = true
may_assume PromiseTree-F.Starts = true
may_assume _ = false

abbrev pub form_allows : PromiseTree-F PromiseTree → Bool
form_allows (PromiseTree-F.Promise inner scope) = may_spread (out-PromiseTree inner)
form_allows (PromiseTree-F.Assume inner member) = may_assume (out-PromiseTree inner)
form_allows _ = true

-- the code of an annotation whose content is spelled, by its place and form alone
abbrev pub place_code : Site → PromiseTree-F PromiseTree → Option FindingCode
place_code s tree = if stands_on s tree && form_allows tree then None else Some scrub.BadPlace

-- the code of an annotation by its own content and place alone
abbrev pub first_code : Site → Option PromiseTree → Option FindingCode
first_code s None = Some scrub.BadContent
first_code s (Some tree) = place_code s (out-PromiseTree tree)
