-- When two surfaces are the same: exactly where they are equal. It stands here since a comparison is
-- written with its laws.
use Rattle.std.specs.Prelude.{◌≡◌, ℕ, Bool, true, ◌&&◌, Option, Some, None, List, nat_eq, refl}
use Rattle.std.specs.Bool.{Decides}
use Rattle.std.specs.Option.{option_eq}
use Rattle.std.specs.Cmp.{booleans_Decides, first_so, second_so}
use Rattle.std.specs.Cmp.Lexicographic.{bytes_decides, pointwise, pointwise_decides}
use mathlib.Core.Path.{sym, ap, subst}
use mathlib.Core.Bool.{beq, true≢false}
use denote.Enum.Bare.{same_true, true_same}
use Rattle.java_tree.specs.declared.file.TypeKind.{TypeKind}
use Rattle.java_tree.specs.contracts.file.TypeKind as kind_type
use Rattle.java_tree.specs.contracts.file.TypeKindPartialEq.TheImpl as kind_eq
use Rattle.desk_base.specs.declared.key.PromiseKey.{PromiseKey}
use Rattle.desk_base.specs.declared.key.PromiseName.{PromiseName}
use Rattle.desk_base.specs.contracts.key.PromiseName as name_type
use Rattle.desk_base.specs.contracts.key.PromiseNamePartialEq.TheImpl as name_eq
use Rattle.desk_base.specs.contracts.key.PromiseKeyPartialEq.TheImpl as key_eq
use Rattle.class_faces.specs.Same.{exact, field_decides, member_decides, option_own, option_to, same_field, same_member}
use Rattle.promise_grammar.specs.SameTree.{same_tree, tree_decides}
use Rattle.region_tree.specs.declared.decl.RegionDecl.{RegionDecl}
use Rattle.region_tree.specs.contracts.decl.RegionDeclPartialEq.TheImpl as decl_eq
use Rattle.result_records.specs.declared.code.FindingCode.{FindingCode}
use Rattle.result_records.specs.contracts.code.FindingCode as code_type
use Rattle.result_records.specs.contracts.code.FindingCodePartialEq.TheImpl as code_eq
use Rattle.promise_scrub.specs.declared.surface.Standing.{Standing}
use Rattle.promise_scrub.specs.declared.surface.Aside.{Aside}
use Rattle.promise_scrub.specs.declared.surface.Assumption.{Assumption}
use Rattle.promise_scrub.specs.declared.surface.Surface.{Surface as Face}
use Rattle.promise_scrub.specs.contracts.surface.StandingPartialEq.TheImpl as standing_eq
use Rattle.promise_scrub.specs.contracts.surface.AsidePartialEq.TheImpl as aside_eq
use Rattle.promise_scrub.specs.contracts.surface.AssumptionPartialEq.TheImpl as assumption_eq

-- ---- tests

abbrev pub same_text : List ℕ → List ℕ → Bool
same_text a b = pointwise nat_eq a b

abbrev pub same_texts : List (List ℕ) → List (List ℕ) → Bool
same_texts a b = pointwise same_text a b

abbrev pub same_type_kind : TypeKind → TypeKind → Bool
same_type_kind = (kind_eq.ghosts).eq

abbrev pub same_kind_name : PromiseName → PromiseName → Bool
same_kind_name = (name_eq.ghosts).eq

abbrev pub same_promise : PromiseKey → PromiseKey → Bool
same_promise = (key_eq.ghosts).eq

abbrev pub same_code : FindingCode → FindingCode → Bool
same_code = (code_eq.ghosts).eq

abbrev pub same_decl : RegionDecl → RegionDecl → Bool
same_decl = (decl_eq.ghosts).eq

abbrev pub same_standing : Standing → Standing → Bool
same_standing = (standing_eq.ghosts).eq

abbrev pub same_aside : Aside → Aside → Bool
same_aside = (aside_eq.ghosts).eq

abbrev pub same_assumption : Assumption → Assumption → Bool
same_assumption = (assumption_eq.ghosts).eq

-- what a class is made of, and what is promised of it
abbrev pub same_parts : Face → Face → Bool
same_parts a b =
    same_type_kind a.kind b.kind && (same_text a.name b.name && (same_texts a.implements b.implements && (
    pointwise same_field a.fields b.fields && pointwise same_member a.members b.members)))

abbrev pub same_promises : Face → Face → Bool
same_promises a b =
    pointwise same_decl a.regions b.regions && (pointwise same_standing a.standing b.standing && (pointwise same_aside a.aside b.aside && (
    pointwise same_assumption a.assumptions b.assumptions && same_texts a.vouched b.vouched)))

abbrev pub same_surface : Face → Face → Bool
same_surface a b = same_parts a b && same_promises a b

-- ---- they hold exactly where the values are equal

texts_decides : (a b : List (List ℕ)) → Decides (same_texts a b) (a ≡ b)
texts_decides = pointwise_decides bytes_decides

kind_decides : (a b : TypeKind) → Decides (same_type_kind a b) (a ≡ b)
kind_decides a b = (same_true kind_type.the_type tt a b, true_same kind_type.the_type a b)

name_decides : (a b : PromiseName) → Decides (same_kind_name a b) (a ≡ b)
name_decides a b = (same_true name_type.the_type tt a b, true_same name_type.the_type a b)

code_decides : (a b : FindingCode) → Decides (same_code a b) (a ≡ b)
code_decides a b = (same_true code_type.the_type tt a b, true_same code_type.the_type a b)

promise_to : (a b : PromiseKey) → same_promise a b ≡ true → a ≡ b
promise_to a b h =
    let more = second_so (same_text a.target b.target) _ h in
    let target : a.target ≡ b.target = (bytes_decides a.target b.target).0 (first_so (same_text a.target b.target) _ h) in
    let name : a.name ≡ b.name = (name_decides a.name b.name).0 (first_so (same_kind_name a.name b.name) _ more) in
    let detail : a.detail ≡ b.detail = (bytes_decides a.detail b.detail).0 (second_so (same_kind_name a.name b.name) _ more) in
    λ i. record { target = target i; name = name i; detail = detail i }

promise_own : (a : PromiseKey) → same_promise a a ≡ true
promise_own a = λ i. (bytes_decides a.target a.target).1 refl i && ((name_decides a.name a.name).1 refl i && (bytes_decides a.detail a.detail).1 refl i)

pub promise_decides : (a b : PromiseKey) → Decides (same_promise a b) (a ≡ b)
promise_decides = exact same_promise promise_to promise_own

decl_to : (a b : RegionDecl) → same_decl a b ≡ true → a ≡ b
decl_to a b h =
    let more = second_so (same_text a.name b.name) _ h in
    let name : a.name ≡ b.name = (bytes_decides a.name b.name).0 (first_so (same_text a.name b.name) _ h) in
    let parent : a.parent ≡ b.parent = option_to same_text bytes_decides a.parent b.parent (first_so (option_eq same_text a.parent b.parent) _ more) in
    let is_static : a.is_static ≡ b.is_static = (booleans_Decides a.is_static b.is_static).0 (second_so (option_eq same_text a.parent b.parent) _ more) in
    λ i. record { name = name i; parent = parent i; is_static = is_static i }

decl_own : (a : RegionDecl) → same_decl a a ≡ true
decl_own a =
    λ i. (bytes_decides a.name a.name).1 refl i && (option_own same_text bytes_decides a.parent i && (booleans_Decides a.is_static a.is_static).1 refl i)

pub decl_decides : (a b : RegionDecl) → Decides (same_decl a b) (a ≡ b)
decl_decides = exact same_decl decl_to decl_own

standing_to : (a b : Standing) → same_standing a b ≡ true → a ≡ b
standing_to a b h =
    let key : a.key ≡ b.key = (promise_decides a.key b.key).0 (first_so (same_promise a.key b.key) _ h) in
    let tree : a.tree ≡ b.tree = (tree_decides a.tree b.tree).0 (second_so (same_promise a.key b.key) _ h) in
    λ i. record { key = key i; tree = tree i }

standing_own : (a : Standing) → same_standing a a ≡ true
standing_own a = λ i. (promise_decides a.key a.key).1 refl i && (tree_decides a.tree a.tree).1 refl i

pub standing_decides : (a b : Standing) → Decides (same_standing a b) (a ≡ b)
standing_decides = exact same_standing standing_to standing_own

aside_to : (a b : Aside) → same_aside a b ≡ true → a ≡ b
aside_to a b h =
    let key : a.key ≡ b.key = (promise_decides a.key b.key).0 (first_so (same_promise a.key b.key) _ h) in
    let code : a.code ≡ b.code = (code_decides a.code b.code).0 (second_so (same_promise a.key b.key) _ h) in
    λ i. record { key = key i; code = code i }

aside_own : (a : Aside) → same_aside a a ≡ true
aside_own a = λ i. (promise_decides a.key a.key).1 refl i && (code_decides a.code a.code).1 refl i

pub aside_decides : (a b : Aside) → Decides (same_aside a b) (a ≡ b)
aside_decides = exact same_aside aside_to aside_own

assumption_to : (a b : Assumption) → same_assumption a b ≡ true → a ≡ b
assumption_to a b h =
    let more = second_so (same_text a.class b.class) _ h in
    let last = second_so (same_text a.member b.member) _ more in
    let class : a.class ≡ b.class = (bytes_decides a.class b.class).0 (first_so (same_text a.class b.class) _ h) in
    let member : a.member ≡ b.member = (bytes_decides a.member b.member).0 (first_so (same_text a.member b.member) _ more) in
    let key : a.key ≡ b.key = (promise_decides a.key b.key).0 (first_so (same_promise a.key b.key) _ last) in
    let tree : a.tree ≡ b.tree = (tree_decides a.tree b.tree).0 (second_so (same_promise a.key b.key) _ last) in
    λ i. record { class = class i; member = member i; key = key i; tree = tree i }

assumption_own : (a : Assumption) → same_assumption a a ≡ true
assumption_own a =
    λ i. (bytes_decides a.class a.class).1 refl i && ((bytes_decides a.member a.member).1 refl i
    && ((promise_decides a.key a.key).1 refl i && (tree_decides a.tree a.tree).1 refl i))

pub assumption_decides : (a b : Assumption) → Decides (same_assumption a b) (a ≡ b)
assumption_decides = exact same_assumption assumption_to assumption_own

surface_to : (a b : Face) → same_surface a b ≡ true → a ≡ b
surface_to a b h =
    let parts = first_so (same_parts a b) (same_promises a b) h in
    let named = second_so (same_type_kind a.kind b.kind) _ parts in
    let listed = second_so (same_text a.name b.name) _ named in
    let faced = second_so (same_texts a.implements b.implements) _ listed in
    let kind : a.kind ≡ b.kind = (kind_decides a.kind b.kind).0 (first_so (same_type_kind a.kind b.kind) _ parts) in
    let name : a.name ≡ b.name = (bytes_decides a.name b.name).0 (first_so (same_text a.name b.name) _ named) in
    let implements : a.implements ≡ b.implements = (texts_decides a.implements b.implements).0 (first_so (same_texts a.implements b.implements) _ listed) in
    let fields : a.fields ≡ b.fields = (pointwise_decides field_decides a.fields b.fields).0 (first_so (pointwise same_field a.fields b.fields) _ faced) in
    let members : a.members ≡ b.members = (pointwise_decides member_decides a.members b.members).0 (second_so (pointwise same_field a.fields b.fields) _ faced) in
    let promised = second_so (same_parts a b) (same_promises a b) h in
    let stand = second_so (pointwise same_decl a.regions b.regions) _ promised in
    let fallen = second_so (pointwise same_standing a.standing b.standing) _ stand in
    let last = second_so (pointwise same_aside a.aside b.aside) _ fallen in
    let regions : a.regions ≡ b.regions = (pointwise_decides decl_decides a.regions b.regions).0 (first_so (pointwise same_decl a.regions b.regions) _ promised) in
    let standing : a.standing ≡ b.standing = (pointwise_decides standing_decides a.standing b.standing).0 (first_so (pointwise same_standing a.standing b.standing) _ stand) in
    let aside : a.aside ≡ b.aside = (pointwise_decides aside_decides a.aside b.aside).0 (first_so (pointwise same_aside a.aside b.aside) _ fallen) in
    let assumptions : a.assumptions ≡ b.assumptions =
    (pointwise_decides assumption_decides a.assumptions b.assumptions).0 (first_so (pointwise same_assumption a.assumptions b.assumptions) _ last) in
    let vouched : a.vouched ≡ b.vouched = (texts_decides a.vouched b.vouched).0 (second_so (pointwise same_assumption a.assumptions b.assumptions) _ last) in
    λ i. record {
      kind = kind i;
      name = name i;
      implements = implements i;
      fields = fields i;
      members = members i;
      regions = regions i;
      standing = standing i;
      aside = aside i;
      assumptions = assumptions i;
      vouched = vouched i;
    }

surface_own : (a : Face) → same_surface a a ≡ true
surface_own a = λ i. ((kind_decides a.kind a.kind).1 refl i && ((bytes_decides a.name a.name).1 refl i && ((texts_decides a.implements a.implements).1 refl i
    && ((pointwise_decides field_decides a.fields a.fields).1 refl i && (pointwise_decides member_decides a.members a.members).1 refl i))))
    && ((pointwise_decides decl_decides a.regions a.regions).1 refl i && ((pointwise_decides standing_decides a.standing a.standing).1 refl i
    && ((pointwise_decides aside_decides a.aside a.aside).1 refl i
    && ((pointwise_decides assumption_decides a.assumptions a.assumptions).1 refl i && (texts_decides a.vouched a.vouched).1 refl i))))

pub surface_decides : (a b : Face) → Decides (same_surface a b) (a ≡ b)
surface_decides = exact same_surface surface_to surface_own
