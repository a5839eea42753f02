-- Where the annotations of the promises begin that stand at a unit. Its promises come in the order of its
-- annotations, those that were spread to it last.
use Rattle.std.specs.Prelude.{ℕ, ◌==◌, Bool, true, false, ◌&&◌, List, [], ◌∷◌, ◌++◌, Option, Some, None, map, length, take, drop, replicate, if◌then◌else◌}
use Rattle.std.specs.List.{list_all, slice_get}
use Rattle.std.specs.Option.{option_copied, option_map}
use Rattle.std.specs.Str.{bytes_eq}
use Rattle.java_tree.specs.declared.file.ClassTree.{ClassTree}
use Rattle.java_tree.specs.declared.member.MemberTree.{MemberTree}
use Rattle.class_faces.specs.Keys.{text_of}
use Rattle.promise_grammar.specs.declared.tree.PromiseTree.{PromiseTree, out-PromiseTree}
use Rattle.promise_grammar.specs.declared.tree.PromiseTree.TheOpen.{PromiseTree-F}
use Rattle.promise_grammar.specs.SameTree.{same_tree}
use Rattle.promise_marks.specs.declared.mark.Mark.{Mark}
use Rattle.promise_scrub.specs.declared.surface.Standing.{Standing}
use Rattle.result_records.specs.declared.code.FindingCode.{FindingCode}
use Rattle.scrub_rules.specs.declared.place.Site.{Site}
use Rattle.scrub_rules.specs.Offers.{param_name}
use Rattle.scrub_rules.specs.Place.{first_code, header_site, site_of}
use Rattle.unit_rules.specs.declared.given.Written.{Written as Kept}

-- An annotation: its content, where its place and form allow it; the name of the parameter that it stands
-- at, as a text, where it stands at one; and the number of its `@`.
pub record Written : Type 0 where
  pub content : Option PromiseTree
  pub param : Option (List ℕ)
  pub at : ℕ

abbrev pub unless_code : Option FindingCode → Option PromiseTree → Option PromiseTree
unless_code None tree = tree
unless_code (Some code) tree = None

abbrev pub allowed : Site → Option PromiseTree → Option PromiseTree
allowed site tree = unless_code (first_code site tree) tree

abbrev pub header_annotation : ClassTree → Mark → ℕ → Written
header_annotation class m at = record { content = allowed (header_site class.kind) m.tree; param = None; at = at }

abbrev pub member_annotation : MemberTree → Mark → ℕ → Written
member_annotation member m at = record {
  content = allowed (site_of member m.param) m.tree;
  param = option_map (λ i. text_of (param_name member (Some i))) m.param;
  at = at;
}

-- the annotations with their places, one by one
abbrev pub each_at : (Mark → ℕ → Written) → List Mark → List ℕ → List Written
each_at annotation [] places = []
each_at annotation (m ∷ ms) [] = []
each_at annotation (m ∷ ms) (at ∷ places) = annotation m at ∷ each_at annotation ms places

-- how many promises of its own unit an annotation of the content gives where it stands
abbrev pub promise_count : PromiseTree-F PromiseTree → ℕ
promise_count (PromiseTree-F.Region content) = 1
promise_count (PromiseTree-F.InRegion name) = 1
promise_count (PromiseTree-F.RegionLock content) = 1
promise_count (PromiseTree-F.RequiresLock items) = length items
promise_count (PromiseTree-F.Unique u) = 1
promise_count (PromiseTree-F.Borrowed u) = 1
promise_count (PromiseTree-F.RegionEffects content) = 1
promise_count PromiseTree-F.Starts = 1
promise_count (PromiseTree-F.Promise inner scope) = 0
promise_count (PromiseTree-F.Assume inner member) = 0
promise_count (PromiseTree-F.Vouch text) = 0

-- at a parameter the detail is its name
abbrev pub is_at : Option (List ℕ) → Standing → Bool
is_at None s = true
is_at (Some param) s = bytes_eq s.key.detail param

-- the promise has this content and is at this parameter, if at one
abbrev pub has_content : PromiseTree → Option (List ℕ) → Standing → Bool
has_content tree param s = same_tree s.tree tree && is_at param s

abbrev pub has_content_in : PromiseTree → Option (List ℕ) → Option Standing → Bool
has_content_in tree param None = false
has_content_in tree param (Some s) = has_content tree param s

-- there is a promise of the number, and it is such
abbrev pub has_content_if_any : PromiseTree → Option (List ℕ) → List Standing → ℕ → Bool
has_content_if_any tree param ss at = has_content_in tree param (slice_get ss at)

-- the next promises are as many as the content has, all with it
abbrev pub gives_next : PromiseTree → Option (List ℕ) → List Standing → Bool
gives_next tree param ss =
    (length (take (promise_count (out-PromiseTree tree)) ss) == promise_count (out-PromiseTree tree))
    && list_all (has_content tree param) (take (promise_count (out-PromiseTree tree)) ss)

abbrev pub given_if : Bool → ℕ → ℕ
given_if gives n = if gives then n else 0

-- How many of the next promises the annotation gives: of those with one content at one unit the first
-- alone stands, and so none is left for a later one.
abbrev pub given_content : Option PromiseTree → Option (List ℕ) → List Standing → ℕ
given_content None param ss = 0
given_content (Some tree) param ss = given_if (gives_next tree param ss) (promise_count (out-PromiseTree tree))

abbrev pub given_count : Written → List Standing → ℕ
given_count a ss = given_content a.content a.param ss

-- Begun: for each promise the place of the annotation that gives it; those that are left were spread, and
-- have the unit's first token
abbrev pub begun : List Written → List Standing → List ℕ
begun [] ss = map (λ s. 1) ss
begun (a ∷ more) ss = replicate (given_count a ss) a.at ++ begun more (drop (given_count a ss) ss)

-- ---- in the program

abbrev pub written_as : Kept → Written
written_as a = record { content = option_copied a.content; param = a.param; at = a.at }

abbrev pub all_written : List Kept → List Written
all_written list = map written_as list
