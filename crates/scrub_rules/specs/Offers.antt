-- The promises that an annotation offers at its target.
use Rattle.std.specs.Prelude.{ℕ, Bool, true, false, List, [], ◌∷◌, ◌++◌, Option, Some, None, map, codes}
use Rattle.std.specs.List.{slice_get}
use Rattle.java_tree.specs.declared.member.Param.{Param}
use Rattle.java_tree.specs.declared.member.MemberTree.{MemberTree}
use Rattle.desk_base.specs.declared.key.PromiseName.{PromiseName}
use Rattle.desk_base.specs.declared.key.PromiseName.TheVariants as kind
use Rattle.promise_grammar.specs.declared.lock.LockItem.{LockItem}
use Rattle.promise_grammar.specs.declared.lock.LockItem.TheVariants as lock
use Rattle.promise_grammar.specs.declared.effects.EffectsContent.{EffectsContent}
use Rattle.promise_grammar.specs.declared.tree.PromiseTree.{PromiseTree, out-PromiseTree}
use Rattle.promise_grammar.specs.declared.tree.PromiseTree.TheOpen.{PromiseTree-F}
use Rattle.promise_grammar.specs.declared.mark.UniqueContent.TheVariants as unique_at
use Rattle.promise_grammar.specs.declared.mark.BorrowedContent.TheVariants as borrowed_at
use Rattle.scrub_rules.specs.declared.place.SiteKind.{SiteKind}
use Rattle.scrub_rules.specs.declared.place.SiteKind.TheVariants as at
use Rattle.scrub_rules.specs.declared.offer.Offer.{Offer}
use Rattle.scrub_rules.specs.declared.place.Site.{Site}
use Rattle.scrub_rules.specs.Place.{params_of}
use Rattle.class_faces.specs.Keys.{text_of}
use Rattle.scrub_rules.specs.Facts.{Facts}
use Rattle.scrub_rules.specs.Target.{Kinds, lock_code, effects_code, in_region_code}

abbrev pub colon : List ℕ → List ℕ → List ℕ
colon owner name = owner ++ codes ":" ++ name

-- a bare lock of the own class in the long form
abbrev pub bare_detail : Option Bool → List ℕ → List ℕ → List ℕ
bare_detail None class name = name
bare_detail (Some true) class name = colon class name
bare_detail (Some false) class name = colon (codes "this") name

-- An item of a RequiresLock in the long form; as it is written where there is no such lock.
abbrev pub lock_detail : Kinds → List ℕ → LockItem → List ℕ
lock_detail kinds class (lock.Bare name) = bare_detail (kinds name) class name
lock_detail kinds class (lock.This name) = colon (codes "this") name
lock_detail kinds class (lock.Of owner name) = colon owner name

-- the name of a parameter, by its number
abbrev pub name_in : Option Param → List ℕ
name_in None = []
name_in (Some p) = p.name.text

abbrev pub param_name : MemberTree → Option ℕ → List ℕ
param_name m None = []
param_name m (Some i) = name_in (slice_get (params_of m) i)

-- a promise of the annotation's own kind that names nothing
abbrev pub plain : PromiseName → List ℕ → Offer
plain name detail = record { form = name; name = name; detail = detail; code = None }

abbrev pub region_offer : Facts → List ℕ → Offer
region_offer at name = record {
  form = kind.InRegion;
  name = kind.InRegion;
  detail = text_of name;
  code = in_region_code (at.regions name) at.field_static;
}

-- one item of a RequiresLock
abbrev pub lock_offer : Facts → Bool → LockItem → Offer
lock_offer at has_this item = record {
  form = kind.RequiresLock;
  name = kind.RequiresLock;
  detail = text_of (lock_detail at.locks at.class item);
  code = lock_code at.locks at.class has_this at.params item;
}

-- on a constructor, that its result is unique is that it lends `this` to none
abbrev pub return_offer : SiteKind → Offer
return_offer at.Ctor = record { form = kind.Unique; name = kind.Borrowed; detail = codes "this"; code = None }
return_offer _ = plain kind.Unique (codes "return")

abbrev pub effects_offer : Facts → Bool → EffectsContent → Offer
effects_offer at has_this content = record {
  form = kind.RegionEffects;
  name = kind.RegionEffects;
  detail = [];
  code = effects_code at.regions at.class has_this at.params content;
}

-- The promises that an annotation with this content offers at a site, each with the first code of what
-- it names; `param` is the name of the parameter that it stands at.
abbrev pub offers_of : Facts → Site → List ℕ → PromiseTree-F PromiseTree → List Offer
offers_of at site param (PromiseTree-F.Region content) = plain kind.Region (text_of content.name) ∷ []
offers_of at site param (PromiseTree-F.InRegion name) = region_offer at name ∷ []
offers_of at site param (PromiseTree-F.RegionLock content) = plain kind.RegionLock (text_of content.name) ∷ []
offers_of at site param (PromiseTree-F.RequiresLock items) = map (lock_offer at site.has_this) items
offers_of at site param (PromiseTree-F.Unique unique_at.Place) = plain kind.Unique (text_of param) ∷ []
offers_of at site param (PromiseTree-F.Unique unique_at.Return) = return_offer site.kind ∷ []
offers_of at site param (PromiseTree-F.Borrowed borrowed_at.Place) = plain kind.Borrowed (text_of param) ∷ []
offers_of at site param (PromiseTree-F.Borrowed borrowed_at.This) = plain kind.Borrowed (codes "this") ∷ []
offers_of at site param (PromiseTree-F.RegionEffects content) = effects_offer at site.has_this content ∷ []
offers_of at site param PromiseTree-F.Starts = plain kind.Starts [] ∷ []
offers_of at site param (PromiseTree-F.Promise inner scope) = []
offers_of at site param (PromiseTree-F.Assume inner member) = []
offers_of at site param (PromiseTree-F.Vouch text) = []

-- a tree that holds no other, which is what is spread and what is assumed
abbrev pub flat_in : PromiseTree → PromiseTree-F PromiseTree → Option PromiseTree
flat_in t (PromiseTree-F.Promise inner scope) = None
flat_in t (PromiseTree-F.Assume inner member) = None
flat_in t _ = Some t

abbrev pub flat : PromiseTree → Option PromiseTree
flat t = flat_in t (out-PromiseTree t)
