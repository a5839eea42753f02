-- When a lock is held for a base: its monitor is among the claims of the place. The base is `this` or a
-- local that is never assigned, by its number; for any other expression no lock of an object is held.
use Rattle.std.specs.Prelude.{ℕ, ◌==◌, ◌&&◌, Bool, false, List, Option, Some, None}
use Rattle.std.specs.List.{list_any}
use Rattle.std.specs.Str.{bytes_eq}
use Rattle.bound_tree.specs.Claim.{Claim}
use Rattle.bound_tree.specs.Claim as claim
use Rattle.bound_tree.specs.Tree.{Term}
use Rattle.bound_tree.specs.Places.{Owner, Of, OfClass}
use Rattle.bound_tree.specs.Claims.{local_claim}
use Rattle.lock_findings.specs.declared.lock.Holder.{Holder}
use Rattle.lock_findings.specs.declared.lock.Holder.TheVariants as by

-- the claim is that of a lock of the class, held so, for the base; a lock of the class itself needs none
abbrev pub is_claim_of : Holder → List ℕ → Option ℕ → Claim → Bool
is_claim_of by.This class (Some x) (claim.Local y) = x == y
is_claim_of (by.Field name) class (Some x) (claim.Field y owner field) = (x == y) && (bytes_eq class owner && bytes_eq name field)
is_claim_of by.Class class base (claim.Class owner) = bytes_eq class owner
is_claim_of (by.Static name) class base (claim.Static owner field) = bytes_eq class owner && bytes_eq name field
is_claim_of holder class base claim = false

abbrev pub is_held : List Claim → Holder → List ℕ → Option ℕ → Bool
is_held claims holder class base = list_any (is_claim_of holder class base) claims

-- a lock that isn't there is held by nobody
abbrev pub is_held_if_any : List Claim → Option Holder → List ℕ → Option ℕ → Bool
is_held_if_any claims None class base = false
is_held_if_any claims (Some holder) class base = is_held claims holder class base

-- the base of an access or a call, `varies` being the locals that are assigned
abbrev pub base_of : (ℕ → Bool) → Owner → Option ℕ
base_of varies (Of e) = local_claim varies e
base_of varies OfClass = None
