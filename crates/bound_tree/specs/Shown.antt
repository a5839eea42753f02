-- Claims and places of the program, without where they lie in memory.
use Rattle.std.specs.Prelude.{ℕ, List, map, reverse, Option, Some, None}
use Rattle.bound_tree.specs.Claim.{Claim}
use Rattle.bound_tree.specs.Claim as claim
use Rattle.bound_tree.specs.Claims.{Seen}
use Rattle.bound_tree.specs.Places.{Owner, Goal, What, Access, one_term, two_terms}
use Rattle.bound_tree.specs.Places as place
use Rattle.bound_tree.specs.Reading.{term_of, terms_of}
use Rattle.bound_tree.specs.Tree.{Terms}
use Rattle.bound_tree.specs.declared.claim.Claim.{Claim as KeptClaim}
use Rattle.bound_tree.specs.declared.claim.Claim.TheVariants as c
use Rattle.bound_tree.specs.declared.place.Access.{Access as KeptAccess}
use Rattle.bound_tree.specs.declared.place.Callee.{Callee as KeptCallee}
use Rattle.bound_tree.specs.declared.place.Callee.TheVariants as callee
use Rattle.bound_tree.specs.declared.place.Goal.{Goal as KeptGoal}
use Rattle.bound_tree.specs.declared.place.Goal.TheVariants as g
use Rattle.bound_tree.specs.declared.place.Owner.{Owner as KeptOwner}
use Rattle.bound_tree.specs.declared.place.Owner.TheVariants as o
use Rattle.bound_tree.specs.declared.place.Phrase.{Phrase as KeptPhrase}
use Rattle.bound_tree.specs.declared.place.Phrase.TheVariants as p
use Rattle.bound_tree.specs.declared.place.Seen.{Seen as KeptSeen}
use Rattle.bound_tree.specs.declared.place.What.{What as KeptWhat}
use Rattle.bound_tree.specs.declared.place.What.TheVariants as w

abbrev pub claim_as : KeptClaim → Claim
claim_as (c.Local x) = claim.Local x
claim_as (c.Field x class name) = claim.Field x class.now name.now
claim_as (c.Static class name) = claim.Static class.now name.now
claim_as (c.Class class) = claim.Class class.now

abbrev pub claim_if_any : Option KeptClaim → Option Claim
claim_if_any None = None
claim_if_any (Some m) = Some (claim_as m)

abbrev pub claims_as : List KeptClaim → List Claim
claims_as ms = map claim_as ms

abbrev pub owner_as : KeptOwner → Owner
owner_as (o.Of e) = place.Of (term_of e.now)
owner_as o.OfClass = place.OfClass

abbrev pub goal_as : KeptGoal → Goal
goal_as (g.ToField f) = place.ToField f.now
goal_as (g.ToLocal x) = place.ToLocal x
goal_as (g.ToReceiver m) = place.ToReceiver m.now
goal_as (g.ToArgument m n) = place.ToArgument m.now n
goal_as (g.ToConstructor class n) = place.ToConstructor class.now n
goal_as (g.ToNothing name) = place.ToNothing name.now
goal_as g.ToResult = place.ToResult
goal_as g.ToThread = place.ToThread

abbrev pub access_if_any : Option KeptAccess → Option Access
access_if_any None = None
access_if_any (Some a) = Some (record { faulty = a.is_faulty; at = a.at; field = a.field.now; owner = owner_as a.owner })

abbrev pub what_as : KeptWhat → What
what_as (w.Reads f owner) = place.Reads f.now (owner_as owner)
what_as (w.Writes f owner) = place.Writes f.now (owner_as owner)
what_as (w.Calls m owner es) = place.Calls m.now (owner_as owner) (terms_of es.now)
what_as (w.Makes class es) = place.Makes class.now (terms_of es.now)
what_as (w.Starts e) = place.Starts (term_of e.now)
what_as (w.Locks e) = place.Locks (term_of e.now)
what_as (w.Flows e goal) = place.Flows (term_of e.now) (goal_as goal)

abbrev pub phrase_as : KeptPhrase → Terms
phrase_as (p.One e) = one_term (term_of e.now)
phrase_as (p.Two a b) = two_terms (term_of a.now) (term_of b.now)

abbrev pub shown : KeptSeen → Seen
shown s = record { claims = claims_as s.claims.now; phrase = phrase_as s.phrase; faulty = s.is_faulty; at = s.at; what = what_as s.what }

abbrev pub all_shown : List KeptSeen → List Seen
all_shown list = map shown list

-- of a list that is filled from its end
abbrev pub shown_back : List KeptSeen → List Seen
shown_back list = all_shown (reverse list)

-- where the argument of a number goes
abbrev pub argument_goal : KeptCallee → ℕ → Goal
argument_goal (callee.Method m) n = place.ToArgument m.now n
argument_goal (callee.Constructor class) n = place.ToConstructor class.now n
argument_goal (callee.Nothing name) n = place.ToNothing name.now
