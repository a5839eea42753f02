-- How the locals of a unit are named and set, by the statements' shape alone.
use Rattle.std.specs.Prelude.{ℕ, Option, Some, None}
use Rattle.bound_tree.specs.declared.tree.Naming.{Naming}
use Rattle.bound_tree.specs.Tree.{Term, Terms, Statement, Statements, local_of, base_of}
use Rattle.bound_tree.specs.Tree as t

-- what is done to locals, each with what comes after it: a local is named at a token; a local is set,
-- by its declaration or an assignment; the call is left; one of two parts comes; a part comes any
-- number of times
pub data Flow : Type 0 where
  End : Flow
  Names : ℕ → ℕ → Flow → Flow
  Sets : ℕ → Flow → Flow
  Leaves : Flow → Flow
  Either : Flow → Flow → Flow → Flow
  Again : Flow → Flow → Flow

-- ---- what a part of the tree does before what comes after it

abbrev mutual
  pub in_term : Term → Flow → Flow
  in_term (t.Const s l) k = k
  in_term (t.This s) k = Names 0 s.at k
  in_term (t.Local s x) k = Names x s.at k
  in_term (t.Field s b f) k = in_term b k
  in_term (t.Static s f) k = k
  in_term (t.New s c es) k = in_terms es k
  in_term (t.Call s r m es) k = in_term r (in_terms es k)
  in_term (t.CallStatic s m es) k = in_terms es k
  in_term (t.Unknown s n es) k = in_terms es k
  in_term (t.UnknownField s b n) k = in_term b k
  in_term (t.UnknownCall s r n es) k = in_term r (in_terms es k)
  in_term (t.Unary s o a) k = in_term a k
  in_term (t.And s a b) k = in_term a (Either (in_term b End) End k)
  in_term (t.Or s a b) k = in_term a (Either End (in_term b End) k)
  in_term (t.Binary s o a b) k = in_term a (in_term b k)

  pub in_terms : Terms → Flow → Flow
  in_terms t.no_terms k = k
  in_terms (t.term e es) k = in_term e (in_terms es k)

-- a target's base, the read of a target that is a local, and its write
abbrev pub in_any : Option Term → Flow → Flow
in_any None k = k
in_any (Some e) k = in_term e k

abbrev pub local_named : Option Naming → Flow → Flow
local_named None k = k
local_named (Some n) k = Names n.local n.at k

abbrev pub local_set : Option Naming → Flow → Flow
local_set None k = k
local_set (Some n) k = Sets n.local k

abbrev mutual
  pub in_statement : Statement → Flow → Flow
  in_statement (t.Block ss) k = in_statements ss k
  in_statement (t.Declare p x ty v) k = in_term v (Sets x k)
  in_statement (t.Assign to v) k = in_any (base_of to) (in_term v (local_set (local_of to) k))
  in_statement (t.Compound to o v) k = in_any (base_of to) (local_named (local_of to) (in_term v (local_set (local_of to) k)))
  in_statement (t.Perform v) k = in_term v k
  in_statement (t.Start p v) k = in_term v k
  in_statement (t.If v a b) k = in_term v (Either (in_statement a End) (in_statement b End) k)
  in_statement (t.While v a) k = in_term v (Again (in_statement a (in_term v End)) k)
  in_statement (t.Sync v a) k = in_term v (in_statement a k)
  in_statement (t.SyncClass p c a) k = in_statement a k
  in_statement (t.Return p) k = Leaves k
  in_statement (t.ReturnValue p v) k = in_term v (Leaves k)

  pub in_statements : Statements → Flow → Flow
  in_statements t.no_statements k = k
  in_statements (t.statement s ss) k = in_statement s (in_statements ss k)

-- the flow of a unit's code
abbrev pub flow_of : Statement → Flow
flow_of s = in_statement s End
