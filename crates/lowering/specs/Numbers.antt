-- What numbers the names of a program, and core code as its numbers are put in the place of names.
use Rattle.std.specs.Prelude.{ℕ, List, [], Option, Some, None}
use Rattle.core_model.specs.Code as core
use Rattle.core_model.specs.declared.instr.Claim.{Claim}
use Rattle.core_model.specs.declared.instr.Claim.TheVariants as claim
use Rattle.core_model.specs.declared.instr.Known.{Known}
use Rattle.core_model.specs.declared.instr.Known.TheVariants as known
use Rattle.core_model.specs.declared.instr.Note.{Note}
use Rattle.core_model.specs.declared.instr.Plain.{Plain}
use Rattle.core_model.specs.declared.instr.Plain.TheVariants as plain
use Rattle.core_model.specs.declared.value.Value.{Value}
use Rattle.core_model.specs.declared.value.Value.TheVariants as value
use Rattle.bound_tree.specs.Claim.{Claim as TreeClaim}
use Rattle.bound_tree.specs.Claim as tree_claim
use Rattle.lowering.specs.declared.instr.NamedKnown.{NamedKnown}
use Rattle.lowering.specs.declared.instr.NamedKnown.TheVariants as named_known
use Rattle.lowering.specs.declared.instr.NamedNote.{NamedNote}
use Rattle.lowering.specs.declared.instr.Constant.{Constant}
use Rattle.lowering.specs.declared.instr.Constant.TheVariants as constant
use Rattle.lowering.specs.declared.instr.NamedPlain.{NamedPlain}
use Rattle.lowering.specs.declared.instr.NamedPlain.TheVariants as named
use Rattle.lowering.specs.Code.{Code, Done, Do, If, While, Enter, EnterClass}
use Rattle.lowering.specs.Noted.{claim_in}
use Rattle.lowering.specs.Acts.{noted}

-- the numbers of the declared classes and interfaces, of the fields of each among those of its object, of members' names, and
-- of texts; `Runnable` and `Object` have none
pub record Numbers : Type 0 where
  pub class : List ℕ → Option ℕ
  pub field : List ℕ → List ℕ → ℕ
  pub member : List ℕ → ℕ
  pub text : List ℕ → ℕ

abbrev pub or_zero : Option ℕ → ℕ
or_zero None = 0
or_zero (Some i) = i

abbrev pub class_number : Numbers → List ℕ → ℕ
class_number r c = or_zero (r.class c)

abbrev pub claim_number : Numbers → TreeClaim → Claim
claim_number r (tree_claim.Local x) = claim.Local x
claim_number r (tree_claim.Field x c f) = claim.Field x (r.field c f)
claim_number r (tree_claim.Static c f) = claim.Static (class_number r c) (r.field c f)
claim_number r (tree_claim.Class c) = claim.Class (class_number r c)

abbrev pub class_known : Option ℕ → Known
class_known None = known.Nothing
class_known (Some i) = known.Class i

abbrev pub known_number : Numbers → NamedKnown → Known
known_number r named_known.Nothing = known.Nothing
known_number r (named_known.Class c) = class_known (r.class c)
known_number r (named_known.Monitor m) = known.Monitor (claim_number r (claim_in m))

abbrev pub note_number : Numbers → NamedNote → Note
note_number r n = record { place = n.place; known = known_number r n.known }

abbrev pub or_empty : Option (List ℕ) → List ℕ
or_empty None = []
or_empty (Some c) = c

abbrev pub constant_number : Numbers → Constant → Value
constant_number r (constant.Int x) = value.Int x
constant_number r (constant.Boolean b) = value.Bool b
constant_number r constant.Null = value.Null
constant_number r (constant.Text s) = value.Str (r.text s)

-- `n` being what is noted
abbrev pub plain_number : Numbers → NamedKnown → NamedPlain → Plain
plain_number r n (named.Const v) = plain.Const (constant_number r v)
plain_number r n (named.Get x) = plain.Get x
plain_number r n (named.Set x) = plain.Set x
plain_number r n named.Drop = plain.Drop
plain_number r n (named.Field f) = plain.Field (r.field (or_empty (noted n)) f)
plain_number r n (named.FieldKeep f) = plain.FieldKeep (r.field (or_empty (noted n)) f)
plain_number r n (named.PutField f) = plain.PutField (r.field (or_empty (noted n)) f)
plain_number r n (named.Static c f) = plain.Static (class_number r c) (r.field c f)
plain_number r n (named.PutStatic c f) = plain.PutStatic (class_number r c) (r.field c f)
plain_number r n (named.Make c k) = plain.Make (class_number r c) k
plain_number r n named.MakePlain = plain.MakePlain
plain_number r n (named.Call m k) = plain.Call (r.member m) k
plain_number r n (named.CallStatic c m k) = plain.CallStatic (class_number r c) (r.member m) k
plain_number r n (named.Op o) = plain.Op o
plain_number r n named.Neg = plain.Neg
plain_number r n named.Not = plain.Not
plain_number r n named.Start = plain.Start
plain_number r n named.Return = plain.Return
plain_number r n named.ReturnValue = plain.ReturnValue

abbrev pub numbered : Numbers → Code → core.Code
numbered r Done = core.Done
numbered r (Do n p k) = core.Do (note_number r n) (plain_number r n.known p) (numbered r k)
numbered r (If n a b k) = core.If (note_number r n) (numbered r a) (numbered r b) (numbered r k)
numbered r (While n c b k) = core.While (note_number r n) (numbered r c) (numbered r b) (numbered r k)
numbered r (Enter n b k) = core.Enter (note_number r n) (numbered r b) (numbered r k)
numbered r (EnterClass n c b k) = core.EnterClass (note_number r n) (class_number r c) (numbered r b) (numbered r k)
