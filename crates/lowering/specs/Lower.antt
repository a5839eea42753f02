-- The code that each construct becomes, put in front of what comes after it. Operands come in their written order, each before
-- what is done with them (JLS 8, 15.7); the base of an assignment's target comes before the value (JLS 8, 15.26).
use Rattle.std.specs.Prelude.{ℕ, ◌+◌, ◌==◌, nat_lt, Bool, true, false, List, Option, Some, None, if◌then◌else◌, ℤ, pos, negsuc, codes}
use Rattle.std.specs.Str.{bytes_eq}
use Rattle.core_model.specs.declared.instr.Op.{Op}
use Rattle.bound_tree.specs.Claim.{Claim}
use Rattle.bound_tree.specs.Claim as claim
use Rattle.bound_tree.specs.declared.tree.Literal.{Literal}
use Rattle.bound_tree.specs.declared.tree.Literal.TheVariants as literal
use Rattle.bound_tree.specs.declared.tree.UnaryOp.{UnaryOp}
use Rattle.bound_tree.specs.declared.tree.UnaryOp.TheVariants as unary
use Rattle.bound_tree.specs.declared.name.ValueType.{ValueType}
use Rattle.bound_tree.specs.declared.unit.BoundTree.{BoundTree}
use Rattle.bound_tree.specs.declared.unit.Part.{Part}
use Rattle.bound_tree.specs.declared.unit.Part.TheVariants as part
use Rattle.bound_tree.specs.Tree.{Term, Terms, Statement, Statements, stamp_of}
use Rattle.bound_tree.specs.Tree as t
use Rattle.bound_tree.specs.Reading.{statement_of}
use Rattle.bound_tree.specs.Claims.{claim_of, varies_of}
use Rattle.lowering.specs.declared.instr.NamedKnown.{NamedKnown}
use Rattle.lowering.specs.declared.instr.NamedKnown.TheVariants as known
use Rattle.lowering.specs.declared.instr.NamedNote.{NamedNote}
use Rattle.lowering.specs.declared.instr.Constant.{Constant}
use Rattle.lowering.specs.declared.instr.Constant.TheVariants as constant
use Rattle.lowering.specs.declared.instr.NamedPlain.{NamedPlain}
use Rattle.lowering.specs.declared.instr.NamedPlain.TheVariants as plain
use Rattle.lowering.specs.Noted.{noted_as}
use Rattle.lowering.specs.Code.{Code, Done, Do, If, While, Enter, EnterClass}

-- ---- notes

abbrev pub plainly : ℕ → NamedNote
plainly p = record { place = p; known = known.Nothing }

-- of a field the class whose it is, of a call the static class of its receiver
abbrev pub classed : ℕ → List ℕ → NamedNote
classed p c = record { place = p; known = known.Class c }

abbrev pub monitor_of : Option Claim → NamedKnown
monitor_of None = known.Nothing
monitor_of (Some m) = known.Monitor (noted_as m)

-- of a monitor by what it is named, where that is a claim
abbrev pub claimed : ℕ → Option Claim → NamedNote
claimed p m = record { place = p; known = monitor_of m }

-- ---- literals

abbrev pub least : ℤ
least = negsuc 2147483647

-- 2147483648 stands behind a minus alone (JLS 8, 3.10.1), where it is the least int; anywhere else it would wrap to that
abbrev pub int_of : ℕ → ℤ
int_of n = if nat_lt n 2147483648 then pos n else least

abbrev pub constant_of : Literal → Constant
constant_of (literal.Int n) = constant.Int (int_of n)
constant_of (literal.Boolean b) = constant.Boolean b
constant_of literal.Null = constant.Null
constant_of (literal.Str text) = constant.Text text

abbrev pub is_over : Literal → Bool
is_over (literal.Int n) = n == 2147483648
is_over _ = false

-- whether it is 2147483648
abbrev pub is_over_all : Term → Bool
is_over_all (t.Const s l) = is_over l
is_over_all _ = false

-- whether it is the least int, which is one constant
abbrev pub is_least : UnaryOp → Term → Bool
is_least unary.Not a = false
is_least unary.Negate a = is_over_all a

abbrev pub sign : UnaryOp → NamedPlain
sign unary.Not = plain.Not
sign unary.Negate = plain.Neg

-- ---- expressions

abbrev pub count : Terms → ℕ
count t.no_terms = 0
count (t.term e es) = count es + 1

-- `new Object()` names no declared class
abbrev pub made : List ℕ → ℕ → NamedPlain
made c n = if bytes_eq c (codes "Object") then plain.MakePlain else plain.Make c n

abbrev pub const : ℕ → Constant → Code → Code
const p v k = Do (plainly p) (plain.Const v) k

-- what names nothing is its parts alone
abbrev mutual
  pub expr : Term → Code → Code
  expr (t.Const s l) k = const s.at (constant_of l) k
  expr (t.This s) k = Do (plainly s.at) (plain.Get 0) k
  expr (t.Local s x) k = Do (plainly s.at) (plain.Get x) k
  expr (t.Field s b f) k = expr b (Do (classed s.at f.class) (plain.Field f.name) k)
  expr (t.Static s f) k = Do (classed s.at f.class) (plain.Static f.class f.name) k
  expr (t.New s c es) k = exprs es (Do (plainly s.at) (made c (count es)) k)
  expr (t.Call s r m es) k = expr r (exprs es (Do (classed s.at m.class) (plain.Call m.name (count es)) k))
  expr (t.CallStatic s m es) k = exprs es (Do (classed s.at m.class) (plain.CallStatic m.class m.name (count es)) k)
  expr (t.Unknown s n es) k = exprs es k
  expr (t.UnknownField s b n) k = expr b k
  expr (t.UnknownCall s r n es) k = expr r (exprs es k)
  expr (t.Unary s o a) k = if is_least o a then const s.at (constant.Int least) k else expr a (Do (plainly s.at) (sign o) k)
  expr (t.And s a b) k = expr a (If (plainly s.at) (expr b Done) (const s.at (constant.Boolean false) Done) k)
  expr (t.Or s a b) k = expr a (If (plainly s.at) (const s.at (constant.Boolean true) Done) (expr b Done) k)
  expr (t.Binary s o a b) k = expr a (expr b (Do (plainly s.at) (plain.Op o) k))

  pub exprs : Terms → Code → Code
  exprs t.no_terms k = k
  exprs (t.term e es) k = expr e (exprs es k)

-- ---- targets of assignments

-- what stands before a target's dot
abbrev pub base_code : Term → Code → Code
base_code (t.Field s b f) k = expr b k
base_code (t.UnknownField s b n) k = expr b k
base_code _ k = k

-- the target's old value, with its base left beneath
abbrev pub old_code : Term → Code → Code
old_code (t.Local s x) k = Do (plainly s.at) (plain.Get x) k
old_code (t.Field s b f) k = Do (classed s.at f.class) (plain.FieldKeep f.name) k
old_code (t.Static s f) k = Do (classed s.at f.class) (plain.Static f.class f.name) k
old_code _ k = k

abbrev pub set_code : Term → Code → Code
set_code (t.Local s x) k = Do (plainly s.at) (plain.Set x) k
set_code (t.Field s b f) k = Do (classed s.at f.class) (plain.PutField f.name) k
set_code (t.Static s f) k = Do (classed s.at f.class) (plain.PutStatic f.class f.name) k
set_code _ k = k

abbrev pub assigned : Term → Term → Code → Code
assigned to v k = base_code to (expr v (set_code to k))

-- the base is evaluated once, and the old value is read before the new one is evaluated (JLS 8, 15.26.2)
abbrev pub changed : Term → Op → Term → Code → Code
changed to o v k = base_code to (old_code to (expr v (Do (plainly (stamp_of to).at) (plain.Op o) (set_code to k))))

-- ---- statements

-- whether the expression has a value: a call of a method without result has none
abbrev pub has_value : Term → Bool
has_value (t.Call s r m es) = m.has_result
has_value (t.CallStatic s m es) = m.has_result
has_value _ = true

abbrev pub dropped : Term → Code → Code
dropped v k = if has_value v then Do (plainly (stamp_of v).at) plain.Drop k else k

-- `varies` being the locals that are assigned, of which no monitor is named by a claim
abbrev mutual
  pub stmt : (ℕ → Bool) → Statement → Code → Code
  stmt varies (t.Block ss) k = stmts varies ss k
  stmt varies (t.Declare p x ty v) k = expr v (Do (plainly p) (plain.Set x) k)
  stmt varies (t.Assign to v) k = assigned to v k
  stmt varies (t.Compound to o v) k = changed to o v k
  stmt varies (t.Perform v) k = expr v (dropped v k)
  stmt varies (t.Start p v) k = expr v (Do (plainly p) plain.Start k)
  stmt varies (t.If v a b) k = expr v (If (plainly (stamp_of v).first) (stmt varies a Done) (stmt varies b Done) k)
  stmt varies (t.While v a) k = While (plainly (stamp_of v).first) (expr v Done) (stmt varies a Done) k
  stmt varies (t.Sync v a) k = expr v (Enter (claimed (stamp_of v).first (claim_of varies v)) (stmt varies a Done) k)
  stmt varies (t.SyncClass p c a) k = EnterClass (claimed p (Some (claim.Class c))) c (stmt varies a Done) k
  stmt varies (t.Return p) k = Do (plainly p) plain.Return k
  stmt varies (t.ReturnValue p v) k = expr v (Do (plainly p) plain.ReturnValue k)

  pub stmts : (ℕ → Bool) → Statements → Code → Code
  stmts varies t.no_statements k = k
  stmts varies (t.statement s ss) k = stmt varies s (stmts varies ss k)

-- ---- units

-- the code of a block, by the locals that are assigned in it
abbrev pub block_code : Statement → Code
block_code s = stmt (varies_of s) s Done

-- a synchronized member holds the monitor of `this`, or of its class, round its body (JLS 8, 8.4.3.6)
abbrev pub member_code : List ℕ → (synchronized static : Bool) → Code → Code
member_code c false static body = body
member_code c true false body = Do (plainly 0) (plain.Get 0) (Enter (claimed 0 (Some (claim.Local 0))) body Done)
member_code c true true body = EnterClass (claimed 0 (Some (claim.Class c))) c body Done

-- of an interface's method, which no run begins: that of `while (true) { }` where it has a result
abbrev pub sig_code : Option ValueType → Code
sig_code None = Done
sig_code (Some ty) = While (plainly 0) (const 0 (constant.Boolean true) Done) Done Done

abbrev pub part_code : List ℕ → Part → Code
part_code c (part.Header names) = Done
part_code c (part.Field ty initial) = Done
part_code c (part.Sig params result) = sig_code result
part_code c (part.Body b) = member_code c b.is_synchronized b.is_static (block_code (statement_of b.block))

-- Code: the code of a unit
abbrev pub code_of : BoundTree → Code
code_of u = part_code u.class u.part
