-- Which operands a tree names as `this`, a local or a parameter, and a table of them by place.
use Rattle.std.specs.Prelude.{◌≡◌, ℕ, ◌==◌, false, List, [], ◌∷◌, ◌++◌, Some, None, if◌then◌else◌}
use Rattle.bound_tree.specs.declared.unit.Part.{Part}
use Rattle.bound_tree.specs.declared.unit.Part.TheVariants as part
use Rattle.bound_tree.specs.Reading.{statement_of}
use Rattle.bound_tree.specs.Tree.{Term, Terms, Statement, Statements}
use Rattle.bound_tree.specs.Tree as t
use Rattle.core_types.specs.Origins.{Origin}

-- `this` is local 0
abbrev pub origin : Term → Origin
origin (t.This s) = Some 0
origin (t.Local s x) = Some x
origin _ = None

abbrev pub origins_of : Terms → List Origin
origins_of t.no_terms = []
origins_of (t.term e es) = origin e ∷ origins_of es

-- ---- what is asked of a table

-- the base of an access, the receiver and arguments of a call, the arguments of a `new`
abbrev mutual
  pub Tells : (ℕ → List Origin) → Term → Type 0
  Tells O (t.Const s l) = Unit {0}
  Tells O (t.This s) = Unit {0}
  Tells O (t.Local s x) = Unit {0}
  Tells O (t.Field s b f) = (O s.at ≡ origin b ∷ []) × Tells O b
  Tells O (t.Static s f) = Unit {0}
  Tells O (t.New s c es) = (O s.at ≡ origins_of es) × TellsAll O es
  Tells O (t.Call s r m es) = (O s.at ≡ origin r ∷ origins_of es) × Tells O r × TellsAll O es
  Tells O (t.CallStatic s m es) = (O s.at ≡ origins_of es) × TellsAll O es
  Tells O (t.Unknown s n es) = TellsAll O es
  Tells O (t.UnknownField s b n) = Tells O b
  Tells O (t.UnknownCall s r n es) = Tells O r × TellsAll O es
  Tells O (t.Unary s o a) = Tells O a
  Tells O (t.And s a b) = Tells O a × Tells O b
  Tells O (t.Or s a b) = Tells O a × Tells O b
  Tells O (t.Binary s o a b) = Tells O a × Tells O b

  pub TellsAll : (ℕ → List Origin) → Terms → Type 0
  TellsAll O t.no_terms = Unit {0}
  TellsAll O (t.term e es) = Tells O e × TellsAll O es

-- the started reference too
abbrev mutual
  pub Told : (ℕ → List Origin) → Statement → Type 0
  Told O (t.Block ss) = ToldAll O ss
  Told O (t.Declare p x ty v) = Tells O v
  Told O (t.Assign to v) = Tells O to × Tells O v
  Told O (t.Compound to o v) = Tells O to × Tells O v
  Told O (t.Perform v) = Tells O v
  Told O (t.Start p v) = (O p ≡ origin v ∷ []) × Tells O v
  Told O (t.If v a b) = Tells O v × Told O a × Told O b
  Told O (t.While v a) = Tells O v × Told O a
  Told O (t.Sync v a) = Tells O v × Told O a
  Told O (t.SyncClass p c a) = Told O a
  Told O (t.Return p) = Unit {0}
  Told O (t.ReturnValue p v) = Tells O v

  pub ToldAll : (ℕ → List Origin) → Statements → Type 0
  ToldAll O t.no_statements = Unit {0}
  ToldAll O (t.statement s ss) = Told O s × ToldAll O ss

abbrev pub PartTold : (ℕ → List Origin) → Part → Type 0
PartTold O (part.Body b) = Told O (statement_of b.block)
PartTold O _ = Unit {0}

-- ---- the table

-- a place whose operands are told
pub record Node : Type 0 where
  pub at : ℕ
  pub operands : List Origin

abbrev pub node : ℕ → List Origin → List Node
node p os = record { at = p; operands = os } ∷ []

abbrev mutual
  pub term_nodes : Term → List Node
  term_nodes (t.Const s l) = []
  term_nodes (t.This s) = []
  term_nodes (t.Local s x) = []
  term_nodes (t.Field s b f) = node s.at (origin b ∷ []) ++ term_nodes b
  term_nodes (t.Static s f) = []
  term_nodes (t.New s c es) = node s.at (origins_of es) ++ terms_nodes es
  term_nodes (t.Call s r m es) = node s.at (origin r ∷ origins_of es) ++ (term_nodes r ++ terms_nodes es)
  term_nodes (t.CallStatic s m es) = node s.at (origins_of es) ++ terms_nodes es
  term_nodes (t.Unknown s n es) = terms_nodes es
  term_nodes (t.UnknownField s b n) = term_nodes b
  term_nodes (t.UnknownCall s r n es) = term_nodes r ++ terms_nodes es
  term_nodes (t.Unary s o a) = term_nodes a
  term_nodes (t.And s a b) = term_nodes a ++ term_nodes b
  term_nodes (t.Or s a b) = term_nodes a ++ term_nodes b
  term_nodes (t.Binary s o a b) = term_nodes a ++ term_nodes b

  pub terms_nodes : Terms → List Node
  terms_nodes t.no_terms = []
  terms_nodes (t.term e es) = term_nodes e ++ terms_nodes es

abbrev mutual
  pub nodes : Statement → List Node
  nodes (t.Block ss) = nodes_all ss
  nodes (t.Declare p x ty v) = term_nodes v
  nodes (t.Assign to v) = term_nodes to ++ term_nodes v
  nodes (t.Compound to o v) = term_nodes to ++ term_nodes v
  nodes (t.Perform v) = term_nodes v
  nodes (t.Start p v) = node p (origin v ∷ []) ++ term_nodes v
  nodes (t.If v a b) = term_nodes v ++ (nodes a ++ nodes b)
  nodes (t.While v a) = term_nodes v ++ nodes a
  nodes (t.Sync v a) = term_nodes v ++ nodes a
  nodes (t.SyncClass p c a) = nodes a
  nodes (t.Return p) = []
  nodes (t.ReturnValue p v) = term_nodes v

  pub nodes_all : Statements → List Node
  nodes_all t.no_statements = []
  nodes_all (t.statement s ss) = nodes s ++ nodes_all ss

abbrev pub part_nodes : Part → List Node
part_nodes (part.Body b) = nodes (statement_of b.block)
part_nodes _ = []

-- the operands of the first node at the place
abbrev pub table : List Node → ℕ → List Origin
table [] q = []
table (n ∷ ns) q = if n.at == q then n.operands else table ns q

abbrev pub Absent : ℕ → List Node → Type 0
Absent q [] = Unit {0}
Absent q (n ∷ ns) = (q == n.at ≡ false) × Absent q ns

-- no two nodes have one number
abbrev pub Distinct : List Node → Type 0
Distinct [] = Unit {0}
Distinct (n ∷ ns) = Absent n.at ns × Distinct ns
