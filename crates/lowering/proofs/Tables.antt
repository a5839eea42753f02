-- The table of a tree whose nodes have numbers of their own tells what the tree names.
use Rattle.std.proofs.Common.{◌≡◌, refl, ℕ, List, [], ◌∷◌, ◌++◌, eq-eqb}
use Rattle.core_laws.specs.Places.{Each}
use Rattle.core_types.specs.Origins.{Origin}
use Rattle.bound_tree.specs.declared.unit.Part.{Part}
use Rattle.bound_tree.specs.declared.unit.Part.TheVariants as part
use Rattle.bound_tree.specs.Tree.{Term, Terms, Statement, Statements}
use Rattle.bound_tree.specs.Tree as t
use Rattle.bound_tree.specs.Reading.{statement_of}
use Rattle.lowering.specs.Origins.{Tells, TellsAll, Told, ToldAll, PartTold, Node, term_nodes, terms_nodes, nodes, nodes_all, part_nodes, table, Absent, Distinct}

left : {A : Type 0} (P : A → Type 0) (xs ys : List A) → Each P (xs ++ ys) → Each P xs
left P [] ys h = tt
left P (x ∷ xs) ys h = (h.0, left P xs ys h.1)

right : {A : Type 0} (P : A → Type 0) (xs ys : List A) → Each P (xs ++ ys) → Each P ys
right P [] ys h = h
right P (x ∷ xs) ys h = right P xs ys h.1

abbrev IsIn : (ℕ → List Origin) → Node → Type 0
IsIn O n = O n.at ≡ n.operands

behind : (n : Node) (ns ms : List Node) → Absent n.at ms → Each (IsIn (table ns)) ms → Each (IsIn (table (n ∷ ns))) ms
behind n ns [] a h = tt
behind n ns (m ∷ ms) a h = (rw a.0 h.0, behind n ns ms a.1 h.1)

each-in : (ns : List Node) → Distinct ns → Each (IsIn (table ns)) ns
each-in [] d = tt
each-in (n ∷ ns) d = (rw (eq-eqb n.at n.at refl) refl, behind n ns ns d.0 (each-in ns d.1))

module _ (O : ℕ → List Origin) where
  abbrev All : List Node → Type 0
  All ns = Each (IsIn O) ns

  fst : (ns ms : List Node) → All (ns ++ ms) → All ns
  fst ns ms h = left (IsIn O) ns ms h

  snd : (ns ms : List Node) → All (ns ++ ms) → All ms
  snd ns ms h = right (IsIn O) ns ms h

  mutual
    tells : (e : Term) → All (term_nodes e) → Tells O e
    tells (t.Const s l) h = tt
    tells (t.This s) h = tt
    tells (t.Local s x) h = tt
    tells (t.Field s b f) h = (h.0, tells b h.1)
    tells (t.Static s f) h = tt
    tells (t.New s c es) h = (h.0, tells_all es h.1)
    tells (t.Call s r m es) h = (h.0, tells r (fst (term_nodes r) (terms_nodes es) h.1), tells_all es (snd (term_nodes r) (terms_nodes es) h.1))
    tells (t.CallStatic s m es) h = (h.0, tells_all es h.1)
    tells (t.Unknown s n es) h = tells_all es h
    tells (t.UnknownField s b n) h = tells b h
    tells (t.UnknownCall s r n es) h = (tells r (fst (term_nodes r) (terms_nodes es) h), tells_all es (snd (term_nodes r) (terms_nodes es) h))
    tells (t.Unary s o a) h = tells a h
    tells (t.And s a b) h = (tells a (fst (term_nodes a) (term_nodes b) h), tells b (snd (term_nodes a) (term_nodes b) h))
    tells (t.Or s a b) h = (tells a (fst (term_nodes a) (term_nodes b) h), tells b (snd (term_nodes a) (term_nodes b) h))
    tells (t.Binary s o a b) h = (tells a (fst (term_nodes a) (term_nodes b) h), tells b (snd (term_nodes a) (term_nodes b) h))

    tells_all : (es : Terms) → All (terms_nodes es) → TellsAll O es
    tells_all t.no_terms h = tt
    tells_all (t.term e es) h = (tells e (fst (term_nodes e) (terms_nodes es) h), tells_all es (snd (term_nodes e) (terms_nodes es) h))

  mutual
    told : (s : Statement) → All (nodes s) → Told O s
    told (t.Block ss) h = told_all ss h
    told (t.Declare p x ty v) h = tells v h
    told (t.Assign to v) h = (tells to (fst (term_nodes to) (term_nodes v) h), tells v (snd (term_nodes to) (term_nodes v) h))
    told (t.Compound to o v) h = (tells to (fst (term_nodes to) (term_nodes v) h), tells v (snd (term_nodes to) (term_nodes v) h))
    told (t.Perform v) h = tells v h
    told (t.Start p v) h = (h.0, tells v h.1)
    told (t.If v a b) h = (
      tells v (fst (term_nodes v) (nodes a ++ nodes b) h),
      told a (fst (nodes a) (nodes b) (snd (term_nodes v) (nodes a ++ nodes b) h)),
      told b (snd (nodes a) (nodes b) (snd (term_nodes v) (nodes a ++ nodes b) h)),
    )
    told (t.While v a) h = (tells v (fst (term_nodes v) (nodes a) h), told a (snd (term_nodes v) (nodes a) h))
    told (t.Sync v a) h = (tells v (fst (term_nodes v) (nodes a) h), told a (snd (term_nodes v) (nodes a) h))
    told (t.SyncClass p c a) h = told a h
    told (t.Return p) h = tt
    told (t.ReturnValue p v) h = tells v h

    told_all : (ss : Statements) → All (nodes_all ss) → ToldAll O ss
    told_all t.no_statements h = tt
    told_all (t.statement s ss) h = (told s (fst (nodes s) (nodes_all ss) h), told_all ss (snd (nodes s) (nodes_all ss) h))

pub table-tells : (p : Part) → Distinct (part_nodes p) → PartTold (table (part_nodes p)) p
table-tells (part.Header names) d = tt
table-tells (part.Field ty initial) d = tt
table-tells (part.Sig params result) d = tt
table-tells (part.Body b) d = told (table (nodes (statement_of b.block))) (statement_of b.block) (each-in (nodes (statement_of b.block)) d)
