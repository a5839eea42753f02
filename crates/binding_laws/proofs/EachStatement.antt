-- What stands in a bound statement: the fields that are read and written, the members that are called or
-- made, and the types.
use Rattle.std.proofs.Common.{List, [], ◌∷◌, ◌++◌}
use Rattle.bound_tree.specs.declared.name.FieldName.{FieldName}
use Rattle.bound_tree.specs.declared.name.ValueType.{ValueType}
use Rattle.bound_tree.specs.declared.name.ValueType.TheVariants as value
use Rattle.bound_tree.specs.Tree.{Term, Terms, Statement, Statements, base_of}
use Rattle.bound_tree.specs.Tree as t
use Rattle.bound_tree.specs.Reading as reading
use Rattle.bound_tree.specs.Places.{Place, What, Goal, Owner, Frame, Reads, Writes, Starts, Locks, Flows, InSync, InClass, Of, OfClass, ToLocal, ToThread, ToResult, base_places, access_of, read_places, written_places, target_goal, one_term, two_terms, places, places_all, term_places, under}
use Rattle.name_rules.specs.declared.note.Note.{Note}
use Rattle.name_rules.specs.Types.{Name}
use Rattle.expression_binding.specs.Laws.{IsTold}
use Rattle.bound_unit.specs.Asked.{value_names, statement_names, statements_names}
use Rattle.binding_laws.proofs.Told.{told-front, told-back}
use Rattle.binding_laws.proofs.Covered.{TermEach, IsCovered, term-more, covered-front, covered-back, Each, each-both, term-places}

-- ---- lists of names

abbrev pub Every : (Name → Type 0) → List Name → Type 0
Every N [] = Unit {0}
Every N (n ∷ ns) = N n × Every N ns

pub every-both : (N : Name → Type 0) (ns ms : List Name) → Every N ns → Every N ms → Every N (ns ++ ms)
every-both N [] ms h k = k
every-both N (n ∷ ns) ms h k = (h.0, every-both N ns ms h.1 k)

pub every-front : (N : Name → Type 0) (ns ms : List Name) → Every N (ns ++ ms) → Every N ns
every-front N [] ms h = tt
every-front N (n ∷ ns) ms h = (h.0, every-front N ns ms h.1)

pub every-back : (N : Name → Type 0) (ns ms : List Name) → Every N (ns ++ ms) → Every N ms
every-back N [] ms h = h
every-back N (n ∷ ns) ms h = every-back N ns ms h.1

pub every-more : (N M : Name → Type 0) → ((n : Name) → N n → M n) → (ns : List Name) → Every N ns → Every M ns
every-more N M more [] h = tt
every-more N M more (n ∷ ns) h = (more n h.0, every-more N M more ns h.1)

-- ---- types

abbrev pub ValueEach : (Name → Type 0) → ValueType → Type 0
ValueEach N value.Int = Unit {0}
ValueEach N value.Boolean = Unit {0}
ValueEach N value.Null = Unit {0}
ValueEach N (value.Named c) = N c

pub value-more : (N M : Name → Type 0) → ((n : Name) → N n → M n) → (ty : ValueType) → ValueEach N ty → ValueEach M ty
value-more N M more value.Int h = tt
value-more N M more value.Boolean h = tt
value-more N M more value.Null h = tt
value-more N M more (value.Named c) h = more c h

pub value-every : (N : Name → Type 0) (ty : ValueType) → ValueEach N ty → Every N (value_names ty)
value-every N value.Int h = tt
value-every N value.Boolean h = tt
value-every N value.Null h = tt
value-every N (value.Named c) h = (h, tt)

-- ---- statements

abbrev mutual
  pub StatementEach : (What → Type 0) → (Name → Type 0) → Statement → Type 0
  StatementEach P N (t.Block ss) = StatementsEach P N ss
  StatementEach P N (t.Declare at x ty v) = ValueEach N ty × TermEach P v
  StatementEach P N (t.Assign to v) = TermEach P to × TermEach P v
  StatementEach P N (t.Compound to o v) = TermEach P to × TermEach P v
  StatementEach P N (t.Perform v) = TermEach P v
  StatementEach P N (t.Start at v) = TermEach P v
  StatementEach P N (t.If v a b) = TermEach P v × StatementEach P N a × StatementEach P N b
  StatementEach P N (t.While v a) = TermEach P v × StatementEach P N a
  StatementEach P N (t.Sync v a) = TermEach P v × StatementEach P N a
  StatementEach P N (t.SyncClass at c a) = N c × StatementEach P N a
  StatementEach P N (t.Return at) = Unit {0}
  StatementEach P N (t.ReturnValue at v) = TermEach P v

  pub StatementsEach : (What → Type 0) → (Name → Type 0) → Statements → Type 0
  StatementsEach P N t.no_statements = Unit {0}
  StatementsEach P N (t.statement s ss) = StatementEach P N s × StatementsEach P N ss

module _ (P Q : What → Type 0) (N M : Name → Type 0) (more : (w : What) → P w → Q w) (wider : (n : Name) → N n → M n) where
  mutual
    pub statement-more : (s : Statement) → StatementEach P N s → StatementEach Q M s
    statement-more (t.Block ss) h = statements-more ss h
    statement-more (t.Declare at x ty v) h = (value-more N M wider ty h.0, term-more P Q more v h.1)
    statement-more (t.Assign to v) h = (term-more P Q more to h.0, term-more P Q more v h.1)
    statement-more (t.Compound to o v) h = (term-more P Q more to h.0, term-more P Q more v h.1)
    statement-more (t.Perform v) h = term-more P Q more v h
    statement-more (t.Start at v) h = term-more P Q more v h
    statement-more (t.If v a b) h = (term-more P Q more v h.0, statement-more a h.1, statement-more b h.2)
    statement-more (t.While v a) h = (term-more P Q more v h.0, statement-more a h.1)
    statement-more (t.Sync v a) h = (term-more P Q more v h.0, statement-more a h.1)
    statement-more (t.SyncClass at c a) h = (wider c h.0, statement-more a h.1)
    statement-more (t.Return at) h = tt
    statement-more (t.ReturnValue at v) h = term-more P Q more v h

    pub statements-more : (ss : Statements) → StatementsEach P N ss → StatementsEach Q M ss
    statements-more t.no_statements h = tt
    statements-more (t.statement s ss) h = (statement-more s h.0, statements-more ss h.1)

pub statements-both : (P : What → Type 0) (N : Name → Type 0) (xs ys : List Statement) → StatementsEach P N (reading.statements xs) → StatementsEach P N (reading.statements ys)
    → StatementsEach P N (reading.statements (xs ++ ys))
statements-both P N [] ys h k = k
statements-both P N (x ∷ xs) ys h k = (h.0, statements-both P N xs ys h.1 k)

-- ---- the types that stand in a statement

mutual
  pub statement-every : (P : What → Type 0) (N : Name → Type 0) (s : Statement) → StatementEach P N s → Every N (statement_names s)
  statement-every P N (t.Block ss) h = statements-every P N ss h
  statement-every P N (t.Declare at x ty v) h = value-every N ty h.0
  statement-every P N (t.Assign to v) h = tt
  statement-every P N (t.Compound to o v) h = tt
  statement-every P N (t.Perform v) h = tt
  statement-every P N (t.Start at v) h = tt
  statement-every P N (t.If v a b) h = every-both N (statement_names a) (statement_names b) (statement-every P N a h.1) (statement-every P N b h.2)
  statement-every P N (t.While v a) h = statement-every P N a h.1
  statement-every P N (t.Sync v a) h = statement-every P N a h.1
  statement-every P N (t.SyncClass at c a) h = (h.0, statement-every P N a h.1)
  statement-every P N (t.Return at) h = tt
  statement-every P N (t.ReturnValue at v) h = tt

  pub statements-every : (P : What → Type 0) (N : Name → Type 0) (ss : Statements) → StatementsEach P N ss → Every N (statements_names ss)
  statements-every P N t.no_statements h = tt
  statements-every P N (t.statement s ss) h =
      every-both N (statement_names s) (statements_names ss) (statement-every P N s h.0) (statements-every P N ss h.1)

-- ---- places

pub under-places : (P : What → Type 0) (f : Frame) (ps : List Place) → Each P ps → Each P (under f ps)
under-places P f [] h = tt
under-places P f (p ∷ ps) h = (h.0, under-places P f ps h.1)

-- a field that is written is one that may be read
module _ (P : What → Type 0) (N : Name → Type 0) (flows : (e : Term) (g : Goal) → P (Flows e g)) (starts : (e : Term) → P (Starts e)) (locks : (e : Term) → P (Locks e))
    (writes : (f : FieldName) (o : Owner) → P (Reads f o) → P (Writes f o)) where
  base-places : (ph : Terms) (to : Term) → TermEach P to → Each P (base_places ph (base_of to))
  base-places ph (t.Field s b f) h = term-places P flows ph b h.0
  base-places ph (t.UnknownField s b n) h = term-places P flows ph b h
  base-places ph _ h = tt

  read-places : (ph : Terms) (to : Term) → TermEach P to → Each P (read_places ph (access_of to))
  read-places ph (t.Field s b f) h = (h.1, tt)
  read-places ph (t.Static s f) h = (h, tt)
  read-places ph _ h = tt

  written-places : (ph : Terms) (to : Term) → TermEach P to → Each P (written_places ph (access_of to))
  written-places ph (t.Field s b f) h = (writes f (Of b) h.1, tt)
  written-places ph (t.Static s f) h = (writes f OfClass h, tt)
  written-places ph _ h = tt

  mutual
    pub statement-places : (s : Statement) → StatementEach P N s → Each P (places s)
    statement-places (t.Block ss) h = statements-places ss h
    statement-places (t.Declare at x ty v) h = each-both P (term_places (one_term v) v) _ (term-places P flows (one_term v) v h.1) (flows v (ToLocal x), tt)
    statement-places (t.Assign to v) h =
        each-both P (base_places (two_terms to v) (base_of to)) _ (base-places (two_terms to v) to h.0)
        (each-both P (term_places (two_terms to v) v) _ (term-places P flows (two_terms to v) v h.1) (flows v (target_goal to), written-places (two_terms to v) to h.0))
    statement-places (t.Compound to o v) h =
        each-both P (base_places (two_terms to v) (base_of to)) _ (base-places (two_terms to v) to h.0)
        (each-both P (read_places (two_terms to v) (access_of to)) _ (read-places (two_terms to v) to h.0)
        (each-both P (term_places (two_terms to v) v) _ (term-places P flows (two_terms to v) v h.1) (written-places (two_terms to v) to h.0)))
    statement-places (t.Perform v) h = term-places P flows (one_term v) v h
    statement-places (t.Start at v) h = each-both P (term_places (one_term v) v) _ (term-places P flows (one_term v) v h) (flows v ToThread, (starts v, tt))
    statement-places (t.If v a b) h =
        each-both P (term_places (one_term v) v) _ (term-places P flows (one_term v) v h.0) (each-both P (places a) (places b) (statement-places a h.1) (statement-places b h.2))
    statement-places (t.While v a) h = each-both P (term_places (one_term v) v) _ (term-places P flows (one_term v) v h.0) (statement-places a h.1)
    statement-places (t.Sync v a) h =
        each-both P (term_places (one_term v) v) _ (term-places P flows (one_term v) v h.0) (locks v, under-places P (InSync v) (places a) (statement-places a h.1))
    statement-places (t.SyncClass at c a) h = under-places P (InClass c) (places a) (statement-places a h.1)
    statement-places (t.Return at) h = tt
    statement-places (t.ReturnValue at v) h = each-both P (term_places (one_term v) v) _ (term-places P flows (one_term v) v h) (flows v ToResult, tt)

    pub statements-places : (ss : Statements) → StatementsEach P N ss → Each P (places_all ss)
    statements-places t.no_statements h = tt
    statements-places (t.statement s ss) h = each-both P (places s) (places_all ss) (statement-places s h.0) (statements-places ss h.1)

-- ---- what is told

pub statement-front : (class : Name) (ns ms : List Note) (s : Statement) → StatementEach (IsCovered class ns) (IsTold ns) s → StatementEach (IsCovered class (ns ++ ms)) (IsTold (ns ++ ms)) s
statement-front class ns ms = statement-more (IsCovered class ns) (IsCovered class (ns ++ ms)) (IsTold ns) (IsTold (ns ++ ms)) (covered-front class ns ms) (told-front ns ms)

pub statement-back : (class : Name) (ns ms : List Note) (s : Statement) → StatementEach (IsCovered class ms) (IsTold ms) s → StatementEach (IsCovered class (ns ++ ms)) (IsTold (ns ++ ms)) s
statement-back class ns ms = statement-more (IsCovered class ms) (IsCovered class (ns ++ ms)) (IsTold ms) (IsTold (ns ++ ms)) (covered-back class ns ms) (told-back ns ms)

pub statements-front : (class : Name) (ns ms : List Note) (ss : Statements) → StatementsEach (IsCovered class ns) (IsTold ns) ss → StatementsEach (IsCovered class (ns ++ ms)) (IsTold (ns ++ ms)) ss
statements-front class ns ms = statements-more (IsCovered class ns) (IsCovered class (ns ++ ms)) (IsTold ns) (IsTold (ns ++ ms)) (covered-front class ns ms) (told-front ns ms)

pub statements-back : (class : Name) (ns ms : List Note) (ss : Statements) → StatementsEach (IsCovered class ms) (IsTold ms) ss → StatementsEach (IsCovered class (ns ++ ms)) (IsTold (ns ++ ms)) ss
statements-back class ns ms = statements-more (IsCovered class ms) (IsCovered class (ns ++ ms)) (IsTold ms) (IsTold (ns ++ ms)) (covered-back class ns ms) (told-back ns ms)

pub value-front : (ns ms : List Note) (ty : ValueType) → ValueEach (IsTold ns) ty → ValueEach (IsTold (ns ++ ms)) ty
value-front ns ms = value-more (IsTold ns) (IsTold (ns ++ ms)) (told-front ns ms)

pub value-back : (ns ms : List Note) (ty : ValueType) → ValueEach (IsTold ms) ty → ValueEach (IsTold (ns ++ ms)) ty
value-back ns ms = value-more (IsTold ms) (IsTold (ns ++ ms)) (told-back ns ms)
