-- Statements that are bound one after another.
use Rattle.std.proofs.Common.{◌≡◌, ℕ, suc, ◌+◌, ◌<◌, ◌≤◌, ◌-◌, ◌==◌, Bool, true, false, List, [], ◌∷◌, ◌++◌, map, drop, length, get_or, refl, ap, ap₂, sym, ◌∙◌, subst, append_assoc, append-nil, add-one, drop-cons, drop_of_length-le, arith}
use Rattle.std.specs.Prelude.{Option}
use Rattle.std.proofs.Math.Dec.{eqb-suc-zero}
use Rattle.bound_tree.proofs.Tests.{false-true}
use Rattle.desk_base.specs.declared.span.Span.{Span}
use Rattle.class_faces.specs.declared.face.FaceTy.{FaceTy}
use Rattle.java_tree.specs.declared.stmt.BlockItem.{BlockItem}
use Rattle.tree_places.specs.PlainStmt.{PlainStmt, PlainStmts, stmts}
use Rattle.tree_places.specs.PlainStmt as p
use Rattle.tree_places.specs.Plain.{plain_item}
use Rattle.bound_tree.specs.declared.tree.Stmt.{Stmt as Made}
use Rattle.bound_tree.specs.Tree.{Statement}
use Rattle.bound_tree.specs.Reading.{statement_of}
use Rattle.name_rules.specs.declared.note.Note.{Note}
use Rattle.expression_binding.specs.Bound.{Ground}
use Rattle.statement_binding.specs.declared.locals.Locals.{Locals}
use Rattle.statement_binding.specs.Done.{Done, DoneAll, none_done, before_others}
use Rattle.statement_binding.specs.Finals.{Written}
use Rattle.statement_binding.specs.Ends.{never_ends, last_never_ends}
use Rattle.statement_binding.specs.Statements.{behind, behind_all, statement, statements}
use Rattle.statement_binding.specs.Bodies.{top_statement, top_statements, written_behind}
use Rattle.statement_binding.proofs.Shapes.{statements-none, statements-some, top_statements-none, top_statements-some, behind_all-none, behind_all-some, last_ends-none, last_ends-some}
use Rattle.statement_binding.proofs.Blocks.{map_pushed}

-- ---- what is made and told, with what is left, is all

pub record Whole (left all : DoneAll) (done : List Statement) (first told : List Note) : Type 0 where
  pub made : done ++ left.made ≡ all.made
  pub notes : told ++ left.notes ≡ first ++ all.notes

first_whole : (all : DoneAll) (first : List Note) → Whole all all [] first first
first_whole all first = record { made = refl; notes = refl }

one_more : (left rest all : DoneAll) (d : Done) (done : List Statement) (first told : List Note)
    → left ≡ before_others d rest → Whole left all done first told → Whole rest all (done ++ d.made ∷ []) first (told ++ d.notes)
one_more left rest all d done first told step whole = record {
  made = append_assoc done (d.made ∷ []) rest.made ∙ sym (ap (λ (b : DoneAll). done ++ b.made) step) ∙ whole.made;
  notes = append_assoc told d.notes rest.notes ∙ sym (ap (λ (b : DoneAll). told ++ b.notes) step) ∙ whole.notes;
}

over_made : (left all : DoneAll) (done : List Statement) (first told : List Note) → left ≡ none_done → Whole left all done first told → done ≡ all.made
over_made left all done first told over whole = sym (append-nil done) ∙ sym (ap (λ (b : DoneAll). done ++ b.made) over) ∙ whole.made

over_notes : (left all : DoneAll) (done : List Statement) (first told : List Note) → left ≡ none_done → Whole left all done first told → told ≡ first ++ all.notes
over_notes left all done first told over whole = sym (append-nil told) ∙ sym (ap (λ (b : DoneAll). told ++ b.notes) over) ∙ whole.notes

-- ---- the items from a number on

abbrev pub from : (Span → ℕ) → List BlockItem → ℕ → PlainStmts
from number list at = stmts (map (plain_item number) (drop at list))

from-step : (number : Span → ℕ) (list : List BlockItem) (at : ℕ) (d : BlockItem) → at < length list
    → from number list at ≡ p.stmt (plain_item number (get_or list at d)) (from number list (at + 1))
from-step number list at d h =
    ap (λ l. stmts (map (plain_item number) l)) (drop-cons list at d h)
    ∙ ap (λ n. p.stmt (plain_item number (get_or list at d)) (from number list n)) (sym (add-one at))

from-over : (number : Span → ℕ) (list : List BlockItem) (at : ℕ) → length list ≤ at → from number list at ≡ p.no_stmts
from-over number list at past = ap (λ l. stmts (map (plain_item number) l)) (drop_of_length-le list past)

-- ---- the items of a block

pub record Goes (g : Ground) (r : Option FaceTy) (number : Span → ℕ) (list : List BlockItem) (before now : Locals) (made : List Made) (first told : List Note) (at : ℕ) : Type 0 where
  pub whole : Whole (statements g r now (from number list at)) (statements g r before (from number list 0)) (map statement_of made) first told
  pub locals : behind_all now (from number list at) ≡ behind_all before (from number list 0)

pub goes_first : (g : Ground) (r : Option FaceTy) (number : Span → ℕ) (list : List BlockItem) (ls : Locals) (made : List Made) (first : List Note) → made ≡ [] → Goes g r number list ls ls made first first 0
goes_first g r number list ls made first none =
    subst (λ (m : List Made). Goes g r number list ls ls m first first 0) (sym none) (record { whole = first_whole _ first; locals = refl })

pub goes_on : (g : Ground) (r : Option FaceTy) (number : Span → ℕ) (list : List BlockItem) (before now : Locals) (made : List Made) (first told : List Note) (at : ℕ) (d : BlockItem)
    → (behind_it : Locals) (pushed : List Made) (s : Made) (more : List Note) (item : BlockItem) → at < length list → item ≡ get_or list at d
    → statement_of s ≡ (statement g r now (plain_item number item)).made
    → more ≡ told ++ (statement g r now (plain_item number item)).notes
    → behind_it ≡ behind now (plain_item number item)
    → pushed ≡ made ++ s ∷ []
    → Goes g r number list before now made first told at → Goes g r number list before behind_it pushed first more (at + 1)
goes_on g r number list before now made first told at d behind_it pushed s more item h is e1 e2 e3 put goes =
    let step : from number list at ≡ p.stmt (plain_item number item) (from number list (at + 1)) = from-step number list at d h ∙ ap (λ (i : BlockItem). p.stmt (plain_item number i) (from number list (at + 1))) (sym is) in
    let all = statements g r before (from number list 0) in
    let bound : statements g r now (from number list at) ≡ before_others (statement g r now (plain_item number item)) (statements g r (behind now (plain_item number item)) (from number list (at + 1))) =
    ap (statements g r now) step ∙ statements-some g r now (plain_item number item) (from number list (at + 1)) in
    let ended : behind_all now (from number list at) ≡ behind_all (behind now (plain_item number item)) (from number list (at + 1)) =
    ap (behind_all now) step ∙ behind_all-some now (plain_item number item) (from number list (at + 1)) in
    let list_made : map statement_of pushed ≡ map statement_of made ++ (statement g r now (plain_item number item)).made ∷ [] =
    ap (map statement_of) put ∙ map_pushed made s ∙ ap (λ (m : Statement). map statement_of made ++ m ∷ []) e1 in
    let done : Whole (statements g r (behind now (plain_item number item)) (from number list (at + 1))) all (map statement_of made ++ (statement g r now (plain_item number item)).made ∷ []) first (told ++ (statement g r now (plain_item number item)).notes) =
    one_more _ _ all (statement g r now (plain_item number item)) (map statement_of made) first told bound goes.whole in
    record {
      whole =
          subst (λ (n : List Note). Whole (statements g r behind_it (from number list (at + 1))) all (map statement_of pushed) first n) (sym e2)
          (subst (λ (l : List Statement). Whole (statements g r behind_it (from number list (at + 1))) all l first (told ++ (statement g r now (plain_item number item)).notes)) (sym list_made)
          (subst (λ (b : Locals). Whole (statements g r b (from number list (at + 1))) all (map statement_of made ++ (statement g r now (plain_item number item)).made ∷ []) first (told ++ (statement g r now (plain_item number item)).notes)) (sym e3) done));
      locals = ap (λ (b : Locals). behind_all b (from number list (at + 1))) e3 ∙ sym ended ∙ goes.locals;
    }

pub goes_made : (g : Ground) (r : Option FaceTy) (number : Span → ℕ) (list : List BlockItem) (before now : Locals) (made : List Made) (first told : List Note) (at : ℕ) → length list ≤ at
    → Goes g r number list before now made first told at → map statement_of made ≡ (statements g r before (stmts (map (plain_item number) list))).made
goes_made g r number list before now made first told at past goes =
    over_made _ _ _ first told (ap (statements g r now) (from-over number list at past) ∙ statements-none g r now) goes.whole

pub goes_notes : (g : Ground) (r : Option FaceTy) (number : Span → ℕ) (list : List BlockItem) (before now : Locals) (made : List Made) (first told : List Note) (at : ℕ) → length list ≤ at
    → Goes g r number list before now made first told at → told ≡ first ++ (statements g r before (stmts (map (plain_item number) list))).notes
goes_notes g r number list before now made first told at past goes =
    over_notes _ _ _ first told (ap (statements g r now) (from-over number list at past) ∙ statements-none g r now) goes.whole

pub goes_locals : (g : Ground) (r : Option FaceTy) (number : Span → ℕ) (list : List BlockItem) (before now : Locals) (made : List Made) (first told : List Note) (at : ℕ) → length list ≤ at
    → Goes g r number list before now made first told at → now ≡ behind_all before (stmts (map (plain_item number) list))
goes_locals g r number list before now made first told at past goes =
    sym (behind_all-none now) ∙ sym (ap (behind_all now) (from-over number list at past)) ∙ goes.locals

-- ---- those at the top level of a constructor

pub record TopGoes (g : Ground) (number : Span → ℕ) (list : List BlockItem) (before now : Locals) (written : Written) (made : List Made) (first told : List Note) (at : ℕ) : Type 0 where
  pub whole : Whole (top_statements g written now (from number list at)) (top_statements g [] before (from number list 0)) (map statement_of made) first told

pub top_first : (g : Ground) (number : Span → ℕ) (list : List BlockItem) (ls : Locals) (written : Written) (made : List Made) (first : List Note) → written ≡ [] → made ≡ [] → TopGoes g number list ls ls written made first first 0
top_first g number list ls written made first nothing none =
    subst (λ (w : Written). TopGoes g number list ls ls w made first first 0) (sym nothing)
    (subst (λ (m : List Made). TopGoes g number list ls ls [] m first first 0) (sym none) (record { whole = first_whole _ first }))

pub top_on : (g : Ground) (number : Span → ℕ) (list : List BlockItem) (before now : Locals) (written : Written) (made : List Made) (first told : List Note) (at : ℕ) (d : BlockItem)
    → (behind_it : Locals) (after : Written) (pushed : List Made) (s : Made) (more : List Note) (item : BlockItem) → at < length list → item ≡ get_or list at d
    → statement_of s ≡ (top_statement g written now (plain_item number item)).made
    → more ≡ told ++ (top_statement g written now (plain_item number item)).notes
    → after ≡ written_behind g written now.scope (plain_item number item)
    → behind_it ≡ behind now (plain_item number item)
    → pushed ≡ made ++ s ∷ []
    → TopGoes g number list before now written made first told at → TopGoes g number list before behind_it after pushed first more (at + 1)
top_on g number list before now written made first told at d behind_it after pushed s more item h is e1 e2 e3 e4 put goes =
    let step : from number list at ≡ p.stmt (plain_item number item) (from number list (at + 1)) = from-step number list at d h ∙ ap (λ (i : BlockItem). p.stmt (plain_item number i) (from number list (at + 1))) (sym is) in
    let all = top_statements g [] before (from number list 0) in
    let one = top_statement g written now (plain_item number item) in
    let bound : top_statements g written now (from number list at) ≡ before_others one (top_statements g (written_behind g written now.scope (plain_item number item)) (behind now (plain_item number item)) (from number list (at + 1))) =
    ap (top_statements g written now) step ∙ top_statements-some g written now (plain_item number item) (from number list (at + 1)) in
    let list_made : map statement_of pushed ≡ map statement_of made ++ one.made ∷ [] =
    ap (map statement_of) put ∙ map_pushed made s ∙ ap (λ (m : Statement). map statement_of made ++ m ∷ []) e1 in
    let done : Whole (top_statements g (written_behind g written now.scope (plain_item number item)) (behind now (plain_item number item)) (from number list (at + 1))) all (map statement_of made ++ one.made ∷ []) first (told ++ one.notes) =
    one_more _ _ all one (map statement_of made) first told bound goes.whole in
    record {
      whole =
          subst (λ (n : List Note). Whole (top_statements g after behind_it (from number list (at + 1))) all (map statement_of pushed) first n) (sym e2)
          (subst (λ (l : List Statement). Whole (top_statements g after behind_it (from number list (at + 1))) all l first (told ++ one.notes)) (sym list_made)
          (subst (λ (w : Written). Whole (top_statements g w behind_it (from number list (at + 1))) all (map statement_of made ++ one.made ∷ []) first (told ++ one.notes)) (sym e3)
          (subst (λ (b : Locals). Whole (top_statements g (written_behind g written now.scope (plain_item number item)) b (from number list (at + 1))) all (map statement_of made ++ one.made ∷ []) first (told ++ one.notes)) (sym e4) done)));
    }

pub top_made : (g : Ground) (number : Span → ℕ) (list : List BlockItem) (before now : Locals) (written : Written) (made : List Made) (first told : List Note) (at : ℕ) → length list ≤ at
    → TopGoes g number list before now written made first told at → map statement_of made ≡ (top_statements g [] before (stmts (map (plain_item number) list))).made
top_made g number list before now written made first told at past goes =
    over_made _ _ _ first told (ap (top_statements g written now) (from-over number list at past) ∙ top_statements-none g written now) goes.whole

pub top_notes : (g : Ground) (number : Span → ℕ) (list : List BlockItem) (before now : Locals) (written : Written) (made : List Made) (first told : List Note) (at : ℕ) → length list ≤ at
    → TopGoes g number list before now written made first told at → told ≡ first ++ (top_statements g [] before (stmts (map (plain_item number) list))).notes
top_notes g number list before now written made first told at past goes =
    over_notes _ _ _ first told (ap (top_statements g written now) (from-over number list at past) ∙ top_statements-none g written now) goes.whole

-- ---- the last one

last_of : (number : Span → ℕ) (x : BlockItem) (xs : List BlockItem) (before : Bool) (d : BlockItem)
    → last_never_ends before (stmts (map (plain_item number) (x ∷ xs))) ≡ never_ends (plain_item number (get_or (x ∷ xs) (length xs) d))
last_of number x [] before d = last_ends-some before (plain_item number x) p.no_stmts ∙ last_ends-none (never_ends (plain_item number x))
last_of number x (y ∷ ys) before d =
    last_ends-some before (plain_item number x) (stmts (map (plain_item number) (y ∷ ys)))
    ∙ last_of number y ys (never_ends (plain_item number x)) d

pub last_ends : (number : Span → ℕ) (list : List BlockItem) (item d : BlockItem) (at : ℕ) → at + 1 ≡ length list → item ≡ get_or list at d
    → last_never_ends false (stmts (map (plain_item number) list)) ≡ never_ends (plain_item number item)
last_ends number [] item d at e is = absurd (omega arith)
last_ends number (x ∷ xs) item d at e is =
    let same : at ≡ length xs = omega arith in
    last_of number x xs false d ∙ sym (ap (λ (i : BlockItem). never_ends (plain_item number i)) (is ∙ ap (λ (n : ℕ). get_or (x ∷ xs) n d) same))

pub none_ends : (number : Span → ℕ) (list : List BlockItem) → true ≡ (length list == 0) → false ≡ last_never_ends false (stmts (map (plain_item number) list))
none_ends number [] h = sym (last_ends-none false)
none_ends number (x ∷ xs) h = absurd (false-true (sym (eqb-suc-zero (length xs)) ∙ sym h))

pub one_ends : (number : Span → ℕ) (list : List BlockItem) (item : BlockItem) → false ≡ (length list == 0) → item ≡ get_or list (length list - 1) item
    → never_ends (plain_item number item) ≡ last_never_ends false (stmts (map (plain_item number) list))
one_ends number [] item h is = absurd (cc)
one_ends number (x ∷ xs) item h is = sym (last_ends number (x ∷ xs) item item (length (x ∷ xs) - 1) (omega arith) is)
