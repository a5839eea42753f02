-- The trees of promise annotations.
use Rattle.std.specs.Prelude.{◌≡◌, ℕ, List, [], ◌∷◌, ◌++◌, Option, Some, None}
use Rattle.promise_grammar.specs.declared.kind.PromiseKind.{PromiseKind}
use Rattle.promise_grammar.specs.declared.tree.PromiseTree.{PromiseTree}
use Rattle.promise_grammar.specs.Promise.{ReadsPromise}
use Rattle.promise_marks.specs.declared.mark.Mark.{Mark}
use Rattle.promise_marks.specs.Given.{Given}

-- the tree that the content spells, or none where it spells none
abbrev pub IsTree : PromiseKind → Option (List ℕ) → Option PromiseTree → Type 0
IsTree k None tree = tree ≡ None
IsTree k (Some content) None = (t : PromiseTree) → ReadsPromise k content t → ⊥
IsTree k (Some content) (Some t) = ReadsPromise k content t × ((other : PromiseTree) → ReadsPromise k content other → other ≡ t)

-- the annotation with its tree
pub record IsMark (g : Given) (m : Mark) : Type 0 where
  pub param : m.param ≡ g.param
  pub kind : m.kind ≡ g.kind
  pub tree : IsTree g.kind g.content m.tree

-- the annotations with their trees, one by one
abbrev pub AreMarks : List Given → List Mark → Type 0
AreMarks [] [] = Unit {0}
AreMarks (g ∷ gs) (m ∷ ms) = IsMark g m × AreMarks gs ms
AreMarks _ _ = ⊥

-- more marks were put, those of these annotations
pub record PutsMarks (old new : List Mark) (gs : List Given) : Type 0 where
  pub puts : (before : List Given) → AreMarks before old → AreMarks (before ++ gs) new
