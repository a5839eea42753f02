-- A function value that reads expressions of a level with so many nodes on a path.
use Rattle.std.specs.Prelude.{ℕ, Result}
use Rattle.std.specs.declared.alloc.Global.{Global}
use denote.Ref.{MutBor}
use Rattle.java_phrases.specs.Common.{Steps}
use Rattle.java_phrases.specs.declared.error.SyntaxError.{SyntaxError}
use Rattle.java_phrases.specs.declared.tokens.Tokens.{Tokens}
use Rattle.java_expressions.specs.declared.tall.Tall.{Tall}
use Rattle.java_expressions.specs.Reading.{expr}

pub record Nests (room : ℕ) (pre : Global → MutBor Tokens → ℕ → ℕ → Type 0)
    (post : Global → MutBor Tokens → ℕ → ℕ → Result Tall SyntaxError → MutBor Tokens → Type 0) : Type 0 where
  pub callable : (alloc : Global) (old : MutBor Tokens) (least : ℕ) → pre alloc old room least
  pub reads : (alloc : Global) (old new : MutBor Tokens) (least : ℕ) (r : Result Tall SyntaxError) → post alloc old room least r new
      → Steps (expr room least) old.now r new.now
