-- Locals that no name in scope names.
use Rattle.std.specs.Prelude.{◌≡◌, ℕ, ◌==◌, false, Option, Some, None}
use Rattle.std.specs.List.{AllByRecursion}
use Rattle.name_rules.specs.declared.scope.Entry.{Entry}
use Rattle.name_rules.specs.declared.scope.Variable.{Variable}
use Rattle.name_rules.specs.Scopes.{Scope}
use Rattle.expression_binding.specs.Bound.{Ground}

abbrev pub MissesNone : ℕ → Option Variable → Type 0
MissesNone x None = Unit {0}
MissesNone x (Some v) = (x == v.number) ≡ false

abbrev pub MissesEntry : ℕ → Entry → Type 0
MissesEntry x e = MissesNone x e.variable

abbrev pub Misses : ℕ → Scope → Type 0
Misses x scope = AllByRecursion (MissesEntry x) scope

-- neither a name in scope names it, nor `this`
pub record NotNamed (g : Ground) (scope : Scope) (x : ℕ) : Type 0 where
  pub this : g.is_static ≡ false → (x == 0) ≡ false
  pub names : Misses x scope
