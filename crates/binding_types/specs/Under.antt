-- What statements are bound under: the names in scope, and the number of the next local.
use Rattle.statement_binding.specs.Statements.{behind}

abbrev pub domain : {A B : Type 0} → (A → B) → Type 0
domain {A} f = A

abbrev pub Locals : Type 0
Locals = domain behind
