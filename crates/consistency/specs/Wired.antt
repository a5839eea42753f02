-- The numbers of findings and links are within those of the promises.
use Rattle.std.specs.Prelude.{ℕ, ◌<◌, List, Contains, Vec}
use Rattle.std.specs.Global.{Global}
use Rattle.consistency.specs.declared.graph.Clause.{Clause}
use Rattle.consistency.specs.declared.graph.Link.{Link}
use Rattle.consistency.specs.declared.graph.Link.TheVariants.{Promise}

pub record IsWired (n : ℕ) (cs : List Clause) : Type 0 where
  pub ons : (c : Clause) → Contains cs c → c.on < n
  pub targets : (c : Clause) (ls : Vec Link Global) (q : ℕ) → Contains cs c → Contains c.alternatives.items ls → Contains ls.items (Promise q) → q < n
