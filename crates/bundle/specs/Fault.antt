-- Why bytes weren't taken as a bundle.
use Rattle.std.specs.Prelude.{ℕ, List}
use Rattle.bundle.specs.declared.bundle.BundleError.{BundleError}
use Rattle.bundle.specs.declared.bundle.BundleError.TheVariants.{Bad, OutOfMemory}
use Rattle.bundle.specs.Bundle.{BadAt}

-- the bytes have this fault; memory may be wanting at any bytes
abbrev pub IsFaultOf : List ℕ → BundleError → Type 0
IsFaultOf bytes (Bad at) = BadAt bytes at
IsFaultOf bytes OutOfMemory = Unit {0}
