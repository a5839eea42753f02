use Rattle.std.proofs.Common.{◌≡◌, ◌<◌, ◌^◌, drop}
use Rattle.bundle.specs.Reading.{read_on}
use Rattle.bundle.proofs.entry.value_of.Given as goal

-- the digits that are left give the whole number, and the number so far has as many digits as were read
abbrev pub invariant-loop-digit : goal.invariant-loop-digit
invariant-loop-digit l = record {
  so_far : read_on l.value (drop l.digit-index l.digits) ≡ read_on 0 l.digits;
  small : l.value < 10 ^ l.digit-index;
}
