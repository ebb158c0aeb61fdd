-- `decimal::read_digits`: what is left to read gives what the whole text gives. Assumes nothing.
use Rattle.std.proofs.Common.{◌≡◌, drop}
use Rattle.decimal.specs.Decimal.{digits_from}
use Rattle.decimal.proofs.read_digits.Given as goal

abbrev pub invariant-loop-b : goal.invariant-loop-b
invariant-loop-b l = digits_from l.n (drop l.b-index l.text) ≡ digits_from l.before l.text
