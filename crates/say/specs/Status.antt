-- The numbers in which a run of the skim tool ends. Definitions only. Assumes nothing.
use Rattle.std.specs.Prelude.{ℕ}
use Rattle.say.specs.declared.status.Status.{Status}
use Rattle.say.specs.declared.status.Status.TheVariants.{Fine, Incomplete, BadUsage}

abbrev pub number_of : Status → ℕ
number_of Fine = 0
number_of Incomplete = 1
number_of BadUsage = 2
