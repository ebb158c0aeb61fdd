-- `scripts::signal::triangle` meets its contract: the place within a period is below it. Assumes nothing.
use Rattle.std.proofs.Common.{mod-lt, arith}
use Rattle.scripts.proofs.signal.triangle.Goals as goal

pub overflow_sub-period : goal.overflow_sub-period
overflow_sub-period c = omega (arith, mod-lt c.args.place c.requires.0)

pub overflow_mul-result : goal.overflow_mul-result
overflow_mul-result c = omega (arith, mod-lt c.args.place c.requires.0)
