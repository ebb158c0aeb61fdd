-- `sinc::is_below_zero` meets its contract. Assumes nothing.
use borrow.Author.Tests.{lt-ltb, le-ltb}
use Rattle.sinc.specs.Lobes.{below_zero}
use Rattle.sinc.proofs.is_below_zero.Goals as goal

pub returns-then-i-lt6 : goal.returns-then-i-lt6
unfolding below_zero
returns-then-i-lt6 c = rw (lt-ltb c.args.i 6 c.if-i-lt6.true)

pub returns-else-i-lt6 : goal.returns-else-i-lt6
unfolding below_zero
returns-else-i-lt6 c = rw (le-ltb c.args.i 6 c.if-i-lt6.false)
