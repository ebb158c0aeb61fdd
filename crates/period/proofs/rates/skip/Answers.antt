-- `period::rates::skip` meets its contract. Assumes nothing.
use borrow.Author.Tests.{lt-ltb, le-ltb}
use Rattle.period.specs.Rates.{amdf_freq, skip}
use Rattle.period.proofs.rates.skip.Goals as goal

pub returns-then-rate-gt-AMDF_FREQ : goal.returns-then-rate-gt-AMDF_FREQ
unfolding skip
returns-then-rate-gt-AMDF_FREQ c = rw (lt-ltb amdf_freq c.args.rate c.if-rate-gt-AMDF_FREQ.true)

pub returns-else-rate-gt-AMDF_FREQ : goal.returns-else-rate-gt-AMDF_FREQ
unfolding skip
returns-else-rate-gt-AMDF_FREQ c = rw (le-ltb amdf_freq c.args.rate c.if-rate-gt-AMDF_FREQ.false)
