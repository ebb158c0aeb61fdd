-- `period::pitch::prev_might_be_better` meets its contract: one test after the other. Assumes nothing.
use Rattle.std.proofs.Common.{arith}
use Rattle.std.proofs.lemmas.Bool.Decides.{nat_tests}
use Rattle.period.specs.Searches.{prev_might_be_better}
use Rattle.period.proofs.pitch.prev_might_be_better.Goals as goal

pub returns-then-prev-ne0 : goal.returns-then-prev-ne0
unfolding prev_might_be_better
returns-then-prev-ne0 c = grind (arith, nat_tests)

pub returns-else-prev-ne0 : goal.returns-else-prev-ne0
unfolding prev_might_be_better
returns-else-prev-ne0 c = grind (arith, nat_tests)
