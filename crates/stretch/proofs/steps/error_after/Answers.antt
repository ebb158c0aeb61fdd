-- `stretch::steps::error_after` meets its contract, case by case. Assumes nothing.
use Rattle.stretch.specs.Steps.{error_after}
use Rattle.stretch.proofs.steps.error_after.Goals as goal

pub returns-in-Copied : goal.returns-in-Copied
unfolding error_after
returns-in-Copied c = rw c.in-Copied.is c.error_copied.ensures

pub returns-in-Skipped : goal.returns-in-Skipped
unfolding error_after
returns-in-Skipped c = rw c.in-Skipped.is c.error_skipped.ensures

pub returns-in-Inserted : goal.returns-in-Inserted
unfolding error_after
returns-in-Inserted c = rw c.in-Inserted.is c.error_inserted.ensures

pub returns-in-Passed : goal.returns-in-Passed
unfolding error_after
returns-in-Passed c = rw c.in-Passed.is
