-- `stretch::samples::write_step` meets its contract, case by case. Assumes nothing.
use Rattle.stretch.specs.Steps.{samples_out}
use Rattle.stretch.proofs.samples.write_step.Goals as goal

pub returns-in-Copied : goal.returns-in-Copied
unfolding samples_out
returns-in-Copied c = rw c.in-Copied.is c.copy_unmodified_samples.ensures

pub returns-in-Skipped : goal.returns-in-Skipped
unfolding samples_out
returns-in-Skipped c = rw c.in-Skipped.is c.skip_pitch_period.ensures

pub returns-in-Inserted : goal.returns-in-Inserted
unfolding samples_out
returns-in-Inserted c = rw c.in-Inserted.is c.insert_pitch_period.ensures
