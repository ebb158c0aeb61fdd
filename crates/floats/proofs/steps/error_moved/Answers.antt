-- `floats::steps::error_moved` meets its contract. Assumes nothing.
use lib.Ieee.{binary32, add, sub, mul, div}
use Rattle.floats.specs.Steps.{error_moved}
use Rattle.floats.proofs.steps.error_moved.Goals as goal

pub returns : goal.returns
unfolding error_moved
returns c =
    let a = c.args in
    let made = c.frames_to_f32.ensures in
    let used = c.frames_to_f32-2.ensures in
    let held = c.frames_to_f32-3.ensures in
    λ i. add binary32 a.error (sub binary32 (mul binary32 (made i) a.sample_period) (div binary32 (mul binary32 (used i) a.play) (held i)))
