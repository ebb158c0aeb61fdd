-- `stretch::samples::write_fitting` meets its contract. Assumes nothing.
use native.Mathlib.Nat.{add-mul, mul-le-mul_right}
use native.Mathlib.Omega.{arith}
use Prim.Native.Nat.{◌+◌, ◌*◌, ◌≤◌}
use Rattle.stretch.specs.Steps.{frames_out}
use Rattle.stretch.proofs.samples.write_fitting.Goals as goal

pub write_step-requires-clause-fits : goal.write_step-requires-clause-fits
write_step-requires-clause-fits c =
    let a = c.args in
    let n = frames_out a.step in
    let within : (a.made.0 + n) * a.channels ≤ a.target.room.0 * a.channels =
    mul-le-mul_right a.channels (omega (arith, c.if-target-made.false, c.requires.counted)) in
    omega (arith, add-mul a.made.0 n a.channels, c.requires.target_fits, c.samples.ensures)
