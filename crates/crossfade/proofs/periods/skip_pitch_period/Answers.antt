-- `crossfade::periods::skip_pitch_period` meets its contract. Assumes nothing.
use Prim.Native.Nat.{◌+◌}
use native.Mathlib.Nat.{mul-le-mul_left}
use native.Mathlib.Omega.{arith}
use Rattle.crossfade.proofs.Crossfading.{skip-on}
use Rattle.crossfade.proofs.periods.skip_pitch_period.Goals as goal

pub overflow_add-later : goal.overflow_add-later
overflow_add-later c =
    let b = c.before.before in
    record { fits = omega (arith, mul-le-mul_left (b.args.position.0 + (b.args.period.0 + b.args.k.0)) b.requires.0, b.requires.2) }

pub returns : goal.returns
returns c =
    let there = c.before.before.before in
    let a = there.args in
    skip-on a.input.now a.area.now a.channels a.position.0 a.period.0 a.k.0 a.to.0 there.samples-here.ensures
    there.samples-there.ensures c.overlap_add.ensures
