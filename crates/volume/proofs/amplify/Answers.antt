-- `volume::amplify` meets its contract. Assumes nothing.
use native.Mathlib.Nat.{lt_of_le_of_lt, mul-le-mul}
use native.Mathlib.Omega.{arith}
use lib.IntN.{◌*ℤ◌}
use lib.Signed.{shr_z, mag_shr, nat_abs-le}
use mir.Syntax.{w16, w32}
use mir.Val.{SFits}
use mir.Facts.{to_z-of_z}
use Rattle.laws.proofs.Integers.{sfits-of-nat_abs, nat_abs_mul}
use Rattle.laws.proofs.Widening.{widened-reads, widened-fits}
use Rattle.volume.specs.Volume.{amplified}
use Rattle.volume.proofs.amplify.Goals as goal
use Rattle.volume.proofs.amplify.Goals.{Start}

product-fits : (c : Start) → SFits w32 (c.args.sample *ℤ c.args.gain)
product-fits c =
    let x = c.args.sample in
    sfits-of-nat_abs (x *ℤ c.args.gain) (rw nat_abs_mul (omega (arith, mul-le-mul (nat_abs-le x c.ranges.sample.sfits) c.requires)))

shifted_fits : (c : Start) → SFits w32 (shr_z (c.args.sample *ℤ c.args.gain) 256)
shifted_fits c = record { sfits = lt_of_le_of_lt (mag_shr (c.args.sample *ℤ c.args.gain) 256) (product-fits c).sfits }

pub overflow_cast-sample : goal.overflow_cast-sample
overflow_cast-sample c = widened-fits tt c.ranges.sample

pub overflow_mul-sample : goal.overflow_mul-sample
overflow_mul-sample c = rw (widened-reads w32 tt c.ranges.sample, to_z-of_z {w = w32} c.ranges.gain) (product-fits c)

pub returns : goal.returns
unfolding amplified
returns c =
    let s = c.before in
    let product = to_z-of_z {w = w32} (product-fits s) in
    let shifted = to_z-of_z {w = w32} (shifted_fits s) in
    rw (to_z-of_z {w = w16} (record { sfits = c.hold.type_inv }))
    (rw (widened-reads w32 tt s.ranges.sample, to_z-of_z {w = w32} s.ranges.gain, product, shifted) at c.hold.ensures)
