-- `floats::times::speed_changes` meets its contract: the literals of the code are the two fractions, rounded to an `f64`. Assumes nothing.
use Rattle.std.proofs.Common.{◌≡◌, Bool, true, false, ◌||◌, refl, ◌∙◌}
use lib.Ieee.{Float, binary64, round, of_bits, lt}
use Rattle.floats.specs.Write.{speed_changes}
use Rattle.floats.proofs.times.speed_changes.Goals as goal

-- the two literals as MIR has them
abbrev above : Float
above = of_bits binary64 4607182463836013682

abbrev below : Float
below = of_bits binary64 4607182328728024861

above-is : above ≡ round binary64 false 100001 100000
unfolding of_bits round
above-is = refl

below-is : below ≡ round binary64 false 99999 100000
unfolding of_bits round
below-is = refl

by : (r s : Float) (a : Bool) → r ≡ s → lt above r ≡ a → (a || lt r below) ≡ speed_changes s
unfolding speed_changes
by r s a e h = rw (← h, e, above-is, below-is)

pub returns-then-wide : goal.returns-then-wide
returns-then-wide c =
    let w = c.f32_to_f64_with_nan-wide in
    c.if-wide.true ∙ by w.result c.args.s true w.ensures c.if-wide.true

pub returns-else-wide : goal.returns-else-wide
returns-else-wide c =
    let w = c.f32_to_f64_with_nan-wide in
    by w.result c.args.s false w.ensures c.if-wide.false
