-- `sinc::coefficients` meets its contract. The loop's invariant: the first i weights are the coefficients of the first i taps.
-- Assumes nothing.
use mathlib.Core.Path.{◌≡◌}
use lib.ListN.{length}
use Rattle.sinc.specs.Sinc.{sinc_filter_points, sinc_coefficient}
use Rattle.sinc.proofs.Weights.{Filled}
use Rattle.sinc.proofs.coefficients.Given as goal

abbrev pub invariant-loop-i : goal.invariant-loop-i
invariant-loop-i l =
    record { long : length l.weights ≡ sinc_filter_points; filled : Filled l.i (λ j. sinc_coefficient j l.ratio.at l.ratio.width.of) l.weights }
