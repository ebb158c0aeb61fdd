-- `crossfade::crossfades::crossfade_sample` meets its contract: each step fits by a fact of `WeightedMean`. Assumes nothing.
use Prim.Native.Nat.{ℕ, ◌≤◌, ◌<◌}
use native.Mathlib.Omega.{arith}
use lib.IntN.{ℤ}
use mir.Syntax.{w16}
use mir.Val.{SFits}
use mir.Facts.{to_z-of_z}
use Rattle.search.specs.Search.{longest_period}
use Rattle.crossfade.specs.Crossfade.{crossfade_sample}
use Rattle.crossfade.proofs.WeightedMean.{Ramp, mean-reads, sum_fits, sum-reads, sum-size, mean-fits}
use Rattle.crossfade.proofs.crossfades.crossfade_sample.Goals as goal

ramp : {down up : ℤ} {k t : ℕ} → SFits w16 down → SFits w16 up → (t < k) × (k ≤ longest_period) → Ramp down up k t
ramp d u h = record { down_sample = d; up_sample = u; inside = h.0; short = h.1 }

pub overflow_add-sum : goal.overflow_add-sum
overflow_add-sum c = sum_fits (ramp c.ranges.down c.ranges.up c.requires)

pub divide-requires : goal.divide-requires
divide-requires c =
    let r = ramp c.ranges.down c.ranges.up c.requires in rw (sum-reads r) (omega (arith, c.requires.0), c.requires.1, sum-size r)

pub overflow_cast-result : goal.overflow_cast-result
overflow_cast-result c =
    let r = ramp c.ranges.down c.ranges.up c.requires in
    rw (mean-reads r (record { sfits = c.divide.type_inv }) c.divide.ensures) (mean-fits r)

pub returns : goal.returns
unfolding crossfade_sample
returns c =
    let r = ramp c.ranges.down c.ranges.up c.requires in
    rw (mean-reads r (record { sfits = c.divide.type_inv }) c.divide.ensures, to_z-of_z (mean-fits r))
