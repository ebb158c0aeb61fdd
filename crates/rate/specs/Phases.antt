-- The phases of a call's frames: the ratio at the phase k is step·(k + 1) − 1. Definitions only. Assumes nothing.
use Rattle.std.specs.Prelude.{◌≡◌, ℕ, ◌*◌, ◌≤◌, ◌<◌, length}
use Rattle.sinc.specs.Sinc.{sinc_filter_points}
use Rattle.sinc.specs.Weights.{PhasesKept}
use Rattle.rate.specs.declared.Rates.{Rates}
use Rattle.rate.specs.declared.phases.Cycle.{Cycle}
use Rattle.rate.specs.declared.scan.Coefficients.{Coefficients}
use Rattle.rate.specs.declared.scan.Coefficients.TheVariants.{Kept, Computed}
use Rattle.rate.specs.Halving.{max_halved_rate}

-- the most phases whose coefficients are kept
abbrev pub max_phases : ℕ
max_phases = 32

-- a cycle of N and O: the step divides both, and one above 1 leaves few phases
pub record CycleOf (r : Rates) (c : Cycle) : Type 0 where
  pub some : 1 ≤ c.step
  pub new : c.step * c.new ≡ r.new
  pub old : c.step * c.old ≡ r.old
  pub few : 1 < c.step → c.new ≤ max_phases

-- frames of it have their coefficients: those of its phases are kept, or its step is 1 and the width is that of its
-- ratios
abbrev pub Serves : Cycle → Coefficients → Type 0
Serves c (Kept weights) = (sinc_filter_points * c.new ≤ length weights.now) × PhasesKept c.step c.new weights.now
Serves c (Computed table width) = (c.step ≡ 1) × (width.of ≡ c.new)

-- a frame at the phase k, one of the cycle's
pub record PhaseReady (c : Cycle) (k : ℕ) : Type 0 where
  pub some : 1 ≤ c.step
  pub below : k < c.new
  pub narrow : c.step * c.new ≤ max_halved_rate
