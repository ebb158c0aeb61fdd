-- A frame by weights that are at hand, and the coefficients of phases that are kept. Definitions only. Assumes nothing.
use Rattle.std.specs.Prelude.{◌≡◌, List, ℕ, ◌+◌, ◌-◌, ◌*◌, ◌≤◌, ◌<◌, ℤ, pos, nat_abs, drop, get_or}
use Rattle.std.specs.Int.Signed.{shr_z}
use Rattle.sinc.specs.Sinc.{sinc_filter_points, sinc_coefficient, tabulate, weighted_sum, held_sample}

-- none of the 12 weights exceeds 65,534 in size; no coefficient does
abbrev pub SmallWeights : List ℤ → Type 0
SmallWeights weights = (i : ℕ) → i < sinc_filter_points → nat_abs (get_or weights i (pos 0)) ≤ 65534

-- the sum of the 12 taps, each times its weight, shifted right by 16 and held
unfoldable pub weighted_sample : (ℕ → ℤ) → (ℕ → ℤ) → ℤ
weighted_sample taps weights = held_sample (shr_z (weighted_sum taps weights sinc_filter_points) 65536)

-- one sample per channel, by 12 weights; tap i of channel c stands at i·channels + c
unfoldable pub weighted_frame : List ℤ → ℕ → List ℤ → List ℤ
weighted_frame x channels weights =
    tabulate channels
    (λ c. weighted_sample (λ i. get_or x (i * channels + c) (pos 0)) (λ i. get_or weights i (pos 0)))

-- they are the coefficients of r and N
pub record CoefficientsOf (r N : ℕ) (weights : List ℤ) : Type 0 where
  pub value : (i : ℕ) → i < sinc_filter_points → get_or weights i (pos 0) ≡ sinc_coefficient i r N

-- those of each phase k below `phases` stand from 12·k on: of r = step·(k + 1) − 1 and N = step·phases
abbrev pub PhasesKept : ℕ → ℕ → List ℤ → Type 0
PhasesKept step phases kept =
    (k : ℕ) → k < phases → CoefficientsOf (step * (k + 1) - 1) (step * phases) (drop (sinc_filter_points * k) kept)
