-- docs/RULES.md, "Period search": `down_sample_input`, means of neighbouring samples, cut toward zero. Definitions
-- only. Assumes nothing.
use Rattle.std.specs.Prelude.{ℕ, zero, suc, ◌+◌, ◌*◌, ◌≤◌, List, [], ◌∷◌, ◌++◌, ℤ, pos, ◌+ℤ◌, get_or}
use Rattle.std.specs.Int.Signed.{quot_z}

-- the sum of n samples from the place `from` on
unfoldable pub sum_from : List ℤ → ℕ → ℕ → ℤ
sum_from x from zero = pos 0
sum_from x from (suc n) = sum_from x from n +ℤ get_or x (from + n) (pos 0)

-- their mean
unfoldable pub mean_from : List ℤ → ℕ → ℕ → ℤ
mean_from x from n = quot_z (sum_from x from n) (pos n)

-- the first n means of `per` samples each
unfoldable pub down_sample_input : List ℤ → ℕ → ℕ → List ℤ
down_sample_input x zero per = []
down_sample_input x (suc n) per = down_sample_input x n per ++ (mean_from x (n * per) per ∷ [])

-- the most samples that make one value: 32 channels, 125 frames
abbrev pub most_averaged : ℕ
most_averaged = 4000

-- what averaging is handed: n values of `per` samples each, made of `given` samples, in `room` places
pub record Averageable (given room n per : ℕ) : Type 0 where
  pub some : 1 ≤ per
  pub few : per ≤ most_averaged
  pub enough : n * per ≤ given
  pub fits : n ≤ room
