-- docs/RULES.md, "Rate": `find_sinc_coefficient` and `interpolate` of the original, the coefficient of a tap, an
-- interpolated sample, an interpolated frame. N is the new rate, the width of one step of the old rate; r is the ratio,
-- below N; i is the tap. Definitions only. Assumes nothing.
use Rattle.std.specs.Prelude.{List, [], ◌∷◌, ℕ, zero, suc, ◌+◌, ◌-◌, ◌*◌, ◌/◌, ℤ, pos, negsuc, ◌+ℤ◌, ◌*ℤ◌, get_or}
use Rattle.std.specs.Int.Signed.{quot_z, shr_z}
use Rattle.frames.specs.Clamp.{clamp_z}
use Rattle.sinc.specs.SincTable.{sinc_table}

-- ---- numbers

-- `SINC_FILTER_POINTS`: the taps of a sample
abbrev pub sinc_filter_points : ℕ
sinc_filter_points = 12

-- the points of the table from one tap to the next
abbrev pub lobe_points : ℕ
lobe_points = 50

-- the most that N may be
abbrev pub max_width : ℕ
max_width = 16384

-- ---- coefficients

-- L = 50i + 50r/N
unfoldable pub table_place : ℕ → ℕ → ℕ → ℕ
table_place i r N = lobe_points * i + lobe_points * r / N

-- e = 50·i·N + 50r − L·N
unfoldable pub remainder : ℕ → ℕ → ℕ → ℕ
remainder i r N = lobe_points * i * N + lobe_points * r - table_place i r N * N

-- 2·(S[L]·(N − e) + S[L+1]·e)/N, toward zero
unfoldable pub table_value : ℕ → ℕ → ℕ → ℤ
table_value L e N =
    quot_z (pos 2 *ℤ (get_or sinc_table L (pos 0) *ℤ pos (N - e) +ℤ get_or sinc_table (L + 1) (pos 0) *ℤ pos e)) (pos N)

-- the coefficient of tap i
unfoldable pub sinc_coefficient : ℕ → ℕ → ℕ → ℤ
sinc_coefficient i r N = table_value (table_place i r N) (remainder i r N) N

-- f 0, f 1, .. f (n − 1)
unfoldable pub tabulate : ℕ → (ℕ → ℤ) → List ℤ
tabulate zero f = []
tabulate (suc n) f = f 0 ∷ tabulate n (λ i. f (suc i))

-- ---- sample

-- the sum over the first k taps, each times its weight
unfoldable pub weighted_sum : (ℕ → ℤ) → (ℕ → ℤ) → ℕ → ℤ
weighted_sum taps weights zero = pos 0
weighted_sum taps weights (suc k) = weighted_sum taps weights k +ℤ taps k *ℤ weights k

-- the sum over the first k taps, each times its coefficient
unfoldable pub tap_sum : (ℕ → ℤ) → ℕ → ℕ → ℕ → ℤ
tap_sum taps r N k = weighted_sum taps (λ i. sinc_coefficient i r N) k

-- z held to −32768..32767
unfoldable pub held_sample : ℤ → ℤ
held_sample z = clamp_z (negsuc 32767) (pos 32767) z

-- `interpolate`: the sum of the 12 taps, shifted right by 16 and held
unfoldable pub interpolate : (ℕ → ℤ) → ℕ → ℕ → ℤ
interpolate taps r N = held_sample (shr_z (tap_sum taps r N sinc_filter_points) 65536)

-- ---- frame

-- one sample per channel; tap i of channel c stands at i·channels + c
unfoldable pub interpolate_frame : List ℤ → ℕ → ℕ → ℕ → List ℤ
interpolate_frame x channels r N = tabulate channels (λ c. interpolate (λ i. get_or x (i * channels + c) (pos 0)) r N)
