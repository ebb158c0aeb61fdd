-- docs/RULES.md, "Figures": those with a star, over the definitions of every crate. One table, computed. No proof cites this file.
-- Assumes nothing.
use mathlib.Core.Path.{◌≡◌, refl}
use mathlib.Core.List.{List, [], ◌∷◌, map}
use Prim.Native.Nat.{ℕ}
use lib.Ieee.{of_int, round, div, to_unsigned}
use lib.IntN.{ℤ, pos, negsuc}
use lib.ListN.{length, replicate}
use Rattle.frames.specs.Clamp.{clamp_z}
use Rattle.floats.specs.Numbers.{half, two}
use Rattle.floats.specs.Scales.{new_rate}
use Rattle.sinc.specs.SincTable.{sinc_table}
use Rattle.sinc.specs.Sinc.{table_place, remainder, table_value, sinc_coefficient}
use Rattle.volume.specs.Volume.{amplified}
use Rattle.rate.specs.Halving.{halved, rates_of}
use Rattle.rate.specs.Tail.{start, ceil_div, due, next, emit, scan}
use Rattle.rate.specs.Conversion.{convert}
use Rattle.period.specs.Rates.{min_period, max_period, max_required, skip}
use Rattle.search.specs.declared.Ties.TheVariants.{Smallest, Largest}
use Rattle.search.specs.Search.{diffs, better, greater, sweep, find_pitch_period_in_range}
use Rattle.averages.specs.Averages.{sum_from, mean_from}
use Rattle.crossfade.specs.Crossfade.{crossfade_sample}

-- the frames that a tail of k frames makes at 8,000 Hz and pitch 0.5, from positions at 0
unfoldable made_of : ℕ → ℕ
made_of k = length (convert (rates_of 8000 half) start (replicate k [])).made

-- of which every period from 1 to 3 has the mean 1
abbrev even : List ℤ
even = pos 0 ∷ pos 1 ∷ pos 1 ∷ pos 2 ∷ pos 1 ∷ pos 2 ∷ []

starred :
    -- R 1,000: periods 2..15, required 30
    ((min_period 1000 ≡ 2) × (max_period 1000 ≡ 15) × (max_required 1000 ≡ 30))
    -- 8,000: 20..123, 246, skip 2
    × ((min_period 8000 ≡ 20) × (max_period 8000 ≡ 123) × (max_required 8000 ≡ 246) × (skip 8000 ≡ 2))
    -- 500,000: 1,250..7,692, 15,384, skip 125
    × ((min_period 500000 ≡ 1250) × (max_period 500000 ≡ 7692) × (max_required 500000 ≡ 15384) × (skip 500000 ≡ 125))
    -- R 44,100, pitch 2: N 5,512, O 11,025
    × (rates_of 44100 two ≡ record { new = 5512; old = 11025 })
    -- R 8,000, pitch 0.5: N 16,000, O 8,000; 12 frames give 0, 13 give 2, 112 give 200
    × (rates_of 8000 half ≡ record { new = 16000; old = 8000 })
    × (map made_of (12 ∷ 13 ∷ 112 ∷ []) ≡ 0 ∷ 2 ∷ 200 ∷ [])
    -- search 1..2 on 0,3,0,3: period 2, means 0 and 3; zeros, 2..15: period 2, means 0 and 0
    × (find_pitch_period_in_range Smallest (pos 0 ∷ pos 3 ∷ pos 0 ∷ pos 3 ∷ []) 1 2 ≡ record { period = 2; min_diff = 0; max_diff = 3; sum = 0 })
    × (find_pitch_period_in_range Smallest (replicate 30 (pos 0)) 2 15 ≡ record { period = 2; min_diff = 0; max_diff = 0; sum = 0 })
    -- mean of −1, −2 is −1; k = 2, down −10, up 5, t = 1: −2
    × (mean_from (negsuc 0 ∷ negsuc 1 ∷ []) 0 2 ≡ negsuc 0)
    × (crossfade_sample (negsuc 9) (pos 5) 2 1 ≡ negsuc 1)
    -- N 100, i 6, r 1: 65511
    × (sinc_coefficient 6 1 100 ≡ pos 65511)
    -- g 384: −1 gives −2, −30000 gives −32767
    × (map (amplified (pos 384)) (negsuc 0 ∷ negsuc 29999 ∷ []) ≡ negsuc 1 ∷ negsuc 32766 ∷ [])
    -- C-17: the largest: of the zeros 15; search 1..3 on 0,1,1,2,1,2, each with the mean 1: period 1, sum 1, or 3, sum 3
    × (find_pitch_period_in_range Largest (replicate 30 (pos 0)) 2 15 ≡ record { period = 15; min_diff = 0; max_diff = 0; sum = 0 })
    × (find_pitch_period_in_range Smallest even 1 3 ≡ record { period = 1; min_diff = 1; max_diff = 1; sum = 1 })
    × (find_pitch_period_in_range Largest even 1 3 ≡ record { period = 3; min_diff = 1; max_diff = 1; sum = 3 })
unfolding skip rates_of halved new_rate of_int round div to_unsigned made_of convert scan emit next due ceil_div
    diffs better greater sweep find_pitch_period_in_range sum_from mean_from crossfade_sample
    sinc_coefficient table_value table_place remainder sinc_table amplified clamp_z
starred = (
  (refl, refl, refl),
  (refl, refl, refl, refl),
  (refl, refl, refl, refl),
  refl,
  refl,
  refl,
  refl,
  refl,
  refl,
  refl,
  refl,
  refl,
  refl,
  refl,
  refl,
)
