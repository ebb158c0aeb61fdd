-- Worked examples of `specs/Sinc.antt`, computed. No proof cites this file. Assumes nothing.
use mathlib.Core.Path.{◌≡◌, refl}
use mathlib.Core.List.{List, [], ◌∷◌}
use lib.IntN.{ℤ, pos, negsuc}
use Rattle.frames.specs.Clamp.{clamp_z}
use Rattle.sinc.specs.SincTable.{sinc_table}
use Rattle.sinc.specs.Sinc.{table_place, remainder, table_value, sinc_coefficient, weighted_sum, tap_sum, held_sample, interpolate, tabulate, interpolate_frame}

-- N 7, i 0, r 2: −106/7 is −15 toward zero; rounding down would give −16
pub toward_zero : sinc_coefficient 0 2 7 ≡ negsuc 14
unfolding sinc_coefficient table_value table_place remainder sinc_table
toward_zero = refl

-- N 100, r 50: the least sample on all taps gives −32794, held to −32768
pub held_low : interpolate (λ i. negsuc 32767) 50 100 ≡ negsuc 32767
unfolding interpolate held_sample clamp_z tap_sum weighted_sum sinc_coefficient table_value table_place remainder sinc_table
held_low = refl

-- two channels: 1000 on all taps of the first, the least sample on all of the second
pub stereo : List ℤ
stereo =
    pos 1000 ∷ negsuc 32767 ∷ pos 1000 ∷ negsuc 32767 ∷ pos 1000 ∷ negsuc 32767 ∷ pos 1000 ∷ negsuc 32767 ∷
    pos 1000 ∷ negsuc 32767 ∷ pos 1000 ∷ negsuc 32767 ∷ pos 1000 ∷ negsuc 32767 ∷ pos 1000 ∷ negsuc 32767 ∷
    pos 1000 ∷ negsuc 32767 ∷ pos 1000 ∷ negsuc 32767 ∷ pos 1000 ∷ negsuc 32767 ∷ pos 1000 ∷ negsuc 32767 ∷ []

pub two-channels : interpolate_frame stereo 2 50 100 ≡ pos 1000 ∷ negsuc 32767 ∷ []
unfolding stereo interpolate_frame tabulate interpolate held_sample clamp_z tap_sum weighted_sum sinc_coefficient table_value table_place remainder sinc_table
two-channels = refl
