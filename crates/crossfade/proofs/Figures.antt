-- Small cases that the definitions of crossfades give, computed. Assumes nothing.
use mathlib.Core.Path.{◌≡◌, refl}
use mathlib.Core.List.{List, [], ◌∷◌}
use lib.IntN.{ℤ, pos, negsuc}
use Rattle.crossfade.specs.Crossfade.{crossfade_sample, crossfade_frame, crossfade_to, overlap_add}
use Rattle.crossfade.specs.Crossfade.{copy_unmodified_samples, skip_pitch_period, insert_pitch_period}

-- two frames of two channels: frame 0 is that of the first, frame 1 is halfway
pub two-channels : overlap_add 2 2 (pos 0 ∷ pos 10 ∷ negsuc 9 ∷ pos 20 ∷ []) (pos 4 ∷ pos 2 ∷ pos 5 ∷ negsuc 5 ∷ []) ≡ pos 0 ∷ pos 10 ∷ negsuc 1 ∷ pos 7 ∷ []
unfolding overlap_add crossfade_to crossfade_frame crossfade_sample
two-channels = refl

-- six frames of one channel, a period of 2, k = 2: a skip fades forward, an insert copies the period and fades back
abbrev ramp : List ℤ
ramp = pos 0 ∷ pos 10 ∷ pos 40 ∷ pos 90 ∷ pos 160 ∷ pos 250 ∷ []

pub forward-and-back : (skip_pitch_period 1 ramp 0 2 2 ≡ pos 0 ∷ pos 50 ∷ []) × (insert_pitch_period 1 ramp 1 2 2 ≡ pos 10 ∷ pos 40 ∷ pos 90 ∷ pos 100 ∷ [])
unfolding skip_pitch_period insert_pitch_period copy_unmodified_samples overlap_add crossfade_to crossfade_frame crossfade_sample
forward-and-back = (refl, refl)
