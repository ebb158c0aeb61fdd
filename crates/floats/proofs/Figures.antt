-- Figures of docs/RULES.md that concern floats, and values at which another order of operations gives another answer, over the definitions of
-- `specs/`. One table; each row computes. No proof cites this file. Assumes nothing.
use Rattle.std.proofs.Common.{◌≡◌, ℕ, true, false, pos, negsuc, refl}
use lib.Ieee.{Float, nan, inf, binary32, add, sub, mul, div, le, lt, of_int, to_signed, to_unsigned, of_bits, to_bits}
use Rattle.floats.specs.Numbers.{zero, one, narrow}
use Rattle.floats.specs.Settings.{min_pitch, max_pitch, min_volume, max_volume, sample_period}
use Rattle.floats.specs.Write.{minus_one, unit_clamped, sample_in, play_time_grown, speed_changes}
use Rattle.floats.specs.Steps.{skip_count, insert_count}
use Rattle.floats.specs.Scales.{new_rate}
use Rattle.floats.specs.Flush.{expected_frames}

-- the `f32` with the bits b
abbrev f32 : ℕ → Float
f32 b = of_bits binary32 b

pub table : (to_bits binary32 (sample_period 8000) ≡ 0x3903_126f)  -- T of 8,000 Hz
    × (le min_pitch max_pitch ≡ true)
    × (le min_volume max_volume ≡ true)
    × (sample_in one ≡ pos 32767)  -- samples 1.0, −1.0 and −0.5
    × (sample_in minus_one ≡ negsuc 32766)
    × (sample_in (f32 0xbf00_0000) ≡ negsuc 16382)
    × (sample_in nan ≡ pos 0)  -- NaN and the infinities
    × (sample_in (inf false) ≡ pos 32767)
    × (sample_in (inf true) ≡ negsuc 32766)
    × (sample_in (f32 0x3f00_0100) ≡ pos 16384)  -- in f64 the product would give 16,383
    × (sample_in (f32 0x3f7f_ffff) ≡ pos 32766)  -- the largest below 1
    × (to_bits binary32 (play_time_grown zero 1 (sample_period 8000) (f32 0x3fa6_6666) (f32 0x3f33_3333)) ≡ 0x388d_278b)  -- speed 1.3, pitch 0.7
    × (speed_changes (f32 0x3f80_0053) ≡ false)  -- the last f32 inside 0.99999..1.00001 and the first outside, at both ends
    × (speed_changes (f32 0x3f80_0054) ≡ true)
    × (speed_changes (f32 0x3f7f_ff59) ≡ false)
    × (speed_changes (f32 0x3f7f_ff58) ≡ true)
    × (skip_count (f32 0x41a8_0000) 20 ≡ 1)  -- period 20: s = 21 gives 1 frame, s = 22 stalls, s = 0.25 inserts 6
    × (skip_count (f32 0x41b0_0000) 20 ≡ 0)
    × (insert_count (f32 0x3e80_0000) 20 ≡ 6)
    × (skip_count (f32 0x406a_aaab) 8 ≡ 3)  -- exactly it would be 2
    × (insert_count (f32 0x3ecc_cccd) 9 ≡ 6)  -- period·(s/(1 − s)) would give 5
    × (new_rate 8000 min_pitch ≡ 160000)  -- exactly it would be 159,999
    × (expected_frames 10029 0 (f32 0x3e51_3cd5) (f32 0x404c_2aa8) ≡ 49082)  -- in f64 it would be 49,081
unfolding narrow sample_period unit_clamped sample_in play_time_grown speed_changes skip_count insert_count new_rate expected_frames
    of_bits to_bits of_int to_signed to_unsigned add sub mul div le lt
table = (refl, refl, refl, refl, refl, refl, refl, refl, refl, refl, refl, refl, refl, refl, refl, refl, refl, refl, refl, refl, refl, refl, refl)
