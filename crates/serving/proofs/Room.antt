-- What the limit of a served job leaves room for: limit-input, limit-stage, limit-output, block-waits. Assumes nothing.
use mathlib.Core.Path.{◌≡◌}
use mathlib.Core.Bool.{true}
use Prim.Native.Nat.{ℕ, ◌+◌, ◌-◌, ◌*◌, ◌/◌, ◌≤◌, ◌<◌}
use native.Mathlib.Nat.{le-div_iff_mul-le, mul-pos}
use native.Mathlib.Omega.{arith}
use borrow.Author.Tests.{leb-true}
use Rattle.frames.proofs.Room.{frames-le, samples-le}
use Rattle.period.specs.Rates.{InLimits, max_period, max_required}
use Rattle.rate.specs.Halving.{rates_of}
use Rattle.stream.specs.declared.SonicStream.{SonicStream}
use Rattle.plans.specs.Plans.{input_area, stage_area, output_area, block_samples, tail_frames, is_small, growth_of, held_within, output_room, limit_of, served}
use Rattle.plans.proofs.Sizes.{output-least}

-- a tail and the frames that h frames grow to, where more than none are within the room
within : (room growth some h : ℕ) → 1 ≤ growth → 1 ≤ some → some ≤ held_within room growth → h ≤ held_within room growth
    → tail_frames + growth * h ≤ room
within room growth some h g one k l =
    let most : some * growth ≤ room - tail_frames = (le-div_iff_mul-le g).0 k in
    let this : h * growth ≤ room - tail_frames = (le-div_iff_mul-le g).0 l in
    omega (arith, most, this, mul-pos one g)

pub growth-some : (s : SonicStream) → 1 ≤ growth_of s.speed s.pitch (max_period s.rate)
unfolding growth_of
growth-some s = omega arith

module _ (s : SonicStream) (i : InLimits s.rate s.channels) (v : served s ≡ true) where
  abbrev growth : ℕ
  growth = growth_of s.speed s.pitch (max_period s.rate)

  abbrev stage : ℕ
  stage = stage_area (is_small s)

  abbrev output : ℕ
  output = output_area (is_small s)

  required : 1 ≤ 3 * max_required s.rate
  required = omega (arith, i.rate_low)

  searches : 3 * max_required s.rate ≤ limit_of s
  searches = leb-true (3 * max_required s.rate) (limit_of s) v

  module _ (h : ℕ) (few : h ≤ limit_of s) where
    pub limit-input : h * s.channels ≤ input_area
    unfolding limit_of
    limit-input = samples-le s.channels h input_area i.channels_low (omega (arith, few))

    pub limit-stage : tail_frames + growth_of s.speed s.pitch (max_period s.rate) * h ≤ stage_area (is_small s) / s.channels
    unfolding limit_of
    limit-stage =
        within (stage / s.channels) growth (3 * max_required s.rate) h (growth-some s) required (omega (arith, searches)) (omega (arith, few))

    room : tail_frames + growth * h ≤ output_room s
    unfolding limit_of
    room = within (output_room s) growth (3 * max_required s.rate) h (growth-some s) required (omega (arith, searches)) (omega (arith, few))

    pub limit-output : 0 < (rates_of s.rate s.pitch).new
        → (tail_frames + growth_of s.speed s.pitch (max_period s.rate) * h) * (rates_of s.rate s.pitch).new
        ≤ (output_area (is_small s) / s.channels - 2 - block_samples / s.channels) * (rates_of s.rate s.pitch).old
    unfolding output_room
    limit-output n = (le-div_iff_mul-le n).0 room

  -- behind a block
  pub block-waits : (waiting made : ℕ) → waiting ≤ block_samples / s.channels → made ≤ output_area (is_small s) / s.channels - 2 - block_samples / s.channels
      → (waiting + made) * s.channels ≤ output_area (is_small s)
  block-waits waiting made w m =
      let b = block_samples / s.channels in
      let block : b * s.channels ≤ output =
      omega (arith, samples-le s.channels b block_samples i.channels_low (omega arith), output-least (is_small s)) in
      let fits : b ≤ output / s.channels = frames-le s.channels b output i.channels_low block in
      samples-le s.channels (waiting + made) output i.channels_low (omega (arith, w, m, fits))
