-- The areas' sizes, the jobs that they serve, and how these are done. Definitions only. Assumes nothing.
use Rattle.std.specs.Prelude.{Bool, true, false, cond, ℕ, ◌+◌, ◌-◌, ◌*◌, ◌/◌, ◌≡◌, ◌≤◌, min, leb, pos, Float, Option, None, Some}
use Rattle.std.specs.Float.{fin, binary32}
use Rattle.std.specs.Float.Ieee.{mul, div, le, to_unsigned}
use Rattle.floats.specs.Numbers.{half}
use Rattle.period.specs.Rates.{min_period, max_period, max_required, InLimits}
use Rattle.rate.specs.Halving.{rates_of}
use Rattle.stream.specs.declared.SonicStream.{SonicStream}
use Rattle.plans.specs.declared.Plan.{Plan}

-- ---- sizes: the constants of src/lib.rt

-- the samples of each area; stage and output are smaller for a small job
abbrev pub input_area : ℕ
input_area = 196608

unfoldable pub stage_area : Bool → ℕ
stage_area small = cond small 196992 1048576

unfoldable pub output_area : Bool → ℕ
output_area small = cond small 409600 1048576

abbrev pub scratch_area : ℕ
scratch_area = 15384

-- the samples of a block, and its bytes
abbrev pub block_samples : ℕ
block_samples = 4096

abbrev pub block_bytes : ℕ
block_bytes = 8192

-- the frames that rate conversion keeps in the tail
abbrev pub tail_frames : ℕ
tail_frames = 12

-- ---- the jobs that they serve

-- a small job: speed/pitch is 4 or more, and the pitch 0.5 or more
unfoldable pub is_small : SonicStream → Bool
is_small s = cond (leb 4 (to_unsigned 64 (div binary32 s.speed s.pitch))) (le half s.pitch) false

-- 3.0, as an f32
abbrev pub three : Float
three = fin false 3 (pos 0)

-- the most frames that the stretch makes of each that it uses: fewer than 3/s, and at most the longest period and one
unfoldable pub growth_of : Float → Float → ℕ → ℕ
growth_of speed pitch longest = min (to_unsigned 64 (mul binary32 (div binary32 pitch speed) three)) longest + 1

-- the frames that a write fills the input up to: where the shortest period might give no frame, so few that a second
-- step, which looks at `required` frames, is never taken behind one that used the shortest period or more
unfoldable pub fill_to : Float → Float → ℕ → ℕ → ℕ
fill_to speed pitch shortest required =
    let s : ℕ = to_unsigned 64 (div binary32 speed pitch) in
    cond (leb shortest s) (required + (shortest - 1)) (3 * required)

-- the most frames that a call may hold so that the stage behind its tail holds at most `room` frames
abbrev pub held_within : ℕ → ℕ → ℕ
held_within room growth = (room - tail_frames) / growth

-- the stretched frames whose frames at the new rate the output has room for, behind fewer than a block
unfoldable pub output_room : SonicStream → ℕ
output_room s =
    (output_area (is_small s) / s.channels - 2 - block_samples / s.channels) * (rates_of s.rate s.pitch).old
    / (rates_of s.rate s.pitch).new

-- the most frames held for which the growth is a bound, since play time is rounded: any where speed/pitch is 2 or more,
-- else three times `required`
abbrev pub held_most : SonicStream → ℕ
held_most s =
    cond (leb 2 (to_unsigned 64 (div binary32 s.speed s.pitch))) input_area (3 * max_required s.rate)

-- the most frames that a call may hold: these, and those that the input, the stage and the output each have room for
unfoldable pub limit_of : SonicStream → ℕ
limit_of s =
    let growth : ℕ = growth_of s.speed s.pitch (max_period s.rate) in
    min (held_most s)
    (min (input_area / s.channels)
    (min (held_within (stage_area (is_small s) / s.channels) growth) (held_within (output_room s) growth)))

-- whether the areas serve a job: the most frames that a write or a flush holds are within the limit
abbrev pub served : SonicStream → Bool
served s = leb (3 * max_required s.rate) (limit_of s)

-- p is the plan of a job: blocks of whole frames
pub record IsPlanOf (s : SonicStream) (p : Plan) : Type 0 where
  pub rate_is : p.rate ≡ s.rate
  pub channels_is : p.channels ≡ s.channels
  pub block_is : p.block ≡ block_samples / s.channels * s.channels
  pub full_is : p.full ≡ fill_to s.speed s.pitch (min_period s.rate) (max_required s.rate)
  pub required_is : p.required ≡ max_required s.rate
  pub limit_is : p.limit ≡ limit_of s
  pub small_is : p.small ≡ is_small s

-- the plan of a job that the areas serve
abbrev pub IsServiceOf : SonicStream → Option Plan → Type 0
IsServiceOf s None = served s ≡ false
IsServiceOf s (Some p) = (served s ≡ true) × IsPlanOf s p

-- what the stretching asks of a plan: what every plan has (its ghost fields)
pub record Usable (p : Plan) : Type 0 where
  pub limits : InLimits p.rate p.channels
  pub block_fits : p.block ≤ block_samples
  pub required_some : 1 ≤ p.required
  pub full_fits : p.full ≤ 3 * p.required
  pub calls_fit : 3 * p.required ≤ p.limit
  pub limit_fits : p.limit ≤ input_area
