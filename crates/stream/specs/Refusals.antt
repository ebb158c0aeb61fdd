-- docs/RULES.md, "Areas and refusals": the table's tests, in its order. Definitions only.
-- Assumes nothing.
use Rattle.std.specs.Prelude.{Bool, not, cond, ◌&&◌, ◌||◌, List, ℕ, ◌+◌, ◌*◌, leb, ltb, eqb, ℤ, Float, length, Option}
use Rattle.std.specs.Prelude.{Some, None}
use Rattle.std.specs.Float.Ieee.{le, eq}
use Rattle.frames.specs.Areas.{Areas}
use Rattle.floats.specs.Numbers.{one}
use Rattle.floats.specs.Settings.{sample_period, min_speed, max_speed, min_pitch, max_pitch, min_volume, max_volume}
use Rattle.period.specs.Rates.{min_period, max_period, max_required}
use Rattle.search.specs.Search.{widest_gap}
use Rattle.rate.specs.declared.Rates.{Rates}
use Rattle.rate.specs.Halving.{rates_of}
use Rattle.rate.specs.Tail.{ceil_div}
use Rattle.stream.specs.declared.SonicStream.{SonicStream}
use Rattle.stream.specs.declared.balance.Balance.{Balance}
use Rattle.stream.specs.declared.refusal.Refusal.{Refusal}
use Rattle.stream.specs.declared.refusal.Refusal.TheVariants.{
  BadRate,
  BadChannels,
  BadStream,
  BadAreas,
  InputFull,
  StageFull,
  OutputFull,
  NotWave,
  BadSize,
  BadFormat,
  TotalFull,
}
use Rattle.stream.specs.Balance.{past}

-- ---- the numbers; 0: accepted

abbrev pub number_of : Refusal → ℕ
number_of BadRate = 1
number_of BadChannels = 2
number_of BadStream = 3
number_of BadAreas = 4
number_of InputFull = 5
number_of StageFull = 6
number_of OutputFull = 7
number_of NotWave = 8
number_of BadSize = 9
number_of BadFormat = 10
number_of TotalFull = 12

abbrev pub number_in : Option Refusal → ℕ
number_in None = 0
number_in (Some refusal) = number_of refusal

-- ---- 1 and 2, of an opening

-- 1: rate outside 1,000..=500,000
unfoldable pub rate_bad : ℕ → Bool
rate_bad rate = ltb rate 1000 || ltb 500000 rate

-- 2: channels outside 1..=32
unfoldable pub channels_bad : ℕ → Bool
channels_bad channels = ltb channels 1 || ltb 32 channels

-- ---- 3: stream value not in order

abbrev pub within : Float → Float → Float → Bool
within low high x = le low x && le x high

-- rate and channels in range
unfoldable pub limits_in_order : SonicStream → Bool
limits_in_order s = not (rate_bad s.rate) && not (channels_bad s.channels)

-- T is that of the rate
unfoldable pub period_in_order : SonicStream → Bool
period_in_order s = eq s.sample_period (sample_period s.rate)

unfoldable pub settings_in_order : SonicStream → Bool
settings_in_order s =
    within min_speed max_speed s.speed
    && (within min_pitch max_pitch s.pitch && within min_volume max_volume s.volume)

-- previous period 0 or in range, previous least mean in 0..=65,535
unfoldable pub prev_in_order : SonicStream → Bool
prev_in_order s =
    (eqb s.prev_period 0 || (leb (min_period s.rate) s.prev_period
    && leb s.prev_period (max_period s.rate)))
    && leb s.prev_min_diff widest_gap

-- 0 ≤ p < O and n the least whole number with n·O ≥ p·N
unfoldable pub positions_in_order : Rates → SonicStream → Bool
positions_in_order r s =
    ltb s.old_rate_position r.old && eqb s.new_rate_position
    (ceil_div (s.old_rate_position * r.new) r.old)

-- play time, time error, counts and totals are free
unfoldable pub is_in_order : SonicStream → Bool
is_in_order s =
    limits_in_order s
    && (period_in_order s
    && (settings_in_order s && (prev_in_order s && positions_in_order (rates_of s.rate s.pitch) s)))

-- ---- 4 to 7, by the lengths of the areas; then 12, by the totals

-- the longest area, in samples
abbrev pub max_area : ℕ
max_area = 16777216

abbrev pub too_long : List ℤ → Bool
too_long area = ltb max_area (length area)

-- an area shorter than k frames
abbrev pub too_short : ℕ → ℕ → List ℤ → Bool
too_short channels k area = ltb (length area) (k * channels)

-- an area too long, or scratch shorter than `max_required`
unfoldable pub sizes_bad : SonicStream → Areas → Bool
sizes_bad s a =
    too_long a.input
    || (too_long a.stage
    || (too_long a.output || (too_long a.scratch || ltb (length a.scratch) (max_required s.rate))))

-- an area shorter than what the stream says it holds
unfoldable pub parts_bad : SonicStream → Areas → Bool
parts_bad s a =
    too_short s.channels s.held.0 a.input
    || (too_short s.channels s.tail.0 a.stage || too_short s.channels s.waiting.0 a.output)

-- 4: one of the two
unfoldable pub areas_bad : SonicStream → Areas → Bool
areas_bad s a = sizes_bad s a || parts_bad s a

-- 4 of a read, which is lent the output alone
unfoldable pub output_bad : SonicStream → List ℤ → Bool
output_bad s output = too_long output || too_short s.channels s.waiting.0 output

-- the frames that 6 counts, of a call that copies or stretches so many: these and the tail, which they join; at pitch
-- 1.0, where they go straight out, these alone (C-12)
unfoldable pub stage_needed : SonicStream → ℕ → ℕ
stage_needed s staged = cond (eq s.pitch one) staged (s.tail.0 + staged)

-- that of a write or a flush that adds, stages and makes so many frames, and would carry the totals to these; none:
-- accepted
unfoldable pub refusal : SonicStream → Areas → ℕ → ℕ → ℕ → Balance → Option Refusal
refusal s a added staged made balance =
    cond (not (is_in_order s)) (Some BadStream)
    (cond (areas_bad s a) (Some BadAreas)
    (cond (too_short s.channels (s.held.0 + added) a.input) (Some InputFull)
    (cond (too_short s.channels (stage_needed s staged) a.stage) (Some StageFull)
    (cond (too_short s.channels (s.waiting.0 + made) a.output) (Some OutputFull)
    (cond (past balance) (Some TotalFull) None)))))

-- that of a read
unfoldable pub read_refusal : SonicStream → List ℤ → Option Refusal
read_refusal s output = cond (not (is_in_order s)) (Some BadStream) (cond (output_bad s output) (Some BadAreas) None)
