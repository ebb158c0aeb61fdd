-- The work of a call on a steady stream, whatever frames it adds. Here:
--   limit-same, call-same     streams of one job have one limit
--   pace-ready                rate, speed and pitch are in their ranges
--   work-fits                 refusals 3 to 7 are not met
--   work-same, work-steady    the stream after it is of the same job, and steady
-- Assumes nothing.
use mathlib.Core.Path.{◌≡◌, refl, sym, ap, ◌∙◌}
use mathlib.Core.Bool.{Bool, true, false, cond}
use mathlib.Core.Logic.{◌⊎◌, inl, inr, ⊎_elim}
use mathlib.Core.List.{List}
use Rattle.std.specs.Prelude.{None, Some}
use Prim.Native.Nat.{ℕ, ◌+◌, ◌-◌, ◌*◌, ◌/◌, ◌≤◌, ◌<◌}
use native.Mathlib.Nat.{le_trans, mul-le-mul_right, min-le_left}
use native.Mathlib.Omega.{arith}
use borrow.Author.Tests.{leb-true}
use lib.Dec.{T, leb}
use lib.Ieee.{binary32, div, le, to_unsigned}
use lib.ListN.{length, length-append}
use Rattle.frames.specs.Areas.{Areas}
use Rattle.frames.specs.Framing.{Frame}
use Rattle.frames.proofs.Room.{samples-le}
use Rattle.floats.specs.Settings.{min_speed, max_speed, min_pitch, max_pitch}
use Rattle.floats.proofs.Pace.{PaceReady, Paced, paced-grown}
use Rattle.period.specs.Rates.{InLimits, max_period, max_required}
use Rattle.rate.specs.Halving.{rates_of}
use Rattle.rate.proofs.Halving.{rates-within}
use Rattle.stream.specs.declared.SonicStream.{SonicStream}
use Rattle.stream.specs.State.{State}
use Rattle.stream.specs.Stream.{state_of, stream_of}
use Rattle.stream.specs.declared.refusal.Refusal.TheVariants.{TotalFull}
use Rattle.stream.specs.Refusals.{is_in_order}
use Rattle.stream.proofs.InOrder.{tests-of, limits_of, within-range, ranges-of, state-ready}
use Rattle.stream.proofs.AreaTests.{AreasGood}
use Rattle.stream.proofs.Streams.{held-is, tail_is}
use Rattle.fill.specs.declared.Outcome.TheVariants.{Stalled}
use Rattle.process.specs.Process.{Made, joined}
use Rattle.process.proofs.Taken.{process-settings}
use Rattle.process.proofs.Amounts.{Kept, Left, process-left, staged-is, made-most, tail-most}
use Rattle.adding.specs.Adding.{Accepted}
use Rattle.adding.specs.Calls.{refusal_of}
use Rattle.adding.proofs.Adding.{work_of}
use Rattle.adding.proofs.Room.{added-held}
use Rattle.adding.proofs.Accepting.{areas-bad-of, total-alone}
use Rattle.plans.specs.declared.Plan.{Plan}
use Rattle.plans.specs.Plans.{input_area, stage_area, output_area, block_samples, tail_frames, is_small, growth_of, output_room, held_most, limit_of, IsPlanOf}
use Rattle.plans.proofs.Sizes.{stage-most, output-least, output-most}
use Rattle.serving.specs.Steady.{Steady, AreasSized, SameJob, WriteWent}
use Rattle.serving.proofs.Room.{limit-input, limit-stage, limit-output, block-waits}
use Rattle.serving.proofs.Pacing.{PacedState, staged-most, left-paced}

-- ---- streams of one job have one limit

pub small_same : (s t : SonicStream) → SameJob s t → is_small t ≡ is_small s
unfolding is_small
small_same s t j = rw (j.speed, j.pitch)

pub limit-same : (s t : SonicStream) → SameJob s t → limit_of t ≡ limit_of s
unfolding limit_of output_room
limit-same s t j = rw (small_same s t j, j.rate, j.channels, j.speed, j.pitch)

-- and one plan
pub plan-same : (s t : SonicStream) → SameJob s t → (p : Plan) → IsPlanOf s p → IsPlanOf t p
plan-same s t j p e =
    record {
      rate_is = e.rate_is ∙ sym j.rate;
      channels_is = e.channels_is ∙ sym j.channels;
      block_is = rw j.channels e.block_is;
      full_is = rw (j.speed, j.pitch, j.rate) e.full_is;
      required_is = rw j.rate e.required_is;
      limit_is = e.limit_is ∙ sym (limit-same s t j);
      small_is = e.small_is ∙ sym (small_same s t j);
    }

-- for which the growth is a bound
limit-held : (s : SonicStream) → limit_of s ≤ held_most s
unfolding limit_of
limit-held s = min-le_left (held_most s) _

-- ---- the settings

module _ (s : SonicStream) (o : is_in_order s ≡ true) where
  speed-range : T (le min_speed s.speed) × T (le s.speed max_speed)
  speed-range = within-range min_speed max_speed s.speed (ranges-of s (tests-of s o).settings).speed

  pitch-range : T (le min_pitch s.pitch) × T (le s.pitch max_pitch)
  pitch-range = within-range min_pitch max_pitch s.pitch (ranges-of s (tests-of s o).settings).pitch

  most-cases : (b : Bool) → cond b input_area (3 * max_required s.rate) ≤ 196608
  most-cases true = omega arith
  most-cases false = omega (arith, (limits_of s o).rate_high)

  pub pace-ready : PaceReady s.rate s.speed s.pitch (max_required s.rate) (held_most s)
  pace-ready =
      let i = limits_of s o in
      record {
        rate_low = i.rate_low;
        rate_high = i.rate_high;
        speed_low = speed-range.0;
        speed_high = speed-range.1;
        pitch_low = pitch-range.0;
        pitch_high = pitch-range.1;
        required_low = omega (arith, i.rate_low);
        required_high = omega (arith, i.rate_high);
        most_high = most-cases (leb 2 (to_unsigned 64 (div binary32 s.speed s.pitch)));
      }

  regime : (held_most s ≤ 3 * max_required s.rate) ⊎ (2 ≤ to_unsigned 64 (div binary32 s.speed s.pitch))
  regime = go (leb 2 (to_unsigned 64 (div binary32 s.speed s.pitch))) refl
    where
      go : (b : Bool) → leb 2 (to_unsigned 64 (div binary32 s.speed s.pitch)) ≡ b
          → (cond b input_area (3 * max_required s.rate) ≤ 3 * max_required s.rate) ⊎ (2 ≤ to_unsigned 64 (div binary32 s.speed s.pitch))
      go true e = inr (leb-true 2 (to_unsigned 64 (div binary32 s.speed s.pitch)) e)
      go false e = inl (omega arith)

-- ---- a call that adds the frames fs

module _ (s : SonicStream) (y : Steady s) (a : Areas) (z : AreasSized (is_small s) a) (waits : s.waiting.0 ≤ block_samples / s.channels)
    (fs : List Frame) (few : s.held.0 + length fs ≤ limit_of s) where
  abbrev n : ℕ
  n = length fs

  abbrev stage : ℕ
  stage = stage_area (is_small s)

  abbrev output : ℕ
  output = output_area (is_small s)

  abbrev x : State
  x = joined fs (state_of s a.input a.stage)

  abbrev m : Made
  m = work_of s a fs

  i : InLimits s.rate s.channels
  i = limits_of s y.in_order

  input_is : length x.input ≡ s.held.0 + n
  unfolding joined
  input_is = length-append (state_of s a.input a.stage).input fs ∙ ap (λ (k : ℕ). k + n) (held-is s a.input a.stage)

  tail-in : length x.tail ≡ s.tail.0
  unfolding joined
  tail-in = tail_is s a.input a.stage

  -- refusals 4 and 5

  input_fits : (s.held.0 + n) * s.channels ≤ input_area
  input_fits = limit-input s i y.is_served (s.held.0 + n) few

  stage-room : tail_frames + growth_of s.speed s.pitch (max_period s.rate) * (s.held.0 + n) ≤ stage / s.channels
  stage-room = limit-stage s i y.is_served (s.held.0 + n) few

  areas_good : AreasGood s a
  areas_good =
      let held : s.held.0 * s.channels ≤ (s.held.0 + n) * s.channels = mul-le-mul_right s.channels (omega arith) in
      let tail = samples-le s.channels s.tail.0 stage i.channels_low (omega (arith, y.tail_few, stage-room)) in
      let waiting = samples-le s.channels s.waiting.0 block_samples i.channels_low waits in
      record {
        input_short = omega (arith, z.input);
        stage_short = omega (arith, z.stage, stage-most (is_small s));
        output_short = omega (arith, z.output, output-most (is_small s));
        scratch_short = omega (arith, z.scratch);
        scratch_fits = omega (arith, z.scratch, i.rate_high);
        held = omega (arith, z.input, held, input_fits);
        tail = omega (arith, z.stage, tail);
        waiting = omega (arith, z.output, waiting, output-least (is_small s));
      }

  call-accepted : Accepted s a n
  call-accepted = record { in_order = y.in_order; areas_good = areas-bad-of s a areas_good; fits = omega (arith, z.input, input_fits) }

  -- the state with these frames is paced

  state-paced : PacedState x (held_most s)
  unfolding joined state_of
  state-paced =
      record {
        ready = pace-ready s y.in_order;
        held = added-held s a fs call-accepted;
        few = omega (arith, input_is, few, limit-held s);
        regime = regime s y.in_order;
        paced = rw input_is (paced-grown (pace-ready s y.in_order) y.paced n (omega (arith, few, limit-held s)));
      }

  -- refusals 6 and 7

  staged : m.staged ≤ growth_of s.speed s.pitch (max_period s.rate) * (s.held.0 + n)
  unfolding joined state_of
  staged = rw (staged-is x) (rw input_is at (staged-most x (held_most s) state-paced))

  stage_fits : (s.tail.0 + m.staged) * s.channels ≤ length a.stage
  stage_fits =
      rw z.stage (samples-le s.channels (s.tail.0 + m.staged) stage i.channels_low (omega (arith, y.tail_few, staged, stage-room)))

  made : length m.frames ≤ output / s.channels - 2 - block_samples / s.channels
  unfolding joined state_of
  made =
      let p = pitch-range s y.in_order in
      let r = rates-within s.rate s.pitch i.rate_low i.rate_high p.0 p.1 in
      let more : length x.tail + m.staged ≤ tail_frames + growth_of s.speed s.pitch (max_period s.rate) * (s.held.0 + n) =
      omega (arith, tail-in, y.tail_few, staged) in
      made-most x (output / s.channels - 2 - block_samples / s.channels) i.rate_high p.0 p.1
      (state-ready s y.in_order a.input a.stage).position
      (le_trans (mul-le-mul_right (rates_of s.rate s.pitch).new more)
      (limit-output s i y.is_served (s.held.0 + n) few r.new_least))

  -- so many of the frames made, behind those waiting
  pub made-fits : (k : ℕ) → k ≤ length (work_of s a fs).frames → (s.waiting.0 + k) * s.channels ≤ output_area (is_small s)
  made-fits k few' = block-waits s i y.is_served s.waiting.0 k waits (le_trans few' made)

  output_fits : (s.waiting.0 + length m.frames) * s.channels ≤ length a.output
  output_fits = rw z.output (made-fits (length m.frames) (omega arith))

  pub work-fits : (refusal_of s a (length fs) (work_of s a fs) ≡ None) ⊎ (refusal_of s a (length fs) (work_of s a fs) ≡ Some TotalFull)
  work-fits = total-alone s a n m call-accepted stage_fits output_fits

  -- ---- the stream after it

  work-left : Left x m.told.outcome m.state.input m.state.input_play_time
  work-left = process-left x state-paced.held

  module _ (w : ℕ) (waits-after : w * s.channels ≤ output_area (is_small s)) where
    abbrev t : SonicStream
    t = stream_of m.state w

    pub work-same : SameJob s (stream_of (work_of s a fs).state w)
    unfolding joined state_of stream_of
    work-same =
        let k = process-settings x in
        record { rate = k.rate; channels = k.channels; speed = k.speed; pitch = k.pitch }

    left_is : ((m.told.outcome ≡ Stalled) × (t.held.0 ≡ s.held.0 + n)) ⊎ (t.held.0 < max_required s.rate)
    unfolding joined state_of stream_of
    left_is =
        ⊎_elim
        (λ (k : Kept x m.told.outcome m.state.input m.state.input_play_time).
        ⊎_elim (λ e. inl (e, k.input_is ∙ input_is)) (λ h. inr (omega (arith, k.input_is, h))) k.why) (λ u. inr u.few) work-left

    held_after : t.held.0 ≤ s.held.0 + n
    unfolding stream_of
    held_after =
        ⊎_elim (λ (k : Kept x m.told.outcome m.state.input m.state.input_play_time). omega (arith, k.input_is, input_is))
        (λ u. omega (arith, u.some, input_is)) work-left

    paced-after : Paced s.rate s.speed s.pitch (max_required s.rate) (held_most s) t.held.0 t.input_play_time
    unfolding joined state_of stream_of
    paced-after = left-paced x (held_most s) state-paced m.told.outcome m.state.input m.state.input_play_time work-left

    tail-after : t.tail.0 ≤ tail_frames
    unfolding stream_of
    tail-after = tail-most x (rw tail-in y.tail_few)

    waiting-after : t.waiting.0 * t.channels ≤ output_area (is_small t)
    unfolding stream_of
    waiting-after = rw (small_same s t work-same, work-same.channels) waits-after

    pub work-steady : is_in_order (stream_of (work_of s a fs).state w) ≡ true → WriteWent s (length fs) (work_of s a fs).told (stream_of (work_of s a fs).state w)
    work-steady e =
        record {
          steady = record {
            in_order = e;
            is_served = rw (limit-same s t work-same, work-same.rate) y.is_served;
            tail_few = tail-after;
            held_few = rw (limit-same s t work-same) (le_trans held_after few);
            waiting_fits = waiting-after;
            paced = rw (work-same.rate, work-same.speed, work-same.pitch) paced-after;
          };
          same = work-same;
          left = left_is;
        }
