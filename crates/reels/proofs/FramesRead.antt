-- What a read answers:
--   Given, given-of   an accepted read: frames that fit the slice, one or more if any waits, and those that wait after it
--   same_of           a refused read: the stream is as it was
-- Assumes nothing.
use Rattle.std.proofs.Common.{◌≡◌, ℕ, ◌-◌, ◌*◌, ◌/◌, ◌<◌, ◌≤◌, min, true, List, [], length, ℤ, Option, Some, None, Result, Ok, Err, refl, ap, le_trans, mul-le-mul_right, le-div_iff_mul-le, div-mul-le_self, arith}
use native.Mathlib.Nat.{min-le_left, min-le_right, le-min}
use lib.Ieee.{Float}
use Rattle.frames.specs.declared.Frames.{Frames}
use Rattle.frames.specs.Framing.{frames_of}
use Rattle.frames.proofs.Framing.{length-frames_of}
use Rattle.stream.specs.declared.SonicStream.{SonicStream}
use Rattle.stream.specs.Stream.{state_of, stream_of, unlent}
use Rattle.stream.specs.Refusals.{is_in_order, read_refusal}
use Rattle.stream.proofs.InOrder.{limits_of}
use Rattle.stream.specs.declared.refusal.Refusal.{Refusal}
use Rattle.stream.specs.declared.refusal.Refused.{Refused}
use Rattle.read.specs.declared.Gave.{Gave}
use Rattle.read.specs.Reading.{read_count, read_by, read_call}
use Rattle.stream.proofs.Passing.{read-ordered}
use Rattle.plans.specs.Plans.{block_samples}

-- n frames were given, and the stream t is left
pub record Given (s : SonicStream) (slice : List Float) (n : Frames) (t : SonicStream) : Type 0 where
  pub fits : n.0 * s.channels ≤ length slice
  pub waited : n.0 ≤ s.waiting.0
  pub some : 32 ≤ length slice → 0 < s.waiting.0 → 0 < n.0
  pub left : t.waiting.0 ≡ s.waiting.0 - n.0
  pub channels_kept : t.channels ≡ s.channels
  pub held_kept : t.held.0 ≡ s.held.0

module _ (s : SonicStream) (slice : List Float) (output : List ℤ) where
  abbrev count : ℕ
  count = read_count s block_samples slice

  count-few : count * s.channels ≤ length slice
  unfolding read_count
  count-few =
      le_trans (mul-le-mul_right s.channels (min-le_right (min s.waiting.0 block_samples) (length slice / s.channels)))
      (div-mul-le_self (length slice) s.channels)

  count-waited : count ≤ s.waiting.0
  unfolding read_count
  count-waited =
      le_trans (min-le_left (min s.waiting.0 block_samples) (length slice / s.channels)) (min-le_left s.waiting.0 block_samples)

  count-some : is_in_order s ≡ true → 32 ≤ length slice → 0 < s.waiting.0 → 0 < count
  unfolding read_count
  count-some o l w =
      let c = limits_of s o in
      let room : 1 ≤ length slice / s.channels =
      (le-div_iff_mul-le {k = s.channels} {x = 1} {y = length slice} (omega (arith, c.channels_low))).1 (omega (arith, c.channels_high)) in
      let some : 1 ≤ min s.waiting.0 block_samples = le-min {k = 1} w (omega arith) in
      le-min {k = 1} some room

  given : is_in_order s ≡ true → Given s slice (record { 0 = count }) (stream_of (unlent s) (s.waiting.0 - count))
  unfolding stream_of state_of
  given o =
      record {
        fits = count-few;
        waited = count-waited;
        some = count-some o;
        left = refl;
        channels_kept = refl;
        held_kept = length-frames_of s.channels s.held.0 [];
      }

  abbrev by : Option Refusal → Result Gave Refused
  by k = (read_by k s count (frames_of s.channels s.waiting.0 output)).answer

  pub given-of : (g : Gave) → Ok g ≡ (read_call s block_samples slice output).answer → Given s slice g.frames g.stream
  unfolding read_call
  given-of g = go (read_refusal s output) refl
    where
      go : (k : Option Refusal) → read_refusal s output ≡ k → Ok g ≡ by k → Given s slice g.frames g.stream
      go None z e =
          let same : g ≡ record { frames = record { 0 = count }; stream = stream_of (unlent s) (s.waiting.0 - count) } = cc in
          rw same (given (read-ordered s output z))
      go (Some k) z e = cc

  pub same_of : (r : Refused) → Err r ≡ (read_call s block_samples slice output).answer → r.stream ≡ s
  unfolding read_call
  same_of r = go (read_refusal s output)
    where
      go : (k : Option Refusal) → Err r ≡ by k → r.stream ≡ s
      go None e = cc
      go (Some k) e =
          let same : r ≡ record { refusal = k; stream = s } = cc in
          ap (λ (x : Refused). x.stream) same
