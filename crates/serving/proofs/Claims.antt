-- A served job is never refused, but for a total past 64 bits: write-served, flush-served. Assumes nothing.
use mathlib.Core.Path.{◌≡◌, refl, sym, subst}
use mathlib.Core.Bool.{true}
use mathlib.Core.Logic.{◌⊎◌, inl, inr}
use mathlib.Core.List.{List, map}
use Rattle.std.specs.Prelude.{Option, None, Some, Result}
use Prim.Native.Nat.{ℕ, ◌+◌, ◌*◌, ◌/◌, ◌≤◌}
use native.Mathlib.Omega.{arith}
use lib.IntN.{pos}
use lib.Ieee.{Float}
use lib.ListN.{length, replicate, length-map, length-take, length-replicate}
use Rattle.frames.specs.Areas.{Areas}
use Rattle.frames.specs.Framing.{Frame}
use Rattle.frames.proofs.Framing.{length-frames_of}
use Rattle.floats.specs.Write.{sample_in}
use Rattle.period.specs.Rates.{max_required}
use Rattle.stream.specs.declared.SonicStream.{SonicStream}
use Rattle.stream.specs.State.{State}
use Rattle.stream.specs.Stream.{state_of, stream_of}
use Rattle.stream.specs.declared.refusal.Refusal.{Refusal}
use Rattle.stream.specs.declared.refusal.Refusal.TheVariants.{TotalFull}
use Rattle.stream.specs.declared.refusal.Refused.{Refused}
use Rattle.stream.specs.Refusals.{is_in_order}
use Rattle.fill.specs.declared.Told.{Told}
use Rattle.process.specs.Process.{whole_frames, write_work, flush_work, expected, cleared}
use Rattle.process.specs.declared.Wrote.{Wrote}
use Rattle.adding.specs.Calls.{refused_call, accepted_call, call_by, refusal_of, write_call, flush_call, OrderAfter}
use Rattle.adding.proofs.Adding.{work_of}
use Rattle.plans.specs.Plans.{output_area, block_samples, is_small, limit_of, served}
use Rattle.serving.specs.Steady.{Steady, AreasSized, SameJob, WriteWent, FlushWent, NeverRefused}
use Rattle.serving.proofs.Served.{small_same, limit-same, made-fits, work-fits, work-same, work-steady}
use Rattle.serving.proofs.Fresh.{steady-unheld}

-- by its refusal: none, or that of a total
by_refusal : (P : Told → SonicStream → Type 0) (refusal : Option Refusal) (s : SonicStream) (a : Areas) (o : Told) (state : State) (frames : List Frame)
    → (refusal ≡ None) ⊎ (refusal ≡ Some TotalFull)
    → (is_in_order (stream_of state (s.waiting.0 + length frames)) ≡ true → P o (stream_of state (s.waiting.0 + length frames)))
    → (r : Result Wrote Refused) → r ≡ (call_by refusal s a (accepted_call s a o state frames)).answer → OrderAfter r → NeverRefused s P r
unfolding accepted_call refused_call
by_refusal P None s a o state frames c done r e = subst (λ (x : Result Wrote Refused). OrderAfter x → NeverRefused s P x) (sym e) done
by_refusal P (Some refusal) s a o state frames (inl z) done r e = cc
by_refusal P (Some refusal) s a o state frames (inr z) done r e =
    let is : refusal ≡ TotalFull = cc in
    subst (λ (x : Result Wrote Refused). OrderAfter x → NeverRefused s P x) (sym e) (λ _. (is, refl))

whole_is : (channels : ℕ) (samples : List Float) → length (whole_frames channels samples) ≡ length samples / channels
unfolding whole_frames
whole_is channels samples = length-frames_of channels (length samples / channels) samples

served-same : (s t : SonicStream) → SameJob s t → served s ≡ true → served t ≡ true
served-same s t j v = rw (limit-same s t j, j.rate) v

module _ (s : SonicStream) (y : Steady s) (a : Areas) (z : AreasSized (is_small s) a) (waits : s.waiting.0 ≤ block_samples / s.channels) where
  -- a call that adds the n frames fs
  module _ (fs : List Frame) (n : ℕ) (count : length fs ≡ n) (few : s.held.0 + n ≤ limit_of s) where
    within : s.held.0 + length fs ≤ limit_of s
    within = omega (arith, count, few)

    added-served : (P : Told → SonicStream → Type 0) (state : State) (frames : List Frame)
        → (is_in_order (stream_of state (s.waiting.0 + length frames)) ≡ true → P (work_of s a fs).told (stream_of state (s.waiting.0 + length frames)))
        → (r : Result Wrote Refused) → r ≡ (call_by (refusal_of s a n (work_of s a fs)) s a (accepted_call s a (work_of s a fs).told state frames)).answer
        → OrderAfter r → NeverRefused s P r
    added-served P state frames done =
        by_refusal P (refusal_of s a n (work_of s a fs)) s a (work_of s a fs).told state frames
        (subst (λ (k : ℕ). (refusal_of s a k (work_of s a fs) ≡ None) ⊎ (refusal_of s a k (work_of s a fs) ≡ Some TotalFull)) count
        (work-fits s y a z waits fs within)) done

    -- so many of its frames behind those waiting
    fits : (k : ℕ) → k ≤ length (work_of s a fs).frames → (s.waiting.0 + k) * s.channels ≤ output_area (is_small s)
    fits = made-fits s y a z waits fs within

    written : (k : ℕ) → k ≤ length (work_of s a fs).frames → is_in_order (stream_of (work_of s a fs).state (s.waiting.0 + k)) ≡ true
        → WriteWent s n (work_of s a fs).told (stream_of (work_of s a fs).state (s.waiting.0 + k))
    written k few' e = rw (← count) (work-steady s y a z waits fs within (s.waiting.0 + k) (fits k few') e)

    flushed : (k : ℕ) → k ≤ length (work_of s a fs).frames → is_in_order (stream_of (cleared (work_of s a fs).state) (s.waiting.0 + k)) ≡ true
        → FlushWent s (work_of s a fs).told (stream_of (cleared (work_of s a fs).state) (s.waiting.0 + k))
    unfolding cleared stream_of
    flushed k few' e =
        let t : SonicStream = stream_of (cleared (work_of s a fs).state) (s.waiting.0 + k) in
        let j = work-same s y a z waits fs within (s.waiting.0 + k) (fits k few') in
        let same : SameJob s t = record { rate = j.rate; channels = j.channels; speed = j.speed; pitch = j.pitch } in
        record {
          steady = steady-unheld t (record { in_order = e; held = refl; tail = refl; play = refl }) (served-same s t same y.is_served)
              (rw (small_same s t same, j.channels) (fits k few'));
          same = same;
          none = refl;
        }

  -- a write
  pub write-served : (samples : List Float) → s.held.0 + length samples / s.channels ≤ limit_of s
      → (r : Result Wrote Refused) → r ≡ (write_call s samples a).answer → OrderAfter r → NeverRefused s (WriteWent s (length samples / s.channels)) r
  unfolding write_call write_work state_of
  write-served samples few r e =
      let whole : List (List Float) = whole_frames s.channels samples in
      let fs : List Frame = map (map sample_in) whole in
      let is = whole_is s.channels samples in
      let count : length fs ≡ length whole = length-map whole (map sample_in) in
      rw (← is) (added-served fs (length whole) count (rw is few) (WriteWent s (length whole)) _ _ (written fs (length whole) count (rw is few) _ (omega arith)) r e)

  -- a flush
  pub flush-served : s.held.0 + 2 * max_required s.rate ≤ limit_of s
      → (r : Result Wrote Refused) → r ≡ (flush_call s a).answer → OrderAfter r → NeverRefused s (FlushWent s) r
  unfolding flush_call flush_work state_of
  flush-served few r e =
      let n : ℕ = 2 * max_required s.rate in
      let silent : Frame = replicate s.channels (pos 0) in
      let fs : List Frame = replicate n silent in
      let count : length fs ≡ n = length-replicate n silent in
      added-served fs n count few (FlushWent s) _ _ (flushed fs n count few _ (omega (arith, length-take (expected (state_of s a.input a.stage)) (work_of s a fs).frames))) r e
