-- What a write or a flush says of its stream and its areas when it was accepted: Room, room_of; added-held. For the crates above. Assumes
-- nothing.
use mathlib.Core.Path.{◌≡◌, ap, ◌∙◌}
use mathlib.Core.Bool.{not, false}
use mathlib.Core.List.{List, ◌++◌}
use Prim.Native.Nat.{ℕ, ◌+◌, ◌*◌, ◌≤◌}
use native.Mathlib.Omega.{arith}
use borrow.Author.Tests.{ltb-false}
use lib.ListN.{length, length-append}
use Rattle.frames.specs.Areas.{Areas}
use Rattle.frames.specs.Framing.{Frame, frames_of}
use Rattle.frames.proofs.Framing.{length-frames_of}
use Rattle.frames.proofs.Room.{count-le}
use Rattle.stream.specs.declared.SonicStream.{SonicStream}
use Rattle.stream.specs.declared.refusal.Refusal.TheVariants.{BadStream, BadAreas, InputFull, StageFull, OutputFull, TotalFull}
use Rattle.std.proofs.Common.{None}
use Rattle.stream.specs.Balance.{past}
use Rattle.stream.specs.Refusals.{is_in_order, too_short, areas_bad, stage_needed, refusal}
use Rattle.stream.specs.Stream.{state_of}
use Rattle.stream.proofs.InOrder.{limits_of, ready_of}
use Rattle.stream.proofs.AreaTests.{areas-of}
use Rattle.stream.proofs.Passing.{passed, in-order-passed}
use Rattle.process.specs.Process.{Made, joined}
use Rattle.process.proofs.Claims.{Held}
use Rattle.adding.specs.Calls.{refusal_of}
use Rattle.adding.specs.Adding.{Accepted}

-- the facts behind an accepted write or flush that adds so many frames, and whose work is m
pub record Room (s : SonicStream) (a : Areas) (added : ℕ) (m : Made) : Type 0 where
  pub accepted : Accepted s a added
  pub held_fits : s.held.0 * s.channels ≤ length a.input
  pub tail_fits : s.tail.0 * s.channels ≤ length a.stage
  pub waiting_fits : s.waiting.0 * s.channels ≤ length a.output
  pub stage : stage_needed s m.staged * s.channels ≤ length a.stage
  pub output : (s.waiting.0 + length m.frames) * s.channels ≤ length a.output
  pub totals : past m.state.balance ≡ false

pub room_of : (s : SonicStream) (a : Areas) (added : ℕ) (m : Made) → refusal_of s a added m ≡ None → Room s a added m
unfolding refusal
room_of s a added m e =
    let ch : ℕ = s.channels in
    let in_order = passed (not (is_in_order s)) BadStream _ e in
    let areas = passed (areas_bad s a) BadAreas _ in_order.1 in
    let input = passed (too_short ch (s.held.0 + added) a.input) InputFull _ areas.1 in
    let stage = passed (too_short ch (stage_needed s m.staged) a.stage) StageFull _ input.1 in
    let output = passed (too_short ch (s.waiting.0 + length m.frames) a.output) OutputFull _ stage.1 in
    let totals = passed (past m.state.balance) TotalFull None output.1 in
    let good = areas-of s a areas.0 in
    record {
      accepted = record {
        in_order = in-order-passed (is_in_order s) in_order.0;
        areas_good = areas.0;
        fits = ltb-false (length a.input) ((s.held.0 + added) * ch) input.0;
      };
      held_fits = good.held;
      tail_fits = good.tail;
      waiting_fits = good.waiting;
      stage = ltb-false (length a.stage) (stage_needed s m.staged * ch) stage.0;
      output = ltb-false (length a.output) ((s.waiting.0 + length m.frames) * ch) output.0;
      totals = totals.0;
    }

-- the state with the frames fs, which an accepted call adds, is ready for its steps
pub added-held : (s : SonicStream) (a : Areas) (fs : List Frame) → Accepted s a (length fs) → Held (joined fs (state_of s a.input a.stage))
unfolding joined state_of
added-held s a fs p =
    let ch : ℕ = s.channels in
    let limits = limits_of s p.in_order in
    let front : List Frame = frames_of ch s.held.0 a.input in
    let all : length (front ++ fs) ≡ s.held.0 + length fs =
    length-append front fs ∙ ap (λ (n : ℕ). n + length fs) (length-frames_of ch s.held.0 a.input) in
    let some : s.held.0 + length fs ≤ (s.held.0 + length fs) * ch = count-le ch (s.held.0 + length fs) limits.channels_low in
    record {
      limits = limits;
      few = omega (arith, all, some, p.fits, (areas-of s a p.areas_good).input_short);
      prev = (ready_of s p.in_order).prev.period_in;
    }
