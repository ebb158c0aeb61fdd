-- The answer of a write or a flush, by its refusal:
--   stream-met to total-met, none-met                the refusal, from what is met
--   CallAnswered, call-refused, call-done                the contract, of a refused and of an accepted call
--   stream-refused, areas-refused, input-refused     the contract of a call refused before its work
-- Assumes nothing.
use mathlib.Core.Path.{◌≡◌, refl, ◌∙◌}
use mathlib.Core.Bool.{true, false, cond}
use mathlib.Core.List.{List, ◌++◌}
use Prim.Native.Nat.{ℕ, ◌+◌, ◌*◌, ◌≤◌, ◌<◌}
use borrow.Author.Tests.{lt-ltb, le-ltb}
use lib.ListN.{length}
use Rattle.frames.specs.Areas.{Areas}
use Rattle.frames.specs.Framing.{Frame, frames_of}
use Rattle.stream.specs.declared.SonicStream.{SonicStream}
use Rattle.stream.specs.declared.balance.Balance.{Balance}
use Rattle.stream.specs.declared.refusal.Refusal.{Refusal}
use Rattle.stream.specs.declared.refusal.Refusal.TheVariants.{BadStream, BadAreas, InputFull, StageFull, OutputFull, TotalFull}
use Rattle.stream.specs.declared.refusal.Refused.{Refused}
use Rattle.std.proofs.Common.{Option, Some, None, Result, Ok, Err}
use Rattle.stream.specs.Balance.{past}
use Rattle.stream.specs.State.{State}
use Rattle.stream.specs.Stream.{stream_of}
use Rattle.stream.specs.Refusals.{is_in_order, areas_bad, too_short, stage_needed, refusal}
use Rattle.fill.specs.declared.Told.{Told}
use Rattle.process.specs.Process.{Made}
use Rattle.process.specs.declared.Wrote.{Wrote}
use Rattle.adding.specs.Calls.{CallResult, refused_call, accepted_call, call_by, refusal_of, CallEnsures, OrderAfter}
use Rattle.adding.specs.Adding.{Accepted}

-- ---- the refusal

module _ (s : SonicStream) (a : Areas) (added staged made : ℕ) (totals : Balance) where
  stream-met : is_in_order s ≡ false → refusal s a added staged made totals ≡ Some BadStream
  unfolding refusal
  stream-met e = rw e

  module _ (o : is_in_order s ≡ true) where
    areas-met : areas_bad s a ≡ true → refusal s a added staged made totals ≡ Some BadAreas
    unfolding refusal
    areas-met f = rw (o, f)

    input-met : areas_bad s a ≡ false → too_short s.channels (s.held.0 + added) a.input ≡ true → refusal s a added staged made totals ≡ Some InputFull
    unfolding refusal
    input-met f g = rw (o, f, g)

  module _ (p : Accepted s a added) where
    pub stage-met : length a.stage < stage_needed s staged * s.channels → refusal s a added staged made totals ≡ Some StageFull
    unfolding refusal
    stage-met h = rw (p.in_order, p.areas_good, le-ltb (length a.input) _ p.fits, lt-ltb (length a.stage) _ h)

    module _ (h : stage_needed s staged * s.channels ≤ length a.stage) where
      pub output-met : length a.output < (s.waiting.0 + made) * s.channels → refusal s a added staged made totals ≡ Some OutputFull
      unfolding refusal
      output-met k =
          rw (p.in_order, p.areas_good, le-ltb (length a.input) _ p.fits, le-ltb (length a.stage) _ h, lt-ltb (length a.output) _ k)

      module _ (k : (s.waiting.0 + made) * s.channels ≤ length a.output) where
        totals-left : refusal s a added staged made totals ≡ cond (past totals) (Some TotalFull) None
        unfolding refusal
        totals-left =
            rw (p.in_order, p.areas_good, le-ltb (length a.input) _ p.fits, le-ltb (length a.stage) _ h, le-ltb (length a.output) _ k)

        pub total-met : past totals ≡ true → refusal s a added staged made totals ≡ Some TotalFull
        total-met e = totals-left ∙ rw e

        pub none-met : past totals ≡ false → refusal s a added staged made totals ≡ None
        none-met e = totals-left ∙ rw e

-- ---- the answer

-- what a write and a flush ensure: the answer r and the areas b are those of the call c, and an accepted call hands back a stream in order
abbrev pub CallAnswered : ℕ → CallResult → Result Wrote Refused → Areas → Type 0
CallAnswered channels c r b = CallEnsures channels c r b × OrderAfter r

-- refused: the entering stream, and the kept parts are as they came
pub call-refused : (s : SonicStream) (a b : Areas) (c : CallResult) (r : Option Refusal) (e : Refused) → r ≡ Some e.refusal → e.stream ≡ s
    → frames_of s.channels s.held.0 b.input ≡ frames_of s.channels s.held.0 a.input
    → frames_of s.channels s.tail.0 b.stage ≡ frames_of s.channels s.tail.0 a.stage
    → frames_of s.channels s.waiting.0 b.output ≡ frames_of s.channels s.waiting.0 a.output
    → CallAnswered s.channels (call_by r s a c) (Err e) b
unfolding refused_call
call-refused s a b c r e met same held tail waiting =
    let answer : Err e ≡ Err (record { refusal = e.refusal; stream = s }) = λ i. Err (record { refusal = e.refusal; stream = same i }) in
    (rw met (record { answer = answer; input = rw same held; tail = rw same tail; output = rw same waiting }), tt)

-- accepted: the stream is that of the state, and in order
pub call-done : (s : SonicStream) (a b : Areas) (w : Wrote) (o : Told) (state : State) (frames : List Frame) → w.told ≡ o
    → w.stream ≡ stream_of state (s.waiting.0 + length frames) → is_in_order w.stream ≡ true
    → frames_of s.channels (length state.input) b.input ≡ state.input
    → frames_of s.channels (length state.tail) b.stage ≡ state.tail
    → frames_of s.channels (s.waiting.0 + length frames) b.output ≡ frames_of s.channels s.waiting.0 a.output ++ frames
    → CallAnswered s.channels (accepted_call s a o state frames) (Ok w) b
unfolding accepted_call stream_of
call-done s a b w o state frames told is order held tail waiting =
    let answer : Ok w ≡ Ok (record { told = o; stream = stream_of state (s.waiting.0 + length frames) }) =
    λ i. Ok (record { told = told i; stream = is i }) in
    (record { answer = answer; input = rw is held; tail = rw is tail; output = rw is waiting }, order)

-- ---- refused before its work: the areas are as they came

module _ (s : SonicStream) (a : Areas) (added : ℕ) (m : Made) (c : CallResult) where
  -- the answer of a refusal
  abbrev Answered : Refusal → Type 0
  Answered r = CallAnswered s.channels (call_by (refusal_of s a added m) s a c) (Err (record { refusal = r; stream = s })) a

  pub stream-refused : is_in_order s ≡ false → Answered BadStream
  stream-refused e = call-refused s a a c _ _ (stream-met s a added _ _ _ e) refl refl refl refl

  module _ (o : is_in_order s ≡ true) where
    pub areas-refused : areas_bad s a ≡ true → Answered BadAreas
    areas-refused f = call-refused s a a c _ _ (areas-met s a added _ _ _ o f) refl refl refl refl

    pub input-refused : areas_bad s a ≡ false → too_short s.channels (s.held.0 + added) a.input ≡ true → Answered InputFull
    input-refused f g = call-refused s a a c _ _ (input-met s a added _ _ _ o f g) refl refl refl refl
