-- From the work of a call that added frames to its answer, of a write and of a flush:
--   work_of                    the work, by the frames added
--   worked-in-order          the stream after the work is in order
--   held_same, tail_same     what the stream held stays where the work has no room
--   added-refused            the contract, where the work is refused
--   added-none, added-worked   no refusal is met where it is done; what it gives
-- Assumes nothing.
use mathlib.Core.Path.{◌≡◌, ◌∙◌}
use mathlib.Core.Bool.{true}
use mathlib.Core.List.{List}
use Prim.Native.Nat.{ℕ, ◌+◌}
use native.Mathlib.Omega.{arith}
use lib.IntN.{ℤ}
use Rattle.frames.specs.Areas.{Areas, areas}
use Rattle.frames.specs.Framing.{Frame, frames_of, Behind}
use Rattle.frames.proofs.Behind.{behind-front, front_less}
use Rattle.stream.specs.declared.SonicStream.{SonicStream}
use Rattle.stream.specs.Stream.{state_of, stream_of}
use Rattle.stream.specs.Order.{StreamReady}
use Rattle.stream.specs.Refusals.{is_in_order}
use Rattle.stream.proofs.InOrder.{tests-of, ranges-of, ranges-same}
use Rattle.stream.proofs.Stays.{ready-in-order}
use Rattle.stream.specs.declared.refusal.Refusal.{Refusal}
use Rattle.stream.specs.declared.refusal.Refusal.TheVariants.{StageFull, OutputFull, TotalFull}
use Rattle.stream.specs.declared.refusal.Refused.{Refused}
use Rattle.process.specs.declared.Wrote.{Wrote}
use Rattle.std.proofs.Common.{None, Result, Ok, Err}
use Rattle.process.specs.Process.{Made, joined, process}
use Rattle.process.specs.Streams.{joined_stream}
use Rattle.process.specs.Working.{Unchanged, WorkedAs, WorkedBy}
use Rattle.process.proofs.Taken.{process-settings}
use Rattle.process.proofs.Joining.{joined-state}
use Rattle.adding.specs.Calls.{CallResult, call_by, refusal_of}
use Rattle.adding.specs.Adding.{Accepted, AddEnsures}
use Rattle.adding.proofs.Answers.{stage-met, output-met, total-met, none-met, CallAnswered, call-refused}
use Rattle.adding.proofs.Joining.{held-joined, tail-joined, needed-joined}

-- the work on the state with the frames fs
abbrev pub work_of : SonicStream → Areas → List Frame → Made
work_of s a fs = process (joined fs (state_of s a.input a.stage))

-- the stream t after it is in order
pub worked-in-order : (s t : SonicStream) (a : Areas) (fs : List Frame) (w : ℕ) → is_in_order s ≡ true → t ≡ stream_of (work_of s a fs).state w
    → StreamReady t → is_in_order t ≡ true
unfolding state_of stream_of joined
worked-in-order s t a fs w e is r =
    let same = process-settings (joined fs (state_of s a.input a.stage)) in
    let ranges = ranges-same s (stream_of (work_of s a fs).state w) same.speed same.pitch same.volume (ranges-of s (tests-of s e).settings) in
    ready-in-order t r (rw is ranges)

-- n frames fs stand in `input` behind those held; the work leaves the areas as b
module _ (s : SonicStream) (a b : Areas) (n : ℕ) (p : Accepted s a n) (input : List ℤ) (fs : List Frame)
    (h : Behind s.channels s.held.0 n a.input input fs) where
  -- the areas that the work begins with
  abbrev begun : Areas
  begun = areas input a.stage a.output a.scratch

  held_same : Unchanged (joined_stream n s) begun b → frames_of s.channels s.held.0 b.input ≡ frames_of s.channels s.held.0 a.input
  unfolding state_of stream_of joined
  held_same u =
      front_less s.channels s.held.0 (s.held.0 + n) b.input input (omega arith) (rw (held-joined s n) at u.held) ∙ behind-front h

  tail_same : Unchanged (joined_stream n s) begun b → frames_of s.channels s.tail.0 b.stage ≡ frames_of s.channels s.tail.0 a.stage
  unfolding state_of stream_of joined
  tail_same u = rw (tail-joined s n) at u.tail

  -- what the work says of its answer
  abbrev Worked : Result Wrote Refusal → Type 0
  Worked = WorkedBy (joined_stream n s) (work_of s a fs) begun b

  worked-by : (r : Result Wrote Refusal) → AddEnsures s n begun b r → Worked r
  worked-by r w = rw (joined-state s n a.input input a.stage fs h) at w

  -- ---- refused, and whatever the call c would be answers with the entering stream

  module _ (c : CallResult) where
    abbrev Refuses : Refused → Type 0
    Refuses e = CallAnswered s.channels (call_by (refusal_of s a n (work_of s a fs)) s a c) (Err e) b

    refused-by : (r : Refusal) (t : SonicStream) → t ≡ s → Worked (Err r) → Refuses (record { refusal = r; stream = t })
    unfolding state_of stream_of joined
    refused-by StageFull t e w =
        call-refused s a b c _ _ (stage-met s a n _ _ _ p (rw (needed-joined s n) at w.1)) e (held_same w.0) (tail_same w.0) w.0.waiting
    refused-by OutputFull t e w =
        let staged = rw (needed-joined s n) at w.1 in
        call-refused s a b c _ _ (output-met s a n _ _ _ p staged w.2) e (held_same w.0) (tail_same w.0) w.0.waiting
    refused-by TotalFull t e w =
        let staged = rw (needed-joined s n) at w.1 in
        call-refused s a b c _ _ (total-met s a n _ _ _ p staged w.2 w.3) e (held_same w.0) (tail_same w.0) w.0.waiting
    refused-by _ t e w = absurd w

    pub added-refused : (e : Refused) → e.stream ≡ s → AddEnsures s n begun b (Err e.refusal) → Refuses e
    added-refused e same w = refused-by e.refusal e.stream same (worked-by (Err e.refusal) w)

  -- ---- done

  module _ (w : Wrote) (r : AddEnsures s n begun b (Ok w)) where
    pub added-worked : WorkedAs (joined_stream n s) (work_of s a fs) begun b w
    added-worked = worked-by (Ok w) r

    pub added-none : refusal_of s a n (work_of s a fs) ≡ None
    unfolding state_of stream_of joined
    added-none =
        let f = added-worked in none-met s a n _ _ _ p (rw (needed-joined s n) at f.stage_fits) f.output_fits f.totals_fit
