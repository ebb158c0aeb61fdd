-- What is promised of a block that is read and written: none of its frames is left out unseen. Definitions only.
-- Assumes nothing.
use Rattle.std.specs.Prelude.{◌≡◌, ℕ, ◌+◌, ◌%◌, ◌^◌, true, false, Result}
use Rattle.stream.specs.declared.refusal.Refused.{Refused}
use Rattle.process.specs.declared.Wrote.{Wrote}
use Rattle.adding.specs.Calls.{stream_after}
use Rattle.plans.specs.declared.Plan.{Plan}
use Rattle.reels.specs.declared.reel.Reel.{Reel}
use Rattle.reels.specs.declared.state.RunState.{RunState}
use Rattle.reels.specs.States.{sound, count_stall}
use Rattle.reels.specs.Serving.{Serving}
use Rattle.reels.specs.Reels.{takes_more, SameInput, first_held, passed_in, Answered}
use Rattle.maps.specs.Maps.{noted_write}

-- after a write, with so many frames written: a stall is counted; of a period that it passed over, the frames from the
-- first one held before it to the first one held after it are noted
abbrev pub WriteAnswered : ℕ → Reel → Result Wrote Refused → Reel → Type 0
WriteAnswered written r answer r' =
    let place : ℕ = first_held r.written r.stream in
    Answered (RunState.Stalled place) written r.flushed
    (count_stall place answer r.stalls)
    (noted_write r.passes (passed_in answer) place (first_held written (stream_after answer)))
    r.gave r answer r'

-- after writes of n frames of a block: a run that takes more has written them all
pub record PartWritten (p : Plan) (n : ℕ) (r r' : Reel) : Type 0 where
  pub still : takes_more p r' ≡ true → takes_more p r ≡ true
  pub written_is : takes_more p r' ≡ true → r'.written ≡ (r.written + n) % 2 ^ 64
  pub input_kept : SameInput r r'
  pub flushed_kept : r'.flushed ≡ r.flushed
  pub channels_kept : r'.stream.channels ≡ r.stream.channels
  pub serving : Serving p r'

-- unless something was refused or failed, no frame waits
abbrev pub NoneWaits : Reel → Type 0
NoneWaits r = sound r.state ≡ true → r.stream.waiting.0 ≡ 0

-- after the writes of a block of n frames: what they made was written out
pub record BlockWritten (p : Plan) (n : ℕ) (r r' : Reel) : Type 0 where
  pub part : PartWritten p n r r'
  pub none_waits : NoneWaits r'

-- after a block was read and written: a run that takes more and had written each frame it read has done so again, and
-- only the last block may leave bytes over
pub record Turned (p : Plan) (r r' : Reel) : Type 0 where
  pub still : takes_more p r' ≡ true → takes_more p r ≡ true
  pub level : takes_more p r' ≡ true → r.written ≡ r.frames_in → r'.written ≡ r'.frames_in
  pub partial_last : r'.ended ≡ false → r'.partial ≡ 0
  pub flushed_kept : r'.flushed ≡ r.flushed
  pub channels_kept : r'.stream.channels ≡ r.stream.channels
  pub serving : Serving p r'
  pub none_waits : NoneWaits r'
