-- What a whole run promises: no frame is lost unseen. In this order:
--   flushes                        what a run is asked
--   FlushAnswered, Flushed         after the flush
--   Underway, Complete             before, between and after the turns of a run; after a whole run
-- Definitions only. Assumes nothing.
use Rattle.std.specs.Prelude.{◌≡◌, Bool, true, false, not, ◌&&◌, ℕ, ◌%◌, eqb, Result}
use Rattle.stream.specs.declared.refusal.Refused.{Refused}
use Rattle.process.specs.declared.Wrote.{Wrote}
use Rattle.adding.specs.Calls.{stream_after, OrderAfter}
use Rattle.plans.specs.declared.Plan.{Plan}
use Rattle.reels.specs.declared.reel.Reel.{Reel}
use Rattle.reels.specs.declared.state.RunState.{RunState}
use Rattle.reels.specs.States.{fine, kept, flush_stall, state_in}
use Rattle.reels.specs.Serving.{OnlyTotals, Serving}
use Rattle.reels.specs.Reels.{takes_more, first_held, Answered}
use Rattle.maps.specs.Maps.{noted_flush}
use Rattle.blocks.specs.Blocks.{NoneWaits}

-- frames were written, and the stream takes more
abbrev pub flushes : Plan → Reel → Bool
flushes p r = takes_more p r && not (eqb r.written 0)

-- ---- a whole run

-- after a flush: if it gave no frame, those that were held are noted, unless they stand behind a stall
abbrev pub FlushAnswered : Reel → Result Wrote Refused → Reel → Type 0
FlushAnswered r answer r' =
    let place : ℕ = first_held r.written r.stream in
    let stall : RunState = flush_stall place r.state in
    let gave : ℕ = (stream_after answer).waiting.0 in
    Answered stall r.written true r.stalls
    (noted_flush r.passes (fine (kept r.state (state_in stall answer))) gave place r.written)
    gave r answer r'

-- after the flush, if there is one, with this answer
pub record Flushed (p : Plan) (answer : Result Wrote Refused) (r r' : Reel) : Type 0 where
  pub skipped : flushes p r ≡ false → r' ≡ r
  pub done : flushes p r ≡ true → FlushAnswered r answer r'
  pub ordered : flushes p r ≡ true → OrderAfter answer

-- a run that is not flushed: if the stream takes more, every frame read was written, and only the last block may have
-- left bytes over; blocks are of whole frames
pub record Underway (p : Plan) (r : Reel) : Type 0 where
  pub channels_are : r.stream.channels ≡ p.channels
  pub block_whole : p.block % p.channels ≡ 0
  pub level : takes_more p r ≡ true → r.written ≡ r.frames_in
  pub partial_last : r.ended ≡ false → r.partial ≡ 0
  pub unflushed : r.flushed ≡ false
  pub serving : Serving p r
  pub none_waits : NoneWaits r

-- what a whole run promises: a flushed run had written every whole frame that it read; one whose stream takes more came
-- to the end of the input, wrote every frame and was flushed if there was one; only the last block may leave bytes
-- over; without a failure or a refusal all that was made was written out; and nothing was refused but for a total past
-- 64 bits
pub record Complete (p : Plan) (r : Reel) : Type 0 where
  pub flushed_all : r.flushed ≡ true → r.written ≡ r.frames_in
  pub ended_all : takes_more p r ≡ true → r.ended ≡ true
  pub written_all : takes_more p r ≡ true → r.written ≡ r.frames_in
  pub flushed_is : takes_more p r ≡ true → r.flushed ≡ not (eqb r.written 0)
  pub partial_last : r.ended ≡ false → r.partial ≡ 0
  pub none_waits : NoneWaits r
  pub only_totals : OnlyTotals r.state
