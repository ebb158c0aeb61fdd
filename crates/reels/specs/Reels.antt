-- What a run keeps of each answer and of each block, in this order:
--   takes_more, reads_more, fresh_reel   what a run is asked; a run that has not begun
--   SameInput, SameNotes              what is as it was
--   Stopped                           after a refusal or a failure
--   Answered, BlockCounted            after a call of the stream; after a block was filled
--   WrittenOut, FewerWait, Drained    after frames that wait were written out
--   BlockReadAs                       after a block was read
-- Definitions only. Assumes nothing.
use Rattle.std.specs.Prelude.{◌≡◌, ℕ, ◌+◌, ◌-◌, ◌*◌, ◌/◌, ◌%◌, ◌^◌, ◌<◌, ◌≤◌, min, List, nat_lt}
use Rattle.std.specs.Prelude.{Bool, true, false, cond, not, ◌&&◌, Option, Result, Ok, Err}
use Rattle.stream.specs.declared.SonicStream.{SonicStream}
use Rattle.stream.specs.declared.refusal.Refused.{Refused}
use Rattle.process.specs.declared.Wrote.{Wrote}
use Rattle.read.specs.declared.Gave.{Gave}
use Rattle.adding.specs.Calls.{stream_after}
use Rattle.read.specs.Reading.{stream_after_read}
use Rattle.passes.specs.declared.Passes.{Passes}
use Rattle.passes.specs.Passes.{none}
use Rattle.plans.specs.declared.Plan.{Plan}
use Rattle.plans.specs.Plans.{output_area}
use Rattle.inputs.specs.declared.Source.{Source}
use Rattle.inputs.specs.declared.BlockBytes.{BlockBytes}
use Rattle.inputs.specs.Sources.{first_of, ready_of, block_of, source_after, Begins}
use Rattle.reels.specs.declared.reading.BlockRead.{BlockRead}
use Rattle.reels.specs.declared.reel.Reel.{Reel}
use Rattle.reels.specs.declared.state.RunState.{RunState}
use Rattle.reels.specs.declared.state.Stalls.{Stalls}
use Rattle.reels.specs.States.{sound, failed, takes, kept, state_in}
use Rattle.reels.specs.Serving.{Serving}

-- the stream takes a frame more
abbrev pub takes_more : Plan → Reel → Bool
takes_more p r = takes p r.stream.held.0 r.state

-- more of the input is read: it has not ended, and nothing failed
abbrev pub reads_more : Reel → Bool
reads_more r = not r.ended && not (failed r.state)

-- a run that has not begun, with its input and the descriptor of its map, if there is one
abbrev pub fresh_reel : SonicStream → Source → Option ℕ → Reel
fresh_reel stream source map =
    record {
      stream = stream;
      frames_in = 0;
      written = 0;
      frames_out = 0;
      source = source;
      partial = 0;
      state = RunState.Going;
      stalls = record { count = 0; first = 0 };
      ended = false;
      flushed = false;
      from = 0;
      passed = 0;
      gave = 0;
      tail = record { 0 = 0 };
      passes = none;
      map = map;
    }

-- what is known of the input is as it was
pub record SameInput (r r' : Reel) : Type 0 where
  pub frames_same : r'.frames_in ≡ r.frames_in
  pub source_same : r'.source ≡ r.source
  pub partial_same : r'.partial ≡ r.partial
  pub ended_same : r'.ended ≡ r.ended

-- what is noted of stalls and of frames of which nothing came out is as it was
pub record SameNotes (r r' : Reel) : Type 0 where
  pub stalls_same : r'.stalls ≡ r.stalls
  pub from_same : r'.from ≡ r.from
  pub passed_same : r'.passed ≡ r.passed
  pub gave_same : r'.gave ≡ r.gave
  pub tail_same : r'.tail ≡ r.tail
  pub passes_same : r'.passes ≡ r.passes

-- ---- one call, one block

-- the first frame held, of so many that were written
abbrev pub first_held : ℕ → SonicStream → ℕ
first_held written s = written - s.held.0

-- the periods that it passed over
abbrev pub passed_in : Result Wrote Refused → ℕ
passed_in (Err refused) = 0
passed_in (Ok wrote) = wrote.told.passed

-- after a refusal or a failure: only the state is another
pub record Stopped (state : RunState) (r r' : Reel) : Type 0 where
  pub state_is : r'.state ≡ state
  pub input_kept : SameInput r r'
  pub stream_kept : r'.stream ≡ r.stream
  pub written_kept : r'.written ≡ r.written
  pub out_kept : r'.frames_out ≡ r.frames_out
  pub flushed_kept : r'.flushed ≡ r.flushed
  pub notes_kept : SameNotes r r'
  pub map_kept : r'.map ≡ r.map

-- after a call that leaves `stall` if it stalled, with so many frames written, flushed or not, with these stalls and
-- these frames noted, and so many given by the flush
pub record Answered (stall : RunState) (written : ℕ) (flushed : Bool) (stalls : Stalls) (passes : Passes) (gave : ℕ)
    (r : Reel) (answer : Result Wrote Refused) (r' : Reel) : Type 0 where
  pub stream_is : r'.stream ≡ stream_after answer
  pub state_is : r'.state ≡ kept r.state (state_in stall answer)
  pub stalls_is : r'.stalls ≡ stalls
  pub written_is : r'.written ≡ written
  pub flushed_is : r'.flushed ≡ flushed
  pub from_is : r'.from ≡ first_held r.written r.stream
  pub tail_is : r'.tail ≡ r.stream.tail
  pub passed_is : r'.passed ≡ passed_in answer
  pub passes_is : r'.passes ≡ passes
  pub gave_is : r'.gave ≡ gave
  pub map_kept : r'.map ≡ r.map
  pub out_kept : r'.frames_out ≡ r.frames_out
  pub input_kept : SameInput r r'

-- after a block that was filled with so many bytes: its whole frames, and the bytes of a partial one; one that is not
-- full is the last
pub record BlockCounted (p : Plan) (r : Reel) (f : BlockBytes) (r' : Reel) : Type 0 where
  pub frames_is : r'.frames_in ≡ (r.frames_in + f.bytes / (2 * p.channels)) % 2 ^ 64
  pub source_is : r'.source ≡ source_after f.bytes r.source
  pub partial_is : r'.partial ≡ f.bytes % (2 * p.channels)
  pub ended_is : r'.ended ≡ nat_lt f.bytes (2 * p.block)
  pub state_is : r'.state ≡ cond f.failed (kept r.state RunState.ReadFailed) r.state
  pub stream_kept : r'.stream ≡ r.stream
  pub written_kept : r'.written ≡ r.written
  pub out_kept : r'.frames_out ≡ r.frames_out
  pub flushed_kept : r'.flushed ≡ r.flushed
  pub notes_kept : SameNotes r r'
  pub map_kept : r'.map ≡ r.map

-- ---- frames written out

-- after frames that wait in an output of so many samples were written out: unless that failed, each waits or is counted
pub record WrittenOut (samples : ℕ) (r r' : Reel) : Type 0 where
  pub input_kept : SameInput r r'
  pub written_kept : r'.written ≡ r.written
  pub flushed_kept : r'.flushed ≡ r.flushed
  pub notes_kept : SameNotes r r'
  pub map_kept : r'.map ≡ r.map
  pub channels_kept : r'.stream.channels ≡ r.stream.channels
  pub held_kept : r'.stream.held.0 ≡ r.stream.held.0
  pub state_stays : sound r'.state ≡ true → r'.state ≡ r.state
  pub accounted : sound r'.state ≡ true → (r'.frames_out + r'.stream.waiting.0) % 2 ^ 64
      ≡ (r.frames_out + r.stream.waiting.0) % 2 ^ 64
  pub serving_kept : (p : Plan) → samples ≡ output_area p.small → Serving p r → Serving p r'

-- after one turn, a read with this answer, which takes a frame or more if any waits
pub record FewerWait (samples : ℕ) (answer : Result Gave Refused) (r r' : Reel) : Type 0 where
  pub out : WrittenOut samples r r'
  pub stream_is : r'.stream ≡ stream_after_read answer
  pub fewer : sound r'.state ≡ true → 0 < r.stream.waiting.0
      → r'.stream.waiting.0 < r.stream.waiting.0

-- after the turns, which leave fewer than `few`
pub record Drained (samples few : ℕ) (r r' : Reel) : Type 0 where
  pub out : WrittenOut samples r r'
  pub fewer : sound r'.state ≡ true → r'.stream.waiting.0 < few

-- ---- a block read

-- after a block was read to these bytes: those that it was filled with, which begin with what stood ready, are counted,
-- and its samples are those of their whole frames; of a WAVE file no more are read than its data chunk has
pub record BlockReadAs (p : Plan) (r : Reel) (bytes : List ℕ) (b : BlockRead) : Type 0 where
  pub filled : BlockBytes
  pub fits : filled.bytes ≤ block_of r.source (2 * p.block)
  pub begins : Begins (first_of r.source) (min (ready_of r.source) (block_of r.source (2 * p.block))) bytes
  pub counted : BlockCounted p r filled b.reel
  pub samples_are : b.samples ≡ filled.bytes / (2 * p.channels) * p.channels
