-- What `process_stream_input` ensures of a stream s; its areas go from a to b. Definitions only. Assumes nothing.
use Rattle.std.specs.Prelude.{◌≡◌, true, false, ◌++◌, ◌+◌, ◌*◌, ◌≤◌, ◌<◌, length, Result, Ok, Err}
use Rattle.frames.specs.Areas.{Areas}
use Rattle.frames.specs.Framing.{frames_of}
use Rattle.stream.specs.declared.SonicStream.{SonicStream}
use Rattle.stream.specs.declared.refusal.Refusal.{Refusal}
use Rattle.stream.specs.declared.refusal.Refusal.TheVariants.{StageFull, OutputFull, TotalFull}
use Rattle.stream.specs.Balance.{past}
use Rattle.stream.specs.Stream.{state_of, stream_of}
use Rattle.stream.specs.Order.{StreamReady}
use Rattle.stream.specs.Refusals.{stage_needed}
use Rattle.process.specs.declared.Wrote.{Wrote}
use Rattle.process.specs.Process.{Made, process}

-- the kept parts as they came
pub record Unchanged (s : SonicStream) (a b : Areas) : Type 0 where
  pub held : frames_of s.channels s.held.0 b.input ≡ frames_of s.channels s.held.0 a.input
  pub tail : frames_of s.channels s.tail.0 b.stage ≡ frames_of s.channels s.tail.0 a.stage
  pub waiting : frames_of s.channels s.waiting.0 b.output ≡ frames_of s.channels s.waiting.0 a.output

-- done as m says, within the stage, the output and the totals; the stream is in order again
pub record WorkedAs (s : SonicStream) (m : Made) (a b : Areas) (w : Wrote) : Type 0 where
  pub told : w.told ≡ m.told
  pub stream : w.stream ≡ stream_of m.state (s.waiting.0 + length m.frames)
  pub ready : StreamReady w.stream
  pub stage_fits : stage_needed s m.staged * s.channels ≤ length a.stage
  pub output_fits : (s.waiting.0 + length m.frames) * s.channels ≤ length a.output
  pub totals_fit : past m.state.balance ≡ false
  pub held : frames_of s.channels (length m.state.input) b.input ≡ m.state.input
  pub tail : frames_of s.channels (length m.state.tail) b.stage ≡ m.state.tail
  pub waiting : frames_of s.channels (s.waiting.0 + length m.frames) b.output
      ≡ frames_of s.channels s.waiting.0 a.output ++ m.frames

-- or without room: in the stage first, then in the output, then in a total; there is no other refusal
abbrev pub WorkedBy : SonicStream → Made → Areas → Areas → Result Wrote Refusal → Type 0
WorkedBy s m a b (Ok w) = WorkedAs s m a b w
WorkedBy s m a b (Err StageFull) = Unchanged s a b × (length a.stage < stage_needed s m.staged * s.channels)
WorkedBy s m a b (Err OutputFull) =
    Unchanged s a b × (stage_needed s m.staged * s.channels ≤ length a.stage)
    × (length a.output < (s.waiting.0 + length m.frames) * s.channels)
WorkedBy s m a b (Err TotalFull) =
    Unchanged s a b × (stage_needed s m.staged * s.channels ≤ length a.stage)
    × ((s.waiting.0 + length m.frames) * s.channels ≤ length a.output) × (past m.state.balance ≡ true)
WorkedBy s m a b (Err _) = ⊥

abbrev pub WorkEnsures : SonicStream → Areas → Areas → Result Wrote Refusal → Type 0
WorkEnsures s a b r = WorkedBy s (process (state_of s a.input a.stage)) a b r
