-- Frames of a reel of which nothing came out: what a call notes of them, and the run after a part of the map was
-- written. Definitions only. Assumes nothing.
use Rattle.std.specs.Prelude.{◌≡◌, Bool, true, cond, ◌&&◌, ℕ, ◌-◌, eqb}
use Rattle.passes.specs.declared.Span.{Span}
use Rattle.passes.specs.declared.Passes.{Passes}
use Rattle.passes.specs.Passes.{noted}
use Rattle.reels.specs.declared.reel.Reel.{Reel}
use Rattle.reels.specs.declared.state.RunState.{RunState}
use Rattle.reels.specs.States.{sound}
use Rattle.reels.specs.Serving.{OnlyTotals}
use Rattle.reels.specs.Reels.{SameInput, SameNotes}

-- frames by the first of them and the first behind them
abbrev pub span_of : ℕ → ℕ → Span
span_of first end = record { first = first; frames = end - first }

-- after a write that passed over so many periods, one at the most by the plan: the frames that left the input
abbrev pub noted_write : Passes → ℕ → ℕ → ℕ → Passes
noted_write p passed first end = cond (eqb passed 0) p (noted p passed (span_of first end))

-- after a flush that gave no frame: the frames that were held, unless they stand behind a stall
abbrev pub noted_flush : Passes → Bool → ℕ → ℕ → ℕ → Passes
noted_flush p fine gave first end = cond (fine && eqb gave 0) (noted p 0 (span_of first end)) p

-- ---- the map

-- after a part of the map was written: only that may have failed, and then the run is without a map
pub record MapWritten (r r' : Reel) : Type 0 where
  pub input_kept : SameInput r r'
  pub stream_kept : r'.stream ≡ r.stream
  pub written_kept : r'.written ≡ r.written
  pub out_kept : r'.frames_out ≡ r.frames_out
  pub flushed_kept : r'.flushed ≡ r.flushed
  pub notes_kept : SameNotes r r'
  pub state_stays : sound r'.state ≡ true → r'.state ≡ r.state
  pub map_stays : sound r'.state ≡ true → r'.map ≡ r.map
  pub only_kept : OnlyTotals r.state → OnlyTotals r'.state

-- the frames from a stall on, of a run that ended stalled
abbrev pub stalled_from : ℕ → RunState → Span
stalled_from end (RunState.Stalled at) = span_of at end
stalled_from end _ = span_of 0 0

-- those, if no flush gave a frame of them
abbrev pub unskimmed_of : Reel → Span
unskimmed_of r = cond (eqb r.gave 0) (stalled_from r.frames_in r.state) (span_of 0 0)
