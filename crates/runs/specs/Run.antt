-- Runs of demand 3 (docs/RULES.md, "Ledger of demand 3"): calls from a fresh stream on, each with
-- the areas that it was lent and left. A call's answer and what it leaves are those that its contract ensures. In
-- order: calls as they went, what each meets, what each leaves, runs, what the ledger is fed. Definitions only. Assumes
-- nothing.
use Rattle.std.specs.Prelude.{◌≡◌, List, [], ◌∷◌, ◌++◌, map, ℕ, ◌*◌, ℤ, Float, length, take, drop, Result, Ok, Err}
use Rattle.std.specs.Result.{is_ok}
use Rattle.frames.specs.Areas.{Areas}
use Rattle.frames.specs.Framing.{Frame, frames_of}
use Rattle.floats.specs.Write.{sample_out}
use Rattle.stream.specs.declared.SonicStream.{SonicStream}
use Rattle.stream.specs.declared.Setting.{Setting}
use Rattle.stream.specs.declared.refusal.Refused.{Refused}
use Rattle.stream.specs.Settings.{set_call}
use Rattle.fill.specs.declared.Outcome.{Outcome}
use Rattle.process.specs.declared.Wrote.{Wrote}
use Rattle.read.specs.declared.Gave.{Gave}
use Rattle.adding.specs.Calls.{write_call, flush_call, CallEnsures, stream_after}
use Rattle.read.specs.Reading.{read_call, ReadEnsures, stream_after_read, count_read}
use Rattle.runs.specs.Ledger.{setting, write, flush, read, Fed}

-- ---- calls as they went

-- a read's areas: the lent slice of f32 values and the output area
pub record ReadAreas : Type 0 where
  pub slice : List Float
  pub output : List ℤ

-- a setting and its answer; a write or a flush, or a read: its arguments, its areas at entry, its answer, its areas at
-- exit
pub data Event : Type 0 where
  setting-went : Setting → Result SonicStream Refused → Event
  write-went : List Float → Areas → Result Wrote Refused → Areas → Event
  flush-went : Areas → Result Wrote Refused → Areas → Event
  read-went : ℕ → ReadAreas → Result Gave Refused → ReadAreas → Event

-- between two calls: the stream value that the call before returned, the kept parts as last left (held input, tail,
-- waiting output), and, so far, the frames of the accepted reads and the outcomes of accepted writes and flushes
pub record Moment : Type 0 where
  pub stream : SonicStream
  pub input : List ℤ
  pub tail : List ℤ
  pub output : List ℤ
  pub given : List (List Float)
  pub outcomes : List Outcome

-- before the first call nothing is held
unfoldable pub opening : SonicStream → Moment
opening s = record { stream = s; input = []; tail = []; output = []; given = []; outcomes = [] }

-- ---- what each call meets

-- an area that a call is lent agrees with a kept part as far as both reach
unfoldable pub Agree : List ℤ → List ℤ → Type 0
Agree kept area = take (length kept) area ≡ take (length area) kept

-- as far as its areas reach, a call gets the kept parts as last left; all else in the areas, and their lengths, are
-- free
pub record Lent (m : Moment) (a : Areas) : Type 0 where
  pub input : Agree m.input a.input
  pub stage : Agree m.tail a.stage
  pub output : Agree m.output a.output

-- lengths may change between calls, not in one
pub record SameLengths (a b : Areas) : Type 0 where
  pub input : length b.input ≡ length a.input
  pub stage : length b.stage ≡ length a.stage
  pub output : length b.output ≡ length a.output

-- the caller lends such areas, and the call does what its contract ensures; samples that neither names are free
abbrev pub Allowed : Moment → Event → Type 0
Allowed m (setting-went v r) = r ≡ set_call m.stream v
Allowed m (write-went samples a r b) =
    Lent m a × SameLengths a b × CallEnsures m.stream.channels (write_call m.stream samples a) r b
Allowed m (flush-went a r b) =
    Lent m a × SameLengths a b × CallEnsures m.stream.channels (flush_call m.stream a) r b
Allowed m (read-went most a r b) =
    Agree m.output a.output × (length b.output ≡ length a.output)
    × ReadEnsures m.stream.channels (read_call m.stream most a.slice a.output) r a.slice
    b.slice b.output

-- ---- what each call leaves

-- n samples after a call that left this area: the area's, and past its end those of the kept part, which nobody wrote
-- to
unfoldable pub leave : ℕ → List ℤ → List ℤ → List ℤ
leave n area kept = take n (area ++ drop (length area) kept)

abbrev pub stream_after_setting : Result SonicStream Refused → SonicStream
stream_after_setting (Err refused) = refused.stream
stream_after_setting (Ok s) = s

-- an accepted call has one outcome, a refused one none
abbrev pub outcomes_of : Result Wrote Refused → List Outcome
outcomes_of (Err refused) = []
outcomes_of (Ok wrote) = wrote.told.outcome ∷ []

-- after a setting, which touches no area
unfoldable pub after_setting : Moment → Result SonicStream Refused → Moment
after_setting m r =
    record {
      stream = stream_after_setting r;
      input = m.input;
      tail = m.tail;
      output = m.output;
      given = m.given;
      outcomes = m.outcomes;
    }

-- after a write or a flush
unfoldable pub after_call : Moment → Result Wrote Refused → Areas → Moment
after_call m r b =
    let s : SonicStream = stream_after r in
    record {
      stream = s;
      input = leave (s.held.0 * s.channels) b.input m.input;
      tail = leave (s.tail.0 * s.channels) b.stage m.tail;
      output = leave (s.waiting.0 * s.channels) b.output m.output;
      given = m.given;
      outcomes = m.outcomes ++ outcomes_of r;
    }

-- after a read; a refused one gives no frames
unfoldable pub after_read : Moment → Result Gave Refused → ReadAreas → Moment
after_read m r b =
    let t : SonicStream = stream_after_read r in
    record {
      stream = t;
      input = m.input;
      tail = m.tail;
      output = leave (t.waiting.0 * t.channels) b.output m.output;
      given = m.given ++ frames_of t.channels (count_read r) b.slice;
      outcomes = m.outcomes;
    }

unfoldable pub after : Moment → Event → Moment
after m (setting-went v r) = after_setting m r
after m (write-went samples a r b) = after_call m r b
after m (flush-went a r b) = after_call m r b
after m (read-went most a r b) = after_read m r b

-- ---- runs

-- each call is allowed at the moment that the calls before it left
abbrev pub Run : Moment → List Event → Type 0
Run m [] = Unit {0}
Run m (e ∷ es) = Allowed m e × Run (after m e) es

-- after the last call
unfoldable pub end : Moment → List Event → Moment
end m [] = m
end m (e ∷ es) = end (after m e) es

-- a frame waiting or made counts as the f32 values that a read would give
abbrev pub values : List Frame → List (List Float)
values fs = map (map sample_out) fs

-- frames read followed by frames waiting
unfoldable pub total : Moment → List (List Float)
total m = m.given ++ values (frames_of m.stream.channels m.stream.waiting.0 m.output)

-- ---- what the ledger is fed

-- the arguments of a call, and whether it was accepted
unfoldable pub fed : Event → Fed
fed (setting-went v r) = record { call = setting v; accepted = is_ok r }
fed (write-went samples a r b) = record { call = write samples; accepted = is_ok r }
fed (flush-went a r b) = record { call = flush; accepted = is_ok r }
fed (read-went most a r b) = record { call = read most; accepted = is_ok r }
