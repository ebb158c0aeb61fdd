-- docs/RULES.md, "Read and flush": what a read answers, gives and keeps. Definitions only. Assumes nothing.
use Rattle.std.specs.Prelude.{◌≡◌, List, [], map, ℕ, ◌-◌, ◌*◌, ◌/◌, min, ℤ, Float, length, take, drop, Option, Some}
use Rattle.std.specs.Prelude.{None, Result, Ok, Err}
use Rattle.frames.specs.Framing.{Frame, frames_of}
use Rattle.floats.specs.Write.{sample_out}
use Rattle.stream.specs.declared.SonicStream.{SonicStream}
use Rattle.stream.specs.declared.refusal.Refusal.{Refusal}
use Rattle.stream.specs.declared.refusal.Refused.{Refused}
use Rattle.stream.specs.Stream.{stream_of, unlent}
use Rattle.stream.specs.Refusals.{read_refusal}
use Rattle.read.specs.declared.Gave.{Gave}

-- the answer, the frames given as f32 values, and the frames waiting after it
pub record ReadResult : Type 0 where
  pub answer : Result Gave Refused
  pub given : List (List Float)
  pub output : List Frame

-- the least of frames waiting, the maximum named, and whole frames of the slice
unfoldable pub read_count : SonicStream → ℕ → List Float → ℕ
read_count s most slice = min (min s.waiting.0 most) (length slice / s.channels)

-- by the refusal, if there is one; n frames fewer wait, each sample given is sample/32767 in f32
abbrev pub read_by : Option Refusal → SonicStream → ℕ → List Frame → ReadResult
read_by None s n waiting =
    record {
      answer = Ok (record { frames = record { 0 = n }; stream = stream_of (unlent s) (s.waiting.0 - n) });
      given = map (map sample_out) (take n waiting);
      output = drop n waiting;
    }
read_by (Some refusal) s n waiting =
    record { answer = Err (record { refusal = refusal; stream = s }); given = []; output = waiting }

unfoldable pub read_call : SonicStream → ℕ → List Float → List ℤ → ReadResult
read_call s most slice output =
    read_by (read_refusal s output) s (read_count s most slice) (frames_of s.channels s.waiting.0 output)

-- ---- what its contract ensures

abbrev pub stream_after_read : Result Gave Refused → SonicStream
stream_after_read (Err refused) = refused.stream
stream_after_read (Ok gave) = gave.stream

abbrev pub count_read : Result Gave Refused → ℕ
count_read (Err refused) = 0
count_read (Ok gave) = gave.frames.0

-- the answer r, the slice from `entry` to `exit` and the output area at exit are those of the read c; the rest of the
-- slice is unchanged
pub record ReadEnsures (channels : ℕ) (c : ReadResult) (r : Result Gave Refused) (entry exit : List Float)
    (area : List ℤ) : Type 0 where
  pub answer : r ≡ c.answer
  pub given : frames_of channels (count_read r) exit ≡ c.given
  pub rest : drop (count_read r * channels) exit ≡ drop (count_read r * channels) entry
  pub output : frames_of channels (stream_after_read r).waiting.0 area ≡ c.output
