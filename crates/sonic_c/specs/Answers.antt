-- The structs of C for answers, and what the calls ensure of them. Definitions only. Assumes nothing.
use Rattle.std.specs.Prelude.{◌≡◌, List, ℕ, ◌*◌, ℤ, Float, drop, Result, Ok, Err}
use Rattle.frames.specs.declared.Frames.{Frames}
use Rattle.frames.specs.Areas.{Areas}
use Rattle.frames.specs.Framing.{frames_of}
use Rattle.stream.specs.declared.SonicStream.{SonicStream}
use Rattle.stream.specs.declared.refusal.NotOpened.{NotOpened}
use Rattle.stream.specs.declared.refusal.Refused.{Refused}
use Rattle.stream.specs.Refusals.{number_of}
use Rattle.fill.specs.declared.Outcome.{Outcome}
use Rattle.fill.specs.declared.Outcome.TheVariants.{Empty, Copied, Waiting, Stretched, Stalled}
use Rattle.fill.specs.declared.Told as call-told
use Rattle.process.specs.declared.Wrote as write-answer
use Rattle.read.specs.declared.Gave as read_answer
use Rattle.adding.specs.Calls.{CallResult}
use Rattle.read.specs.Reading.{ReadResult}
use Rattle.sonic_c.specs.declared.Opened.{Opened}
use Rattle.sonic_c.specs.declared.Changed.{Changed}
use Rattle.sonic_c.specs.declared.Available.{Available}
use Rattle.sonic_c.specs.declared.Told.{Told}
use Rattle.sonic_c.specs.declared.Wrote.{Wrote}
use Rattle.sonic_c.specs.declared.Gave.{Gave}

-- ---- answers: a number of refusal, 0 if accepted

unfoldable pub outcome_number : Outcome → ℕ
outcome_number Empty = 0
outcome_number Copied = 1
outcome_number Waiting = 2
outcome_number Stretched = 3
outcome_number Stalled = 4

unfoldable pub opened_of : Result SonicStream NotOpened → Opened
opened_of (Ok s) = record { refusal = 0; given = 0; stream = s }
opened_of (Err r) = record { refusal = number_of r.refusal; given = r.given; stream = r.stream }

unfoldable pub changed_of : Result SonicStream Refused → Changed
changed_of (Ok s) = record { refusal = 0; stream = s }
changed_of (Err r) = record { refusal = number_of r.refusal; stream = r.stream }

-- to the entering stream
unfoldable pub available_of : SonicStream → Result Frames Refused → Available
available_of entering (Ok n) = record { refusal = 0; frames = n; stream = entering }
available_of entering (Err r) =
    record { refusal = number_of r.refusal; frames = record { 0 = 0 }; stream = r.stream }

unfoldable pub told_of : call-told.Told → Told
told_of t = record { outcome = outcome_number t.outcome; passed = t.passed; sum = t.sum }

-- refused, every field told is 0
unfoldable pub wrote_of : Result write-answer.Wrote Refused → Wrote
wrote_of (Ok w) = record { refusal = 0; told = told_of w.told; stream = w.stream }
wrote_of (Err r) =
    record {
      refusal = number_of r.refusal;
      told = record { outcome = 0; passed = 0; sum = 0 };
      stream = r.stream;
    }

unfoldable pub gave_of : Result read_answer.Gave Refused → Gave
gave_of (Ok g) = record { refusal = 0; frames = g.frames; stream = g.stream }
gave_of (Err r) = record { refusal = number_of r.refusal; frames = record { 0 = 0 }; stream = r.stream }

-- ---- what the calls ensure: the answer r and the areas at exit are those of the call c

pub record WroteEnsures (channels : ℕ) (c : CallResult) (r : Wrote) (a : Areas) : Type 0 where
  pub answer : r ≡ wrote_of c.answer
  pub input : frames_of channels r.stream.held.0 a.input ≡ c.input
  pub tail : frames_of channels r.stream.tail.0 a.stage ≡ c.tail
  pub output : frames_of channels r.stream.waiting.0 a.output ≡ c.output

pub record GaveEnsures (channels : ℕ) (c : ReadResult) (r : Gave) (entry exit : List Float) (area : List ℤ)
    : Type 0 where
  pub answer : r ≡ gave_of c.answer
  pub given : frames_of channels r.frames.0 exit ≡ c.given
  pub rest : drop (r.frames.0 * channels) exit ≡ drop (r.frames.0 * channels) entry
  pub output : frames_of channels r.stream.waiting.0 area ≡ c.output
