-- Demand 3: its four claims, each in the demand's own words, as types; before them what they speak of: a run of a rate,
-- channels and a choice of ties, its accepted calls, what is said of each of them, and joined frames.
-- `proofs/Claims.antt` proves the claims. Definitions only. Assumes nothing.
use Rattle.std.specs.Prelude.{◌≡◌, false, cond, List, [], ◌∷◌, ◌++◌, map, ℕ, ◌+◌, ◌-◌, ◌*◌, Float, length, Ok}
use Rattle.std.specs.Float.Ieee.{eq}
use Rattle.floats.specs.Numbers.{one}
use Rattle.floats.specs.Settings.{clamped, min_pitch, max_pitch}
use Rattle.rate.specs.Halving.{rates_of}
use Rattle.rate.specs.Tail.{ceil_div}
use Rattle.search.specs.declared.Ties.{Ties}
use Rattle.stream.specs.declared.SonicStream.{SonicStream}
use Rattle.stream.specs.declared.Setting.{Setting}
use Rattle.stream.specs.declared.Setting.TheVariants.{Speed, Pitch, Volume, StepOver}
use Rattle.stream.specs.Settings.{open_call}
use Rattle.fill.specs.declared.Outcome.{Outcome}
use Rattle.fill.specs.declared.Outcome.TheVariants.{Empty, Copied, Waiting, Stretched, Stalled}
use Rattle.process.specs.Process.{whole_frames}
use Rattle.runs.specs.Ledger.{Call, setting, write, flush, read, Fed, Ledger, ledger}
use Rattle.runs.specs.Run.{Event, Moment, opening, Run, end, values, total, fed}

-- ---- a run of a rate, channels and a choice of ties

-- from the stream of an accepted opening
pub record RunOf (rate channels : ℕ) (ties : Ties) : Type 0 where
  pub stream : SonicStream
  pub opens : open_call rate channels ties ≡ Ok stream
  pub events : List Event
  pub allowed : Run (opening stream) events

module _ {rate channels : ℕ} {ties : Ties} where
  -- after its last call
  abbrev pub last : RunOf rate channels ties → Moment
  last a = end (opening a.stream) a.events

  -- its ledger
  abbrev pub ledger_of : RunOf rate channels ties → Ledger
  ledger_of a = ledger rate channels ties (map fed a.events)

-- ---- accepted settings, writes and flushes

-- a call in front of others, unless it is a read
unfoldable pub unless_read : Call → List Call → List Call
unless_read (setting v) cs = setting v ∷ cs
unless_read (write samples) cs = write samples ∷ cs
unless_read flush cs = flush ∷ cs
unless_read (read most) cs = cs

-- those that were accepted, in order
unfoldable pub accepted_in : List Fed → List Call
accepted_in [] = []
accepted_in (f ∷ fs) = cond f.accepted (unless_read f.call (accepted_in fs)) (accepted_in fs)

-- of a run
abbrev pub accepted_of : {rate channels : ℕ} {ties : Ties} → RunOf rate channels ties → List Call
accepted_of a = accepted_in (map fed a.events)

-- ---- what is said of each

-- it is said of every one
abbrev pub All : {A : Type 0} → (A → Type 0) → List A → Type 0
All P [] = Unit {0}
All P (x ∷ xs) = P x × All P xs

-- an accepted write or flush answers 'copied' or 'empty'
abbrev pub CopiedOrEmpty : Outcome → Type 0
CopiedOrEmpty Empty = Unit {0}
CopiedOrEmpty Copied = Unit {0}
CopiedOrEmpty Waiting = ⊥
CopiedOrEmpty Stretched = ⊥
CopiedOrEmpty Stalled = ⊥

-- is no write
abbrev pub NoWrite : Call → Type 0
NoWrite (setting v) = Unit {0}
NoWrite (write samples) = ⊥
NoWrite flush = Unit {0}
NoWrite (read most) = Unit {0}

-- is no flush
abbrev pub NoFlush : Call → Type 0
NoFlush (setting v) = Unit {0}
NoFlush (write samples) = Unit {0}
NoFlush flush = ⊥
NoFlush (read most) = Unit {0}

-- is no pitch
abbrev pub NotPitch : Setting → Type 0
NotPitch (Speed x) = Unit {0}
NotPitch (Pitch x) = ⊥
NotPitch (Volume x) = Unit {0}
NotPitch (StepOver on) = Unit {0}

-- sets no pitch
abbrev pub NoPitch : Call → Type 0
NoPitch (setting v) = NotPitch v
NoPitch (write samples) = Unit {0}
NoPitch flush = Unit {0}
NoPitch (read most) = Unit {0}

-- ---- whole frames, joined between accepted settings and flushes

-- an accepted setting or flush
pub data Mark : Type 0 where
  at-setting : Setting → Mark
  at-flush : Mark

-- one of these, and the whole frames from it to the next
pub record Segment : Type 0 where
  pub mark : Mark
  pub frames : List (List Float)

-- the whole frames before the first, and the segments
pub record Joined : Type 0 where
  pub first : List (List Float)
  pub segments : List Segment

-- a mark in front
unfoldable pub marked : Mark → Joined → Joined
marked mark j = record { first = []; segments = record { mark = mark; frames = j.first } ∷ j.segments }

-- the whole frames of the writes
unfoldable pub joined_frames : ℕ → List Call → Joined
joined_frames channels [] = record { first = []; segments = [] }
joined_frames channels (setting v ∷ cs) = marked (at-setting v) (joined_frames channels cs)
joined_frames channels (write samples ∷ cs) =
    let j : Joined = joined_frames channels cs in
    record { first = whole_frames channels samples ++ j.first; segments = j.segments }
joined_frames channels (flush ∷ cs) = marked at-flush (joined_frames channels cs)
joined_frames channels (read most ∷ cs) = joined_frames channels cs

-- F: the whole frames of accepted writes
unfoldable pub frames_in : ℕ → List Call → ℕ
frames_in channels [] = 0
frames_in channels (setting v ∷ cs) = frames_in channels cs
frames_in channels (write samples ∷ cs) = length (whole_frames channels samples) + frames_in channels cs
frames_in channels (flush ∷ cs) = frames_in channels cs
frames_in channels (read most ∷ cs) = frames_in channels cs

-- ---- the claims

-- After every run, frames read followed by frames waiting, and the outcomes, are exactly those of the ledger.
abbrev pub LedgerClaim : Type 0
LedgerClaim = (rate channels : ℕ) (ties : Ties) (a : RunOf rate channels ties)
    → (total (last a) ≡ values (ledger_of a).made) × ((last a).outcomes ≡ (ledger_of a).outcomes)

-- For every run A and run B with one rate, channel count and choice of ties, and the same accepted settings, writes and
-- flushes in order, they are the same in both, whatever reads and refused calls either has and wherever these stand.
abbrev pub SameCallsClaim : Type 0
SameCallsClaim = (rate channels : ℕ) (ties : Ties) (a b : RunOf rate channels ties) → accepted_of a ≡ accepted_of b
    → (total (last a) ≡ total (last b)) × ((last a).outcomes ≡ (last b).outcomes)

-- Where every accepted write and flush of A and B answers 'copied' or 'empty', the accepted writes may differ as long
-- as their whole frames, joined between accepted settings and flushes, are the same: frames read followed by frames
-- waiting are still the same in both.
abbrev pub SameFramesClaim : Type 0
SameFramesClaim = (rate channels : ℕ) (ties : Ties) (a b : RunOf rate channels ties)
    → All CopiedOrEmpty (last a).outcomes → All CopiedOrEmpty (last b).outcomes
    → joined_frames channels (accepted_of a) ≡ joined_frames channels (accepted_of b)
    → total (last a) ≡ total (last b)

-- a pitch as it is held
abbrev pub held_pitch : Float → Float
held_pitch x = clamped x min_pitch max_pitch

-- In such a run, if no write is accepted before the last accepted pitch, that pitch is other than 1 and no flush is
-- accepted, F frames accepted give exactly max(0, F − 12) times N over O, rounded up. The last
-- accepted pitch is x, `before` and `behind` are the accepted calls on its two sides; `-` ends at 0, `.new` is N,
-- `.old` is O.
abbrev pub CountClaim : Type 0
CountClaim = (rate channels : ℕ) (ties : Ties) (a : RunOf rate channels ties) → All CopiedOrEmpty (last a).outcomes
    → (before behind : List Call) (x : Float) → accepted_of a ≡ before ++ setting (Pitch x) ∷ behind
    → All NoWrite before → All NoPitch behind → eq (held_pitch x) one ≡ false → All NoFlush (accepted_of a)
    → length (total (last a))
    ≡ ceil_div ((frames_in channels (accepted_of a) - 12) * (rates_of rate (held_pitch x)).new)
    (rates_of rate (held_pitch x)).old
