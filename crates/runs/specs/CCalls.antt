-- Runs of demand 3 through the calls of C (crate sonic_c): calls as they went, each with the struct that it answered,
-- what their contracts ensure, and the run that the structs tell. `CRunClaim`: that is a run of Run.antt, so that each
-- claim of Demand.antt is one about it. `proofs/CCalls.antt` proves it. Definitions only. Assumes nothing.
use Rattle.std.specs.Prelude.{◌≡◌, cond, List, [], ◌∷◌, map, ℕ, zero, suc, eqb, Float, length, Option, Some, None, Result, Ok, Err}
use Rattle.frames.specs.Areas.{Areas}
use Rattle.search.specs.declared.Ties.{Ties}
use Rattle.stream.specs.declared.SonicStream.{SonicStream}
use Rattle.stream.specs.declared.Setting.{Setting}
use Rattle.stream.specs.declared.refusal.Refusal.{Refusal}
use Rattle.stream.specs.declared.refusal.Refusal.TheVariants.{
  BadRate,
  BadChannels,
  BadStream,
  BadAreas,
  InputFull,
  StageFull,
  OutputFull,
  NotWave,
  BadSize,
  BadFormat,
  TotalFull,
}
use Rattle.stream.specs.declared.refusal.Refused.{Refused}
use Rattle.stream.specs.Settings.{open_call, set_call}
use Rattle.fill.specs.declared.Outcome.{Outcome}
use Rattle.fill.specs.declared.Outcome.TheVariants.{Empty, Copied, Waiting, Stretched, Stalled}
use Rattle.process.specs.declared.Wrote.{Wrote}
use Rattle.adding.specs.Calls.{write_call, flush_call}
use Rattle.read.specs.declared.Gave.{Gave}
use Rattle.read.specs.Reading.{read_call}
use Rattle.sonic_c.specs.declared.Opened as c-opened
use Rattle.sonic_c.specs.declared.Changed as c-changed
use Rattle.sonic_c.specs.declared.Wrote as c-wrote
use Rattle.sonic_c.specs.declared.Gave as c-gave
use Rattle.sonic_c.specs.Answers.{opened_of, changed_of, WroteEnsures, GaveEnsures}
use Rattle.runs.specs.Run.{ReadAreas, Event, setting-went, write-went, flush-went, read-went, Moment}
use Rattle.runs.specs.Run.{opening, Agree, Lent, SameLengths, after, Run}

-- ---- calls as they went

-- as in `Event`, with the struct of C for the answer
pub data CEvent : Type 0 where
  c-setting-went : Setting → c-changed.Changed → CEvent
  c-write-went : List Float → Areas → c-wrote.Wrote → Areas → CEvent
  c-flush-went : Areas → c-wrote.Wrote → Areas → CEvent
  c-read-went : ℕ → ReadAreas → c-gave.Gave → ReadAreas → CEvent

-- as in `Allowed`, with what the calls of C ensure
abbrev pub CAllowed : Moment → CEvent → Type 0
CAllowed m (c-setting-went v r) = r ≡ changed_of (set_call m.stream v)
CAllowed m (c-write-went samples a r b) =
    Lent m a × SameLengths a b × WroteEnsures m.stream.channels (write_call m.stream samples a) r b
CAllowed m (c-flush-went a r b) =
    Lent m a × SameLengths a b × WroteEnsures m.stream.channels (flush_call m.stream a) r b
CAllowed m (c-read-went most a r b) =
    Agree m.output a.output × (length b.output ≡ length a.output)
    × GaveEnsures m.stream.channels (read_call m.stream most a.slice a.output) r a.slice
    b.slice b.output

-- ---- what a struct tells

unfoldable pub outcome_in : ℕ → Outcome
outcome_in zero = Empty
outcome_in (suc zero) = Copied
outcome_in (suc (suc zero)) = Waiting
outcome_in (suc (suc (suc zero))) = Stretched
outcome_in (suc (suc (suc (suc n)))) = Stalled

-- the refusal of a number: none of 0; of one that no refusal has, the last
unfoldable pub refusal_in : ℕ → Option Refusal
refusal_in n =
    cond (eqb n 0) None
    (cond (eqb n 1) (Some BadRate)
    (cond (eqb n 2) (Some BadChannels)
    (cond (eqb n 3) (Some BadStream)
    (cond (eqb n 4) (Some BadAreas)
    (cond (eqb n 5) (Some InputFull)
    (cond (eqb n 6) (Some StageFull)
    (cond (eqb n 7) (Some OutputFull)
    (cond (eqb n 8) (Some NotWave)
    (cond (eqb n 9) (Some BadSize) (cond (eqb n 10) (Some BadFormat) (Some TotalFull)))))))))))

-- refused, with the stream of the struct; or what it tells
abbrev pub answer_by : {A : Type 0} → Option Refusal → SonicStream → A → Result A Refused
answer_by None s done = Ok done
answer_by (Some refusal) s done = Err (record { refusal = refusal; stream = s })

unfoldable pub changed_in : c-changed.Changed → Result SonicStream Refused
changed_in r = answer_by (refusal_in r.refusal) r.stream r.stream

unfoldable pub wrote_in : c-wrote.Wrote → Result Wrote Refused
wrote_in r =
    answer_by (refusal_in r.refusal) r.stream
    (record {
      told = record { outcome = outcome_in r.told.outcome; passed = r.told.passed; sum = r.told.sum };
      stream = r.stream;
    })

unfoldable pub gave_in : c-gave.Gave → Result Gave Refused
gave_in r = answer_by (refusal_in r.refusal) r.stream (record { frames = r.frames; stream = r.stream })

unfoldable pub event_in : CEvent → Event
event_in (c-setting-went v r) = setting-went v (changed_in r)
event_in (c-write-went samples a r b) = write-went samples a (wrote_in r) b
event_in (c-flush-went a r b) = flush-went a (wrote_in r) b
event_in (c-read-went most a r b) = read-went most a (gave_in r) b

-- ---- runs

-- each call gets the stream and the kept parts that the calls before it left
abbrev pub CRun : Moment → List CEvent → Type 0
CRun m [] = Unit {0}
CRun m (e ∷ es) = CAllowed m e × CRun (after m (event_in e)) es

-- from an accepted opening
pub record CRunOf (rate channels : ℕ) (ties : Ties) : Type 0 where
  pub opened : c-opened.Opened
  pub opens : opened ≡ opened_of (open_call rate channels ties)
  pub accepts : opened.refusal ≡ 0
  pub events : List CEvent
  pub allowed : CRun (opening opened.stream) events

-- A list of calls of C from an accepted opening is a run: the one that their structs tell.
abbrev pub CRunClaim : Type 0
CRunClaim = (rate channels : ℕ) (ties : Ties) (a : CRunOf rate channels ties)
    → (open_call rate channels ties ≡ Ok a.opened.stream)
    × Run (opening a.opened.stream) (map event_in a.events)
