-- From what a call ensures of its answer to what it ensures of the struct of C. Assumes nothing.
use Rattle.std.proofs.Common.{◌≡◌, List, ℕ, ℤ, Result, Ok, Err}
use lib.Ieee.{Float}
use Rattle.frames.specs.Areas.{Areas}
use Rattle.stream.specs.declared.refusal.Refused.{Refused}
use Rattle.process.specs.declared.Wrote as write-answer
use Rattle.read.specs.declared.Gave as read_answer
use Rattle.adding.specs.Calls.{CallResult, CallEnsures}
use Rattle.read.specs.Reading.{ReadResult, ReadEnsures}
use Rattle.sonic_c.specs.declared.Wrote.{Wrote}
use Rattle.sonic_c.specs.declared.Gave.{Gave}
use Rattle.sonic_c.specs.Answers.{wrote_of, gave_of, WroteEnsures, GaveEnsures}

module _ {channels : ℕ} {c : CallResult} {a : Areas} where
  wrote-cases : (w : Result write-answer.Wrote Refused) → CallEnsures channels c w a → WroteEnsures channels c (wrote_of w) a
  unfolding wrote_of
  wrote-cases (Ok w) h = record { answer = rw (← h.answer); input = h.input; tail = h.tail; output = h.output }
  wrote-cases (Err r) h = record { answer = rw (← h.answer); input = h.input; tail = h.tail; output = h.output }

  pub wrote-ensures : (w : Result write-answer.Wrote Refused) (r : Wrote) → r ≡ wrote_of w → CallEnsures channels c w a
      → WroteEnsures channels c r a
  wrote-ensures w r e h = rw e (wrote-cases w h)

module _ {channels : ℕ} {c : ReadResult} {entry exit : List Float} {area : List ℤ} where
  gave-cases : (g : Result read_answer.Gave Refused) → ReadEnsures channels c g entry exit area
      → GaveEnsures channels c (gave_of g) entry exit area
  unfolding gave_of
  gave-cases (Ok g) h = record { answer = rw (← h.answer); given = h.given; rest = h.rest; output = h.output }
  gave-cases (Err r) h = record { answer = rw (← h.answer); given = h.given; rest = h.rest; output = h.output }

  pub gave-ensures : (g : Result read_answer.Gave Refused) (r : Gave) → r ≡ gave_of g → ReadEnsures channels c g entry exit area
      → GaveEnsures channels c r entry exit area
  gave-ensures g r e h = rw e (gave-cases g h)
