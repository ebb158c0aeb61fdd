-- docs/RULES.md, "Ledger of demand 3": what it is fed, what it holds, and what each call does to it. Definitions only.
-- Assumes nothing.
use Rattle.std.specs.Prelude.{Bool, cond, List, [], ◌∷◌, ◌++◌, ℕ, Float, take}
use Rattle.frames.specs.Framing.{Frame}
use Rattle.search.specs.declared.Ties.{Ties}
use Rattle.stream.specs.declared.Setting.{Setting}
use Rattle.stream.specs.State.{State}
use Rattle.stream.specs.Settings.{fresh, with_setting}
use Rattle.fill.specs.declared.Outcome.{Outcome}
use Rattle.process.specs.Process.{Made, write_work, flush_work, expected, cleared}

-- a call with its arguments: a setting, the samples of a write, a flush, the maximum that a read names
pub data Call : Type 0 where
  setting : Setting → Call
  write : List Float → Call
  flush : Call
  read : ℕ → Call

-- what the ledger is fed of a call; nothing from the stream or the areas
pub record Fed : Type 0 where
  pub call : Call
  pub accepted : Bool

-- the state (rate, channels, settings, stepping over (C-18) among them, input, tail, p, n, period record, play
-- time, time error, the totals (C-16), without limit, and the choice of ties (C-17)), the frames made and the outcomes
pub record Ledger : Type 0 where
  pub state : State
  pub made : List Frame
  pub outcomes : List Outcome

-- it begins with the fresh values and all else empty
unfoldable pub begun : ℕ → ℕ → Ties → Ledger
begun rate channels ties = record { state = fresh rate channels ties; made = []; outcomes = [] }

-- an accepted call: a write's frames go behind the frames made, its outcome behind the outcomes; of a flush only the
-- first e, found first, or all if fewer, and then it clears; a read changes nothing
unfoldable pub entry : Ledger → Call → Ledger
entry l (setting v) = record { state = with_setting v l.state; made = l.made; outcomes = l.outcomes }
entry l (write samples) =
    let m : Made = write_work samples l.state in
    record { state = m.state; made = l.made ++ m.frames; outcomes = l.outcomes ++ (m.told.outcome ∷ []) }
entry l flush =
    let m : Made = flush_work l.state in
    record {
      state = cleared m.state;
      made = l.made ++ take (expected l.state) m.frames;
      outcomes = l.outcomes ++ (m.told.outcome ∷ []);
    }
entry l (read most) = l

-- a refused call changes nothing
unfoldable pub posted : Ledger → Fed → Ledger
posted l f = cond f.accepted (entry l f.call) l

-- call after call
unfoldable pub ledger_from : Ledger → List Fed → Ledger
ledger_from l [] = l
ledger_from l (f ∷ fs) = ledger_from (posted l f) fs

-- the ledger of a rate, channels, a choice of ties and calls
unfoldable pub ledger : ℕ → ℕ → Ties → List Fed → Ledger
ledger rate channels ties fs = ledger_from (begun rate channels ties) fs
