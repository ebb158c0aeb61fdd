-- How a run goes or has ended, in this order:
--   is_stalled                    whether an outcome is a stall
--   sound, fine, failed, takes   what a state shows
--   kept, flush_stall, state_in    the state after a call or a failure
--   count_stall                   the writes that stalled
-- Definitions only. Assumes nothing.
use Rattle.std.specs.Prelude.{ℕ, ◌+◌, ◌*◌, ◌%◌, ◌^◌, Bool, true, false, cond, ◌==◌, nat_le, Result, Ok, Err}
use Rattle.fill.specs.declared.Outcome.{Outcome}
use Rattle.fill.specs.declared.Outcome.TheVariants.{Stalled}
use Rattle.stream.specs.declared.refusal.Refused.{Refused}
use Rattle.process.specs.declared.Wrote.{Wrote}
use Rattle.plans.specs.declared.Plan.{Plan}
use Rattle.reels.specs.declared.state.RunState.{RunState}
use Rattle.reels.specs.declared.state.Stalls.{Stalls}

-- whether an outcome is a stall
abbrev pub is_stalled : Outcome → Bool
is_stalled Stalled = true
is_stalled _ = false

-- ---- what a state shows

-- nothing was refused and nothing failed
abbrev pub sound : RunState → Bool
sound (RunState.Refused refusal) = false
sound RunState.ReadFailed = false
sound RunState.WriteFailed = false
sound _ = true

-- the run goes, or its flush alone stalled
abbrev pub fine : RunState → Bool
fine RunState.Going = true
fine (RunState.FlushStalled at) = true
fine _ = false

-- a read or a write failed
abbrev pub failed : RunState → Bool
failed RunState.ReadFailed = true
failed RunState.WriteFailed = true
failed _ = false

-- with so many frames held the stream takes one more: the run is going, or it has stalled and a flush has room behind
-- that frame
abbrev pub takes : Plan → ℕ → RunState → Bool
takes p held RunState.Going = true
takes p held (RunState.Stalled at) = nat_le (held + (1 + 2 * p.required)) p.limit
takes p held _ = false

-- ---- the state after a call or a failure

-- an earlier refusal or failure is kept
abbrev pub kept : RunState → RunState → RunState
kept state next = cond (sound state) next state

-- what a flush that stalls at this place leaves: if a write stalled before it, that stall
abbrev pub flush_stall : ℕ → RunState → RunState
flush_stall place RunState.Going = RunState.FlushStalled place
flush_stall place state = state

-- what a call leaves, with this state if it stalled: one that does not stall ends a stall
abbrev pub state_in : RunState → Result Wrote Refused → RunState
state_in stall (Err refused) = RunState.Refused refused.refusal
state_in stall (Ok wrote) = cond (is_stalled wrote.told.outcome) stall RunState.Going

-- ---- the writes that stalled

-- one more, at this place
abbrev pub more_stalls : ℕ → Stalls → Stalls
more_stalls place s = record { count = (s.count + 1) % 2 ^ 64; first = cond (s.count == 0) place s.first }

-- with a write that had this answer
abbrev pub count_stall : ℕ → Result Wrote Refused → Stalls → Stalls
count_stall place (Err refused) s = s
count_stall place (Ok wrote) s = cond (is_stalled wrote.told.outcome) (more_stalls place s) s
