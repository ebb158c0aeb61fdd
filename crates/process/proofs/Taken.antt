-- What a call's work leaves alone in a state: taken-keeps for copying and stretching, process-settings, write-settings and flush-settings for
-- the whole. The layers above cite it. Assumes nothing.
use mathlib.Core.List.{List}
use lib.Dec.{eqb, ltb}
use lib.Ieee.{Float}
use lib.ListN.{length}
use Rattle.floats.specs.Write.{speed_changes}
use Rattle.period.specs.Rates.{max_required}
use Rattle.stream.specs.State.{State}
use Rattle.fill.specs.declared.Outcome.{Outcome}
use Rattle.fill.specs.Taking.{Taken, nothing, copied, stretched, taken_at, speed_at, taken}
use Rattle.process.specs.Process.{finished, process, write_work, flush_work}
use Rattle.process.proofs.States.{
  SameSettings,
  Keeps,
  settings-trans,
  keeps-cases,
  tail-settings,
  counting-settings,
  own-keeps,
  joined_keeps,
  removed-keeps,
  stepped-keeps,
}

nothing-keeps : (o : Outcome) (s : State) → Keeps s (nothing o s).state
unfolding nothing
nothing-keeps o s = own-keeps s

at-keeps : (x : Float) (s : State) → Keeps s (taken_at x s).state
unfolding taken_at stretched copied
at-keeps x s =
    let state : Taken → State = λ t. t.state in
    keeps-cases state (speed_changes x)
    (keeps-cases state (ltb (length s.input) (max_required s.rate)) (nothing-keeps Outcome.Waiting s) (stepped-keeps s _))
    (removed-keeps s (length s.input))

pub taken-keeps : (s : State) → Keeps s (taken s).state
unfolding taken
taken-keeps s = keeps-cases (λ (t : Taken). t.state) (eqb (length s.input) 0) (nothing-keeps Outcome.Empty s) (at-keeps (speed_at s) s)

pub process-settings : (s : State) → SameSettings s (process s).state
unfolding process finished
process-settings s = settings-trans (taken-keeps s).settings (settings-trans (tail-settings (taken s).state _ _) (counting-settings _ _))

pub write-settings : (samples : List Float) (s : State) → SameSettings s (write_work samples s).state
unfolding write_work
write-settings samples s = settings-trans (joined_keeps s _).settings (process-settings _)

pub flush-settings : (s : State) → SameSettings s (flush_work s).state
unfolding flush_work
flush-settings s = settings-trans (joined_keeps s _).settings (process-settings _)
