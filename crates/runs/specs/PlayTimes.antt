-- docs/RULES.md, "A write", over whole runs, as a type: `PlayTimeClaim`. `proofs/PlayTimes.antt` proves it. Definitions
-- only. Assumes nothing.
use Rattle.std.specs.Prelude.{◌≡◌, false, ℕ, ℤ, Float}
use Rattle.std.specs.Float.{fin}
use Rattle.search.specs.declared.Ties.{Ties}
use Rattle.runs.specs.Demand.{RunOf, last}

-- finite and not negative: m·2^e, of the sign +
abbrev pub FiniteNotNegative : Float → Type 0
FiniteNotNegative x = (m : ℕ) × (e : ℤ) × (x ≡ fin false m e)

-- After every run play time is finite and not negative.
abbrev pub PlayTimeClaim : Type 0
PlayTimeClaim = (rate channels : ℕ) (ties : Ties) (a : RunOf rate channels ties)
    → FiniteNotNegative (last a).stream.input_play_time
