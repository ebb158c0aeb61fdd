-- docs/RULES.md, "Stepping over a stall", over whole runs, as a type: `NeverStallsClaim`. `proofs/SteppedOver.antt`
-- proves it. Definitions only. Assumes nothing.
use Rattle.std.specs.Prelude.{◌≡◌, true, List, ◌∷◌, ◌++◌, ℕ}
use Rattle.search.specs.declared.Ties.{Ties}
use Rattle.stream.specs.declared.Setting.{Setting}
use Rattle.stream.specs.declared.Setting.TheVariants.{Speed, Pitch, Volume, StepOver}
use Rattle.runs.specs.Ledger.{Call, setting, write, flush, read}
use Rattle.runs.specs.Demand.{RunOf, last, accepted_of, All, NoWrite, NoFlush}
use Rattle.runs.specs.Balance.{NotStalled}

-- does not switch stepping over off
abbrev pub KeepsOn : Setting → Type 0
KeepsOn (Speed x) = Unit {0}
KeepsOn (Pitch x) = Unit {0}
KeepsOn (Volume x) = Unit {0}
KeepsOn (StepOver on) = on ≡ true

abbrev pub StaysOn : Call → Type 0
StaysOn (setting v) = KeepsOn v
StaysOn (write samples) = Unit {0}
StaysOn flush = Unit {0}
StaysOn (read most) = Unit {0}

-- Where stepping over is switched on before the first accepted write or flush, and never off behind that, no call
-- stalls. `before` and `behind` are the accepted calls on its two sides.
abbrev pub NeverStallsClaim : Type 0
NeverStallsClaim = (rate channels : ℕ) (ties : Ties) (a : RunOf rate channels ties) (before behind : List Call)
    → accepted_of a ≡ before ++ setting (StepOver true) ∷ behind → All NoWrite before → All NoFlush before
    → All StaysOn behind → All NotStalled (last a).outcomes
