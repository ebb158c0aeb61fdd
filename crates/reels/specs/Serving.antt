-- A reel of a job that the areas serve: no call of it is refused, but for a total past 64 bits. Definitions only.
-- Assumes nothing.
use Rattle.std.specs.Prelude.{◌≡◌, ℕ, ◌<◌}
use Rattle.stream.specs.declared.refusal.Refusal.TheVariants.{TotalFull}
use Rattle.plans.specs.declared.Plan.{Plan}
use Rattle.plans.specs.Plans.{IsPlanOf}
use Rattle.serving.specs.Steady.{Steady}
use Rattle.reels.specs.declared.reel.Reel.{Reel}
use Rattle.reels.specs.declared.state.RunState.{RunState}

-- refused for a total alone
abbrev pub OnlyTotals : RunState → Type 0
OnlyTotals (RunState.Refused refusal) = refusal ≡ TotalFull
OnlyTotals _ = Unit {0}

-- a run that is going holds fewer frames than a search looks at
abbrev pub FewHeld : Plan → ℕ → RunState → Type 0
FewHeld p held RunState.Going = held < p.required
FewHeld p held _ = Unit {0}

-- what holds of the reel between its calls
pub record Serving (p : Plan) (r : Reel) : Type 0 where
  pub steady : Steady r.stream
  pub plan_is : IsPlanOf r.stream p
  pub few_held : FewHeld p r.stream.held.0 r.state
  pub only_totals : OnlyTotals r.state
