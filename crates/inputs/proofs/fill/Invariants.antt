-- What stands ready stays at the front.
use Rattle.std.proofs.Common.{◌≡◌, ◌-◌, ◌≤◌, length}
use Rattle.inputs.specs.Sources.{Begins}
use Rattle.inputs.proofs.fill.Given as goal

abbrev pub invariant-loop-have : goal.invariant-loop-have
invariant-loop-have g l =
    (l.initial.have ≤ l.have) × (l.have ≤ length l.block) × (length l.block ≡ length l.initial.block) × Begins l.first l.initial.have l.block

abbrev pub decreases-loop-have : goal.decreases-loop-have
decreases-loop-have g l = length l.initial.block - l.have
