-- `volume::fixed_point` meets its contract: the gain of a volume in its range fits. Assumes nothing.
use mathlib.Core.Path.{ap, ◌∙◌}
use Prim.Native.Nat.{◌≤◌}
use native.Mathlib.Omega.{arith}
use lib.IntN.{pos}
use mir.Syntax.{w32}
use mir.Facts.{to_z_pos}
use Rattle.floats.specs.Scales.{gain}
use Rattle.floats.proofs.Facts.{gain-range}
use Rattle.volume.proofs.fixed_point.Goals as goal
use Rattle.volume.proofs.fixed_point.Goals.{After-gain}

at_most : (c : After-gain) → gain c.args.volume ≤ 25600
at_most c = (gain-range c.args.volume c.requires.0 c.requires.1).1

pub overflow_cast-result : goal.overflow_cast-result
overflow_cast-result c = record { sfits = omega (arith, at_most c, c.gain.ensures) }

pub returns : goal.returns
returns c = record { value = to_z_pos w32 (omega (arith, at_most c, c.gain.ensures)) ∙ ap pos c.gain.ensures; bound = at_most c }
