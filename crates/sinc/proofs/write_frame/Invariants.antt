-- `sinc::write_frame` meets its contract. The loop's invariant: the first c samples of the frame are written.
-- Assumes nothing.
use mathlib.Core.Path.{◌≡◌}
use lib.ListN.{drop}
use lib.Seq.{paste}
use Rattle.sinc.specs.Weights.{weighted_frame}
use Rattle.sinc.proofs.write_frame.Given as goal

abbrev pub invariant-loop-c : goal.invariant-loop-c
invariant-loop-c l =
    l.output ≡ paste l.initial.output l.t (weighted_frame (drop l.window.from.0 l.window.stage.now) l.window.channels l.weights) l.c
