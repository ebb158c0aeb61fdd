-- `crossfade::crossfades::crossfade_frame` meets its contract. The loop's invariant: the samples passed stand in the area. Assumes nothing.
use mathlib.Core.Path.{◌≡◌}
use lib.ListN.{drop}
use lib.Seq.{paste}
use Rattle.crossfade.specs.Crossfade.{crossfade_frame}
use Rattle.crossfade.proofs.crossfades.crossfade_frame.Given as goal

abbrev pub invariant-loop-i : goal.invariant-loop-i
invariant-loop-i l =
    l.area ≡ paste l.initial.area l.at (crossfade_frame l.fade.k.of l.t (drop l.from l.fade.input.now) (drop l.into l.fade.input.now) l.i) l.i
