-- `crossfade::crossfades::crossfade_mono` meets its contract. The loop's invariant: the samples passed stand in the area. Assumes nothing.
use mathlib.Core.Path.{◌≡◌}
use lib.ListN.{drop}
use lib.Seq.{paste}
use Rattle.crossfade.specs.Crossfade.{crossfade_to}
use Rattle.crossfade.proofs.crossfades.crossfade_mono.Given as goal

abbrev pub invariant-loop-t : goal.invariant-loop-t
invariant-loop-t l =
    l.area ≡ paste l.initial.area l.at (crossfade_to l.fade.k.of 1 (drop l.from l.fade.input.now) (drop l.into l.fade.input.now) l.t) l.t
