-- `crossfade::crossfades::crossfade_frames` meets its contract. The loop's invariant: the frames passed stand in the area. Assumes nothing.
use mathlib.Core.Path.{◌≡◌}
use Prim.Native.Nat.{◌*◌}
use lib.ListN.{drop}
use lib.Seq.{paste}
use Rattle.crossfade.specs.Crossfade.{crossfade_to}
use Rattle.crossfade.proofs.crossfades.crossfade_frames.Given as goal

abbrev pub invariant-loop-t : goal.invariant-loop-t
invariant-loop-t l =
    l.area ≡ paste l.initial.area l.at (crossfade_to l.fade.k.of l.fade.channels (drop l.fade.down.0 l.fade.input.now) (drop l.fade.up.0 l.fade.input.now) l.t) (l.t * l.fade.channels)
