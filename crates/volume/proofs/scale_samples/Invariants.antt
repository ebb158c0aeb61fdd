-- `volume::scale_samples` meets its contract. Assumes nothing.
use mathlib.Core.Path.{◌≡◌}
use mathlib.Core.List.{map}
use lib.ListN.{drop}
use lib.Seq.{paste}
use Rattle.volume.specs.Volume.{amplified}
use Rattle.volume.proofs.scale_samples.Given as goal

abbrev pub invariant-loop-i : goal.invariant-loop-i
invariant-loop-i l = l.area ≡ paste l.initial.area l.t (map (amplified l.gain) (drop l.t l.initial.area)) l.i
