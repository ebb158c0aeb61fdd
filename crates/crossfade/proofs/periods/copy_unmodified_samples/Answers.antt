-- `crossfade::periods::copy_unmodified_samples` meets its contract: a copy of the frames, counted in samples. Assumes nothing.
use Prim.Native.Nat.{◌*◌}
use native.Mathlib.Nat.{le_refl}
use lib.ListN.{drop}
use lib.Seq.{take-take}
use Rattle.crossfade.specs.Crossfade.{copy_unmodified_samples}
use Rattle.crossfade.proofs.periods.copy_unmodified_samples.Goals as goal

pub returns : goal.returns
unfolding copy_unmodified_samples
returns c =
    let a = c.args in
    let from = c.samples.ensures in
    let count = c.samples-2.ensures in
    let n = a.n.0 * a.channels in
    let s = drop (a.position.0 * a.channels) a.input.now in
    rw (take-take n n s (le_refl n)) (rw (from, count) at c.copy.ensures)
