-- `stretch::steps::place_after` meets its contract. Assumes nothing.
use Prim.Native.Nat.{◌+◌}
use Rattle.stretch.specs.Steps.{place_after}
use Rattle.stretch.proofs.steps.place_after.Goals as goal

pub returns : goal.returns
unfolding place_after
returns c =
    let n = c.args.next in
    λ i. record { position = record { 0 = c.args.place.position.0 + c.frames_used.ensures i }; time_error = c.error_after.ensures i; prev = n.prev; sum = n.sum }
