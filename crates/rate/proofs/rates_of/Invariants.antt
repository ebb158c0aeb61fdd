-- `rate::rates_of` meets its contract. The loop's invariant: what is left of the halving gives what the whole of it gives. Assumes nothing.
use Prim.Native.Nat.{◌+◌}
use Rattle.rate.proofs.Halving.{Left}
use Rattle.rate.proofs.rates_of.Given as goal

abbrev pub invariant-loop-new : goal.invariant-loop-new
invariant-loop-new l = Left (record { new = l.initial.new; old = l.initial.old }) (record { new = l.new; old = l.old })

abbrev pub decreases-loop-new : goal.decreases-loop-new
decreases-loop-new l = l.new + l.old
