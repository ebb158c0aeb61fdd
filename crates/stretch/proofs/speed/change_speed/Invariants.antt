-- `stretch::speed::change_speed` meets its contract: between two turns what is made and what is due make up the whole (`Between`), and each
-- turn uses a frame at least. Assumes nothing.
use Prim.Native.Nat.{◌-◌}
use Rattle.stretch.proofs.Between.{Going}
use Rattle.stretch.proofs.speed.change_speed.Given as goal

abbrev pub invariant-loop-place : goal.invariant-loop-place
invariant-loop-place l =
    Going l.ready.call l.input l.initial.place l.initial.area l.area l.target.to.0 l.target.room.0 l.target.most.0 l.place l.made l.passed

abbrev pub decreases-loop-place : goal.decreases-loop-place
decreases-loop-place l = l.held - l.place.position.0
