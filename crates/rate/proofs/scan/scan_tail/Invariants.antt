-- `rate::scan::scan_tail` meets its contract. The scan's invariant: j tail frames were consumed, and their frames stand behind those that
-- wait. The inner loop's: so do the frames that it has made of the tail frame j. Assumes nothing.
use Prim.Native.Nat.{◌-◌, ◌*◌, ◌≤◌}
use lib.ListN.{drop}
use Rattle.frames.specs.Framing.{frames_of}
use Rattle.sinc.specs.Sinc.{sinc_filter_points}
use Rattle.rate.proofs.Turns.{Scanning, Emitting}
use Rattle.rate.proofs.scan.scan_tail.Given as goal

abbrev pub invariant-loop-n : goal.invariant-loop-n
invariant-loop-n l =
    Emitting l.channels l.w (record { new = l.new_rate; old = l.old_rate }) (record { old = l.p; new = l.initial.n })
    (frames_of l.channels sinc_filter_points (drop (l.j * l.channels) l.stage)) l.initial.output l.output (frames_of l.channels l.initial.made (drop (l.w * l.channels) l.initial.output)) l.made l.n

abbrev pub decreases-loop-n : goal.decreases-loop-n
decreases-loop-n l = l.right - l.n * l.old_rate

abbrev pub invariant-scan : goal.invariant-scan
invariant-scan l =
    (l.j ≤ l.t - sinc_filter_points) × Scanning l.channels l.w (record { new = l.new_rate; old = l.old_rate }) (record { old = l.initial.p; new = l.initial.n })
    (frames_of l.channels l.t l.stage) l.initial.output l.output l.j l.made (record { old = l.p; new = l.n })

abbrev pub decreases-scan : goal.decreases-scan
decreases-scan l = l.t - l.j
