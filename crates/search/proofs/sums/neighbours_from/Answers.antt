-- `search::sums::neighbours_from` meets its contract: one difference more of each period, and the last one of the second. Assumes nothing.
use Rattle.std.proofs.Common.{◌≡◌, ◌+◌, get_or, pos, ◌-ℤ◌, to_z-of_z, arith}
use lib.IntN.{nat_abs}
use Rattle.search.proofs.Candidates.{sum_more, sum-at, sum-whole}
use Rattle.search.proofs.sums.neighbours_from.Goals as goal

pub loop-i-preserved : goal.loop-i-preserved
loop-i-preserved c =
    let x = c.args.samples.now in
    let p = c.args.period in
    let i = c.loop-i.i in
    let this : c.gap-this.result ≡ nat_abs (get_or x i (pos 0) -ℤ get_or x (i + p) (pos 0)) = grind (arith, to_z-of_z) in
    let next : c.gap-next.result ≡ nat_abs (get_or x i (pos 0) -ℤ get_or x (i + (p + 1)) (pos 0)) = grind (arith, to_z-of_z) in
    (sum_more c.loop-i.invariant.0 (omega arith) this (omega arith), sum_more c.loop-i.invariant.1 (omega arith) next (omega arith))

pub returns-clause-this : goal.returns-clause-this
returns-clause-this c = sum-whole (sum-at (omega arith) c.loop-i.invariant.0)

pub returns-clause-next : goal.returns-clause-next
returns-clause-next c =
    let x = c.args.samples.now in
    let p = c.args.period in
    let last : c.gap-next-2.result ≡ nat_abs (get_or x p (pos 0) -ℤ get_or x (p + (p + 1)) (pos 0)) = grind (arith, to_z-of_z) in
    sum-whole (sum_more (sum-at (omega arith) c.loop-i.invariant.1) (omega arith) last (omega arith))
