-- `search::sums::gaps_from` meets its contract: one difference more. Assumes nothing.
use Rattle.std.proofs.Common.{◌≡◌, ◌+◌, get_or, pos, ◌-ℤ◌, to_z-of_z, arith}
use lib.IntN.{nat_abs}
use Rattle.search.proofs.Candidates.{sum_more}
use Rattle.search.proofs.sums.gaps_from.Goals as goal

pub loop-i-preserved : goal.loop-i-preserved
loop-i-preserved c =
    let x = c.args.samples.now in
    let k = c.args.from + c.loop-i.i in
    let is : c.gap-sum.result ≡ nat_abs (get_or x k (pos 0) -ℤ get_or x (k + c.args.period) (pos 0)) = grind (arith, to_z-of_z) in
    sum_more c.loop-i.invariant (omega arith) is (omega arith)
