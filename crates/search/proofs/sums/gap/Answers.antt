-- `search::sums::gap` meets its contract: a sample widened is the same number. Assumes nothing.
use Rattle.std.proofs.Common.{◌≡◌, ◌-ℤ◌, to_z-of_z, arith}
use lib.IntN.{nat_abs}
use Rattle.laws.proofs.Integers.{nat_abs-gap-tight}
use Rattle.search.proofs.sums.gap.Goals as goal

pub returns : goal.returns
returns c =
    let a = c.args.a in
    let b = c.args.b in
    let is : c.abs_diff.result ≡ nat_abs (a -ℤ b) = grind (arith, to_z-of_z) in
    record { value = is; bound = omega (arith, nat_abs-gap-tight a b c.ranges.a.sfits c.ranges.b.sfits) }
