-- `floats::narrowing::closest` meets its contract: each arm is one way that twice the remainder compares with m (`proofs/Rounding.antt`). Assumes nothing.
use Rattle.std.proofs.Common.{mod-lt, div-le_self, arith}
use Rattle.floats.proofs.Rounding.{closest-below, closest-tie, closest-above}
use Rattle.floats.proofs.narrowing.closest.Goals as goal

pub overflow_mul-twice : goal.overflow_mul-twice
overflow_mul-twice c = omega (arith, mod-lt c.args.d c.requires.unit_positive)

pub overflow_add-result : goal.overflow_add-result
overflow_add-result c = omega (arith, div-le_self c.args.d c.args.m)

pub overflow_add-result-else-twice-m-2 : goal.overflow_add-result-else-twice-m-2
overflow_add-result-else-twice-m-2 c = omega (arith, div-le_self c.args.d c.args.m)

pub returns-then-twice-m : goal.returns-then-twice-m
returns-then-twice-m c = closest-below c.args.d c.args.m c.if-twice-m.true

pub returns-then-twice-m-2 : goal.returns-then-twice-m-2
returns-then-twice-m-2 c = closest-tie c.args.d c.args.m c.if-twice-m-2.true

pub returns-else-twice-m-2 : goal.returns-else-twice-m-2
returns-else-twice-m-2 c =
    let d = c.args.d in
    let m = c.args.m in
    closest-above d m (omega (arith, c.if-twice-m-2.false))
