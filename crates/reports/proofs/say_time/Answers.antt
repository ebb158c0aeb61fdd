-- `reports::say_time` is safe. Assumes nothing.
use Rattle.std.proofs.Common.{mod-lt, arith}
use Rattle.reports.proofs.say_time.Goals as goal

pub overflow_mul-thousandths : goal.overflow_mul-thousandths
overflow_mul-thousandths g c =
    let l = c.args.opening.limits in
    record { fits = omega (arith, mod-lt c.args.frames {m = c.args.opening.rate} (omega (arith, l.rate_low)), l.rate_high) }
