-- `rate::adjust_rate` meets its contract. Assumes nothing.
use Prim.Native.Nat.{◌+◌, ◌<◌}
use native.Mathlib.Omega.{arith}
use Rattle.frames.proofs.Room.{count-le}
use Rattle.rate.proofs.Halving.{rates-most}
use Rattle.rate.proofs.Adjusting.{some_new, none-new}
use Rattle.rate.proofs.adjust_rate.Goals as goal

pub returns-then-n-eq0 : goal.returns-then-n-eq0
returns-then-n-eq0 c =
    let a = c.args in
    none-new a.channels a.rate a.pitch a.at a.tail.0 a.new.0 a.waiting.0 a.stage.now a.output.now
    c.requires.other c.if-n-eq0.true c.requires.lent.waits

pub overflow_add-t : goal.overflow_add-t
overflow_add-t c =
    let a = c.args in
    let lent = c.requires.lent in
    record { fits = omega (arith, count-le a.channels (a.tail.0 + a.new.0) lent.some, lent.holds) }

pub convert_tail-requires : goal.convert_tail-requires
convert_tail-requires c =
    let m = rates-most c.args.rate c.args.pitch c.requires.exact in record {
      lent = c.requires.lent;
      placed = rw c.rates_of.ensures (record { new_most = m.0; old_most = m.1; order = c.requires.order });
    }

pub returns : goal.returns
returns c =
    let a = c.args in
    let call = c.convert_tail in
    let more : 0 < a.new.0 = omega (arith, c.if-n-eq0.false) in
    let done = rw c.rates_of.ensures at call.ensures in
    some_new a.channels a.rate a.pitch a.at a.tail.0 a.new.0 a.waiting.0 a.stage.now a.output.now
    call.new.output call.result c.requires.other more done
