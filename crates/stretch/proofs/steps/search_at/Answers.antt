-- `stretch::steps::search_at` meets its contract: the part of the input that is lent is all that follows. Assumes nothing.
use Prim.Native.Nat.{◌*◌, ◌-◌}
use mathlib.Core.Path.{◌≡◌}
use native.Mathlib.Omega.{arith}
use lib.ListN.{length, take, drop, length-drop}
use lib.Seq.{take_all}
use Rattle.stretch.specs.Steps.{search_at}
use Rattle.stretch.proofs.steps.search_at.Goals as goal

pub returns-clause-value : goal.returns-clause-value
unfolding search_at
returns-clause-value c =
    let from = c.args.place.position.0 * c.args.ready.call.channels in
    let x = c.args.input.now in
    let rest : take (length x - from) (drop from x) ≡ drop from x = take_all (length x - from) (drop from x) (omega (arith, length-drop from x)) in
    rw (c.samples-from.ensures, rest) at c.find_pitch_period.ensures.value
