-- `averages::down_sample_by_two` meets its contract: one mean more. Assumes nothing.
use Rattle.std.proofs.Common.{◌≡◌, ◌+◌, ◌*◌, ◌∙◌, get_or, pos, to_z-of_z, arith, rules}
use mir.Syntax.{w16}
use mir.Val.{SFits}
use Rattle.averages.specs.Averages.{mean_from}
use Rattle.averages.proofs.Averaging.{front-none, front-more, mean_from-two}
use Rattle.averages.proofs.down_sample_by_two.Goals as goal

pub loop-i-init : goal.loop-i-init
loop-i-init c = front-none _ _ _

pub loop-i-preserved : goal.loop-i-preserved
loop-i-preserved c =
    let x = c.args.samples.now in
    let i = c.loop-i.i in
    let a : SFits w16 (get_or x (i * 2) (pos 0)) = search rules in
    let b : SFits w16 (get_or x (i * 2 + 1) (pos 0)) = search rules in
    let is : c.mean_of_two.result ≡ mean_from x (i * 2) 2 = (rw (to_z-of_z a, to_z-of_z b) at c.mean_of_two.ensures) ∙ mean_from-two x (i * 2) in
    front-more c.loop-i.invariant (omega arith) (record { sfits = c.mean_of_two.type_inv }) is
