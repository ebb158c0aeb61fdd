-- `floats::samples::samples_out`: one value more in each turn. Assumes nothing.
use Rattle.std.proofs.Common.{rules, ◌≡◌, get_or, pos, ap, ◌∙◌, arith, to_z, of_z, w16}
use Rattle.std.proofs.lemmas.Int.{to_z-of_z}
use Rattle.floats.specs.Write.{sample_out}
use Rattle.floats.proofs.Stores.{mapped-turn}
use Rattle.floats.proofs.samples.samples_out.Goals as goal

pub loop-i-preserved : goal.loop-i-preserved
loop-i-preserved c =
    let l = c.loop-i in
    let a = c.args in
    let v = get_or a.area.now l.i (pos 0) in
    let read : to_z w16 (of_z w16 v) ≡ v = search (rules, to_z-of_z) in
    mapped-turn sample_out (pos 0) a.slice.now l.slice a.area.now l.i c.sample_out.result (omega arith) (omega arith) l.invariant
    (c.sample_out.ensures ∙ ap sample_out read)
