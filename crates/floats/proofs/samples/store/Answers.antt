-- `floats::samples::store`: one sample more in each turn. Assumes nothing.
use Rattle.std.proofs.Common.{map, sym, ap, ◌∙◌, arith, to_z-of_z, w16}
use lib.ListN.{length-map, get_or-map}
use Rattle.floats.specs.Write.{sample_in}
use Rattle.floats.proofs.Stores.{mapped-turn}
use Rattle.floats.proofs.samples.store.Goals as goal

pub loop-i-preserved : goal.loop-i-preserved
loop-i-preserved g c =
    let l = c.loop-i in
    let a = c.args in
    let value = g.S.Sample.value in
    let x = c.index-source-i.result in
    let values = map value a.source.now in
    let many = length-map a.source.now value in
    let read = to_z-of_z {w = w16} {z = c.stored.result} (record { sfits = c.stored.type_inv }) in
    let is = read ∙ c.stored.ensures ∙ ap (λ y. sample_in (value y)) c.index-source-i.is ∙ ap sample_in (sym (get_or-map value a.source.now l.i x)) in
    mapped-turn sample_in (value x) a.area.now l.area values l.i _ (omega (arith, many)) (omega (arith, many)) l.invariant is
