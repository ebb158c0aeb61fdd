-- `read::give` meets its contract. Assumes nothing.
use Rattle.std.proofs.Common.{[], map, take, sym, refl, ap, ◌∙◌, arith}
use lib.Seq.{paste, length-take-le}
use Rattle.floats.specs.Write.{sample_out}
use Rattle.floats.proofs.Stores.{front-copied}
use Rattle.stream.specs.Stream.{state_of}
use Rattle.stream.proofs.Streams.{own}
use Rattle.read.proofs.Giving.{givable, parts, given-ensures}
use Rattle.read.proofs.give.Goals as goal

pub overflow_sub-left : goal.overflow_sub-left
overflow_sub-left c =
    let a = c.args in
    let g = givable a.stream a.most.0 a.n.0 a.slice.now a.output.now c.requires.stream_value.0 c.requires.output_value.0 c.requires.output_value.1 in
    g.few

pub samples-given-requires : goal.samples-given-requires
samples-given-requires c =
    let a = c.args in
    let g = givable a.stream a.most.0 a.n.0 a.slice.now a.output.now c.requires.stream_value.0 c.requires.output_value.0 c.requires.output_value.1 in
    omega (arith, parts g, g.waits, g.short)

pub slice_bounds-samples_out-end : goal.slice_bounds-samples_out-end
slice_bounds-samples_out-end c =
    let a = c.args in
    let g = givable a.stream a.most.0 a.n.0 a.slice.now a.output.now c.requires.stream_value.0 c.requires.output_value.0 c.requires.output_value.1 in
    omega (arith, parts g, g.waits, c.samples-given.ensures)

pub slice_bounds-samples_out-end-2 : goal.slice_bounds-samples_out-end-2
slice_bounds-samples_out-end-2 c =
    let a = c.args in
    let g = givable a.stream a.most.0 a.n.0 a.slice.now a.output.now c.requires.stream_value.0 c.requires.output_value.0 c.requires.output_value.1 in
    sym (length-take-le _ _ (omega (arith, parts g, g.waits, c.samples-given.ensures)))

pub samples_out-requires : goal.samples_out-requires
samples_out-requires c =
    let a = c.args in
    let g = givable a.stream a.most.0 a.n.0 a.slice.now a.output.now c.requires.stream_value.0 c.requires.output_value.0 c.requires.output_value.1 in
    let k = c.samples-given.result.0 in
    let n = c.samples-given.ensures in
    let many = length-take-le k a.output.now (omega (arith, n, parts g, g.waits)) in
    omega (arith, many, n, g.slice_fits)

pub samples-requires : goal.samples-requires
samples-requires c =
    let a = c.args in
    let g = givable a.stream a.most.0 a.n.0 a.slice.now a.output.now c.requires.stream_value.0 c.requires.output_value.0 c.requires.output_value.1 in
    omega (arith, parts g, g.waits, g.short)

pub remove_front-requires : goal.remove_front-requires
remove_front-requires c =
    let a = c.args in
    let g = givable a.stream a.most.0 a.n.0 a.slice.now a.output.now c.requires.stream_value.0 c.requires.output_value.0 c.requires.output_value.1 in
    let count = c.samples-given.ensures in
    let kept = c.samples.ensures in
    omega (arith, parts g, g.waits)

pub returns : goal.returns
unfolding state_of
returns c =
    let a = c.args in
    let g = givable a.stream a.most.0 a.n.0 a.slice.now a.output.now c.requires.stream_value.0 c.requires.output_value.0 c.requires.output_value.1 in
    let k = c.samples-given.result.0 in
    let v = c.requires.stream_value in
    let o = c.requires.output_value in
    let many = length-take-le k a.output.now (omega (arith, c.samples-given.ensures, parts g, g.waits)) in
    let given = c.samples_out.ensures ∙ front-copied sample_out a.slice.now a.output.now (take k a.output.now) k _ refl many in
    rw given (given-ensures a.stream _ a.most.0 a.n.0 a.slice.now (paste a.slice.now 0 (map sample_out a.output.now) k) a.output.now c.remove_front.new.area
    v.0 o.0 o.1 (sym (own _ [] [] v.1)) (ap (paste a.slice.now 0 (map sample_out a.output.now)) c.samples-given.ensures)
    (rw (c.samples-given.ensures, c.samples.ensures) at c.remove_front.ensures))
