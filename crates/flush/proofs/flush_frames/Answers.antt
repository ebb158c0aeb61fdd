-- `flush::flush_frames` meets its contract. Assumes nothing.
use Rattle.std.proofs.Common.{[], arith}
use Rattle.std.proofs.lemmas.Result.{err_from_is_err_and}
use Rattle.frames.specs.Areas.{areas}
use Rattle.adding.proofs.Joining.{silence-behind, ready_with, accepted-held, accepted-tail}
use Rattle.flush.proofs.Clearing.{cleared-ready, flush-refused, flush-done}
use Rattle.flush.proofs.flush_frames.Goals as goal

pub expected_frames-expected-requires : goal.expected_frames-expected-requires
expected_frames-expected-requires c =
    let p = c.requires.0.accepted in
    (omega (arith, accepted-held p), accepted-tail p)

pub end_write-requires : goal.end_write-requires
end_write-requires c =
    let s = c.args.stream in
    let lent = areas c.args.input.now c.args.stage.now c.args.output.now c.args.scratch.now in
    let r = c.requires in
    let stored = rw (c.samples-2.ensures, c.samples.ensures) at c.silence.ensures in
    let added = silence-behind s.channels s.held.0 c.args.n.0 lent.input c.silence.new.area r.0.accepted.fits stored in
    ready_with r.0 c.silence.new.area added.long

pub returns-in_err-wrote : goal.returns-in_err-wrote
returns-in_err-wrote c =
    let s = c.args.stream in
    let lent = areas c.args.input.now c.args.stage.now c.args.output.now c.args.scratch.now in
    let last = c.end_write.new in
    let left = areas last.input last.stage last.output last.scratch in
    let r = c.requires in
    let stored = rw (c.samples-2.ensures, c.samples.ensures) at c.silence.ensures in
    let added = silence-behind s.channels s.held.0 c.args.n.0 lent.input c.silence.new.area r.0.accepted.fits stored in
    let p = err_from_is_err_and c.from_residual.result c.from_residual.ensures.1 in
    let few = c.expected_frames-expected in
    let a = flush-refused s lent left c.args.n.0 r.0.accepted r.1 c.silence.new.area added few.result.0 few.ensures _ c.in_err-wrote.ensures in
    rw (p.1, p.2) (record { call_ensures = a.0; order_after = a.1 })

pub cleared-requires : goal.cleared-requires
cleared-requires c =
    let last = c.end_write.new in
    let left = areas last.input last.stage last.output last.scratch in
    let begun = areas c.silence.new.area c.args.stage.now c.args.output.now c.args.scratch.now in
    cleared-ready c.args.stream c.args.n.0 begun left c.in_ok-wrote.wrote c.in_ok-wrote.ensures

pub returns : goal.returns
returns c =
    let s = c.args.stream in
    let lent = areas c.args.input.now c.args.stage.now c.args.output.now c.args.scratch.now in
    let last = c.end_write.new in
    let left = areas last.input last.stage last.output last.scratch in
    let r = c.requires in
    let stored = rw (c.samples-2.ensures, c.samples.ensures) at c.silence.ensures in
    let added = silence-behind s.channels s.held.0 c.args.n.0 lent.input c.silence.new.area r.0.accepted.fits stored in
    let few = c.expected_frames-expected in
    let a = flush-done s lent left c.args.n.0 r.0.accepted r.1 c.silence.new.area added few.result.0 few.ensures c.in_ok-wrote.wrote c.in_ok-wrote.ensures in
    rw (c.cleared.ensures [] []) (record { call_ensures = a.0; order_after = a.1 })
