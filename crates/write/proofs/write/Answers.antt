-- `write::write` meets its contract. Assumes nothing.
use Rattle.std.proofs.Common.{◌≡◌, ◌-◌, ◌*◌, ◌/◌, ◌≤◌, length, map, take, drop, ◌++◌, ◌∙◌, arith}
use Rattle.std.proofs.lemmas.List.{length-map}
use Rattle.std.proofs.lemmas.Result.{err_from_is_err_and}
use lib.Seq.{paste}
use Rattle.frames.specs.Areas.{areas}
use Rattle.floats.specs.Write.{sample_in}
use Rattle.adding.proofs.Joining.{ready_with, accepted-samples}
use Rattle.write.proofs.Writing.{stored-behind, write-behind, write-early, write-answered}
use Rattle.write.proofs.write.Goals as goal

pub returns-in_err-period : goal.returns-in_err-period
returns-in_err-period g c =
    let s = c.args.stream in
    let lent = areas c.args.input.now c.args.stage.now c.args.output.now c.args.scratch.now in
    let p = err_from_is_err_and c.from_residual.result c.from_residual.ensures.1 in
    let a = write-early s (map g.S.Sample.value c.args.samples.now) lent _ (rw length-map c.in_err-period.ensures) in
    rw (p.1, p.2) (record { call_ensures = a.0; order_after = a.1 })

pub end_write-requires : goal.end_write-requires
end_write-requires g c =
    let s = c.args.stream in
    let d = c.args.input.now in
    let lent = areas d c.args.stage.now c.args.output.now c.args.scratch.now in
    let values = map g.S.Sample.value c.args.samples.now in
    let held = c.samples-held.result.0 in
    let count = c.samples-count.result.0 in
    let r = c.in_ok-period.ensures in
    let whole : c.in_ok-period.n.0 ≡ length values / s.channels = rw length-map r.1 in
    let many : c.in_ok-period.n.0 * s.channels ≤ length c.args.samples.now = rw length-map at (accepted-samples r.0.accepted values whole) in
    let fits : count ≤ length c.args.samples.now = omega (arith, many, c.samples-count.ensures) in
    let pasted = stored-behind g.S.Sample.value d c.store.new.area c.args.samples.now held count fits c.store.ensures in
    let place : paste d held (map sample_in values) count ≡ paste d (s.held.0 * s.channels) (map sample_in values) (c.in_ok-period.n.0 * s.channels) =
    (λ i. paste d (c.samples-held.ensures i) (map sample_in values) (c.samples-count.ensures i)) in
    let input = take held d ++ (c.store.new.area ++ drop (length d - held) (drop held d)) in
    let added = write-behind s values lent c.in_ok-period.period c.in_ok-period.n.0 input r.0 whole (pasted ∙ place) in
    ready_with r.0 input added.long

pub returns : goal.returns
returns g c =
    let s = c.args.stream in
    let d = c.args.input.now in
    let lent = areas d c.args.stage.now c.args.output.now c.args.scratch.now in
    let values = map g.S.Sample.value c.args.samples.now in
    let held = c.samples-held.result.0 in
    let count = c.samples-count.result.0 in
    let r = c.in_ok-period.ensures in
    let whole : c.in_ok-period.n.0 ≡ length values / s.channels = rw length-map r.1 in
    let many : c.in_ok-period.n.0 * s.channels ≤ length c.args.samples.now = rw length-map at (accepted-samples r.0.accepted values whole) in
    let fits : count ≤ length c.args.samples.now = omega (arith, many, c.samples-count.ensures) in
    let pasted = stored-behind g.S.Sample.value d c.store.new.area c.args.samples.now held count fits c.store.ensures in
    let place : paste d held (map sample_in values) count ≡ paste d (s.held.0 * s.channels) (map sample_in values) (c.in_ok-period.n.0 * s.channels) =
    (λ i. paste d (c.samples-held.ensures i) (map sample_in values) (c.samples-count.ensures i)) in
    let input = take held d ++ (c.store.new.area ++ drop (length d - held) (drop held d)) in
    let added = write-behind s values lent c.in_ok-period.period c.in_ok-period.n.0 input r.0 whole (pasted ∙ place) in
    let last = c.end_write.new in
    let left = areas last.input last.stage last.output last.scratch in
    let a = write-answered s values lent left c.in_ok-period.n.0 r.0.accepted whole input added c.end_write.result c.end_write.ensures in
    record { call_ensures = a.0; order_after = a.1 }
