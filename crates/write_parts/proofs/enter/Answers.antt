-- `write_parts::enter` meets its contract. Assumes nothing.
use Rattle.std.proofs.Common.{sym, ◌∙◌}
use Rattle.std.proofs.lemmas.Result.{err_from_is_err_and}
use Rattle.frames.specs.Areas.{areas}
use Rattle.stream.proofs.InOrder.{limits_of}
use Rattle.adding.proofs.Answers.{areas-refused}
use Rattle.write_parts.proofs.Entering.{unordered, in-order}
use Rattle.write_parts.proofs.enter.Goals as goal

pub returns-in_err-period : goal.returns-in_err-period
returns-in_err-period c =
    let a = c.args in
    let lent = areas a.input.now a.stage.now a.output.now a.scratch.now in
    let p = err_from_is_err_and c.from_residual.result c.from_residual.ensures.1 in
    rw (p.1, p.2) (unordered a.stream lent c.ordered.result _ c.ordered.ensures (sym c.ok_or.ensures.value ∙ c.in_err-period.was))

pub areas_bad-requires : goal.areas_bad-requires
areas_bad-requires c =
    let s = c.args.stream in
    let o = in-order s c.ordered.result _ c.in_ok-period.period c.ordered.ensures (sym c.ok_or.ensures.value ∙ c.in_ok-period.was) in
    (limits_of s o.0).channels_low

pub returns-then-areas_bad : goal.returns-then-areas_bad
returns-then-areas_bad c added m k =
    let a = c.args in
    let lent = areas a.input.now a.stage.now a.output.now a.scratch.now in
    let o = in-order a.stream c.ordered.result _ c.in_ok-period.period c.ordered.ensures (sym c.ok_or.ensures.value ∙ c.in_ok-period.was) in
    (areas-refused a.stream lent added m k o.0 (sym c.areas_bad.ensures ∙ c.if-areas_bad.true)).0

pub returns : goal.returns
returns c =
    let a = c.args in
    let o = in-order a.stream c.ordered.result _ c.in_ok-period.period c.ordered.ensures (sym c.ok_or.ensures.value ∙ c.in_ok-period.was) in
    (o.0, sym c.areas_bad.ensures ∙ c.if-areas_bad.false, o.1)
