-- `write_parts::begin_write` meets its contract. Assumes nothing.
use Rattle.std.proofs.Common.{sym, ◌∙◌}
use Rattle.std.proofs.lemmas.Result.{err_from_is_err_and}
use Rattle.frames.specs.Areas.{areas}
use Rattle.stream.proofs.InOrder.{limits_of}
use Rattle.stream.proofs.AreaTests.{areas-of}
use Rattle.adding.proofs.Answers.{input-refused}
use Rattle.adding.proofs.Joining.{add-ready}
use Rattle.write_parts.proofs.begin_write.Goals as goal

pub returns-in_err-period : goal.returns-in_err-period
returns-in_err-period c =
    let p = err_from_is_err_and c.from_residual.result c.from_residual.ensures.1 in
    rw (p.1, p.2) (c.in_err-period.ensures _)

pub frames-n-requires : goal.frames-n-requires
frames-n-requires c = (limits_of c.args.stream c.in_ok-period.ensures.0).channels_low

pub input_full-requires : goal.input_full-requires
input_full-requires c =
    let a = c.args in
    let lent = areas a.input.now a.stage.now a.output.now a.scratch.now in
    let entered = c.in_ok-period.ensures in
    ((limits_of a.stream entered.0).channels_low, (areas-of a.stream lent entered.1).held)

pub returns-then-input_full : goal.returns-then-input_full
returns-then-input_full c m k =
    let a = c.args in
    let lent = areas a.input.now a.stage.now a.output.now a.scratch.now in
    let entered = c.in_ok-period.ensures in
    (input-refused a.stream lent _ m k entered.0 entered.1 (rw (← c.frames-n.ensures) (sym c.input_full.ensures ∙ c.if-input_full.true))).0

pub returns : goal.returns
returns c =
    let a = c.args in
    let lent = areas a.input.now a.stage.now a.output.now a.scratch.now in
    let entered = c.in_ok-period.ensures in
    let fits = sym c.input_full.ensures ∙ c.if-input_full.false in
    (add-ready a.stream _ lent _ (entered.0, entered.2) entered.1 fits, c.frames-n.ensures)
