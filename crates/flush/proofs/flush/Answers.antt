-- `flush::flush` meets its contract. Assumes nothing.
use Rattle.std.proofs.Common.{sym, ap, ◌∙◌, ℕ, ◌*◌}
use Rattle.std.proofs.lemmas.Result.{err_from_is_err_and}
use Rattle.frames.specs.Areas.{areas}
use Rattle.stream.proofs.InOrder.{limits_of}
use Rattle.stream.proofs.AreaTests.{areas-of}
use Rattle.adding.proofs.Joining.{add-ready}
use Rattle.flush.proofs.Clearing.{flush-early, flush-input-full}
use Rattle.flush.proofs.flush.Goals as goal

pub returns-in_err-period : goal.returns-in_err-period
returns-in_err-period c =
    let s = c.args.stream in
    let lent = areas c.args.input.now c.args.stage.now c.args.output.now c.args.scratch.now in
    let p = err_from_is_err_and c.from_residual.result c.from_residual.ensures.1 in
    let a = flush-early s lent _ c.in_err-period.ensures in
    rw (p.1, p.2) (record { call_ensures = a.0; order_after = a.1 })

pub input_full-requires : goal.input_full-requires
input_full-requires c =
    let s = c.args.stream in
    let lent = areas c.args.input.now c.args.stage.now c.args.output.now c.args.scratch.now in
    let entered = c.in_ok-period.ensures in
    ((limits_of s entered.0).channels_low, (areas-of s lent entered.1).held)

pub returns-then-input_full : goal.returns-then-input_full
returns-then-input_full c =
    let s = c.args.stream in
    let lent = areas c.args.input.now c.args.stage.now c.args.output.now c.args.scratch.now in
    let entered = c.in_ok-period.ensures in
    let count = ap (λ (k : ℕ). 2 * k) c.max_required.ensures in
    let a = flush-input-full s lent _ count entered.0 entered.1 (sym c.input_full.ensures ∙ c.if-input_full.true) in
    record { call_ensures = a.0; order_after = a.1 }

pub flush_frames-requires : goal.flush_frames-requires
flush_frames-requires c =
    let s = c.args.stream in
    let lent = areas c.args.input.now c.args.stage.now c.args.output.now c.args.scratch.now in
    let entered = c.in_ok-period.ensures in
    let fits = sym c.input_full.ensures ∙ c.if-input_full.false in
    (add-ready s _ lent _ (entered.0, entered.2) entered.1 fits, ap (λ (k : ℕ). 2 * k) c.max_required.ensures)
