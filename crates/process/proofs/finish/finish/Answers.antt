-- `process::finish::finish` meets its contract: what the conversion answers, the goals that it answers. Assumes nothing.
use Rattle.std.proofs.Common.{refl, [], sym, ◌∙◌}
use Rattle.std.proofs.lemmas.Result.{err_from_is_err_and}
use Rattle.frames.specs.Areas.{areas}
use Rattle.fill.proofs.Results.{was_some, was_none}
use Rattle.process.specs.Finishing.{conversion_of}
use Rattle.process.proofs.Finishing.{staged-fits, commit-ready, finish-done}
use Rattle.process.proofs.finish.finish.Goals as goal

pub convert-requires : goal.convert-requires
convert-requires c =
    let r = c.requires.convert in
    record { ready = r.ready; placed = r.placed; tail_fits = r.tail_fits; waiting_fits = r.waiting_fits }

pub returns-in_err-adjusted : goal.returns-in_err-adjusted
returns-in_err-adjusted c =
    let p = err_from_is_err_and c.from_residual.result c.from_residual.ensures.1 in
    let none = was_none c.convert.result _ _ (sym c.ok_or.ensures.value ∙ c.in_err-adjusted.was) in
    rw (p.1, p.2, ← none.1) (refl, refl, rw none.0 at c.convert.ensures)

pub commit-requires : goal.commit-requires
commit-requires c =
    let s = c.args.stream in
    let new = c.args.filled.frames.0 in
    let lent = areas c.args.input.now c.args.stage.now c.args.output.now [] in
    let is = rw (was_some c.convert.result _ _ (sym c.ok_or.ensures.value ∙ c.in_ok-adjusted.was)) at c.convert.ensures in
    commit-ready s c.args.filled (conversion_of s new lent) lent c.convert.new.output is c.requires.used
    (staged-fits s new lent c.requires.convert)

pub returns : goal.returns
returns c =
    let s = c.args.stream in
    let lent = areas c.args.input.now c.args.stage.now c.args.output.now [] in
    let is = rw (was_some c.convert.result _ _ (sym c.ok_or.ensures.value ∙ c.in_ok-adjusted.was)) at c.convert.ensures in
    let last = c.commit.new in
    finish-done s c.args.filled (conversion_of s c.args.filled.frames.0 lent) lent c.convert.new.output is
    (areas last.input last.stage last.output []) c.commit.result c.commit.ensures
