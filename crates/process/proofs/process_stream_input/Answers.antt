-- `process::process_stream_input` meets its contract: the areas, the goals that it answers. Assumes nothing.
use mathlib.Core.Path.{refl}
use Rattle.std.proofs.lemmas.Result.{err_from_is_err_and}
use Rattle.frames.specs.Areas.{areas}
use Rattle.process.proofs.Working.{finish-ready, work-done, work-refused}
use Rattle.process.proofs.process_stream_input.Goals as goal

pub finish-requires : goal.finish-requires
finish-requires c =
    let s = c.args in
    let lent = areas s.input.now s.stage.now s.output.now s.scratch.now in
    let last = c.fill_area.new in
    let middle = areas s.input.now last.stage last.output last.scratch in
    let is = c.in_ok-filled.ensures in
    finish-ready s.stream c.in_ok-filled.filled lent middle is.0 is.1 c.requires.stream_ready c.requires.fill_ready

pub returns-in_err-filled : goal.returns-in_err-filled
returns-in_err-filled c =
    let p = err_from_is_err_and c.from_residual.result c.from_residual.ensures.1 in
    let s = c.args in
    let lent = areas s.input.now s.stage.now s.output.now s.scratch.now in
    let last = c.fill_area.new in
    let middle = areas s.input.now last.stage last.output last.scratch in
    let is = c.in_err-filled.ensures in
    rw (p.1, p.2) (work-refused s.stream lent middle c.requires.stream_ready c.requires.fill_ready refl is.1 _ is)

pub returns : goal.returns
returns c =
    let s = c.args in
    let lent = areas s.input.now s.stage.now s.output.now s.scratch.now in
    let last = c.fill_area.new in
    let middle = areas s.input.now last.stage last.output last.scratch in
    let is = c.in_ok-filled.ensures in
    let end = c.finish.new in
    let after = areas end.input end.stage end.output middle.scratch in
    work-done s.stream c.in_ok-filled.filled lent middle is.0 is.1 c.requires.stream_ready c.requires.fill_ready after c.finish.result c.finish.ensures
