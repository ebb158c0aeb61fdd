-- `process::finish::commit` meets its contract. Assumes nothing.
use Rattle.std.proofs.Common.{[], List, ◌+◌, sym, ◌∙◌, arith}
use Rattle.std.proofs.lemmas.Result.{err_from_is_err_and}
use lib.IntN.{ℤ}
use Rattle.frames.specs.Areas.{areas}
use Rattle.frames.proofs.Room.{count-le}
use Rattle.stream.proofs.Booking.{past_of, within_of}
use Rattle.fill.proofs.Results.{was_some, was_none}
use Rattle.fill.proofs.Filling.{ready-limits}
use Rattle.process.proofs.Finishing.{removed-as, used-fits, left-fits, commit-passed, commit-done}
use Rattle.process.proofs.finish.commit.Goals as goal

pub returns-in_err-balance : goal.returns-in_err-balance
returns-in_err-balance c =
    let d = c.args.filled in
    let p = err_from_is_err_and c.from_residual.result c.from_residual.ensures.1 in
    let none = was_none c.book.result _ _ (sym c.ok_or.ensures.value ∙ c.in_err-balance.was) in
    rw (p.1, p.2, ← none.1) (commit-passed c.requires (past_of d.stream.balance d.balance (sym c.book.ensures ∙ none.0)))

pub samples-requires : goal.samples-requires
samples-requires c = let r = c.requires.used in omega (arith, used-fits r, r.input_short)

pub samples-requires-2 : goal.samples-requires-2
samples-requires-2 c = let r = c.requires.used in omega (arith, used-fits r, r.input_short)

pub remove_front-requires : goal.remove_front-requires
remove_front-requires c = omega (arith, used-fits c.requires.used, c.samples.ensures, c.samples-2.ensures)

pub samples-requires-3 : goal.samples-requires-3
samples-requires-3 c = let r = c.requires in omega (arith, left-fits r, r.used.stage_short)

pub samples-requires-4 : goal.samples-requires-4
samples-requires-4 c = let r = c.requires in omega (arith, left-fits r, r.used.stage_short)

pub remove_front-requires-2 : goal.remove_front-requires-2
remove_front-requires-2 c = omega (arith, left-fits c.requires, c.samples-3.ensures, c.samples-4.ensures)

pub overflow_add-result : goal.overflow_add-result
overflow_add-result c =
    let r = c.requires in
    let x = c.args.stream in
    let count = count-le x.channels (x.waiting.0 + c.args.adjusted.made.0) (ready-limits r.used.ready).channels_low in
    record { fits = omega (arith, count, r.fits, r.used.output_short) }

pub returns : goal.returns
returns c =
    let d = c.args.filled in
    let input : List ℤ = c.remove_front.new.area in
    let stage : List ℤ = c.remove_front-2.new.area in
    let booked = sym c.book.ensures ∙ was_some c.book.result _ _ (sym c.ok_or.ensures.value ∙ c.in_ok-balance.was) in
    commit-done c.requires (areas input stage c.scale_made.new.output []) _ (within_of d.stream.balance d.balance _ booked)
    (removed-as c.remove_front.ensures c.samples.ensures c.samples-2.ensures)
    (removed-as c.remove_front-2.ensures c.samples-3.ensures c.samples-4.ensures)
    c.scale_made.ensures
