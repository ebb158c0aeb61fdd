-- `stretch::speed::change_speed` meets its contract: between two turns what is made and what is due make up the whole (`Between`), and each
-- turn uses a frame at least. Assumes nothing.
use Rattle.std.specs.Prelude.{Some}
use Prim.Native.Nat.{◌+◌, ◌*◌, ◌^◌, ◌≤◌}
use mathlib.Core.Path.{sym, ap, ◌∙◌}
use mathlib.Core.List.{List}
use native.Mathlib.Omega.{arith}
use lib.IntN.{ℤ}
use lib.ListN.{length}
use Rattle.period.specs.Rates.{max_required}
use Rattle.stretch.specs.declared.ReadyCall.{ReadyCall}
use Rattle.stretch.specs.declared.Target.{Target}
use Rattle.stretch.specs.Speed.{begun}
use Rattle.stretch.proofs.Progress.{required_some}
use Rattle.stretch.proofs.Between.{StretchLent, going_start, going-kept, going_end, going-over}
use Rattle.stretch.proofs.Between.{going_on, going-stall, going-fits, going-periods, going-further}
use Rattle.stretch.proofs.Outcome.{ended-made, ended-area, over-made, over-area}
use Rattle.stretch.proofs.speed.change_speed.Goals as goal

-- what the call is lent
lent : (r : ReadyCall) (t : Target) {x area : List ℤ} → r.call.held.0 * r.call.channels ≤ length x → t.to.0 + t.room.0 * r.call.channels ≤ length area
    → t.most.0 ≤ 2 ^ 24 → StretchLent r.call x area t.to.0 t.room.0 t.most.0
lent r t whole fits few = record { ready = r.ready; whole = whole; lent_area = fits; few = few }

pub loop-place-init : goal.loop-place-init
loop-place-init c =
    let a = c.args in
    going_start a.ready.call a.input.now (begun a.time_error a.prev) a.area.now a.target.to.0 a.target.room.0 a.target.most.0 c.requires.prev_in_order (omega arith)

pub overflow_add-place : goal.overflow_add-place
overflow_add-place c =
    let r = c.args.ready.ready in
    record { fits = omega (arith, c.loop-place.invariant.within, c.max_required-required.ensures, r.few, r.opened.rate_high) }

pub take_step-requires-clause-prev_in_order : goal.take_step-requires-clause-prev_in_order
take_step-requires-clause-prev_in_order c = c.loop-place.invariant.in_order

pub take_step-requires-clause-few_made : goal.take_step-requires-clause-few_made
take_step-requires-clause-few_made c = omega (arith, c.loop-place.invariant.fits, c.requires.few)

pub returns-in_err-went : goal.returns-in_err-went
returns-in_err-went c =
    let a = c.args in
    let u = a.ready.call in
    let begin = begun a.time_error a.prev in
    let t = lent a.ready a.target c.requires.held_lent c.requires.target_fits c.requires.few in
    let l = c.loop-place in
    let due : l.place.position.0 + max_required u.rate ≤ u.held.0 = omega (arith, c.loop-place-test.true, c.max_required-required.ensures) in
    let more = going-over t l.invariant due (sym c.take_step.ensures.value ∙ c.in_err-went.was) in
    let kept = going-kept t l.invariant due l.auto.area c.take_step.ensures.area in
    (c.from_residual.ensures ∙ over-made u a.input.now begin a.target.room.0 a.target.most.0 more, over-area u a.input.now begin a.target.room.0 a.target.most.0 more kept)

pub overflow_add-made : goal.overflow_add-made
overflow_add-made c =
    let t = lent c.args.ready c.args.target c.requires.held_lent c.requires.target_fits c.requires.few in
    let l = c.loop-place in
    let due : l.place.position.0 + max_required c.args.ready.call.rate ≤ c.args.ready.call.held.0 = omega (arith, c.loop-place-test.true, c.max_required-required.ensures) in
    let told = c.take_step.ensures in
    record { fits = omega (arith, going-fits t l.invariant due (sym told.value ∙ c.in_ok-went.was) l.auto.area told.area told.prev_in_order, t.few) }

pub overflow_add-passed : goal.overflow_add-passed
overflow_add-passed c =
    let t = lent c.args.ready c.args.target c.requires.held_lent c.requires.target_fits c.requires.few in
    let l = c.loop-place in
    let due : l.place.position.0 + max_required c.args.ready.call.rate ≤ c.args.ready.call.held.0 = omega (arith, c.loop-place-test.true, c.max_required-required.ensures) in
    let told = c.take_step.ensures in
    record { fits = omega (arith, going-periods t l.invariant due (sym told.value ∙ c.in_ok-went.was) l.auto.area told.area told.prev_in_order, c.args.ready.ready.few) }

pub returns-then-went : goal.returns-then-went
returns-then-went c =
    let t = lent c.args.ready c.args.target c.requires.held_lent c.requires.target_fits c.requires.few in
    let l = c.loop-place in
    let due : l.place.position.0 + max_required c.args.ready.call.rate ≤ c.args.ready.call.held.0 = omega (arith, c.loop-place-test.true, c.max_required-required.ensures) in
    let told = c.take_step.ensures in
    let e = going-stall t l.invariant due (sym told.value ∙ c.in_ok-went.was) l.auto.area told.area told.prev_in_order c.if-went.true in
    (ap Some c.answer.ensures ∙ ended-made e, ended-area e)

pub loop-place-smaller : goal.loop-place-smaller
loop-place-smaller c =
    let t = lent c.args.ready c.args.target c.requires.held_lent c.requires.target_fits c.requires.few in
    let l = c.loop-place in
    let due : l.place.position.0 + max_required c.args.ready.call.rate ≤ c.args.ready.call.held.0 = omega (arith, c.loop-place-test.true, c.max_required-required.ensures) in
    let told = c.take_step.ensures in
    let further = going-further t l.invariant due (sym told.value ∙ c.in_ok-went.was) l.auto.area told.area told.prev_in_order in
    omega (arith, further, due, required_some c.args.ready.ready)

pub loop-place-preserved : goal.loop-place-preserved
loop-place-preserved c =
    let t = lent c.args.ready c.args.target c.requires.held_lent c.requires.target_fits c.requires.few in
    let l = c.loop-place in
    let due : l.place.position.0 + max_required c.args.ready.call.rate ≤ c.args.ready.call.held.0 = omega (arith, c.loop-place-test.true, c.max_required-required.ensures) in
    let told = c.take_step.ensures in
    going_on t l.invariant due (sym told.value ∙ c.in_ok-went.was) l.auto.area told.area told.prev_in_order c.if-went.false

pub returns : goal.returns
returns c =
    let t = lent c.args.ready c.args.target c.requires.held_lent c.requires.target_fits c.requires.few in
    let e = going_end t c.loop-place.invariant (omega (arith, c.loop-place-test.false, c.max_required-required.ensures)) in
    (ap Some c.answer-2.ensures ∙ ended-made e, ended-area e)
