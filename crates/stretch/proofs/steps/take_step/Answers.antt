-- `stretch::steps::take_step` meets its contract: the step that is due is sound, and its frames are written if there is room. Assumes nothing.
use Rattle.std.specs.Prelude.{Some}
use Prim.Native.Nat.{◌+◌, ◌^◌, ◌≤◌}
use mathlib.Core.Path.{◌≡◌, sym, ap, ◌∙◌, subst}
use mathlib.Core.List.{List}
use native.Mathlib.Nat.{mul-le-mul_right, le_trans}
use native.Mathlib.Omega.{arith}
use borrow.Author.Tests.{lt-ltb, le-ltb}
use lib.IntN.{ℤ}
use Rattle.period.specs.Pitch.{PrevInOrder}
use Rattle.period.specs.Rates.{max_required}
use Rattle.stretch.specs.declared.StretchCall.{StretchCall}
use Rattle.stretch.specs.declared.Place.{Place}
use Rattle.stretch.specs.declared.Step.{Step}
use Rattle.stretch.specs.Steps.{next_step, frames_out, periods_passed, stalls, place_after, after, turn_for, area_for, StretchReady, Sound}
use Rattle.stretch.proofs.Soundness.{next_step-sound, frames_out-le}
use Rattle.stretch.proofs.steps.take_step.Goals as goal

-- the step that is due is sound, and gives few frames
module _ {u : StretchCall} (x : List ℤ) (h : Place) (r : StretchReady u) (o : PrevInOrder u.rate h.prev) (d : h.position.0 + max_required u.rate ≤ u.held.0)
    {s : Step} (due : s ≡ next_step u x h) where
  sound : Sound u.held.0 h.position.0 s
  sound = subst (Sound u.held.0 h.position.0) (sym due) (next_step-sound x h r o.period_in d)

  few : frames_out s ≤ 2 ^ 24
  few = omega (arith, sound.within, frames_out-le s, r.few)

pub frames_out-n-requires : goal.frames_out-n-requires
frames_out-n-requires c =
    few c.args.input.now c.args.place c.args.ready.ready c.requires.prev_in_order c.requires.due c.next_step-due.ensures.step

pub returns-then-target-made : goal.returns-then-target-made
unfolding turn_for area_for
returns-then-target-made c =
    let u = c.args.ready.call in
    let step = next_step u c.args.input.now c.args.place in
    let is = c.next_step-due.ensures.step in
    let t = lt-ltb c.args.target.most.0 (c.args.made.0 + frames_out step) (omega (arith, c.frames_out-n.ensures, ap frames_out is, c.if-target-made.true)) in
    record { value = sym (rw t); area = sym (rw t); prev_in_order = subst (PrevInOrder u.rate) c.next_step-due.ensures.prev c.next_step-due.ensures.prev_in_order }

pub overflow_add-made : goal.overflow_add-made
overflow_add-made c =
    let n = few c.args.input.now c.args.place c.args.ready.ready c.requires.prev_in_order c.requires.due c.next_step-due.ensures.step in
    record { fits = omega (arith, n, c.frames_out-n.ensures, c.requires.few_made) }

pub write_fitting-requires : goal.write_fitting-requires
write_fitting-requires c =
    let r = c.args.ready.ready in
    let k = sound c.args.input.now c.args.place r c.requires.prev_in_order c.requires.due c.next_step-due.ensures.step in
    let n = few c.args.input.now c.args.place r c.requires.prev_in_order c.requires.due c.next_step-due.ensures.step in
    record {
      counted = c.frames_out-n.ensures;
      few = omega (arith, n, c.frames_out-n.ensures, c.requires.few_made);
      channels_some = r.opened.channels_low;
      short = k.short;
      read_lent = le_trans (mul-le-mul_right c.args.ready.call.channels k.within) c.requires.held_lent;
      target_fits = c.requires.target_fits;
    }

pub place_after-requires : goal.place_after-requires
place_after-requires c =
    let r = c.args.ready.ready in
    record {
      sound = sound c.args.input.now c.args.place r c.requires.prev_in_order c.requires.due c.next_step-due.ensures.step;
      few_held = r.few;
    }

pub returns : goal.returns
unfolding turn_for area_for after
returns c =
    let u = c.args.ready.call in
    let x = c.args.input.now in
    let step = next_step u x c.args.place in
    let due = c.next_step-due.ensures in
    let out : c.frames_out-n.result.0 ≡ frames_out step = c.frames_out-n.ensures ∙ ap frames_out due.step in
    let t = le-ltb c.args.target.most.0 (c.args.made.0 + frames_out step) (omega (arith, out, c.if-target-made.false)) in
    let place : c.place_after.result ≡ after u x c.args.place step =
    c.place_after.ensures ∙ (λ i. place_after u c.args.place (due.step i) (due.prev i) (due.sum i)) in
    let periods : c.periods_passed.result ≡ periods_passed step = c.periods_passed.ensures ∙ ap periods_passed due.step in
    let stall : c.stalls.result ≡ stalls step = c.stalls.ensures ∙ ap stalls due.step in
    record {
      value = rw t (λ i. Some (record { place = place i; frames = record { 0 = out i }; passed = periods i; stalled = stall i }));
      area = rw t (rw due.step at c.write_fitting.ensures);
      prev_in_order = subst (PrevInOrder u.rate) due.prev due.prev_in_order;
    }
