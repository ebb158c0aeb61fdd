use Rattle.std.proofs.Common.{◌≡◌, ℕ, true, false, not, ap, ◌∙◌, arith, rules, refl}
use lib.Dec.{eqb}
use Rattle.frames.specs.Areas.{Areas}
use Rattle.stream.proofs.InOrder.{both}
use Rattle.serving.specs.Steady.{AreasSized}
use Rattle.reels.specs.Lent.{lent}
use Rattle.reels.specs.declared.state.RunState.{RunState}
use Rattle.reels.specs.States.{kept, flush_stall, state_in}
use Rattle.reels.specs.Reels.{takes_more}
use Rattle.reels.proofs.Going.{failed-once}
use Rattle.skimming.specs.Skimming.{flushes}
use Rattle.skimming.proofs.Serving.{flush-serving}
use Rattle.skimming.proofs.Turning.{flush-none}
use Rattle.skimming.proofs.flush.Goals as goal
use Rattle.skimming.proofs.flush.Goals.{then-reel-eq0-via-then-reel-eq0, then-reel-eq0-via-else-reel-eq0+then-not-takes_more}

pub returns-then-reel-eq0-clause-flushed : goal.returns-then-reel-eq0-clause-flushed
returns-then-reel-eq0-clause-flushed g c =
    let a = c.args in
    let none : flushes a.plan a.reel ≡ true → ⊥ =
    elim c.then-reel-eq0.branch [
      | then-reel-eq0-via-then-reel-eq0 w ↦ flush-none (takes_more a.plan a.reel) a.reel.written w.if-reel-eq0.true
      | then-reel-eq0-via-else-reel-eq0+then-not-takes_more w ↦
          let stopped : takes_more a.plan a.reel ≡ false = search rules in
          λ e. failed-once (both (takes_more a.plan a.reel) (not (eqb a.reel.written 0)) e).0 stopped
    ] in
    record { skipped = λ e. refl; done = λ e. absurd (none e); ordered = λ e. absurd (none e) }

pub returns-clause-serving : goal.returns-clause-serving
returns-clause-serving g c =
    let a = c.args in
    let r = a.reel in
    let z = c.requires.1 in
    let areas : Areas = lent a.areas.now in
    let sized : AreasSized a.plan.small areas =
    record { input = omega arith; stage = omega (arith, z.stage_is); output = omega (arith, z.output_is); scratch = omega arith } in
    let goes : takes_more a.plan r ≡ true = search rules in
    let w = c.flush-answer.ensures in
    let stall = c.flush_stall.ensures ∙ ap (λ (n : ℕ). flush_stall n r.state) c.first_held.ensures in
    flush-serving a.plan r _ areas c.flush-answer.result sized c.requires.0 goes w.call_ensures.answer w.order_after
    c.answered-after.ensures.stream_is
    (c.answered-after.ensures.state_is ∙ ap (λ (s : RunState). kept r.state (state_in s c.flush-answer.result)) stall)
