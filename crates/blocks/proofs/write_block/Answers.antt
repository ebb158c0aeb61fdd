-- Each write takes a sample or more of the block.
use Rattle.std.proofs.Common.{◌≡◌, ℕ, ◌+◌, ◌-◌, ◌/◌, ◌<◌, ◌^◌, ◌≤◌, true, List, map, length, take, drop, sym, ap, ◌∙◌, subst, le-div_iff_mul-le, arith, rules}
use lib.Ieee.{Float}
use Rattle.frames.specs.Areas.{Areas}
use Rattle.floats.specs.Write.{sample_out}
use Rattle.adding.specs.Calls.{write_call}
use Rattle.plans.specs.Plans.{block_samples}
use Rattle.reels.specs.Lent.{lent}
use Rattle.reels.specs.Reels.{takes_more}
use Rattle.reels.proofs.Blocks.{write-length, write-frames, write-whole}
use Rattle.reels.proofs.Going.{failed-once, takes-sound}
use Rattle.blocks.proofs.StreamAfter.{write_keeps}
use Rattle.blocks.proofs.Serving.{takes_one}
use Rattle.blocks.proofs.Parts.{part-more, part_end}
use Rattle.blocks.proofs.write_block.Goals as goal
use Rattle.blocks.proofs.write_block.Goals.{then-loop-at-test+else-takes_more, else-loop-at-test}

pub write-reel-requires : goal.write-reel-requires
write-reel-requires g c =
    let a = c.args in
    let p = c.requires.usable in
    let inv = c.loop-at.invariant in
    let end = c.write_end-end.ensures in
    let before : c.loop-at.at ≤ c.write_end-end.result = omega (arith, end.0) in
    let whole = write-whole a.block.now c.loop-at.at c.write_end-end.result a.plan.channels before end.1 inv.1 end.2 in
    let goes : takes_more a.plan c.loop-at.reel ≡ true = sym c.takes_more.ensures ∙ c.if-takes_more.true in
    let few = inv.3 (takes-sound a.plan c.loop-at.reel.stream.held.0 c.loop-at.reel.state goes) in
    let within = subst (λ (k : ℕ). c.loop-at.reel.stream.held.0 + k / a.plan.channels ≤ a.plan.limit)
    (sym (write-length a.block.now c.loop-at.at c.write_end-end.result before end.1)) end.3 in (
      search rules,
      ((inv.2.channels_kept ∙ p.0, whole), (c.requires.served.0, inv.2.serving, goes, omega (arith, few, c.frames-few.ensures), within)),
    )

pub drain_full-reel-requires : goal.drain_full-reel-requires
drain_full-reel-requires g c =
    let u = c.args.plan.limits in
    let some : 1 ≤ block_samples / c.args.plan.channels =
    (le-div_iff_mul-le {k = c.args.plan.channels} {x = 1} {y = block_samples} u.channels_low).1 (omega (arith, u.channels_high)) in
    let bounds = c.requires.in_bounds in (omega (arith, c.frames-few.ensures, some), omega (arith, bounds.0), omega (arith, bounds.1))

pub loop-at-preserved : goal.loop-at-preserved
loop-at-preserved g c =
    let a = c.args in
    let inv = c.loop-at.invariant in
    let r = c.loop-at.reel in
    let at = c.loop-at.at in
    let end = c.write_end-end in
    let values : List Float = map sample_out (take (end.result - at) (drop at a.block.now)) in
    let areas : Areas = lent c.loop-at.areas in
    let done = c.write-reel.ensures in
    let same = write_keeps r.stream values areas done.write_answered.stream_is in
    let frames = write-frames a.block.now at end.result a.plan.limits.channels_low (omega (arith, end.ensures.0)) end.ensures.1 inv.1 in
    let goes : takes_more a.plan r ≡ true = sym c.takes_more.ensures ∙ c.if-takes_more.true in (
      end.ensures.1,
      end.ensures.2,
      part-more {answer = (write_call r.stream values areas).answer} _ _ _ frames (omega (arith, c.requires.served.0.output_is)) goes inv.2 done.write_answered
          same done.serving c.put_ended-reel.ensures c.drain_full-reel.ensures.out,
      λ x. omega (arith, c.drain_full-reel.ensures.fewer x),
    )

pub returns : goal.returns
returns g c =
    let a = c.args in
    let inv = c.loop-at.invariant in
    let channels = a.plan.channels in
    let all : takes_more a.plan c.loop-at.reel ≡ true → c.loop-at.at / channels ≡ length a.block.now / channels =
    λ g. elim c.loop-at-test.branch [
      | then-loop-at-test+else-takes_more w ↦ absurd (failed-once g (sym w.takes_more.ensures ∙ w.if-takes_more.false))
      | else-loop-at-test w ↦
          let same : c.loop-at.at ≡ length a.block.now = omega (arith, inv.0) in
          ap (λ (k : ℕ). k / channels) same
    ] in
    part_end _ _ _ all (omega arith) (omega (arith, c.requires.served.0.output_is)) inv.2 c.drain.ensures
