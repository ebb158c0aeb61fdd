use Rattle.std.proofs.Common.{◌≡◌, ℕ, length, sym, ap, ◌∙◌, subst, arith}
use Rattle.reels.specs.States.{sound}
use Rattle.reels.specs.Reels.{WrittenOut}
use Rattle.reels.proofs.Going.{out-trans}
use Rattle.reels.proofs.reel.Reel.drain.Goals as goal

pub loop-turn-preserved : goal.loop-turn-preserved
loop-turn-preserved g c =
    let l = c.loop-turn in
    let t = c.write_out-reel.ensures in
    let same : length l.output ≡ length c.args.output.now = omega (arith, l.invariant.0) in (
      omega (arith, l.invariant.0),
      out-trans l.invariant.1 (subst (λ (n : ℕ). WrittenOut n l.reel c.write_out-reel.result) same t.out),
      λ e. omega (arith, l.invariant.2 (ap sound (sym (t.out.state_stays e)) ∙ e), t.fewer e (omega arith)),
    )
