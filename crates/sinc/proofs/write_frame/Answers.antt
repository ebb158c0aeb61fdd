-- `sinc::write_frame` meets its contract. The loop's invariant: the first c samples of the frame are written.
-- Assumes nothing.
use mathlib.Core.Path.{◌≡◌, refl, ap, ◌∙◌}
use mathlib.Core.List.{List}
use Prim.Native.Nat.{ℕ, ◌+◌, ◌<◌}
use native.Mathlib.Omega.{arith}
use lib.IntN.{ℤ, pos}
use lib.ListN.{drop, get_or, set}
use lib.Seq.{paste}
use mir.Syntax.{w16}
use mir.Facts.{to_z-of_z}
use Rattle.sinc.specs.Weights.{weighted_frame}
use Rattle.sinc.proofs.Channels.{channel-is}
use Rattle.sinc.proofs.Weights.{channel_sample, frame-turn}
use Rattle.sinc.proofs.write_frame.Goals as goal
use Rattle.sinc.proofs.write_frame.Goals.{Start}

-- ---- places, and what is known there

-- the frame to be written, and its sample of the channel c
module _ (s : Start) where
  abbrev frame : List ℤ
  frame = weighted_frame (drop s.args.window.from.0 s.args.window.stage.now) s.args.window.channels s.args.weights.now

  abbrev weight : ℕ → ℤ
  weight i = get_or s.args.weights.now i (pos 0)

  abbrev sample : ℕ → ℤ
  sample = channel_sample (drop s.args.window.from.0 s.args.window.stage.now) s.args.window.channels s.args.weights.now

  -- one sample more
  turn_is : (c : ℕ) → c < s.args.window.channels → set (paste s.args.output.now s.args.to.0 frame c) (s.args.to.0 + c) (sample c)
      ≡ paste s.args.output.now s.args.to.0 frame (c + 1)
  turn_is c h =
      frame-turn s.args.output.now s.args.to.0 (drop s.args.window.from.0 s.args.window.stage.now) s.args.window.channels s.args.weights.now
      c (omega (arith, s.requires.channels_in_bounds)) h

pub loop-c-preserved : goal.loop-c-preserved
loop-c-preserved c =
    let d = c.before.before in
    let l = d.loop-c in
    let s = d.before in
    let a = s.args in
    let e : c.interpolate-sample.result ≡ sample s l.c =
    channel-is a.window.stage.now a.window.from.0 a.window.channels l.c (a.window.from.0 + l.c) (weight s) refl c.interpolate-sample.ensures in
    rw (to_z-of_z {w = w16} (record { sfits = c.interpolate-sample.type_inv }), e)
    (ap (λ (r : List ℤ). set r (a.to.0 + l.c) (sample s l.c)) l.invariant ∙ turn_is s l.c (omega arith))
