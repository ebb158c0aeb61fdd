-- How many frames tail frames make: from positions in order, k tail frames take n to the least whole number with n·O ≥ (p + k)·N, whole
-- turns counted on. Assumes nothing.
use mathlib.Core.Path.{◌≡◌, refl, ap, ◌∙◌}
use mathlib.Core.Bool.{Bool, true, false, cond}
use mathlib.Core.List.{List}
use Prim.Native.Nat.{ℕ, zero, suc, ◌+◌, ◌*◌, ◌<◌}
use native.Mathlib.Omega.{arith}
use lib.Dec.{eqb}
use lib.ListN.{length, take, drop, length-append}
use borrow.Author.Tests.{eqb-true}
use Rattle.frames.specs.Framing.{Frame}
use Rattle.sinc.specs.Sinc.{sinc_filter_points}
use Rattle.rate.specs.declared.Rates.{Rates}
use Rattle.rate.specs.declared.Position.{Position}
use Rattle.rate.specs.Tail.{start, ceil_div, PositionInOrder, due, next, emit, scan}
use Rattle.rate.proofs.Ceiling.{ceil_div-zero, ceil_div-mul-add}
use Rattle.rate.proofs.Positions.{start-order, due-is, next-order}
use Rattle.rate.proofs.Chunks.{length-emit}

module _ (r : Rates) where
  -- n·O ≥ p·N for the position p
  abbrev reach : ℕ → ℕ
  reach p = ceil_div (p * r.new) r.old

  -- O tail frames make N frames
  reach-turn : (k : ℕ) → 0 < r.old → reach (r.old + k) ≡ r.new + reach k
  reach-turn k h =
      let d : (r.old + k) * r.new ≡ r.new * r.old + k * r.new = omega arith in
      ap (λ (x : ℕ). ceil_div x r.old) d ∙ ceil_div-mul-add (k * r.new) r.old r.new h

  reach-zero : 0 < r.old → reach 0 ≡ 0
  reach-zero h =
      let e : 0 * r.new ≡ 0 = omega arith in
      ap (λ (x : ℕ). ceil_div x r.old) e ∙ ceil_div-zero r.old h

  -- one tail frame's share of the count, over the turn at O
  turn-count : (s : Position) → PositionInOrder r s → (k m : ℕ) → (next r s).new + m ≡ reach ((next r s).old + k)
      → s.new + due r s + m ≡ reach (s.old + suc k)
  unfolding next
  turn-count s h k m = go (eqb (s.old + 1) r.old) refl
    where
      after : Bool → Position
      after b = cond b start (record { old = s.old + 1; new = s.new + due r s })

      go : (b : Bool) → eqb (s.old + 1) r.old ≡ b → (after b).new + m ≡ reach ((after b).old + k)
          → s.new + due r s + m ≡ reach (s.old + suc k)
      go true e ih =
          let p : 0 < r.old = omega (arith, h.below) in
          let whole : s.old + 1 ≡ r.old = eqb-true (s.old + 1) r.old e in
          let a : s.old + 1 ≡ r.old + 0 = omega arith in
          let b : s.old + suc k ≡ r.old + k = omega arith in
          let z : 0 + k ≡ k = omega arith in
          omega (arith, due-is r s h, ap reach a, ap reach b, ap reach z, reach-turn 0 p, reach-turn k p, reach-zero p)
      go false e ih =
          let g : s.old + 1 + k ≡ s.old + suc k = omega arith in
          ih ∙ ap reach g

  pub scan-count : (k : ℕ) (s : Position) (l : List Frame) → PositionInOrder r s → s.new + length (scan r k s l) ≡ ceil_div ((s.old + k) * r.new) r.old
  unfolding scan
  scan-count zero s l h =
      let e : s.old + 0 ≡ s.old = omega arith in
      omega (arith, h.least, ap reach e)
  scan-count (suc k) s l h =
      let m : List Frame = emit r (due r s) s (take sinc_filter_points l) in
      let more : List Frame = scan r k (next r s) (drop 1 l) in
      let ih : (next r s).new + length more ≡ reach ((next r s).old + k) = scan-count k (next r s) (drop 1 l) (next-order r s h) in
      omega (arith, turn-count s h k (length more) ih, length-append m more, length-emit r (due r s) s (take sinc_filter_points l))

  -- k tail frames consumed from positions at 0 make k·N/O frames, rounded up
  pub start-count : (k : ℕ) (l : List Frame) → 0 < r.old → length (scan r k start l) ≡ ceil_div (k * r.new) r.old
  start-count k l h =
      let e : 0 + k ≡ k = omega arith in
      omega (arith, scan-count k start l (start-order r h), ap reach e)
