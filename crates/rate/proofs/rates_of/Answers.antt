-- `rate::rates_of` meets its contract. The loop's invariant: what is left of the halving gives what the whole of it gives. Assumes nothing.
use borrow.Author.Tests.{lt-ltb, le-ltb}
use mathlib.Core.Path.{◌≡◌, refl, ap, ◌∙◌}
use mathlib.Core.Bool.{true}
use Prim.Native.Nat.{ℕ, ◌≤◌}
use native.Mathlib.Omega.{arith}
use Rattle.rate.specs.declared.Rates.{Rates}
use Rattle.rate.specs.Halving.{max_halved_rate, halved, rates_of}
use Rattle.rate.proofs.Halving.{over, left-turn, left_end}
use Rattle.rate.proofs.rates_of.Goals as goal
use Rattle.rate.proofs.rates_of.Goals.{then-new-gt-MAX_HALVED_RATE, else-new-gt-MAX_HALVED_RATE+then-old-gt-MAX_HALVED_RATE}

pub loop-new-init : goal.loop-new-init
loop-new-init c = record { k = 64; same = refl; new_below = omega arith; old_below = omega arith }

pub loop-new-smaller : goal.loop-new-smaller
loop-new-smaller c =
    let l = c.loop-new in
    elim c.if-new-gt-MAX_HALVED_RATE.branch [
      | then-new-gt-MAX_HALVED_RATE w ↦ omega (arith, w.if-new-gt-MAX_HALVED_RATE.true)
      | else-new-gt-MAX_HALVED_RATE+then-old-gt-MAX_HALVED_RATE w ↦ omega (arith, w.if-old-gt-MAX_HALVED_RATE.true)
    ]

pub loop-new-preserved : goal.loop-new-preserved
loop-new-preserved c =
    let l = c.loop-new in
    let r : Rates = record { new = l.new; old = l.old } in
    let e : over r ≡ true =
    elim c.if-new-gt-MAX_HALVED_RATE.branch [
      | then-new-gt-MAX_HALVED_RATE w ↦ rw (lt-ltb max_halved_rate l.new w.if-new-gt-MAX_HALVED_RATE.true)
      | else-new-gt-MAX_HALVED_RATE+then-old-gt-MAX_HALVED_RATE w ↦
          rw (le-ltb max_halved_rate l.new w.if-new-gt-MAX_HALVED_RATE.false, lt-ltb max_halved_rate l.old w.if-old-gt-MAX_HALVED_RATE.true)
    ] in
    left-turn _ r l.invariant e

pub returns : goal.returns
unfolding rates_of
returns c =
    let l = c.loop-new in
    let a = c.args in
    let small : l.old ≤ max_halved_rate = c.if-old-gt-MAX_HALVED_RATE.false in
    left_end _ (record { new = l.new; old = l.old }) l.invariant c.if-new-gt-MAX_HALVED_RATE.false small
    ∙ ap (λ (n : ℕ). halved 64 (record { new = n; old = a.rate })) c.new_rate-new.ensures
