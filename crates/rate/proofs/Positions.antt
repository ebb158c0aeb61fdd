-- Positions in order stay in order: n remains the least whole number with n·O ≥ p·N. What the loops of the scan ask of them.
-- Assumes nothing.
use mathlib.Core.Path.{◌≡◌, refl, sym, ap, ◌∙◌, subst}
use mathlib.Core.Bool.{Bool, true, false, cond}
use Prim.Native.Nat.{ℕ, zero, suc, ◌+◌, ◌-◌, ◌*◌, ◌≤◌, ◌<◌}
use native.Mathlib.Nat.{mul-le-mul, mul-le-mul_left, mul-le-mul_right, suc-add, zero-add, zero-mul}
use native.Mathlib.Omega.{arith}
use lib.Dec.{eqb}
use borrow.Author.Tests.{eqb-false, eq-eqb, ne_eqb}
use Rattle.rate.specs.declared.Rates.{Rates}
use Rattle.rate.specs.declared.Position.{Position}
use Rattle.rate.specs.Halving.{max_halved_rate}
use Rattle.rate.specs.Tail.{start, ceil_div, PositionInOrder, due, next, steps}
use Rattle.rate.specs.Adjusting.{Placed}
use Rattle.rate.proofs.Ceiling.{ceil_div-le, le-ceil_div-mul, lt-ceil_div, ceil_div-mono, ceil_div-zero}

-- ---- in order

pub start-order : (r : Rates) → 0 < r.old → PositionInOrder r start
start-order r p = record { below = p; least = sym (ap (λ (x : ℕ). ceil_div x r.old) (zero-mul r.new) ∙ ceil_div-zero r.old p) }

-- n after a tail frame, before a turn at O
pub due-is : (r : Rates) (s : Position) → PositionInOrder r s → s.new + due r s ≡ ceil_div ((s.old + 1) * r.new) r.old
unfolding due
due-is r s h = omega (arith, h.least, ceil_div-mono (s.old * r.new) ((s.old + 1) * r.new) r.old (omega (arith, h.below)) (omega arith))

pub next-order : (r : Rates) (s : Position) → PositionInOrder r s → PositionInOrder r (next r s)
unfolding next
next-order r s h = go (eqb (s.old + 1) r.old) refl
  where
    go : (b : Bool) → eqb (s.old + 1) r.old ≡ b → PositionInOrder r (cond b start (record { old = s.old + 1; new = s.new + due r s }))
    go true e = start-order r (omega (arith, h.below))
    go false e = record { below = omega (arith, eqb-false (s.old + 1) r.old e, h.below); least = due-is r s h }

pub steps-order : (r : Rates) (k : ℕ) (s : Position) → PositionInOrder r s → PositionInOrder r (steps r k s)
unfolding steps
steps-order r zero s h = h
steps-order r (suc k) s h = steps-order r k (next r s) (next-order r s h)

-- ---- steps

pub steps-add : (r : Rates) (j k : ℕ) (s : Position) → steps r (j + k) s ≡ steps r k (steps r j s)
unfolding steps
steps-add r zero k s = ap (λ (i : ℕ). steps r i s) (zero-add k)
steps-add r (suc j) k s = ap (λ (i : ℕ). steps r i s) (suc-add j k) ∙ steps-add r j k (next r s)

pub steps-snoc : (r : Rates) (k : ℕ) (s : Position) → steps r (suc k) s ≡ next r (steps r k s)
unfolding steps
steps-snoc r zero s = refl
steps-snoc r (suc k) s = steps-snoc r k (next r s)

-- at p = O both become 0
pub next_start : (r : Rates) (s : Position) → s.old + 1 ≡ r.old → next r s ≡ start
unfolding next
next_start r s e = rw (eq-eqb (s.old + 1) r.old e)

-- else both have grown
pub next-on : (r : Rates) (s : Position) (n : ℕ) → (s.old + 1 ≡ r.old → ⊥) → n ≡ s.new + due r s → next r s ≡ record { old = s.old + 1; new = n }
unfolding next
next-on r s n d e = rw (ne_eqb (s.old + 1) r.old d) (λ i. record { old = s.old + 1; new = sym e i })

-- ---- the loops' numbers

-- the inner loop's test, at its turn i
pub due-more : (r : Rates) (s : Position) (i : ℕ) → 0 < r.old → (s.new + i) * r.old < (s.old + 1) * r.new → i < due r s
unfolding due
due-more r s i p h = omega (arith, lt-ceil_div ((s.old + 1) * r.new) r.old (s.new + i) p h)

pub due-no-more : (r : Rates) (s : Position) (i : ℕ) → 0 < r.old → (s.old + 1) * r.new ≤ (s.new + i) * r.old → due r s ≤ i
unfolding due
due-no-more r s i p h = omega (arith, ceil_div-le ((s.old + 1) * r.new) r.old (s.new + i) p h)

-- they stay small, and p·N is never above n·O
pub record Small (r : Rates) (s : Position) : Type 0 where
  pub below : s.old < max_halved_rate
  pub right_most : (s.old + 1) * r.new ≤ max_halved_rate * max_halved_rate
  pub last_most : s.new + due r s ≤ max_halved_rate * max_halved_rate
  pub passed : s.old * r.new ≤ s.new * r.old

pub placed-small : (r : Rates) (s : Position) → Placed r s → Small r s
placed-small r s h =
    let o = h.order in
    let p : 0 < r.old = omega (arith, o.below) in
    let right : ℕ = (s.old + 1) * r.new in
    let a : s.old + 1 ≤ max_halved_rate = omega (arith, o.below, h.old_most) in
    let b : right ≤ max_halved_rate * max_halved_rate = mul-le-mul a h.new_most in
    let c : ceil_div right r.old ≤ right = ceil_div-le right r.old right p (omega (arith, mul-le-mul_left {m = 1} {n = r.old} right p)) in
    let d : ceil_div (s.old * r.new) r.old ≤ s.new = omega (arith, o.least) in
    record {
      below = omega arith;
      right_most = b;
      last_most = omega (arith, due-is r s o);
      passed = le-ceil_div-mul (s.old * r.new) r.old s.new p d;
    }

-- where the scan has come to
pub steps-placed : (r : Rates) (k : ℕ) (s t : Position) → Placed r s → t ≡ steps r k s → Placed r t
steps-placed r k s t h e =
    record { new_most = h.new_most; old_most = h.old_most; order = subst (PositionInOrder r) (sym e) (steps-order r k s h.order) }

-- a ratio is below N
pub ratio-lt : (r : Rates) (p m n : ℕ) → p * r.new ≤ m * r.old → m ≤ n → n * r.old < (p + 1) * r.new → (p + 1) * r.new - n * r.old - 1 < r.new
ratio-lt r p m n h k l = omega (arith, mul-le-mul_right r.old k)
