-- Cycles and phases: Euclid's steps to a common divisor of N and O, and the ratio of a frame by its phase. Assumes nothing.
use mathlib.Core.Path.{◌≡◌, sym, ap, ◌∙◌, subst}
use Prim.Native.Nat.{ℕ, ◌+◌, ◌-◌, ◌*◌, ◌/◌, ◌%◌, ◌≤◌, ◌<◌, ◌∣◌}
use native.Mathlib.Nat.{
  dvd_refl,
  dvd-zero,
  dvd-mod_iff,
  mul-div_cancel',
  div-le_of_le-mul,
  mod-lt,
  mul-add,
  mul-le-mul_right,
  le_of_mul-le-mul_left,
  lt_of_mul-lt-mul_left,
}
use native.Mathlib.Omega.{arith}
use Rattle.rate.specs.declared.Rates.{Rates}
use Rattle.rate.specs.declared.phases.Cycle.{Cycle}
use Rattle.rate.specs.Halving.{max_halved_rate}
use Rattle.rate.specs.Phases.{max_phases, CycleOf}

-- ---- Euclid's steps: the common divisors of a and b are divisors of N and O

pub record Euclid (N O a b : ℕ) : Type 0 where
  pub some : 0 < a + b
  pub few : N ≤ a * max_phases
  pub most : a ≤ max_halved_rate
  pub rest_most : b ≤ max_halved_rate
  pub divides : (d : ℕ) → d ∣ a → d ∣ b → (d ∣ N) × (d ∣ O)

pub euclid-start : (N O : ℕ) → N ≤ max_halved_rate → 1 ≤ O → O ≤ max_halved_rate → Euclid N O N O
euclid-start N O n p o = record { some = omega arith; few = omega arith; most = n; rest_most = o; divides = λ d x y. (x, y) }

pub euclid-turn : (N O a b : ℕ) → Euclid N O a b → 0 < b → N ≤ b * max_phases → Euclid N O b (a % b)
euclid-turn N O a b h p q = record {
  some = omega arith;
  few = q;
  most = h.rest_most;
  rest_most = omega (arith, mod-lt a p, h.rest_most);
  divides = λ d x y. h.divides d ((dvd-mod_iff d x).0 y) x;
}

-- a step that divides both
abbrev pub by : Rates → ℕ → Cycle
by r step = record { step = step; new = r.new / step; old = r.old / step }

pub euclid-end : (r : Rates) (a b : ℕ) → Euclid r.new r.old a b → b ≡ 0 → CycleOf r (by r a)
euclid-end r a b h z =
    let d = h.divides a (dvd_refl a) (subst (λ (n : ℕ). a ∣ n) (sym z) (dvd-zero a)) in
    record {
      some = omega (arith, h.some);
      new = mul-div_cancel' a d.0;
      old = mul-div_cancel' a d.1;
      few = λ _. div-le_of_le-mul a h.few;
    }

-- a step of 1 always does
pub by_one : (r : Rates) → CycleOf r (by r 1)
by_one r = record { some = omega arith; new = omega arith; old = omega arith; few = λ h. absurd (omega arith) }

-- ---- the phase of the frame n at the position p: (p + 1)·new − n·old − 1

-- neither exceeds its rate
pub cycle-le : (r : Rates) (c : Cycle) → CycleOf r c → (c.new ≤ r.new) × (c.old ≤ r.old)
cycle-le r c h = (omega (arith, h.new, mul-le-mul_right c.new h.some), omega (arith, h.old, mul-le-mul_right c.old h.some))

module _ (r : Rates) (c : Cycle) (h : CycleOf r c) (p n : ℕ) (more : n * r.old < (p + 1) * r.new) where
  abbrev end : ℕ
  end = (p + 1) * c.new

  abbrev passed : ℕ
  passed = n * c.old

  end_is : c.step * end ≡ (p + 1) * r.new
  end_is = rw (sym h.new) (omega arith)

  passed_is : c.step * passed ≡ n * r.old
  passed_is = rw (sym h.old) (omega arith)

  pub phase-more : passed < end
  phase-more = lt_of_mul-lt-mul_left c.step (omega (arith, end_is, passed_is))

  -- r + 1 = step·(phase + 1)
  pub ratio-is : c.step * (end - passed - 1 + 1) - 1 ≡ (p + 1) * r.new - n * r.old - 1
  ratio-is =
      let ahead : ℕ = end - passed in
      let whole : end - passed - 1 + 1 ≡ ahead = omega (arith, phase-more) in
      let both : end ≡ passed + ahead = omega (arith, phase-more) in
      let split : c.step * end ≡ c.step * passed + c.step * ahead = ap (λ (m : ℕ). c.step * m) both ∙ mul-add c.step passed ahead in
      ap (λ (m : ℕ). c.step * m - 1) whole ∙ omega (arith, split, end_is, passed_is)

  -- a ratio below N is at a phase of the cycle
  pub phase-lt : (p + 1) * r.new - n * r.old - 1 < r.new → end - passed - 1 < c.new
  phase-lt below =
      let reach : c.step * (end - passed - 1 + 1) ≤ c.step * c.new = omega (arith, ratio-is, h.new, below) in
      omega (arith, le_of_mul-le-mul_left reach h.some)
