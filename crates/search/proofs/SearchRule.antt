-- The rule of the search, over every period of the range: the period found has the least D(q)/q and is by choice the smallest or the largest of
-- those that have it; the means are the whole parts of the least and of the greatest D(q)/q; the sum is D of the period found; and the rule leaves
-- one answer. D(p)/p ≤ D(q)/q is said as D(p)·q ≤ D(q)·p. Sections: whole parts, the rule, one answer. Assumes nothing.
use mathlib.Core.Path.{◌≡◌, refl, sym, ap, ◌∙◌, subst}
use mathlib.Core.List.{List}
use Prim.Native.Nat.{ℕ, ◌*◌, ◌/◌, ◌≤◌, ◌<◌}
use native.Mathlib.Nat.{le_antisymm, le-div_iff_mul-le, div-mul-le_self}
use native.Mathlib.Nat.{mul_right_comm, mul-le-mul_right, le_of_mul-le-mul_right}
use native.Mathlib.Omega.{arith}
use lib.IntN.{ℤ}
use Rattle.search.specs.declared.Ties.{Ties}
use Rattle.search.specs.declared.Found.{Found}
use Rattle.search.specs.declared.Candidate.{Candidate}
use Rattle.search.specs.Search.{D, candidate, best, worst, find_pitch_period_in_range}
use Rattle.search.proofs.Extremes.{Preferred, Best, Worst, best-is, worst-is, least-of, first_of, best-only}

-- ---- whole parts: a/b ≤ c/d gives the same of them
whole_le : (a b c d : ℕ) → 0 < b → 0 < d → a * d ≤ c * b → a / b ≤ c / d
whole_le a b c d p q h =
    let l : a / b * b * d ≤ a * d = mul-le-mul_right d (div-mul-le_self a b) in
    (le-div_iff_mul-le q).1 (le_of_mul-le-mul_right (omega (arith, mul_right_comm (a / b) b d)) p)

-- ---- the rule
pub record SearchRule (ties : Ties) (x : List ℤ) (low high : ℕ) (f : Found) : Type 0 where
  pub in_range : (low ≤ f.period) × (f.period ≤ high)
  pub least : (q : ℕ) → low ≤ q → q ≤ high → D x f.period * q ≤ D x q * f.period
  -- 'smallest' or 'largest', by the choice
  pub first : (q : ℕ) → Preferred ties low high f.period q → D x f.period * q < D x q * f.period
  pub min_diff_is : f.min_diff ≡ D x f.period / f.period
  pub worst_period : ℕ
  pub worst_in : (low ≤ worst_period) × (worst_period ≤ high)
  pub greatest : (q : ℕ) → low ≤ q → q ≤ high → D x q * worst_period ≤ D x worst_period * q
  pub max_diff_is : f.max_diff ≡ D x worst_period / worst_period
  pub sum_is : f.sum ≡ D x f.period

pub search-rule : (ties : Ties) (x : List ℤ) (low high : ℕ) → 1 ≤ low → low ≤ high
    → SearchRule ties x low high (find_pitch_period_in_range ties x low high)
unfolding find_pitch_period_in_range
search-rule ties x low high some order =
    let b : Best ties x low high (best ties x low high) = best-is x some order ties in
    let w : Worst x low high (worst x low high) = worst-is x some order in
    record {
      in_range = (b.among.low_le, b.among.le_high);
      least = least-of b;
      first = first_of b;
      min_diff_is = ap (λ (d : ℕ). d / (best ties x low high).period) b.among.sum;
      worst_period = (worst x low high).period;
      worst_in = (w.among.low_le, w.among.le_high);
      greatest = λ q a z. subst (λ (d : ℕ). D x q * (worst x low high).period ≤ d * q) w.among.sum (w.greatest q a z);
      max_diff_is = ap (λ (d : ℕ). d / (worst x low high).period) w.among.sum;
      sum_is = b.among.sum;
    }

-- ---- one answer
module _ {ties : Ties} {x : List ℤ} {low high : ℕ} where
  -- the period found is that of the best candidate
  rule-best : {f : Found} → SearchRule ties x low high f → Best ties x low high (candidate x f.period)
  rule-best r = record { among = record { sum = refl; low_le = r.in_range.0; le_high = r.in_range.1 }; least = r.least; first = r.first }

  max-diff-le : {f g : Found} → 1 ≤ low → SearchRule ties x low high f → SearchRule ties x low high g → f.max_diff ≤ g.max_diff
  max-diff-le some r s =
      let v = r.worst_period in
      let w = s.worst_period in
      let h : D x v / v ≤ D x w / w =
      whole_le (D x v) v (D x w) w (omega (arith, r.worst_in.0)) (omega (arith, s.worst_in.0)) (s.greatest v r.worst_in.0 r.worst_in.1) in
      omega (arith, r.max_diff_is, s.max_diff_is)

pub search-rule-only : {ties : Ties} {x : List ℤ} {low high : ℕ} {f g : Found} → 1 ≤ low → SearchRule ties x low high f
    → SearchRule ties x low high g → f ≡ g
search-rule-only {ties} {x} {low} {high} {f} {g} some r s =
    let p : f.period ≡ g.period = ap (λ (c : Candidate). c.period) (best-only (rule-best r) (rule-best s)) in
    let m : f.min_diff ≡ g.min_diff = r.min_diff_is ∙ ap (λ (q : ℕ). D x q / q) p ∙ sym s.min_diff_is in
    let n : f.max_diff ≡ g.max_diff = le_antisymm (max-diff-le some r s) (max-diff-le some s r) in
    let d : f.sum ≡ g.sum = r.sum_is ∙ ap (D x) p ∙ sym s.sum_is in
    λ i. record { period = p i; min_diff = m i; max_diff = n i; sum = d i }
