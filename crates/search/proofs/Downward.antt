-- The best candidate of a range with one period less at its lower end: the new period is the smaller one, so that the other choice says where a tie
-- goes. Assumes nothing.
use mathlib.Core.Path.{◌≡◌, refl, sym, ap, ◌∙◌, subst}
use mathlib.Core.Bool.{Bool, true, false, cond}
use mathlib.Core.List.{List}
use mathlib.Core.Logic.{◌⊎◌, inl, inr, ⊎_elim}
use Prim.Native.Nat.{ℕ, ◌+◌, ◌*◌, ◌≤◌, ◌<◌}
use native.Mathlib.Nat.{le_refl}
use native.Mathlib.Omega.{arith}
use borrow.Author.Tests.{ltb-true, leb-true, leb-false}
use lib.Dec.{leb}
use lib.IntN.{ℤ}
use Rattle.search.specs.declared.Ties.{Ties}
use Rattle.search.specs.declared.Ties.TheVariants.{Smallest, Largest}
use Rattle.search.specs.declared.Candidate.{Candidate}
use Rattle.search.specs.Ties.{other}
use Rattle.search.specs.Search.{D, candidate, better, lesser, best}
use Rattle.search.proofs.Extremes.{through, through-strict, Preferred, better-le, not-better-le, Best, among-new, best-is, best-only}

-- q is the new period, or one seen before
lowest-or-seen : (low q : ℕ) → low ≤ q → (low ≡ q) ⊎ (low + 1 ≤ q)
lowest-or-seen low q h = go (leb (low + 1) q) refl
  where
    go : (t : Bool) → leb (low + 1) q ≡ t → (low ≡ q) ⊎ (low + 1 ≤ q)
    go true e = inr (leb-true (low + 1) q e)
    go false e = inl (omega (arith, leb-false (low + 1) q e))

module _ (x : List ℤ) (low high : ℕ) (old : Candidate) (some : 1 ≤ low) where
  extend-below : (P : ℕ → Type 0) → P low → ((q : ℕ) → low + 1 ≤ q → q ≤ high → P q) → (q : ℕ) → low ≤ q → q ≤ high → P q
  extend-below P new seen q a z = ⊎_elim (λ e. subst P e new) (λ s. seen q s z) (lowest-or-seen low q a)

  first-lowest : (ties : Ties) → better (other ties) old (candidate x low) ≡ true → Best ties x (low + 1) high old
      → (q : ℕ) → Preferred ties low high low q → D x low * q < D x q * low
  unfolding better
  first-lowest Smallest e b q r = absurd (omega (arith, r.0, r.1))
  first-lowest Largest e b q r =
      let h : D x low * old.period < old.diff * low = ltb-true (D x low * old.period) (old.diff * low) e in
      let d : 0 < old.period = omega (arith, b.among.low_le) in
      through-strict (D x low) low old.diff old.period (D x q) q d (omega (arith, r.0)) h (b.least q (omega (arith, r.0)) r.1)

  first-kept : (ties : Ties) → better (other ties) old (candidate x low) ≡ false → Best ties x (low + 1) high old
      → (q : ℕ) → Preferred ties low high old.period q → old.diff * q < D x q * old.period
  unfolding better
  first-kept Smallest e b q r =
      let h : old.diff * low < D x low * old.period = leb-false (D x low * old.period) (old.diff * low) e in
      ⊎_elim (λ (s : low ≡ q). subst (λ (m : ℕ). old.diff * m < D x m * old.period) s h) (λ a. b.first q (a, r.1)) (lowest-or-seen low q r.0)
  first-kept Largest e b q r = b.first q r

  lowest-cases : (ties : Ties) (t : Bool) → low ≤ high → better (other ties) old (candidate x low) ≡ t → Best ties x (low + 1) high old
      → Best ties x low high (cond t (candidate x low) old)
  lowest-cases ties true order e b =
      let d : 0 < old.period = omega (arith, b.among.low_le) in
      record {
        among = among-new x (le_refl low) order;
        least = extend-below (λ q. D x low * q ≤ D x q * low) (le_refl (D x low * low))
            (λ q a z. through (D x low) low old.diff old.period (D x q) q d (better-le (other ties) old (candidate x low) e) (b.least q a z));
        first = first-lowest ties e b;
      }
  lowest-cases ties false order e b =
      record {
        among = record { sum = b.among.sum; low_le = omega (arith, b.among.low_le); le_high = b.among.le_high };
        least = extend-below (λ q. old.diff * q ≤ D x q * old.period) (not-better-le (other ties) old (candidate x low) e) b.least;
        first = first-kept ties e b;
      }

-- the best of p..=high, and the period below p
pub best-less : (ties : Ties) (x : List ℤ) {low p high : ℕ} {old new : Candidate} → 1 ≤ low → low + 1 ≡ p → p ≤ high → old ≡ best ties x p high
    → new ≡ lesser (other ties) old (candidate x low) → new ≡ best ties x low high
best-less ties x {low} {p} {high} {old} {new} some next order held picked =
    let c : Candidate = best ties x (low + 1) high in
    let b : Best ties x low high (lesser (other ties) c (candidate x low)) =
    lowest-cases x low high c some ties (better (other ties) c (candidate x low)) (omega arith) refl (best-is x (omega arith) (omega arith) ties) in
    let e : old ≡ c = held ∙ ap (λ (n : ℕ). best ties x n high) (sym next) in
    picked ∙ ap (λ (o : Candidate). lesser (other ties) o (candidate x low)) e ∙ best-only b (best-is x some (omega arith) ties)
