-- The candidates of a range with the least and with the greatest D(q)/q, said of every period of the range: D(p)/p ≤ D(q)/q as D(p)·q ≤ D(q)·p.
-- Sections: fractions, the choice, candidates of a range, one period more, one candidate. Assumes nothing.
use mathlib.Core.Path.{◌≡◌, refl, sym, ap, ◌∙◌, subst}
use mathlib.Core.Bool.{Bool, true, false, cond}
use mathlib.Core.List.{List}
use mathlib.Core.Logic.{◌⊎◌, inl, inr, ⊎_elim}
use Prim.Native.Nat.{ℕ, zero, suc, ◌+◌, ◌-◌, ◌*◌, ◌≤◌, ◌<◌}
use native.Mathlib.Nat.{le_refl, le_trans, le_of_lt, le_antisymm}
use native.Mathlib.Nat.{mul_right_comm, mul-le-mul_right, mul-lt-mul_of_pos_right, le_of_mul-le-mul_right, lt_of_mul-lt-mul_right}
use native.Mathlib.Omega.{arith}
use borrow.Author.Tests.{ltb-true, ltb-false, leb-true, leb-false}
use lib.Dec.{ltb, leb}
use lib.IntN.{ℤ}
use Rattle.search.specs.declared.Ties.{Ties}
use Rattle.search.specs.declared.Ties.TheVariants.{Smallest, Largest}
use Rattle.search.specs.declared.Candidate.{Candidate}
use Rattle.search.specs.Search.{D, candidate, better, lesser, greater, sweep, best, worst}

-- ---- fractions: a/b ≤ c/d and c/d ≤ e/f give a/b ≤ e/f
pub through : (a b c d e f : ℕ) → 0 < d → a * d ≤ c * b → c * f ≤ e * d → a * f ≤ e * b
through a b c d e f p h k =
    let l : a * d * f ≤ c * b * f = mul-le-mul_right f h in
    let m : c * f * b ≤ e * d * b = mul-le-mul_right b k in
    le_of_mul-le-mul_right (omega (arith, mul_right_comm a f d, mul_right_comm c b f, mul_right_comm e b d)) p

pub through-strict : (a b c d e f : ℕ) → 0 < d → 0 < f → a * d < c * b → c * f ≤ e * d → a * f < e * b
through-strict a b c d e f p q h k =
    let l : a * d * f < c * b * f = mul-lt-mul_of_pos_right h q in
    let m : c * f * b ≤ e * d * b = mul-le-mul_right b k in
    lt_of_mul-lt-mul_right d (omega (arith, mul_right_comm a f d, mul_right_comm c b f, mul_right_comm e b d))

-- ---- the choice
-- q is a period of low..=high that the choice takes before p where their means are the same
abbrev pub Preferred : Ties → ℕ → ℕ → ℕ → ℕ → Type 0
Preferred Smallest low high p q = (low ≤ q) × (q < p)
Preferred Largest low high p q = (p < q) × (q ≤ high)

-- of two periods it takes one before the other
prefers : (ties : Ties) {low high p q : ℕ} → low ≤ q → q < p → p ≤ high → Preferred ties low high p q ⊎ Preferred ties low high q p
prefers Smallest a l z = inl (a, l)
prefers Largest a l z = inr (l, z)

-- the tests of `better` are exact, or end at a tie
pub better-le : (ties : Ties) (old new : Candidate) → better ties old new ≡ true → new.diff * old.period ≤ old.diff * new.period
unfolding better
better-le Smallest old new e = le_of_lt (ltb-true (new.diff * old.period) (old.diff * new.period) e)
better-le Largest old new e = leb-true (new.diff * old.period) (old.diff * new.period) e

pub not-better-le : (ties : Ties) (old new : Candidate) → better ties old new ≡ false → old.diff * new.period ≤ new.diff * old.period
unfolding better
not-better-le Smallest old new e = ltb-false (new.diff * old.period) (old.diff * new.period) e
not-better-le Largest old new e = le_of_lt (leb-false (new.diff * old.period) (old.diff * new.period) e)

-- ---- candidates of a range
-- one of low..=high
pub record Among (x : List ℤ) (low high : ℕ) (c : Candidate) : Type 0 where
  pub sum : c.diff ≡ D x c.period
  pub low_le : low ≤ c.period
  pub le_high : c.period ≤ high

-- with the least D(q)/q, which no preferred period has; with the greatest
pub record Best (ties : Ties) (x : List ℤ) (low high : ℕ) (c : Candidate) : Type 0 where
  pub among : Among x low high c
  pub least : (q : ℕ) → low ≤ q → q ≤ high → c.diff * q ≤ D x q * c.period
  pub first : (q : ℕ) → Preferred ties low high c.period q → c.diff * q < D x q * c.period

pub record Worst (x : List ℤ) (low high : ℕ) (c : Candidate) : Type 0 where
  pub among : Among x low high c
  pub greatest : (q : ℕ) → low ≤ q → q ≤ high → D x q * c.period ≤ c.diff * q

pub among-new : (x : List ℤ) {low high q : ℕ} → low ≤ q → q ≤ high → Among x low high (candidate x q)
among-new x a z = record { sum = refl; low_le = a; le_high = z }

among-more : {x : List ℤ} {low high more : ℕ} {c : Candidate} → high ≤ more → Among x low high c → Among x low more c
among-more h a = record { sum = a.sum; low_le = a.low_le; le_high = le_trans a.le_high h }

-- ---- one period more
-- q is the new period, or one seen before
new-or-seen : (low n q : ℕ) → q ≤ low + suc n → (low + suc n ≡ q) ⊎ (q ≤ low + n)
new-or-seen low n q h = go (leb q (low + n)) refl
  where
    go : (t : Bool) → leb q (low + n) ≡ t → (low + suc n ≡ q) ⊎ (q ≤ low + n)
    go true e = inr (leb-true q (low + n) e)
    go false e = inl (omega (arith, leb-false q (low + n) e))

-- what holds of the new period and of those seen holds of all
extend : (P : ℕ → Type 0) (low n : ℕ) → P (low + suc n) → ((q : ℕ) → low ≤ q → q ≤ low + n → P q) → (q : ℕ) → low ≤ q → q ≤ low + suc n → P q
extend P low n new seen q a z = ⊎_elim (λ e. subst P e new) (seen q a) (new-or-seen low n q z)

module _ (x : List ℤ) (low n : ℕ) (old : Candidate) (some : 1 ≤ low) where
  abbrev p : ℕ
  p = low + suc n

  first-new : (ties : Ties) → better ties old (candidate x p) ≡ true → Best ties x low (low + n) old
      → (q : ℕ) → Preferred ties low p p q → D x p * q < D x q * p
  unfolding better
  first-new Smallest e b q r =
      let h : D x p * old.period < old.diff * p = ltb-true (D x p * old.period) (old.diff * p) e in
      let d : 0 < old.period = omega (arith, b.among.low_le) in
      through-strict (D x p) p old.diff old.period (D x q) q d (omega (arith, r.0)) h (b.least q r.0 (omega (arith, r.1)))
  first-new Largest e b q r = absurd (omega (arith, r.0, r.1))

  first-old : (ties : Ties) → better ties old (candidate x p) ≡ false → Best ties x low (low + n) old
      → (q : ℕ) → Preferred ties low p old.period q → old.diff * q < D x q * old.period
  unfolding better
  first-old Smallest e b q r = b.first q r
  first-old Largest e b q r =
      let h : old.diff * p < D x p * old.period = leb-false (D x p * old.period) (old.diff * p) e in
      ⊎_elim (λ (s : p ≡ q). subst (λ (m : ℕ). old.diff * m < D x m * old.period) s h) (λ z. b.first q (r.0, z)) (new-or-seen low n q r.1)

  best-cases : (ties : Ties) (t : Bool) → better ties old (candidate x p) ≡ t → Best ties x low (low + n) old
      → Best ties x low p (cond t (candidate x p) old)
  best-cases ties true e b =
      let d : 0 < old.period = omega (arith, b.among.low_le) in
      record {
        among = among-new x (omega arith) (le_refl p);
        least = extend (λ q. D x p * q ≤ D x q * p) low n (le_refl (D x p * p))
            (λ q a z. through (D x p) p old.diff old.period (D x q) q d (better-le ties old (candidate x p) e) (b.least q a z));
        first = first-new ties e b;
      }
  best-cases ties false e b =
      record {
        among = among-more (omega arith) b.among;
        least = extend (λ q. old.diff * q ≤ D x q * old.period) low n (not-better-le ties old (candidate x p) e) b.least;
        first = first-old ties e b;
      }

  worst-cases : (t : Bool) → ltb (old.diff * p) (D x p * old.period) ≡ t → Worst x low (low + n) old → Worst x low p (cond t (candidate x p) old)
  worst-cases true e w =
      let h : old.diff * p < D x p * old.period = ltb-true (old.diff * p) (D x p * old.period) e in
      record {
        among = among-new x (omega arith) (le_refl p);
        greatest = extend (λ q. D x q * p ≤ D x p * q) low n (le_refl (D x p * p))
            (λ q a z. through (D x q) q old.diff old.period (D x p) p (omega (arith, w.among.low_le)) (w.greatest q a z) (le_of_lt h));
      }
  worst-cases false e w =
      let h : D x p * old.period ≤ old.diff * p = ltb-false (old.diff * p) (D x p * old.period) e in
      record {
        among = among-more (omega arith) w.among;
        greatest = extend (λ q. D x q * old.period ≤ old.diff * q) low n h w.greatest;
      }

module _ (x : List ℤ) (low : ℕ) (some : 1 ≤ low) where
  none_first : (ties : Ties) (q : ℕ) → Preferred ties low (low + 0) low q → D x low * q < D x q * low
  none_first Smallest q r = absurd (omega (arith, r.0, r.1))
  none_first Largest q r = absurd (omega (arith, r.0, r.1))

  best_of : (ties : Ties) (n : ℕ) → Best ties x low (low + n) (sweep (lesser ties) x low n)
  unfolding sweep
  best_of ties zero =
      record {
        among = among-new x (le_refl low) (omega arith);
        least = λ q a z. subst (λ (m : ℕ). D x low * m ≤ D x m * low) (omega arith) (le_refl (D x low * low));
        first = none_first ties;
      }
  best_of ties (suc n) =
      let old = sweep (lesser ties) x low n in
      best-cases x low n old some ties (better ties old (candidate x (low + suc n))) refl (best_of ties n)

  worst-of : (n : ℕ) → Worst x low (low + n) (sweep greater x low n)
  unfolding sweep greater
  worst-of zero =
      record {
        among = among-new x (le_refl low) (omega arith);
        greatest = λ q a z. subst (λ (m : ℕ). D x m * low ≤ D x low * m) (omega arith) (le_refl (D x low * low));
      }
  worst-of (suc n) =
      let old = sweep greater x low n in
      worst-cases x low n old some (ltb (old.diff * (low + suc n)) (D x (low + suc n) * old.period)) refl (worst-of n)

-- those that the sweeps find
module _ (x : List ℤ) {low high : ℕ} (some : 1 ≤ low) (order : low ≤ high) where
  whole : low + (high - low) ≡ high
  whole = omega arith

  pub best-is : (ties : Ties) → Best ties x low high (best ties x low high)
  best-is ties = subst (λ (n : ℕ). Best ties x low n (best ties x low high)) whole (best_of x low some ties (high - low))

  pub worst-is : Worst x low high (worst x low high)
  worst-is = subst (λ (n : ℕ). Worst x low n (worst x low high)) whole (worst-of x low some (high - low))

-- ---- one candidate
module _ {ties : Ties} {x : List ℤ} {low high : ℕ} where
  -- with the sum as D of the period
  pub least-of : {c : Candidate} → Best ties x low high c → (q : ℕ) → low ≤ q → q ≤ high → D x c.period * q ≤ D x q * c.period
  least-of {c} b q a z = subst (λ (d : ℕ). d * q ≤ D x q * c.period) b.among.sum (b.least q a z)

  pub first_of : {c : Candidate} → Best ties x low high c → (q : ℕ) → Preferred ties low high c.period q → D x c.period * q < D x q * c.period
  first_of {c} b q r = subst (λ (d : ℕ). d * q < D x q * c.period) b.among.sum (b.first q r)

  not-preferred : {c d : Candidate} → Best ties x low high c → Best ties x low high d → Preferred ties low high c.period d.period → ⊥
  not-preferred {c} {d} b e p = omega (arith, first_of b d.period p, least-of e c.period b.among.low_le b.among.le_high)

-- the one period is not smaller than the other
period-le : {ties : Ties} {x : List ℤ} {low high : ℕ} {c d : Candidate} → Best ties x low high c → Best ties x low high d → c.period ≤ d.period
period-le {ties} {x} {low} {high} {c} {d} b e = go (leb c.period d.period) refl
  where
    go : (t : Bool) → leb c.period d.period ≡ t → c.period ≤ d.period
    go true s = leb-true c.period d.period s
    go false s =
        let h : d.period < c.period = leb-false c.period d.period s in
        absurd (⊎_elim (not-preferred b e) (not-preferred e b) (prefers ties e.among.low_le h b.among.le_high))

pub best-only : {ties : Ties} {x : List ℤ} {low high : ℕ} {c d : Candidate} → Best ties x low high c → Best ties x low high d → c ≡ d
best-only {ties} {x} {low} {high} {c} {d} b e =
    let p : c.period ≡ d.period = le_antisymm (period-le b e) (period-le e b) in
    let s : c.diff ≡ d.diff = b.among.sum ∙ ap (D x) p ∙ sym e.among.sum in
    λ i. record { period = p i; diff = s i }
