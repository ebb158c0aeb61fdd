-- Candidates of a search. Sections: sums of differences as the loops hold them, the test of `better`, the periods of a range one by one.
-- Assumes nothing.
use mathlib.Core.Path.{◌≡◌, ap, ◌∙◌}
use mathlib.Core.Bool.{true, false}
use mathlib.Core.List.{List}
use Prim.Native.Nat.{ℕ, zero, suc, ◌+◌, ◌-◌, ◌*◌, ◌≤◌, ◌<◌}
use native.Mathlib.Nat.{le_trans, mul-le-mul_right}
use native.Mathlib.Omega.{arith}
use borrow.Author.Tests.{lt-ltb, le-ltb, le-leb, lt-leb}
use lib.IntN.{ℤ, pos, nat_abs, ◌-ℤ◌}
use lib.ListN.{get_or}
use Rattle.search.specs.declared.Ties.{Ties}
use Rattle.search.specs.declared.Ties.TheVariants.{Smallest, Largest}
use Rattle.search.specs.declared.Candidate.{Candidate}
use Rattle.search.specs.Ties.{ties_number}
use Rattle.search.specs.Search.{diffs, candidate, better, sweep, widest_gap}

-- ---- s is the sum of n differences of period q, from difference `from` on
pub record Sum (x : List ℤ) (q from n s : ℕ) : Type 0 where
  pub is : diffs x q from + s ≡ diffs x q (from + n)
  pub each : s ≤ widest_gap * n

-- g is difference k
pub sum_more : {x : List ℤ} {q from n s k g : ℕ} → Sum x q from n s → from + n ≡ k → g ≡ nat_abs (get_or x k (pos 0) -ℤ get_or x (k + q) (pos 0))
    → g ≤ widest_gap → Sum x q from (n + 1) (s + g)
unfolding diffs
sum_more {x} {q} {from} {n} sum next is few =
    let f : from + (n + 1) ≡ suc (from + n) = omega arith in
    record { is = rw (f, next) (omega (arith, sum.is, is, ap (diffs x q) next)); each = omega (arith, sum.each) }

pub sum-at : {x : List ℤ} {q from n m s : ℕ} → n ≡ m → Sum x q from n s → Sum x q from m s
sum-at {x} {q} {from} e sum = record { is = sum.is ∙ ap (λ (k : ℕ). diffs x q (from + k)) e; each = omega (arith, sum.each) }

-- a sum and the one that goes on from it
pub sum-join : {x : List ℤ} {q from n k m s r : ℕ} → Sum x q from n s → Sum x q k m r → from + n ≡ k → Sum x q from (n + m) (s + r)
sum-join {x} {q} {from} {n} {k} {m} a b next =
    let f : from + (n + m) ≡ k + m = omega arith in
    record { is = rw f (omega (arith, a.is, b.is, ap (diffs x q) next)); each = omega (arith, a.each, b.each) }

-- a sum from the first difference on
sum_first : {x : List ℤ} {q n s : ℕ} → Sum x q 0 n s → s ≡ diffs x q n
unfolding diffs
sum_first {x} {q} {n} sum = let z : 0 + n ≡ n = omega arith in omega (arith, sum.is, ap (diffs x q) z)

-- fewer differences make no greater sum
diffs-le : (x : List ℤ) (q n k : ℕ) → diffs x q n ≤ diffs x q (n + k)
unfolding diffs
diffs-le x q n zero = let z : n + 0 ≡ n = omega arith in omega (arith, ap (diffs x q) z)
diffs-le x q n (suc k) = let z : n + suc k ≡ suc (n + k) = omega arith in rw z (omega (arith, diffs-le x q n k))

-- a sum makes a candidate
abbrev pub measured : ℕ → ℕ → Candidate
measured q d = record { period = q; diff = d }

pub sum-whole : {x : List ℤ} {q s : ℕ} → Sum x q 0 q s → measured q s ≡ candidate x q
sum-whole {x} {q} sum = ap (measured q) (sum_first sum)

-- ---- the test of `better`, with one more on the right where the new candidate is to win a tie
pub better-at-tie : (ties : Ties) (old new : Candidate) {t : ℕ} → new.diff * old.period < old.diff * new.period + t → t ≡ ties_number ties
    → better ties old new ≡ true
unfolding better
better-at-tie Smallest old new l e = lt-ltb (new.diff * old.period) (old.diff * new.period) (omega arith)
better-at-tie Largest old new l e = le-leb (new.diff * old.period) (old.diff * new.period) (omega arith)

pub not-better-at-tie : (ties : Ties) (old new : Candidate) {t : ℕ} → old.diff * new.period + t ≤ new.diff * old.period → t ≡ ties_number ties
    → better ties old new ≡ false
unfolding better
not-better-at-tie Smallest old new l e = le-ltb (new.diff * old.period) (old.diff * new.period) (omega arith)
not-better-at-tie Largest old new l e = lt-leb (new.diff * old.period) (old.diff * new.period) (omega arith)

-- a part of the sum fails the test already
pub lost : {x : List ℤ} {q n s t : ℕ} (ties : Ties) (old : Candidate) → Sum x q 0 n s → n ≤ q → old.diff * q + t ≤ s * old.period → t ≡ ties_number ties
    → better ties old (candidate x q) ≡ false
lost {x} {q} {n} {s} ties old sum within l e =
    let z : n + (q - n) ≡ q = omega arith in
    let d : s ≤ diffs x q q = omega (arith, sum_first sum, diffs-le x q n (q - n), ap (diffs x q) z) in
    not-better-at-tie ties old (candidate x q) (le_trans l (mul-le-mul_right old.period d)) e

-- ---- the first period, and one more: what a search holds after them
pub sweep-first : (pick : Candidate → Candidate → Candidate) (x : List ℤ) (low : ℕ) {q : ℕ} → low ≡ q → candidate x low ≡ sweep pick x low (q - low)
unfolding sweep
sweep-first pick x low {q} e = let none : q - low ≡ 0 = omega arith in rw none

pub sweep-one : (pick : Candidate → Candidate → Candidate) (x : List ℤ) (low : ℕ) {p q : ℕ} {old new last : Candidate} → low ≤ p → p + 1 ≡ q
    → old ≡ sweep pick x low (p - low) → last ≡ candidate x q → new ≡ pick old last → new ≡ sweep pick x low (q - low)
unfolding sweep
sweep-one pick x low {p} {q} order e held l n =
    let f : q - low ≡ suc (p - low) = omega arith in
    let g : low + suc (p - low) ≡ q = omega arith in
    n ∙ rw (f, g) (λ i. pick (held i) (l i))
