-- The halving of N and O: its loop ends within 64 turns, and both end at 16,384 at most; for the rates and pitches in range at 1 at
-- least. Assumes nothing.
use mathlib.Core.Path.{◌≡◌, refl, sym, ◌∙◌, subst}
use mathlib.Core.Bool.{Bool, true, false, cond, ◌||◌}
use Prim.Native.Nat.{ℕ, zero, suc, ◌+◌, ◌*◌, ◌/◌, ◌^◌, ◌≤◌, ◌<◌}
use native.Mathlib.Nat.{div-lt_iff_lt-mul, pow-suc}
use native.Mathlib.Omega.{arith}
use mathlib.Core.Logic.{◌⊎◌, inl, inr}
use borrow.Author.Tests.{le-ltb, ltb-true, ltb-false}
use lib.Dec.{T, ltb}
use lib.Ieee.{Float, binary32, div, le}
use lib.Ieee.Casts.{to_unsigned-lt}
use Rattle.floats.specs.Numbers.{count}
use Rattle.floats.specs.Scales.{new_rate}
use Rattle.floats.specs.Settings.{min_pitch, max_pitch}
use Rattle.floats.proofs.RateBounds.{new_rate-between}
use Rattle.rate.specs.declared.Rates.{Rates}
use Rattle.rate.specs.Halving.{max_halved_rate, halved, rates_of}

-- one of the two is still too great
abbrev pub over : Rates → Bool
over r = ltb max_halved_rate r.new || ltb max_halved_rate r.old

abbrev pub half : Rates → Rates
half r = record { new = r.new / 2; old = r.old / 2 }

halved-over : (k : ℕ) (r : Rates) → over r ≡ true → halved (suc k) r ≡ halved k (half r)
unfolding halved
halved-over k r e = rw e

halved-still : (k : ℕ) (r : Rates) → r.new ≤ max_halved_rate → r.old ≤ max_halved_rate → halved k r ≡ r
unfolding halved
halved-still zero r h g = refl
halved-still (suc k) r h g = rw (le-ltb max_halved_rate r.new h, le-ltb max_halved_rate r.old g)

not-over : (r : Rates) → r.new ≤ max_halved_rate → r.old ≤ max_halved_rate → over r ≡ false
not-over r h g = rw (le-ltb max_halved_rate r.new h, le-ltb max_halved_rate r.old g)

half-below : (n k : ℕ) → n < 2 ^ suc k → n / 2 < 2 ^ k
half-below n k h = (div-lt_iff_lt-mul {k = 2} {x = n} {y = 2 ^ k} (omega arith)).1 (subst (λ (m : ℕ). n < m) (pow-suc 2 k) h)

-- ---- the loop: k turns of the 64 are left, and both are below 2 ^ k

pub record Left (first now : Rates) : Type 0 where
  pub k : ℕ
  pub same : halved 64 first ≡ halved k now
  pub new_below : now.new < 2 ^ k
  pub old_below : now.old < 2 ^ k

pub left-turn : (first r : Rates) → Left first r → over r ≡ true → Left first (half r)
left-turn first r l e = go l.k l.same l.new_below l.old_below
  where
    go : (k : ℕ) → halved 64 first ≡ halved k r → r.new < 2 ^ k → r.old < 2 ^ k → Left first (half r)
    go zero s h g =
        let z = not-over r (omega arith) (omega arith) in
        let y : ◌≡◌ {A = ℕ} 0 1 = cc in
        absurd (omega arith)
    go (suc k) s h g = record { k = k; same = s ∙ halved-over k r e; new_below = half-below r.new k h; old_below = half-below r.old k g }

pub left_end : (first r : Rates) → Left first r → r.new ≤ max_halved_rate → r.old ≤ max_halved_rate → r ≡ halved 64 first
left_end first r l h g = sym (l.same ∙ halved-still l.k r h g)

-- one turn of the definition: one of the two is too great, or none is
pub halved-suc : (P : Rates → Type 0) (k : ℕ) (r : Rates) → ((max_halved_rate < r.new) ⊎ (max_halved_rate < r.old) → P (halved k (half r)))
    → (r.new ≤ max_halved_rate → r.old ≤ max_halved_rate → P r) → P (halved (suc k) r)
unfolding halved
halved-suc P k r on off = go (ltb max_halved_rate r.new) (ltb max_halved_rate r.old) refl refl
  where
    go : (a b : Bool) → ltb max_halved_rate r.new ≡ a → ltb max_halved_rate r.old ≡ b → P (cond (a || b) (halved k (half r)) r)
    go true b e f = on (inl (ltb-true max_halved_rate r.new e))
    go false true e f = on (inr (ltb-true max_halved_rate r.old f))
    go false false e f = off (ltb-false max_halved_rate r.new e) (ltb-false max_halved_rate r.old f)

-- ---- both are 16,384 at most

abbrev Most : Rates → Type 0
Most r = (r.new ≤ max_halved_rate) × (r.old ≤ max_halved_rate)

halved-most : (k : ℕ) (r : Rates) → r.new < 2 ^ k → r.old < 2 ^ k → Most (halved k r)
unfolding halved
halved-most zero r h g = (omega arith, omega arith)
halved-most (suc k) r h g = halved-suc Most k r (λ o. halved-most k (half r) (half-below r.new k h) (half-below r.old k g)) (λ n o. (n, o))

pub rates-most : (rate : ℕ) (pitch : Float) → rate ≤ 2 ^ 24 → ((rates_of rate pitch).new ≤ max_halved_rate) × ((rates_of rate pitch).old ≤ max_halved_rate)
unfolding rates_of new_rate
rates-most rate pitch h = halved-most 64 (record { new = new_rate rate pitch; old = rate }) (to_unsigned-lt 64 (div binary32 (count rate) pitch)) (omega arith)

-- ---- both are 1 at least: neither is much above 20 times the other, and halving keeps that

record Near (r : Rates) : Type 0 where
  new_le : r.new ≤ 20 * r.old + 20
  old_le : r.old ≤ 20 * r.new + 20
  some_new : 1 ≤ r.new
  some_old : 1 ≤ r.old

half-near : (r : Rates) → Near r → (max_halved_rate < r.new) ⊎ (max_halved_rate < r.old) → Near (half r)
half-near r n o = record {
  new_le = omega (arith, n.new_le);
  old_le = omega (arith, n.old_le);
  some_new = elim o [ inl h ↦ omega arith | inr h ↦ omega (arith, n.old_le) ];
  some_old = elim o [ inl h ↦ omega (arith, n.new_le) | inr h ↦ omega arith ];
}

halved-near : (k : ℕ) (r : Rates) → Near r → Near (halved k r)
unfolding halved
halved-near zero r n = n
halved-near (suc k) r n = halved-suc Near k r (λ o. halved-near k (half r) (half-near r n o)) (λ a b. n)

-- N and O of a rate in 1,000..=500,000 and a pitch in 0.05..=20 lie in 1..=16,384
pub record RatesWithin (r : Rates) : Type 0 where
  pub new_least : 1 ≤ r.new
  pub new_most : r.new ≤ max_halved_rate
  pub old_least : 1 ≤ r.old
  pub old_most : r.old ≤ max_halved_rate

pub rates-within : (rate : ℕ) (pitch : Float) → 1000 ≤ rate → rate ≤ 500000 → T (le min_pitch pitch) → T (le pitch max_pitch) → RatesWithin (rates_of rate pitch)
unfolding rates_of
rates-within rate pitch R R' h g =
    let b = new_rate-between rate pitch R R' h g in
    let first : Rates = record { new = new_rate rate pitch; old = rate } in
    let near : Near first = record { new_le = omega (arith, b.1); old_le = omega (arith, b.0); some_new = omega (arith, b.0); some_old = omega arith } in
    let n = halved-near 64 first near in
    let m = rates-most rate pitch (omega arith) in
    record { new_least = n.some_new; new_most = m.0; old_least = n.some_old; old_most = m.1 }
