-- The bit pattern of the `f32` that `round` gives. Sections: how many digits a number has; `round` once the number of dropped digits is known;
-- the pattern of q * 2 ^ k units of 2 ^ -149, by the size of q. Assumes nothing.
use Rattle.std.proofs.Common.{◌≡◌, ℕ, suc, ◌+◌, ◌-◌, ◌*◌, ◌/◌, ◌^◌, ◌<◌, ◌≤◌, Bool, cond, ltb, refl, ap, ◌∙◌, inl, inr, le_trans, le_of_eq, lt_of_lt_of_le, mul-le-mul_right, le_antisymm, eq-or-lt_of_le, mul-pos, lt_of_not-le, zero-add, mul-one, not-le_of_lt, div-one, mul-div_cancel, arith, lit≤, ltb→lt, pow_pos, pow_mono, pow-add, shl_lt}
use lib.Dec.{not_T}
use lib.Pow.{pow-lt, shl-shr}
use lib.Ieee.{Float, nan, inf, fin, binary32, up, down, size, odd, units, round, to_bits}
use lib.Ieee.Digits.{size-lt, size-le}
use lib.Ieee.Fits.{round_is, down_pos}
use lib.Ieee.Bits.{cond_no}
use lib.Ieee.Exact.{HasValue, units_val}
use lib.Ieee.Nearest.{closest, closest_same}
use lib.Ieee.Order.{drop}

-- ---- how many digits a number has
pub size_exact : (n a : ℕ) → 2 ^ a ≤ n → n < 2 ^ suc a → size n ≡ suc a
size_exact n a h k =
    let more : a < size n = lt_of_not-le (λ (g : size n ≤ a). not-le_of_lt (lt_of_lt_of_le (size-lt n) (pow_mono g)) h) in
    le_antisymm (size-le n (suc a) k) more

-- ---- `round` once the number of dropped digits is known: a / c is d / 2 ^ w times 2 ^ k units
pub rounded : (s : Bool) (a c k d w : ℕ) → 0 < c → drop 24 (a * 2 ^ 149) c ≡ k → a * 2 ^ 149 * 2 ^ w ≡ d * (c * 2 ^ k)
    → round binary32 s a c ≡ units binary32 s (closest d (2 ^ w)) k
rounded s a c k d w C e h =
    round_is binary32 s a c
    ∙ ap (λ (z : ℕ). units binary32 s (closest (a * 2 ^ 149) (c * 2 ^ z)) z) e
    ∙ ap (λ (z : ℕ). units binary32 s z k) (closest_same (a * 2 ^ 149) (c * 2 ^ k) d (2 ^ w) (mul-pos C (pow_pos k)) (pow_pos w) h)

-- ---- the pattern of q * 2 ^ k units
-- the sign's weight
abbrev pub mark : Bool → ℕ
mark s = cond s (2 ^ 31) 0

-- n units with the sign s, k digits of which are dropped
pattern : Bool → ℕ → ℕ → ℕ
pattern s n k = mark s + k * 2 ^ 23 + n / 2 ^ k

to_bits_val : (x : Float) (s : Bool) (n : ℕ) → HasValue x s n (2 ^ 149) → to_bits binary32 x ≡ pattern s n (size n - 24)
unfolding to_bits pattern
to_bits_val nan s n h = absurd h
to_bits_val (inf t) s n h = absurd h
to_bits_val (fin t m e) s n h =
    let is : m * up e * 2 ^ 149 / down e ≡ n = ap (λ (z : ℕ). z / down e) h.1 ∙ mul-div_cancel n (down_pos e) in
    λ i. pattern (h.0 i) (is i) (size (is i) - 24)

-- by the number of digits that are dropped
units-bits : (s : Bool) (q j k r : ℕ) → q * 2 ^ j < 2 ^ 277 → size (q * 2 ^ j) - 24 ≡ k → q * 2 ^ j / 2 ^ k ≡ r
    → to_bits binary32 (units binary32 s q j) ≡ mark s + (k * 2 ^ 23 + r)
unfolding pattern
units-bits s q j k r fine e d =
    let is : pattern s (q * 2 ^ j) k ≡ mark s + (k * 2 ^ 23 + r) = omega arith in
    to_bits_val (units binary32 s q j) s (q * 2 ^ j) (units_val binary32 s q j fine) ∙ ap (pattern s (q * 2 ^ j)) e ∙ is

-- none is dropped
pub low_bits : (s : Bool) (q : ℕ) → q < 2 ^ 24 → to_bits binary32 (units binary32 s q 0) ≡ mark s + q
low_bits s q h =
    let small : q * 2 ^ 0 < 2 ^ 24 = rw (mul-one q) h in
    let none : size (q * 2 ^ 0) - 24 ≡ 0 = omega (arith, size-le (q * 2 ^ 0) 24 small) in
    rw (zero-add q) at (units-bits s q 0 0 q (lt_of_lt_of_le small (lit≤ tt)) none (div-one (q * 1) ∙ mul-one q))

pub to_bits_inf : (s : Bool) → to_bits binary32 (inf s) ≡ mark s + 0x7f80_0000
unfolding to_bits
to_bits_inf s = refl

pub past : (s : Bool) (q k : ℕ) → 2 ^ 277 ≤ q * 2 ^ k → units binary32 s q k ≡ inf s
unfolding units
past s q k h =
    let w = ltb (q * 2 ^ k) (2 ^ 277) in
    cond_no w (odd 25 s q k 149) (inf s) (not_T w (λ t. not-le_of_lt (ltb→lt (q * 2 ^ k) (2 ^ 277) t) h))

-- all 24 digits are in use
part : (s : Bool) (q k : ℕ) → 2 ^ 23 ≤ q → q < 2 ^ 24 → k ≤ 253 → to_bits binary32 (units binary32 s q k) ≡ mark s + (k * 2 ^ 23 + q)
part s q k lo hi K =
    let n = q * 2 ^ k in
    let top : n < 2 ^ (24 + k) = shl_lt 24 k hi in
    let fine : n < 2 ^ 277 = lt_of_lt_of_le top (pow_mono {i = 24 + k} {j = 277} (omega arith)) in
    let same : 24 + k ≡ suc (23 + k) = omega arith in
    let digits = size_exact n (23 + k) (le_trans (le_of_eq (pow-add 2 23 k)) (mul-le-mul_right (2 ^ k) lo)) (rw same at top) in
    units-bits s q k k q fine (omega (arith, digits)) (shl-shr q k)

-- a 25th digit came up
full : (s : Bool) (k : ℕ) → k < 253 → to_bits binary32 (units binary32 s (2 ^ 24) k) ≡ mark s + (k * 2 ^ 23 + 2 ^ 24)
full s k K =
    let n = 2 ^ 24 * 2 ^ k in
    let is : 2 ^ (24 + k) ≡ n = pow-add 2 24 k in
    let fine : n < 2 ^ 277 = rw is at (pow-lt {i = 24 + k} {j = 277} (omega arith)) in
    let over : n < 2 ^ suc (24 + k) = rw is at (pow-lt {i = 24 + k} {j = suc (24 + k)} (omega arith)) in
    let digits = size_exact n (24 + k) (le_of_eq is) over in
    let same : 24 + k ≡ 23 + suc k = omega arith in
    let half : n / 2 ^ suc k ≡ 2 ^ 23 = rw (← is, same, pow-add 2 23 (suc k)) (shl-shr (2 ^ 23) (suc k)) in
    units-bits s (2 ^ 24) k (suc k) (2 ^ 23) fine (omega (arith, digits)) half ∙ ap (λ (z : ℕ). mark s + z) (omega arith)

pub mid-bits : (s : Bool) (q k : ℕ) → 2 ^ 23 ≤ q → q ≤ 2 ^ 24 → k ≤ 253 → to_bits binary32 (units binary32 s q k) ≡ mark s + (k * 2 ^ 23 + q)
mid-bits s q k lo hi K = elim (eq-or-lt_of_le hi) [
  | inl e ↦ rw e (elim (eq-or-lt_of_le K) [
    | inl f ↦ rw f (ap (to_bits binary32) (past s (2 ^ 24) 253 (lit≤ tt)) ∙ to_bits_inf s)
    | inr f ↦ full s k f
  ])
  | inr l ↦ part s q k lo l K
]
