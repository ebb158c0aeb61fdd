-- The `f32` nearest to an `f64`, by the `f64`'s sign s, exponent field e and digits t. Sections: what is rounded; the scale; e below 873 (`tiny-is`),
-- below 897 (`low-is`), below 1151 (`mid-is`) and from there on (`high_is`); from a pattern to its fields. Assumes nothing.
use Rattle.std.proofs.Common.{◌≡◌, ℕ, suc, ◌+◌, ◌-◌, ◌*◌, ◌/◌, ◌%◌, ◌^◌, ◌<◌, ◌≤◌, Bool, true, false, cond, not, ◌&&◌, T, eqb, leb, ◌⊎◌, sym, refl, ap, ◌∙◌, inl, inr, zero-le, le_trans, le_of_eq, lt_of_lt_of_le, le_of_suc-le-suc, lt_of_le_of_lt, le_of_lt, mul-le-mul_right, zero-lt-suc, mul_assoc, div-lt_iff_lt-mul, le_antisymm, eq-or-lt_of_le, le-div_iff_mul-le, mul-one, arith, lit<, lit≤, eqb→eq, pow_pos, pow_mono, pow-add, shl_lt}
use lib.Dec.{not_T}
use lib.Ieee.{inf, nan, binary32, binary64, odd, units, round, of_fields, of_bits, to_bits, nan_bits}
use lib.Ieee.Digits.{size-le}
use lib.Ieee.Fits.{eq→eqb}
use lib.Ieee.Bits.{cond_no}
use lib.Ieee.Exact.{odd_sign}
use lib.Ieee.Nearest.{closest, closest_mono}
use lib.Ieee.Order.{drop}
use Rattle.floats.specs.Numbers.{narrow}
use Rattle.floats.proofs.Narrow.{narrow-val}
use Rattle.floats.proofs.NarrowBits.{size_exact, rounded, mark, low_bits, mid-bits, past, to_bits_inf}

-- the pattern of the `f32`
abbrev pub narrowed : Bool → ℕ → ℕ → ℕ
narrowed s e t = to_bits binary32 (narrow (of_fields binary64 s e t))

-- ---- what is rounded
under_ones : (s : Bool) (t j : ℕ) → suc j < 2047 → of_fields binary64 s (suc j) t ≡ odd 53 s (2 ^ 52 + t) j 1074
unfolding of_fields
under_ones s t j h =
    let ones = eqb (suc j) 2047 in
    let none : T (not ones) = not_T ones (λ (u : T ones). let e : suc j ≡ 2047 = eqb→eq (suc j) 2047 u in omega arith) in
    cond_no ones (cond (eqb t 0) (inf s) nan) (odd 53 s (2 ^ 52 + t) j 1074) none

at_zero : (s : Bool) (t : ℕ) → of_fields binary64 s 0 t ≡ odd 53 s t 0 1074
unfolding of_fields
at_zero s t = refl

at_ones : (s : Bool) → narrow (of_fields binary64 s 2047 0) ≡ inf s
unfolding of_fields narrow
at_ones s = refl

of-odd : (s : Bool) (d j : ℕ) → narrow (odd 53 s d j 1074) ≡ round binary32 s (d * 2 ^ j) (2 ^ 1074)
of-odd s d j = narrow-val (odd 53 s d j 1074) s (d * 2 ^ j) (2 ^ 1074) (pow_pos 1074) (odd_sign 53 s d j 1074)

of-normal : (s : Bool) (t j : ℕ) → suc j < 2047 → narrow (of_fields binary64 s (suc j) t) ≡ round binary32 s ((2 ^ 52 + t) * 2 ^ j) (2 ^ 1074)
of-normal s t j h = ap narrow (under_ones s t j h) ∙ of-odd s (2 ^ 52 + t) j

-- ---- the scale: d * 2 ^ j / 2 ^ 1074 in units of 2 ^ -149
shift-eq : (d j w k : ℕ) → j + 149 + w ≡ 1074 + k → d * 2 ^ j * 2 ^ 149 * 2 ^ w ≡ d * (2 ^ 1074 * 2 ^ k)
shift-eq d j w k h =
    mul_assoc (d * 2 ^ j) (2 ^ 149) (2 ^ w) ∙ mul_assoc d (2 ^ j) (2 ^ 149 * 2 ^ w)
    ∙ ap (λ (x : ℕ). d * x)
    (sym (mul_assoc (2 ^ j) (2 ^ 149) (2 ^ w))
    ∙ ap (λ (x : ℕ). x * 2 ^ w) (sym (pow-add 2 j 149))
    ∙ sym (pow-add 2 (j + 149) w)
    ∙ ap (λ (x : ℕ). 2 ^ x) h
    ∙ pow-add 2 1074 k)

under : (d j p : ℕ) → d < 2 ^ 53 → 53 + j + 149 ≤ p → d * 2 ^ j * 2 ^ 149 < 2 ^ p
under d j p h l = lt_of_lt_of_le (shl_lt (53 + j) 149 (shl_lt 53 j h)) (pow_mono l)

over : (d j : ℕ) → 2 ^ 52 ≤ d → 2 ^ (52 + j + 149) ≤ d * 2 ^ j * 2 ^ 149
over d j h =
    le_trans (le_of_eq (pow-add 2 (52 + j) 149 ∙ ap (λ (x : ℕ). x * 2 ^ 149) (pow-add 2 52 j)))
    (mul-le-mul_right (2 ^ 149) (mul-le-mul_right (2 ^ j) h))

none_dropped : (n : ℕ) → n < 2 ^ 1098 → drop 24 n (2 ^ 1074) ≡ 0
none_dropped n h =
    let less : n / 2 ^ 1074 < 2 ^ 24 = (div-lt_iff_lt-mul (pow_pos 1074)).1 (lt_of_lt_of_le h (lit≤ tt)) in
    omega (arith, size-le (n / 2 ^ 1074) 24 less)

-- the leading digit, and those behind it
pub with_lead : (t : ℕ) → t < 2 ^ 52 → 2 ^ 52 + t < 2 ^ 53
with_lead t h = omega arith

lead : (t : ℕ) → 2 ^ 52 ≤ 2 ^ 52 + t
lead t = omega arith

-- ---- e below 873: half of the least `f32`, or less
tiny-round : (s : Bool) (a : ℕ) → a * 2 ^ 149 < 2 ^ 1073 → to_bits binary32 (round binary32 s a (2 ^ 1074)) ≡ mark s + 0
tiny-round s a h =
    let n = a * 2 ^ 149 in
    let z : closest n (2 ^ 1074) ≤ 0 = closest_mono n (2 ^ 1074) 1 2 (pow_pos 1074) (zero-lt-suc 1) (le_trans (mul-le-mul_right 2 (le_of_lt h)) (lit≤ tt)) in
    ap (to_bits binary32) (rounded s a (2 ^ 1074) 0 n 1074 (pow_pos 1074) (none_dropped n (lt_of_lt_of_le h (lit≤ tt))) refl)
    ∙ ap (λ (q : ℕ). to_bits binary32 (units binary32 s q 0)) (le_antisymm z zero-le)
    ∙ low_bits s 0 (pow_pos 24)

pub tiny-is : (s : Bool) (e t : ℕ) → e < 873 → t < 2 ^ 52 → narrowed s e t ≡ mark s + 0
tiny-is s ℕ.zero t E H =
    ap (to_bits binary32) (ap narrow (at_zero s t) ∙ of-odd s t 0)
    ∙ tiny-round s (t * 2 ^ 0) (under t 0 1073 (lt_of_lt_of_le H (lit≤ tt)) (lit≤ tt))
tiny-is s (suc j) t E H =
    ap (to_bits binary32) (of-normal s t j (omega arith)) ∙ tiny-round s ((2 ^ 52 + t) * 2 ^ j) (under (2 ^ 52 + t) j 1073 (with_lead t H) (omega arith))

-- ---- e from 873 below 897: a subnormal `f32`, or the least normal one
pub low_le : (d w : ℕ) → d < 2 ^ 53 → 30 ≤ w → closest d (2 ^ w) ≤ 2 ^ 23
low_le d w D W =
    let p : 2 ^ 53 ≤ 2 ^ 23 * 2 ^ w = le_trans (pow_mono {i = 53} {j = 23 + w} (omega arith)) (le_of_eq (pow-add 2 23 w)) in
    closest_mono d (2 ^ w) (2 ^ 23) 1 (pow_pos w) (zero-lt-suc 0) (le_trans (le_of_eq (mul-one d)) (le_trans (le_of_lt D) p))

pub low-is : (s : Bool) (e t : ℕ) → 873 ≤ e → e < 897 → t < 2 ^ 52 → narrowed s e t ≡ mark s + closest (2 ^ 52 + t) (2 ^ (926 - e))
low-is s ℕ.zero t G E H = absurd (omega arith)
low-is s (suc j) t G E H =
    let d = 2 ^ 52 + t in
    let w = 926 - suc j in
    let none = none_dropped (d * 2 ^ j * 2 ^ 149) (under d j 1098 (with_lead t H) (omega arith)) in
    let few = low_le d w (with_lead t H) (omega arith) in
    ap (to_bits binary32)
    (of-normal s t j (omega arith) ∙ rounded s (d * 2 ^ j) (2 ^ 1074) 0 d w (pow_pos 1074) none (shift-eq d j w 0 (omega arith)))
    ∙ low_bits s (closest d (2 ^ w)) (lt_of_le_of_lt few (lit< tt))

-- ---- e from 897 on: a normal one, or an infinity
dropped : (d j : ℕ) → 2 ^ 52 ≤ d → d < 2 ^ 53 → 897 ≤ suc j → drop 24 (d * 2 ^ j * 2 ^ 149) (2 ^ 1074) ≡ suc j - 897
dropped d j L D E =
    let n = d * 2 ^ j * 2 ^ 149 in
    let a = suc j - 874 in
    let less : n < 2 ^ suc a * 2 ^ 1074 = lt_of_lt_of_le (under d j (suc a + 1074) D (omega arith)) (le_of_eq (pow-add 2 (suc a) 1074)) in
    let p : 2 ^ (a + 1074) ≤ 2 ^ (52 + j + 149) = pow_mono {i = a + 1074} {j = 52 + j + 149} (omega arith) in
    let more : 2 ^ a * 2 ^ 1074 ≤ n = le_trans (le_of_eq (sym (pow-add 2 a 1074))) (le_trans p (over d j L)) in
    let digits = size_exact (n / 2 ^ 1074) a ((le-div_iff_mul-le (pow_pos 1074)).1 more) ((div-lt_iff_lt-mul (pow_pos 1074)).1 less) in
    omega (arith, digits)

normal : (s : Bool) (j t : ℕ) → 897 ≤ suc j → suc j < 2047 → t < 2 ^ 52
    → narrow (of_fields binary64 s (suc j) t) ≡ units binary32 s (closest (2 ^ 52 + t) (2 ^ 29)) (suc j - 897)
normal s j t G E H =
    let d = 2 ^ 52 + t in
    let k = suc j - 897 in
    of-normal s t j E
    ∙ rounded s (d * 2 ^ j) (2 ^ 1074) k d 29 (pow_pos 1074) (dropped d j (lead t) (with_lead t H) G) (shift-eq d j 29 k (omega arith))

mid-ge : (d : ℕ) → 2 ^ 52 ≤ d → 2 ^ 23 ≤ closest d (2 ^ 29)
mid-ge d h = closest_mono (2 ^ 23) 1 d (2 ^ 29) (zero-lt-suc 0) (pow_pos 29) (omega arith)

pub mid_le : (d : ℕ) → d < 2 ^ 53 → closest d (2 ^ 29) ≤ 2 ^ 24
mid_le d h = closest_mono d (2 ^ 29) (2 ^ 24) 1 (pow_pos 29) (zero-lt-suc 0) (omega arith)

pub mid-is : (s : Bool) (e t : ℕ) → 897 ≤ e → e < 1151 → t < 2 ^ 52
    → narrowed s e t ≡ mark s + ((e - 897) * 2 ^ 23 + closest (2 ^ 52 + t) (2 ^ 29))
mid-is s ℕ.zero t G E H = absurd (omega arith)
mid-is s (suc j) t G E H =
    let d = 2 ^ 52 + t in
    ap (to_bits binary32) (normal s j t G (omega arith) H)
    ∙ mid-bits s (closest d (2 ^ 29)) (suc j - 897) (mid-ge d (lead t)) (mid_le d (with_lead t H)) (omega arith)

under-high : (s : Bool) (j t : ℕ) → 1151 ≤ suc j → suc j < 2047 → t < 2 ^ 52 → narrow (of_fields binary64 s (suc j) t) ≡ inf s
under-high s j t G E H =
    let d = 2 ^ 52 + t in
    let k = suc j - 897 in
    let p : 2 ^ 277 ≤ 2 ^ 23 * 2 ^ k = le_trans (pow_mono {i = 277} {j = 23 + k} (omega arith)) (le_of_eq (pow-add 2 23 k)) in
    normal s j t (omega arith) E H ∙ past s (closest d (2 ^ 29)) k (le_trans p (mul-le-mul_right (2 ^ k) (mid-ge d (lead t))))

pub high_is : (s : Bool) (e t : ℕ) → 1151 ≤ e → e < 2048 → t < 2 ^ 52 → (e < 2047) ⊎ (t ≡ 0) → narrowed s e t ≡ mark s + 0x7f80_0000
high_is s ℕ.zero t G E H b = absurd (omega arith)
high_is s (suc j) t G E H b = ap (to_bits binary32) (go b) ∙ to_bits_inf s
  where
    go : (suc j < 2047) ⊎ (t ≡ 0) → narrow (of_fields binary64 s (suc j) t) ≡ inf s
    go (inl l) = under-high s j t G l H
    go (inr z) = elim (eq-or-lt_of_le (le_of_suc-le-suc E)) [ inl e ↦ rw (e, z) (at_ones s) | inr l ↦ under-high s j t G l H ]

-- ---- from a pattern to its fields
pub of_bits_is : (b : ℕ) → of_bits binary64 b ≡ of_fields binary64 (leb (2 ^ 63) b) (b % 2 ^ 63 / 2 ^ 52) (b % 2 ^ 52)
unfolding of_bits
of_bits_is b = refl

pub no-nan-fields : (b : ℕ) → b % 2 ^ 63 / 2 ^ 52 < 2048 → T (not (nan_bits binary64 b)) → (b % 2 ^ 63 / 2 ^ 52 < 2047) ⊎ (b % 2 ^ 52 ≡ 0)
unfolding nan_bits
no-nan-fields b h n =
    let e = b % 2 ^ 63 / 2 ^ 52 in
    let t = b % 2 ^ 52 in
    go e t (eqb e 2047) (eqb t 0) h (λ (i : e ≡ 2047). eq→eqb i) (eqb→eq t 0) n
  where
    go : (e t : ℕ) (a z : Bool) → e < 2048 → (e ≡ 2047 → T a) → (T z → t ≡ 0) → T (not (a && not z)) → (e < 2047) ⊎ (t ≡ 0)
    go e t a true h p q n = inr (q tt)
    go e t true false h p q n = absurd n
    go e t false false h p q n = elim (eq-or-lt_of_le (le_of_suc-le-suc h)) [ inl x ↦ absurd (p x) | inr x ↦ inl x ]
