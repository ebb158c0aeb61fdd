-- Cutting an `f32` toward zero on its bit pattern, for the module `samples`. Order: a size of at least 1, and what comparisons with 1 and -1 say of it;
-- a pattern's fields and its size; the cut by the fields; the digits and the weight that the code multiplies. Assumes nothing.
use Rattle.std.proofs.Common.{◌≡◌, ℕ, zero, suc, ◌+◌, ◌-◌, ◌*◌, ◌/◌, ◌%◌, ◌^◌, ◌<◌, ◌≤◌, min, Bool, true, false, cond, not, ◌&&◌, ◌||◌, T, eqb, ltb, leb, ℤ, pos, neg_ℤ, sym, refl, ap, ◌∙◌, subst, inl, inr, le_trans, le_of_eq, lt_of_lt_of_le, lt_of_le_of_lt, le_of_lt, lt_irrefl, mul-le-mul_right, mul_assoc, mul_comm, eq-or-lt_of_le, lt_of_not-le, mul-one, mul_right_comm, not-le_of_lt, le_of_mul-le-mul_right, arith, lit<, lit≤, eqb→eq, ltb→lt, nltb→le, pow_pos, pow_mono, pow-add, shl_lt, shr-shr, shr_lt, SFits}
use native.Mathlib.Nat.{div-eq_of_lt}
use lib.Dec.{not_T}
use lib.Ieee.{Float, nan, inf, fin, Format, binary32, prec, low, hid, ones, up, down, odd, lt, le, eq}
use lib.Ieee.{fits, is_nan, of_fields, of_bits, to_bits, to_signed}
use lib.Ieee.Bits.{cond_no, of_bits-to_bits}
use lib.Ieee.Exact.{HasValue, odd_sign}
use lib.Ieee.Fits.{down_pos, and_l, eq→eqb}
use lib.Ieee.Nearest.{div_same}
use mir.Syntax.{Width}
use mir.Val.{hbits}
use Rattle.floats.specs.Numbers.{one}
use Rattle.floats.specs.Write.{minus_one}
use Rattle.floats.specs.Bits.{exponent_field, SampleSize, cut_magnitude}
use Rattle.floats.proofs.Signs.{AtMost, le-cross, or_split}

-- ---- a size of at least 1, with no NaN
abbrev pub AtLeastOne : Float → Type 0
AtLeastOne nan = ⊥
AtLeastOne (inf s) = Unit
AtLeastOne (fin s m e) = down e ≤ m * up e

pub at_least_no_nan : (x : Float) → AtLeastOne x → T (not (is_nan x))
unfolding is_nan
at_least_no_nan nan l = absurd l
at_least_no_nan (inf s) l = tt
at_least_no_nan (fin s m e) l = tt

-- what comparisons with 1 and -1 say of it
drop-ones : (a b : ℕ) → 1 * 1 * a ≤ b * 1 → a ≤ b
drop-ones a b h = omega arith

drop-ones-eq : (a b : ℕ) (r : Bool) → T (eqb (b * 1) (1 * 1 * a) && r) → a ≤ b
drop-ones-eq a b r h = drop-ones a b (le_of_eq (sym (eqb→eq (b * 1) (1 * 1 * a) (and_l (eqb (b * 1) (1 * 1 * a)) r h))))

pub one-le : (x : Float) → T (le one x) → AtLeastOne x
unfolding le lt eq
one-le nan h = absurd h
one-le (inf s) h = tt
one-le (fin true m e) h =
    let a = 1 * 1 * down e in
    let b = m * up e * 1 in
    drop-ones (down e) (m * up e) (le_of_eq (eqb→eq a b (and_l (eqb a b) _ h)))
one-le (fin false m e) h = drop-ones (down e) (m * up e) (le-cross 1 (pos 0) m e h)

pub le-minus-one : (x : Float) → T (le x minus_one) → AtLeastOne x
unfolding le lt eq
le-minus-one nan h = absurd h
le-minus-one (inf s) h = tt
le-minus-one (fin true m e) h =
    let a = 1 * 1 * down e in
    let b = m * up e * 1 in
    elim (or_split (ltb a b) (eqb b a && true) h) [
      | inl u ↦ drop-ones (down e) (m * up e) (le_of_lt (ltb→lt a b u))
      | inr u ↦ drop-ones-eq (down e) (m * up e) true u
    ]
le-minus-one (fin false m e) h = drop-ones-eq (down e) (m * up e) _ h

-- below 1 in size, or a NaN: cut to 0
under_one : (a b : ℕ) (q : Bool) → (a * 1 ≡ 1 * 1 * b → T q) → T (not (ltb (1 * 1 * b) (a * 1) || (q && true))) → a < b
under_one a b q f = go (ltb (1 * 1 * b) (a * 1)) q (nltb→le (1 * 1 * b) (a * 1)) f
  where
    apart : (a b : ℕ) → a * 1 ≤ 1 * 1 * b → (a * 1 ≡ 1 * 1 * b → ⊥) → a < b
    apart a b l n = elim (eq-or-lt_of_le l) [ inl e ↦ absurd (n e) | inr g ↦ omega arith ]

    go : (p q : Bool) → (T (not p) → a * 1 ≤ 1 * 1 * b) → (a * 1 ≡ 1 * 1 * b → T q) → T (not (p || (q && true))) → a < b
    go true q l n t = absurd t
    go false true l n t = absurd t
    go false false l n t = apart a b (l tt) n

pub below_one : (x : Float) → T (not (le one x)) → T (not (le x minus_one)) → to_signed 15 x ≡ pos 0
unfolding le lt eq to_signed
below_one nan h k = refl
below_one (inf true) h k = absurd k
below_one (inf false) h k = absurd h
below_one (fin true m e) h k =
    let small = under_one (m * up e) (down e) (eqb (m * up e * 1) (1 * 1 * down e)) (λ u. eq→eqb u) k in
    ap (λ (z : ℕ). neg_ℤ (pos (min z (2 ^ 15)))) (div-eq_of_lt small)
below_one (fin false m e) h k =
    let small = under_one (m * up e) (down e) (eqb (1 * 1 * down e) (m * up e * 1)) (λ u. eq→eqb (sym u)) h in
    ap (λ (z : ℕ). pos (min z (2 ^ 15 - 1))) (div-eq_of_lt small)

-- ---- sizes by any fraction that x equals
at-most-val : (n : ℕ) (x : Float) (s : Bool) (a c : ℕ) → HasValue x s a c → AtMost n x → a ≤ n * c
at-most-val n nan s a c h l = absurd h
at-most-val n (inf t) s a c h l = absurd h
at-most-val n (fin t m e) s a c h l =
    let crossed = le_trans (mul-le-mul_right c l) (le_of_eq (mul_right_comm n (down e) c)) in
    le_of_mul-le-mul_right (le_trans (le_of_eq (sym h.1)) crossed) (down_pos e)

at-least-val : (x : Float) (s : Bool) (a c : ℕ) → HasValue x s a c → AtLeastOne x → c ≤ a
at-least-val nan s a c h l = absurd h
at-least-val (inf t) s a c h l = absurd h
at-least-val (fin t m e) s a c h l =
    let crossed = le_trans (mul-le-mul_right c l) (le_of_eq h.1) in
    le_of_mul-le-mul_right (le_trans (le_of_eq (mul_comm c (down e))) crossed) (down_pos e)

-- ---- a pattern's fields and its size
-- a field between 0 and all ones: the digits have a leading one
pub normal-fields : (f : Format) (s : Bool) (j t : ℕ) → suc j < ones f → of_fields f s (suc j) t ≡ odd (prec f) s (hid f + t) j (low f)
unfolding of_fields
normal-fields f s j t h =
    let under = not_T (eqb (suc j) (ones f)) (λ u. differ (suc j) (ones f) h (eqb→eq (suc j) (ones f) u)) in
    cond_no (eqb (suc j) (ones f)) (cond (eqb t 0) (inf s) nan) (odd (prec f) s (hid f + t) j (low f)) under
  where
    differ : (x y : ℕ) → x < y → x ≡ y → ⊥
    differ x y h e = omega arith

with_lead : (t : ℕ) → t < 2 ^ 23 → 2 ^ 23 + t < 2 ^ 24
with_lead t h = omega arith

lead : (t : ℕ) → 2 ^ 23 ≤ 2 ^ 23 + t
lead t = omega arith

exponent_lt : (i j : ℕ) → 2 ^ i < 2 ^ j → i < j
exponent_lt i j h = lt_of_not-le (λ (g : j ≤ i). not-le_of_lt h (pow_mono g))

-- a size from 1 to 32767 shows in the exponent's field
abbrev ExponentInRange : Float → ℕ → Type 0
ExponentInRange x e = AtLeastOne x → AtMost 32767 x → (127 ≤ e) × (e ≤ 141)

normal-range : (s : Bool) (j t : ℕ) → t < 2 ^ 23 → ExponentInRange (odd 24 s (2 ^ 23 + t) j 149) (suc j)
normal-range s j t h l m =
    let d = 2 ^ 23 + t in
    let x = odd 24 s d j 149 in
    let v = odd_sign 24 s d j 149 in
    let above = at-least-val x s (d * 2 ^ j) (2 ^ 149) v l in
    let least : 149 < 24 + j = exponent_lt 149 (24 + j) (lt_of_le_of_lt above (shl_lt 24 j (with_lead t h))) in
    let below = lt_of_le_of_lt (at-most-val 32767 x s (d * 2 ^ j) (2 ^ 149) v m) (lit< tt) in
    let leads = le_trans (le_of_eq (pow-add 2 23 j)) (mul-le-mul_right (2 ^ j) (lead t)) in
    let most : 23 + j < 164 = exponent_lt (23 + j) 164 (lt_of_le_of_lt leads below) in
    (omega arith, omega arith)

fields-range : (s : Bool) (e t : ℕ) → t < 2 ^ 23 → ExponentInRange (of_fields binary32 s e t) e
unfolding of_fields
fields-range s zero t h l m =
    let above = at-least-val (odd 24 s t 0 149) s (t * 2 ^ 0) (2 ^ 149) (odd_sign 24 s t 0 149) l in
    absurd (not-le_of_lt (lt_of_lt_of_le (subst (λ (z : ℕ). z < 2 ^ 23) (sym (mul-one t)) h) (lit≤ tt)) above)
fields-range s (suc j) t h l m = go (eqb (suc j) 255) (eqb t 0) l m
  where
    go : (b z : Bool) → ExponentInRange (cond b (cond z (inf s) nan) (odd 24 s (2 ^ 23 + t) j 149)) (suc j)
    go true true l m = absurd m
    go true false l m = absurd l
    go false z l m = normal-range s j t h l m

pub pattern-range : (x : Float) → T (fits binary32 x) → AtLeastOne x → AtMost 32767 x → SampleSize (to_bits binary32 x)
unfolding of_bits
pattern-range x f l m =
    let b = to_bits binary32 x in
    let s = leb (2 ^ 31) b in
    let e = exponent_field b in
    let back : x ≡ of_fields binary32 s e (b % 2 ^ 23) = sym (of_bits-to_bits binary32 x f) in
    let r = fields-range s e (b % 2 ^ 23) (omega arith) (subst AtLeastOne back l) (subst (AtMost 32767) back m) in
    record { least = r.0; most = r.1 }

-- ---- the cut by the fields
abbrev pub signed : Bool → ℕ → ℤ
signed s m = cond s (neg_ℤ (pos m)) (pos m)

pub signed-fits : (w : Width) (s : Bool) (m : ℕ) → m < 2 ^ hbits w → SFits w (signed s m)
signed-fits w true zero h = record { sfits = h }
signed-fits w true (suc m) h = record { sfits = le_of_lt h }
signed-fits w false m h = record { sfits = h }

-- by any fraction that x equals, below 2 ^ 15
pub signed-val : (x : Float) (s : Bool) (a c : ℕ) → 0 < c → HasValue x s a c → a / c < 2 ^ 15 → to_signed 15 x ≡ signed s (a / c)
unfolding to_signed
signed-val nan s a c C v h = absurd v
signed-val (inf t) s a c C v h = absurd v
signed-val (fin t m e) s a c C v h =
    let q = m * up e / down e in
    ap (λ (z : Bool). cond z (neg_ℤ (pos (min q (2 ^ 15)))) (pos (min q (2 ^ 15 - 1)))) v.0
    ∙ ap (λ (z : ℕ). cond s (neg_ℤ (pos (min z (2 ^ 15)))) (pos (min z (2 ^ 15 - 1)))) (div_same (m * up e) (down e) a c (down_pos e) C v.1)
    ∙ unmin s (a / c) h
  where
    unmin : (s : Bool) (q : ℕ) → q < 2 ^ 15 → cond s (neg_ℤ (pos (min q (2 ^ 15)))) (pos (min q (2 ^ 15 - 1))) ≡ signed s q
    unmin true q h = let same : min q (2 ^ 15) ≡ q = omega arith in ap (λ (z : ℕ). neg_ℤ (pos z)) same
    unmin false q h = let same : min q (2 ^ 15 - 1) ≡ q = omega arith in ap pos same

-- d * 2 ^ j / 2 ^ n where the shift to the left is the shorter one
shl-shr-is : (d j w n : ℕ) → j + w ≡ n → d * 2 ^ j / 2 ^ n ≡ d / 2 ^ w
shl-shr-is d j w n h =
    let scale = mul_assoc d (2 ^ j) (2 ^ w) ∙ ap (λ (z : ℕ). d * z) (sym (pow-add 2 j w) ∙ ap (λ (z : ℕ). 2 ^ z) h) in
    div_same (d * 2 ^ j) (2 ^ n) d (2 ^ w) (pow_pos n) (pow_pos w) scale

whole-lt : (e t : ℕ) → t < 2 ^ 23 → e ≤ 141 → (2 ^ 23 + t) / 2 ^ (150 - e) < 2 ^ 15
whole-lt e t h g = shr_lt 15 (150 - e) (lt_of_lt_of_le (with_lead t h) (pow_mono {i = 24} {j = 15 + (150 - e)} (omega arith)))

cut-fields :
    (s : Bool) (e t : ℕ) →
    t < 2 ^ 23 → 127 ≤ e → e ≤ 141 → to_signed 15 (of_fields binary32 s e t) ≡ signed s ((2 ^ 23 + t) / 2 ^ (150 - e))
cut-fields s zero t h l m = absurd (lt_irrefl 0 (lt_of_lt_of_le (lit< {m = 0} {n = 127} tt) l))
cut-fields s (suc j) t h l m =
    let d = 2 ^ 23 + t in
    let w = 150 - suc j in
    let whole : d * 2 ^ j / 2 ^ 149 ≡ d / 2 ^ w = shl-shr-is d j w 149 (omega arith) in
    let small : d * 2 ^ j / 2 ^ 149 < 2 ^ 15 = subst (λ (z : ℕ). z < 2 ^ 15) (sym whole) (whole-lt (suc j) t h m) in
    ap (to_signed 15) (normal-fields binary32 s j t (omega arith))
    ∙ signed-val (odd 24 s d j 149) s (d * 2 ^ j) (2 ^ 149) (pow_pos 149) (odd_sign 24 s d j 149) small
    ∙ ap (signed s) whole

module _ (b : ℕ) (r : SampleSize b) where
  pub magnitude-lt : cut_magnitude b < 2 ^ 15
  unfolding cut_magnitude
  magnitude-lt = whole-lt (exponent_field b) (b % 2 ^ 23) (omega arith) r.most

  pub cut-bits : to_signed 15 (of_bits binary32 b) ≡ signed (leb (2 ^ 31) b) (cut_magnitude b)
  unfolding of_bits cut_magnitude
  cut-bits = cut-fields (leb (2 ^ 31) b) (exponent_field b) (b % 2 ^ 23) (omega arith) r.least r.most

-- ---- the sixteen leading digits of d, times 2 ^ k, above sixteen places
pub leading-digits : (d k : ℕ) → k ≤ 16 → d / 2 ^ 8 * 2 ^ k / 2 ^ 16 ≡ d / 2 ^ (24 - k)
leading-digits d k h =
    let all : 8 + (16 - k) ≡ 24 - k = omega arith in
    shl-shr-is (d / 2 ^ 8) k (16 - k) 16 (omega arith) ∙ shr-shr d 8 (16 - k) ∙ ap (λ (z : ℕ). d / 2 ^ z) all
