-- The sign of a float, and its place in the order. Sections: `Sgn` and what `round`, a product and a quotient give; comparisons; a value held
-- to -1..1, the size of the product that a sample is stored from, and the sample's range. Assumes nothing.
use Rattle.std.proofs.Common.{◌≡◌, ℕ, suc, ◌+◌, ◌*◌, ◌/◌, ◌^◌, ◌<◌, ◌≤◌, min, Bool, true, false, cond, not, ◌&&◌, ◌||◌, T, eqb, ltb, ◌⊎◌, ℤ, pos, neg_ℤ, nat_abs, sym, refl, ap, subst, inl, inr, true≢false, le_of_eq, le_of_suc-le-suc, le_of_lt, lt_irrefl, zero-lt-suc, div-lt_iff_lt-mul, mul-pos, arith, lit≤, eqb→eq, ltb→lt, nltb→le}
use mathlib.Core.Bool.{beq}
use lib.Dec.{eqb_refl, not_T}
use lib.Ieee.{Float, nan, inf, fin, Format, binary32, prec, emax, low, up, down, unlike, odd, units, round, neg, mul, div, lt, le, eq, is_nan, to_signed}
use lib.Ieee.Bits.{cond_no}
use lib.Ieee.Fits.{round_is, down_pos, and_l, and_i}
use lib.Ieee.Nearest.{closest}
use lib.Ieee.Order.{drop, round_mono}
use Rattle.floats.specs.Numbers.{zero, one}
use Rattle.floats.specs.Write.{unit_clamped, minus_one, full}
use Rattle.floats.proofs.Values.{round-neg}

-- ---- x is no NaN, and has the sign s
abbrev pub Sgn : Bool → Float → Type 0
Sgn s nan = ⊥
Sgn s (inf t) = t ≡ s
Sgn s (fin t m e) = t ≡ s

pub sgn-no-nan : (s : Bool) (x : Float) → Sgn s x → T (not (is_nan x))
unfolding is_nan
sgn-no-nan s nan h = absurd h
sgn-no-nan s (inf t) h = tt
sgn-no-nan s (fin t m e) h = tt

odd-sgn : (d : ℕ) (s : Bool) (q k l : ℕ) → Sgn s (odd d s q k l)
unfolding odd
odd-sgn d s ℕ.zero k l = refl
odd-sgn d s (suc q) k l = refl

units-sgn : (f : Format) (s : Bool) (q k : ℕ) → Sgn s (units f s q k)
unfolding units
units-sgn f s q k = go (ltb (q * 2 ^ k) (2 ^ (low f + suc (emax f))))
  where
    go : (b : Bool) → Sgn s (cond b (odd (suc (prec f)) s q k (low f)) (inf s))
    go true = odd-sgn (suc (prec f)) s q k (low f)
    go false = refl

pub round-sgn : (f : Format) (s : Bool) (a c : ℕ) → Sgn s (round f s a c)
round-sgn f s a c =
    let n = a * 2 ^ low f in
    let k = drop (prec f) n c in
    subst (Sgn s) (sym (round_is f s a c)) (units-sgn f s (closest n (c * 2 ^ k)) k)

-- the test for 0 of a number that is not 0
pub cond-nonzero : {A : Type 0} (n : ℕ) (x y : A) → 0 < n → cond (eqb n 0) x y ≡ y
cond-nonzero n x y h = cond_no (eqb n 0) x y (not_T (eqb n 0) (λ t. lt_irrefl 0 (subst (λ (k : ℕ). 0 < k) (eqb→eq n 0 t) h)))

-- a product and a quotient with a finite value that is not 0
pub mul-sgn : (f : Format) (s : Bool) (x : Float) (t : Bool) (n : ℕ) (d : ℤ) → Sgn s x → 0 < n → Sgn (unlike s t) (mul f x (fin t n d))
unfolding mul
mul-sgn f s nan t n d h p = absurd h
mul-sgn f s (inf u) t n d h p = subst (Sgn (unlike s t)) (sym (cond-nonzero n nan (inf (unlike u t)) p)) (ap (λ (v : Bool). unlike v t) h)
mul-sgn f s (fin u m e) t n d h p =
    let r = m * up e * (n * up d) in
    subst (λ (v : Bool). Sgn (unlike v t) (round f (unlike u t) r (down e * down d))) h (round-sgn f (unlike u t) r (down e * down d))

pub div-sgn : (f : Format) (s : Bool) (x : Float) (t : Bool) (n : ℕ) (d : ℤ) → Sgn s x → 0 < n → Sgn (unlike s t) (div f x (fin t n d))
unfolding div
div-sgn f s nan t n d h p = absurd h
div-sgn f s (inf u) t n d h p = ap (λ (v : Bool). unlike v t) h
div-sgn f s (fin u m e) t n d h p =
    let r = round f (unlike u t) (m * up e * down d) (n * up d * down e) in
    subst (Sgn (unlike s t)) (sym (cond-nonzero n (cond (eqb m 0) nan (inf (unlike u t))) r p))
    (subst (λ (v : Bool). Sgn (unlike v t) r) h (round-sgn f (unlike u t) (m * up e * down d) (n * up d * down e)))

-- ---- comparisons
pub sgn-of-below : (x : Float) → T (lt x zero) → Sgn true x
unfolding lt
sgn-of-below nan h = absurd h
sgn-of-below (inf true) h = refl
sgn-of-below (inf false) h = absurd h
sgn-of-below (fin true m e) h = refl
sgn-of-below (fin false m e) h = absurd (omega (arith, ltb→lt (m * up e * 1) (0 * 1 * down e) h))

pub sgn-of-above : (x : Float) → T (lt zero x) → Sgn false x
unfolding lt
sgn-of-above nan h = absurd h
sgn-of-above (inf true) h = absurd h
sgn-of-above (inf false) h = refl
sgn-of-above (fin true m e) h = absurd h
sgn-of-above (fin false m e) h = refl

or_l : (a b : Bool) → T a → T (a || b)
or_l true b t = tt
or_l false b t = absurd t

or_r : (a b : Bool) → T b → T (a || b)
or_r true b t = tt
or_r false b t = t

pub or_split : (a b : Bool) → T (a || b) → T a ⊎ T b
or_split true b t = inl tt
or_split false b t = inr t

pub lt→le : (x y : Float) → T (lt x y) → T (le x y)
unfolding le
lt→le x y h = or_l (lt x y) (eq x y) h

-- two values that are not negative
pub le-cross : (m : ℕ) (e : ℤ) (n : ℕ) (d : ℤ) → T (le (fin false m e) (fin false n d)) → m * up e * down d ≤ n * up d * down e
unfolding le lt eq
le-cross m e n d h =
    let a = m * up e * down d in
    let b = n * up d * down e in
    elim (or_split (ltb a b) (eqb a b && true) h) [ inl u ↦ le_of_lt (ltb→lt a b u) | inr u ↦ le_of_eq (eqb→eq a b (and_l (eqb a b) true u)) ]

self : (s : Bool) (a : ℕ) → T (eqb a a && (beq s s || eqb a 0))
self true a = and_i (eqb a a) true (eqb_refl a) tt
self false a = and_i (eqb a a) true (eqb_refl a) tt

pub le-self : (x : Float) → T (not (is_nan x)) → T (le x x)
unfolding le lt eq is_nan
le-self nan h = absurd h
le-self (inf true) h = tt
le-self (inf false) h = tt
le-self (fin s m e) h = or_r (lt (fin s m e) (fin s m e)) (eq (fin s m e) (fin s m e)) (self s (m * up e * down e))

pub le-no-nan : (x y : Float) → T (le x y) → T (not (is_nan x)) × T (not (is_nan y))
unfolding le lt eq is_nan
le-no-nan nan y h = absurd h
le-no-nan (inf s) nan h = absurd h
le-no-nan (inf s) (inf t) h = (tt, tt)
le-no-nan (inf s) (fin t n d) h = (tt, tt)
le-no-nan (fin s m e) nan h = absurd h
le-no-nan (fin s m e) (inf t) h = (tt, tt)
le-no-nan (fin s m e) (fin t n d) h = (tt, tt)

-- ---- a value held to -1..1, times 32767, and cut
-- of a size at most n, or a NaN
abbrev pub AtMost : ℕ → Float → Type 0
AtMost n nan = Unit
AtMost n (inf s) = ⊥
AtMost n (fin s m e) = m * up e ≤ n * down e

-- neither below -1 nor above 1
between : (x : Float) → T (not (lt x minus_one)) → T (not (lt one x)) → AtMost 1 x
unfolding lt
between nan a b = tt
between (inf true) a b = absurd a
between (inf false) a b = absurd b
between (fin true m e) a b = omega (arith, nltb→le (1 * 1 * down e) (m * up e * 1) a)
between (fin false m e) a b = omega (arith, nltb→le (1 * 1 * down e) (m * up e * 1) b)

unit-at-most : (x : Float) → AtMost 1 (unit_clamped x)
unfolding unit_clamped
unit-at-most x = go (lt x minus_one) (lt one x) (λ t. t) (λ t. t)
  where
    go : (a b : Bool) → (T (not a) → T (not (lt x minus_one))) → (T (not b) → T (not (lt one x))) → AtMost 1 (cond a minus_one (cond b one x))
    go true b p q = lit≤ tt
    go false true p q = lit≤ tt
    go false false p q = between x (p tt) (q tt)

full_is : round binary32 false 32767 1 ≡ full
unfolding round
full_is = refl

-- y is not negative and at most 32767
within : (y : Float) → Sgn false y → T (le y full) → AtMost 32767 y × AtMost 32767 (neg y)
unfolding le neg
within nan s h = absurd s
within (inf true) s h = absurd (true≢false s)
within (inf false) s h = absurd h
within (fin true n d) s h = absurd (true≢false s)
within (fin false n d) s h = let g : n * up d ≤ 32767 * down d = omega (arith, le-cross n d 32767 (pos 0) h) in (g, g)

rounded : (s : Bool) (a c : ℕ) → 0 < c → a ≤ 32767 * c → AtMost 32767 (round binary32 s a c)
rounded s a c C h = go s (within (round binary32 false a c) (round-sgn binary32 false a c) most)
  where
    most : T (le (round binary32 false a c) full)
    most = rw full_is at (round_mono binary32 a c 32767 1 C (zero-lt-suc 0) (omega arith))

    go : (s : Bool) → AtMost 32767 (round binary32 false a c) × AtMost 32767 (neg (round binary32 false a c)) → AtMost 32767 (round binary32 s a c)
    go true w = rw (round-neg binary32 false a c) w.1
    go false w = w.0

scaled : (h : Float) → AtMost 1 h → AtMost 32767 (mul binary32 h full)
unfolding mul
scaled nan s = tt
scaled (inf t) s = absurd s
scaled (fin t m e) s = rounded (unlike t false) (m * up e * (32767 * 1)) (down e * 1) (mul-pos (down_pos e) (zero-lt-suc 0)) (omega arith)

pub product-at-most : (x : Float) → AtMost 32767 (mul binary32 (unit_clamped x) full)
product-at-most x = scaled (unit_clamped x) (unit-at-most x)

abs_neg : (a : ℕ) → nat_abs (neg_ℤ (pos a)) ≡ a
abs_neg ℕ.zero = refl
abs_neg (suc a) = refl

cut-at-most : (y : Float) → AtMost 32767 y → nat_abs (to_signed 15 y) ≤ 32767
unfolding to_signed
cut-at-most nan l = lit≤ tt
cut-at-most (inf s) l = absurd l
cut-at-most (fin s m e) l = go s (m * up e / down e) (le_of_suc-le-suc ((div-lt_iff_lt-mul (down_pos e)).1 (omega (arith, down_pos e))))
  where
    go : (s : Bool) (q : ℕ) → q ≤ 32767 → nat_abs (cond s (neg_ℤ (pos (min q 32768))) (pos (min q 32767))) ≤ 32767
    go true q h = omega (arith, abs_neg (min q 32768))
    go false q h = omega arith

pub sample-range : (x : Float) → nat_abs (to_signed 15 (mul binary32 (unit_clamped x) full)) ≤ 32767
sample-range x = cut-at-most (mul binary32 (unit_clamped x) full) (product-at-most x)
