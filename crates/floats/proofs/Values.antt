-- Values of a format: each is written in one way (`unique`); `round` leaves it as it is (`round-to`); a sign goes through `round` (`round-neg`);
-- zeros, and a finite value times +0. Assumes nothing.
use Rattle.std.proofs.Common.{◌≡◌, ℕ, suc, ◌+◌, ◌-◌, ◌*◌, ◌/◌, ◌%◌, ◌^◌, ◌<◌, ◌≤◌, Bool, true, false, cond, not, ◌&&◌, T, eqb, ltb, leb, ℤ, pos, negsuc, sym, refl, ap, ◌∙◌, le_of_eq, lt_of_lt_of_le, le_of_suc-le-suc, lt_irrefl, zero-lt-suc, mul_assoc, mul_comm, lt_of_mul-lt-mul_right, mul-lt-mul_of_pos_right, mul-pos, lt_of_not-le, mul-zero, zero-mul, mul-one, sub-add_cancel, mul_right_comm, mul_left_comm, ltb→lt, leb→le, pow_pos, pow-add}
use native.Mathlib.Nat.{eq_of_mul-eq-mul_right}
use lib.Pow.{pow-lt}
use lib.Ieee.{Float, nan, inf, fin, Format, prec, emax, low, up, down, unlike, size, odd, units, round, neg, mul, to_bits, of_bits, fits, hid, top}
use lib.Ieee.Fits.{round_is, round-fits, down_pos, and_l, and_r}
use lib.Ieee.Bits.{of_bits-to_bits}
use lib.Ieee.Exact.{HasValue, round_exact}
use lib.Ieee.Nearest.{div_same, closest}
use lib.Ieee.Order.{drop}
use lib.Ieee.Scale.{round_same}

-- ---- a value is written in one way
cross : (x de y dd a c : ℕ) → 0 < c → x * c ≡ a * de → y * c ≡ a * dd → x * dd ≡ y * de
cross x de y dd a c C p q =
    eq_of_mul-eq-mul_right c C (x * dd) (y * de) (rw (mul_right_comm x dd c, p, mul_right_comm y de c, q) (mul_right_comm a de dd))

bits : Format → Bool → ℕ → ℕ
bits f s n = cond s (top f) 0 + (size n - prec f) * hid f + n / 2 ^ (size n - prec f)

to_bits_is : (f : Format) (s : Bool) (m : ℕ) (e : ℤ) → to_bits f (fin s m e) ≡ bits f s (m * up e * 2 ^ low f / down e)
unfolding to_bits bits
to_bits_is f s m e = refl

same_bits : (f : Format) (x y : Float) (s : Bool) (a c : ℕ) → 0 < c → HasValue x s a c → HasValue y s a c → to_bits f x ≡ to_bits f y
same_bits f nan y s a c C v w = absurd v
same_bits f (inf t) y s a c C v w = absurd v
same_bits f (fin t m e) nan s a c C v w = absurd w
same_bits f (fin t m e) (inf u) s a c C v w = absurd w
same_bits f (fin t m e) (fin u n d) s a c C v w =
    let l = 2 ^ low f in
    let x : m * up e * down d ≡ n * up d * down e = cross (m * up e) (down e) (n * up d) (down d) a c C v.1 w.1 in
    let h : m * up e * l * down d ≡ n * up d * l * down e = rw (mul_right_comm (m * up e) l (down d), x) (mul_right_comm (n * up d) (down e) l) in
    let q = div_same (m * up e * l) (down e) (n * up d * l) (down d) (down_pos e) (down_pos d) h in
    to_bits_is f t m e ∙ (λ i. bits f ((v.0 ∙ sym w.0) i) (q i)) ∙ sym (to_bits_is f u n d)

unique : (f : Format) (x y : Float) (s : Bool) (a c : ℕ) → 0 < c → T (fits f x) → T (fits f y) → HasValue x s a c → HasValue y s a c → x ≡ y
unique f x y s a c C h k v w = sym (of_bits-to_bits f x h) ∙ ap (of_bits f) (same_bits f x y s a c C v w) ∙ of_bits-to_bits f y k

-- ---- `round` leaves a value of the format as it is
-- what `fits` says of a value that is not zero
pub fits-bounds : (f : Format) (s : Bool) (m : ℕ) (e : ℤ) → T (fits f (fin s (suc m) e))
    → (suc m < 2 ^ prec f) × (down e ≤ 2 ^ low f) × (suc m * up e < 2 ^ suc (emax f) * down e)
unfolding fits
fits-bounds f s m e t =
    let a = eqb (suc m % 2) 1 in
    let b = ltb (suc m) (2 ^ prec f) in
    let c = leb (down e) (2 ^ low f) in
    let d = ltb (suc m * up e) (2 ^ suc (emax f) * down e) in
    let r = and_l (a && b && c) d t in (
      ltb→lt (suc m) (2 ^ prec f) (and_r a b (and_l (a && b) c r)),
      leb→le (down e) (2 ^ low f) (and_r (a && b) c r),
      ltb→lt (suc m * up e) (2 ^ suc (emax f) * down e) (and_r (a && b && c) d t),
    )

pub pow_le_back : (a l : ℕ) → 2 ^ a ≤ 2 ^ l → a ≤ l
pow_le_back a l h = le_of_suc-le-suc (lt_of_not-le (λ (g : suc l ≤ a). lt_irrefl (2 ^ l) (lt_of_lt_of_le (pow-lt g) h)))

-- in units of the format's smallest value m * 2 ^ e is m * 2 ^ j
place : (l m : ℕ) (e : ℤ) → down e ≤ 2 ^ l → (j : ℕ) × (m * up e * 2 ^ l ≡ m * 2 ^ j * down e)
place l m (pos k) h = (k + l, simp (pow-add, mul_assoc, mul-one))
place l m (negsuc k) h =
    let back : l - suc k + suc k ≡ l = sub-add_cancel (pow_le_back (suc k) l h) in
    (l - suc k, rw (mul-one m, mul_assoc m (2 ^ (l - suc k)) (2 ^ suc k), ← pow-add 2 (l - suc k) (suc k), back))

small : (f : Format) (n d q : ℕ) → n < 2 ^ suc (emax f) * d → n * 2 ^ low f ≡ q * d → q < 2 ^ (low f + suc (emax f))
small f n d q h e =
    lt_of_mul-lt-mul_right d
    (rw (← e, pow-add 2 (low f) (suc (emax f)))
    (lt_of_lt_of_le (mul-lt-mul_of_pos_right h (pow_pos (low f))) (le_of_eq (simp (mul_assoc, mul_comm, mul_left_comm)))))

exact : (f : Format) (s : Bool) (m : ℕ) (e : ℤ) → T (fits f (fin s m e)) → HasValue (round f s (m * up e) (down e)) s (m * up e) (down e)
exact f s ℕ.zero e h =
    round_exact f s (0 * up e) (down e) 0 0 (down_pos e) (pow_pos (prec f)) (pow_pos (low f + suc (emax f))) (simp zero-mul)
exact f s (suc m) e h =
    let t = fits-bounds f s m e h in
    let p = place (low f) (suc m) e t.1 in
    let less = small f (suc m * up e) (down e) (suc m * 2 ^ p.0) t.2 p.1 in
    round_exact f s (suc m * up e) (down e) (suc m) p.0 (down_pos e) t.0 less p.1

round-id : (f : Format) (s : Bool) (m : ℕ) (e : ℤ) → T (fits f (fin s m e)) → round f s (m * up e) (down e) ≡ fin s m e
round-id f s m e h =
    let r = round f s (m * up e) (down e) in
    unique f r (fin s m e) s (m * up e) (down e) (down_pos e) (round-fits f s (m * up e) (down e)) h (exact f s m e h) (refl, refl)

-- by any fraction that the value equals
pub round-to : (f : Format) (x : Float) (s : Bool) (a c : ℕ) → 0 < c → T (fits f x) → HasValue x s a c → round f s a c ≡ x
round-to f nan s a c C h v = absurd v
round-to f (inf t) s a c C h v = absurd v
round-to f (fin t m e) s a c C h v =
    sym (round_same f s (m * up e) (down e) a c (down_pos e) C v.1) ∙ rw (← v.0) (round-id f t m e h)

-- ---- a sign goes through `round`
neg-odd : (d : ℕ) (s : Bool) (q k l : ℕ) → odd d (not s) q k l ≡ neg (odd d s q k l)
unfolding odd neg
neg-odd d s ℕ.zero k l = refl
neg-odd d s (suc q) k l = refl

neg-units : (f : Format) (s : Bool) (q k : ℕ) → units f (not s) q k ≡ neg (units f s q k)
unfolding units neg
neg-units f s q k = go (ltb (q * 2 ^ k) (2 ^ (low f + suc (emax f))))
  where
    d : ℕ
    d = suc (prec f)

    go : (b : Bool) → cond b (odd d (not s) q k (low f)) (inf (not s)) ≡ neg (cond b (odd d s q k (low f)) (inf s))
    go true = neg-odd d s q k (low f)
    go false = refl

pub round-neg : (f : Format) (s : Bool) (a c : ℕ) → round f (not s) a c ≡ neg (round f s a c)
round-neg f s a c =
    let n = a * 2 ^ low f in
    let k = drop (prec f) n c in
    round_is f (not s) a c ∙ neg-units f s (closest n (c * 2 ^ k)) k ∙ ap neg (sym (round_is f s a c))

-- ---- zeros
abbrev pub nought : Bool → Float
nought s = fin s 0 (pos 0)

nought-fits : (f : Format) (s : Bool) → T (fits f (nought s))
unfolding fits
nought-fits f s = tt

pub round-zero : (f : Format) (s : Bool) (c : ℕ) → 0 < c → round f s 0 c ≡ nought s
round-zero f s c C = round-to f (nought s) s 0 c C (nought-fits f s) (refl, zero-mul c)

-- a finite value times +0
pub mul-zero-right : (f : Format) (s : Bool) (m : ℕ) (e : ℤ) → mul f (fin s m e) (nought false) ≡ nought (unlike s false)
unfolding mul
mul-zero-right f s m e =
    ap (λ (z : ℕ). round f (unlike s false) z (down e * 1)) (mul-zero (m * up e))
    ∙ round-zero f (unlike s false) (down e * 1) (mul-pos (down_pos e) (zero-lt-suc 0))
