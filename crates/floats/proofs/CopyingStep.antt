-- A copying step copies one frame at least: `to_copy te s t` is 1 or more, or the infinity, and no NaN, where 1 < s < 2 and te < 0 (`copies-fast`), or
-- 0.5 < s < 1 and te > 0 (`copies-slow`), and t is above zero. Sections: t and s - 1, neither of which is 0 or too small to multiply; the
-- quotient, which is not above zero, and 1 less it. Assumes nothing.
use Rattle.std.proofs.Common.{◌≡◌, ℕ, suc, ◌+◌, ◌-◌, ◌*◌, ◌^◌, ◌<◌, ◌≤◌, Bool, true, false, T, pos, negsuc, sym, refl, ap, ◌∙◌, le_trans, le_of_eq, lt_of_lt_of_le, le_of_lt, mul-le-mul_right, zero-lt-suc, mul-pos, one-mul, mul-one, arith}
use mathlib.Core.Bool.{false≢true}
use lib.Ieee.{Float, nan, inf, fin, binary32, binary64, up, down, round, neg, sum, add, sub, mul, div, lt, le, fits}
use lib.Ieee.Fits.{down_pos, up_pos}
use lib.Ieee.Positive.{num, den, positive, first_pos, cross→le, between, above_of_le, mul_mono}
use Rattle.floats.specs.Numbers.{zero, one, two, narrow}
use Rattle.floats.specs.Steps.{to_copy}
use Rattle.floats.proofs.Values.{fits-bounds}
use Rattle.floats.proofs.Signs.{Sgn, mul-sgn, div-sgn, sgn-of-below, sgn-of-above, lt→le}
use Rattle.floats.proofs.Ranges.{NonNeg, non_neg, non_neg-of-positive, sub_is, sub-below, mul-neg, lt→cross, le→cross}
use Rattle.floats.proofs.Bounds.{round-le, round-ge}

-- ---- t and s - 1
-- 2 ^ -149 and 2 ^ 128
abbrev least : Float
least = fin false 1 (negsuc 148)

abbrev most : Float
most = fin false 1 (pos 128)

reaches : (d x : ℕ) → d ≤ 2 ^ 149 → 0 < x → 1 * d ≤ x * 2 ^ 149
reaches d x h k = le_trans (le_of_eq (one-mul d)) (le_trans h (le_trans (le_of_eq (sym (one-mul (2 ^ 149)))) (mul-le-mul_right (2 ^ 149) k)))

-- an `f32` above zero
in_range : (t : Float) → T (fits binary32 t) → T (positive t) → (den t ≤ 2 ^ 149) × T (le least t) × T (le t most)
in_range nan h p = absurd p
in_range (inf s) h p = absurd p
in_range (fin true m e) h p = absurd p
in_range (fin false ℕ.zero e) h p = absurd p
in_range (fin false (suc m) e) h p =
    let f = fits-bounds binary32 false m e h in
    let x = suc m * up e in
    let low = reaches (down e) x f.1 (mul-pos (zero-lt-suc m) (up_pos e)) in
    (f.1, cross→le least (fin false (suc m) e) tt p low, cross→le (fin false (suc m) e) most p tt (le_trans (le_of_eq (mul-one x)) (le_of_lt f.2)))

-- above zero, between 2 ^ -149 and 1
abbrev Gap : Float → Type 0
Gap v = T (positive v) × T (le least v) × T (le v one)

-- a difference of 1 at most that is not 0, in units of 1 / c
gap : (a c : ℕ) → 0 < a → a ≤ c → c ≤ 2 ^ 149 → Gap (round binary64 false a c)
unfolding fits
gap a c A h k =
    let r = round binary64 false a c in
    let C : 0 < c = lt_of_lt_of_le A h in
    let lo = round-ge binary64 a c (non_neg 1 (negsuc 148)) tt C (reaches c a k A) in
    let hi = round-le binary64 a c (non_neg 1 (pos 0)) tt C (omega arith) in
    (between least r one tt tt lo hi, lo, hi)

fast-gap : (s : Float) → T (fits binary32 s) → T (lt one s) → T (lt s two) → T (positive s) × Gap (sub binary64 s one)
fast-gap s h a b =
    let p : T (positive s) = between one s two tt tt (lt→le one s a) (lt→le s two b) in
    let q = (non_neg-of-positive s p).0 in
    let lo : 1 * den s < num s * 1 = lt→cross (non_neg 1 (pos 0)) q a in
    let hi : num s * 1 < 1 * 2 * den s = lt→cross q (non_neg 1 (pos 1)) b in
    let few : den s * 1 ≤ 2 ^ 149 = le_trans (le_of_eq (mul-one (den s))) (in_range s h p).0 in
    (p, rw (sub_is binary64 q (non_neg 1 (pos 0)) (omega arith)) (gap (num s * 1 - 1 * den s) (den s * 1) (omega arith) (omega arith) few))

slow-gap : (s : Float) → T (fits binary32 s) → T (positive s) → T (lt s one) → (v : Float) × (sub binary64 s one ≡ neg v) × Gap v
slow-gap s h p b =
    let q = (non_neg-of-positive s p).0 in
    let hi : num s * 1 < 1 * den s = lt→cross q (non_neg 1 (pos 0)) b in
    let some : 0 < num s = (non_neg-of-positive s p).1 in
    let few : den s * 1 ≤ 2 ^ 149 = le_trans (le_of_eq (mul-one (den s))) (in_range s h p).0 in
    let a = 1 * den s - num s * 1 in
    (round binary64 false a (den s * 1), sub-below binary64 q (non_neg 1 (pos 0)) hi, gap a (den s * 1) (omega arith) (omega arith) few)

-- t times it
low_product : mul binary64 least least ≡ fin false 1 (negsuc 297)
unfolding mul
low_product = refl

high_product : mul binary64 most one ≡ most
unfolding mul
high_product = refl

product-positive : (t v : Float) → T (fits binary32 t) → T (positive t) → Gap v → T (positive (mul binary64 t v))
product-positive t v h p g =
    let r = in_range t h p in
    let lo = mul_mono binary64 least t least v tt p tt g.0 r.1 g.1 in
    let hi = mul_mono binary64 t most v one p tt g.0 tt r.2 g.2 in
    between (fin false 1 (negsuc 297)) (mul binary64 t v) most tt tt (rw low_product at lo) (rw high_product at hi)

-- ---- the quotient, and 1 less it
less-ge : (x : Float) → Sgn true x → T (le one (sub binary64 one x))
unfolding sub add neg sum
less-ge nan h = absurd h
less-ge (inf false) h = absurd (false≢true h)
less-ge (inf true) h = unfold le in tt
less-ge (fin false m e) h = absurd (false≢true h)
less-ge (fin true m e) h =
    round-ge binary64 (1 * 1 * down e + m * up e * 1) (1 * down e) (non_neg 1 (pos 0)) (unfold fits in tt) (mul-pos (zero-lt-suc 0) (down_pos e)) (omega arith)

-- `narrow` keeps what is 1 at least
narrow-ge : (x : Float) → T (le one x) → T (le one (narrow x))
unfolding narrow
narrow-ge nan h = h
narrow-ge (inf s) h = h
narrow-ge (fin true m e) h = absurd (above_of_le one (fin true m e) tt h)
narrow-ge (fin false m e) h =
    round-ge binary32 (m * up e) (down e) (non_neg 1 (pos 0)) (unfold fits in tt) (down_pos e) (le→cross (non_neg 1 (pos 0)) (non_neg m e) h)

rest-ge : (x y : Float) → Sgn true (div binary64 x y) → T (le one (narrow (sub binary64 one (div binary64 x y))))
rest-ge x y h = narrow-ge (sub binary64 one (div binary64 x y)) (less-ge (div binary64 x y) h)

-- by a value above zero, and by one below it
by-positive : (x : Float) {y : Float} → Sgn true x → NonNeg y → 0 < num y → Sgn true (div binary64 x y)
by-positive x h (non_neg n d) p = div-sgn binary64 true x false n d h (first_pos n (up d) p)

by-negative : (x : Float) {y : Float} → Sgn false x → NonNeg y → 0 < num y → Sgn true (div binary64 x (neg y))
unfolding neg
by-negative x h (non_neg n d) p = div-sgn binary64 false x true n d h (first_pos n (up d) p)

times-positive : (s : Bool) (x : Float) {y : Float} → Sgn s x → NonNeg y → 0 < num y → Sgn s (mul binary32 x y)
times-positive true x h (non_neg n d) p = mul-sgn binary32 true x false n d h (first_pos n (up d) p)
times-positive false x h (non_neg n d) p = mul-sgn binary32 false x false n d h (first_pos n (up d) p)

pub copies-fast : (te s t : Float) → T (fits binary32 s) → T (fits binary32 t) → T (lt te zero) → T (lt one s) → T (lt s two) → T (positive t)
    → T (le one (to_copy te s t))
unfolding to_copy
copies-fast te s t hs ht n a b p =
    let g = fast-gap s hs a b in
    let v = sub binary64 s one in
    let q = non_neg-of-positive s g.0 in
    let r = non_neg-of-positive (mul binary64 t v) (product-positive t v ht p g.1) in
    let x = times-positive true te (sgn-of-below te n) q.0 q.1 in
    rest-ge (mul binary32 te s) (mul binary64 t v) (by-positive (mul binary32 te s) x r.0 r.1)

pub copies-slow : (te s t : Float) → T (fits binary32 s) → T (fits binary32 t) → T (lt zero te) → T (positive s) → T (lt s one) → T (positive t)
    → T (le one (to_copy te s t))
unfolding to_copy
copies-slow te s t hs ht n a b p =
    let g = slow-gap s hs a b in
    let y = mul binary64 t g.0 in
    let q = non_neg-of-positive s a in
    let r = non_neg-of-positive y (product-positive t g.0 ht p g.2) in
    let x = times-positive false te (sgn-of-above te n) q.0 q.1 in
    let is : mul binary64 t (sub binary64 s one) ≡ neg y =
    ap (mul binary64 t) g.1 ∙ mul-neg binary64 (non_neg-of-positive t p).0 (non_neg-of-positive g.0 g.2.0).0 in
    rw is (rest-ge (mul binary32 te s) (neg y) (by-negative (mul binary32 te s) x r.0 r.1))
