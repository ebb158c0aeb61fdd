-- `narrow`, Rust's `as f32` of an `f64`: by any fraction that the value equals; the result is an `f32`, and a NaN only for a NaN; what a NaN is
-- to the code. Assumes nothing.
use Rattle.std.proofs.Common.{◌≡◌, ℕ, ◌*◌, ◌<◌, Bool, false, not, T, sym, refl, ap, ◌∙◌, subst, true≢false}
use lib.Ieee.{Float, nan, inf, fin, Format, binary32, up, down, round, of_bits, to_bits, nan_bits, is_nan, fits, ne, div}
use lib.Ieee.Fits.{round-fits, down_pos}
use lib.Ieee.Bits.{nan_bits_is, of_bits-to_bits}
use lib.Ieee.Exact.{HasValue}
use lib.Ieee.Scale.{round_same}
use Rattle.floats.specs.Numbers.{narrow}
use Rattle.floats.proofs.Signs.{round-sgn, sgn-no-nan}

-- ---- by any fraction that x equals
pub narrow-val : (x : Float) (s : Bool) (a c : ℕ) → 0 < c → HasValue x s a c → narrow x ≡ round binary32 s a c
unfolding narrow
narrow-val nan s a c C h = absurd h
narrow-val (inf t) s a c C h = absurd h
narrow-val (fin t m e) s a c C h =
    ap (λ (z : Bool). round binary32 z (m * up e) (down e)) h.0 ∙ round_same binary32 s (m * up e) (down e) a c (down_pos e) C h.1

-- ---- the result is an `f32`, and no NaN
pub narrow-fits : (x : Float) → T (fits binary32 (narrow x))
unfolding narrow fits
narrow-fits nan = tt
narrow-fits (inf s) = tt
narrow-fits (fin s m e) = round-fits binary32 s (m * up e) (down e)

pub narrow-no-nan : (x : Float) → T (not (is_nan x)) → T (not (is_nan (narrow x)))
unfolding narrow
narrow-no-nan nan h = h
narrow-no-nan (inf s) h = h
narrow-no-nan (fin s m e) h = sgn-no-nan s (round binary32 s (m * up e) (down e)) (round-sgn binary32 s (m * up e) (down e))

-- ---- a NaN in the code
pub no-nan-bits : (f : Format) (x : Float) → T (fits f x) → T (not (is_nan x)) → T (not (nan_bits f (to_bits f x)))
no-nan-bits f x h n = subst (λ (b : Bool). T (not b)) (sym (nan_bits_is f (to_bits f x) ∙ ap is_nan (of_bits-to_bits f x h))) n

pub equals_itself : (x : Float) → ne x x ≡ false → T (not (is_nan x))
unfolding ne is_nan
equals_itself nan h = absurd (true≢false h)
equals_itself (inf s) h = tt
equals_itself (fin s m e) h = tt

-- 0.0 / 0.0 as MIR has it
pub zero_by_zero : div binary32 (of_bits binary32 0) (of_bits binary32 0) ≡ narrow nan
unfolding div of_bits narrow
zero_by_zero = refl
