-- The bytes of samples, in this order:
--   bytes-length, bytes-append, bytes-turn     their count; one list behind another; one sample more in a loop
--   pair_fits, pair_read, bytes_read     a sample is read back
-- Assumes nothing.
use mathlib.Core.Path.{◌≡◌, refl, ap, ◌∙◌}
use mathlib.Core.List.{List, [], ◌∷◌, ◌++◌}
use Prim.Native.Nat.{ℕ, zero, suc, ◌+◌, ◌-◌, ◌*◌, ◌<◌}
use native.Mathlib.Numerals.{add-one}
use native.Mathlib.Omega.{arith}
use borrow.Author.Tests.{lt-ltb, le-ltb}
use lib.IntN.{ℤ, pos, negsuc}
use lib.ListN.{length, take, get_or}
use lib.Seq.{take-suc}
use mir.Syntax.{w16}
use mir.Val.{SFits}
use Rattle.pcm.specs.Pcm.{sample_of, pair_of}
use Rattle.chunks.specs.Numbers.{two_bytes, u16_at}
use Rattle.chunks.proofs.Reading.{two-read}
use Rattle.wave.specs.Wave.{sample_bytes}

pub bytes-length : (l : List ℤ) → length (sample_bytes l) ≡ 2 * length l
unfolding sample_bytes
bytes-length [] = refl
bytes-length (v ∷ rest) = omega (arith, bytes-length rest)

pub bytes-append : (a b : List ℤ) → sample_bytes (a ++ b) ≡ sample_bytes a ++ sample_bytes b
unfolding sample_bytes
bytes-append [] b = refl
bytes-append (v ∷ a) b = ap (λ (l : List ℕ). two_bytes (pair_of v) ++ l) (bytes-append a b)

pub bytes-turn : (l : List ℤ) (i : ℕ) → i < length l → sample_bytes (take (i + 1) l) ≡ sample_bytes (take i l) ++ two_bytes (pair_of (get_or l i (pos 0)))
unfolding sample_bytes
bytes-turn l i h =
    ap (λ (n : ℕ). sample_bytes (take n l)) (add-one i)
    ∙ ap sample_bytes (take-suc l i (pos 0) h)
    ∙ bytes-append (take i l) (get_or l i (pos 0) ∷ [])

-- ---- a sample is read back

pub pair_fits : (v : ℤ) → SFits w16 v → pair_of v < 65536
pair_fits (pos k) h = omega (arith, h.sfits)
pair_fits (negsuc k) h = omega (arith, h.sfits)

pub pair_read : (v : ℤ) → SFits w16 v → sample_of (pair_of v) ≡ v
unfolding sample_of
pair_read (pos k) h = rw (lt-ltb k 32768 (omega (arith, h.sfits)))
pair_read (negsuc k) h =
    let small : k < 32768 = omega (arith, h.sfits) in
    let twice : 65535 - (65535 - k) ≡ k = omega arith in
    rw (le-ltb (65535 - k) 32768 (omega arith)) (ap negsuc twice)

-- sample i of a list, whatever stands behind it
bytes-at : (l : List ℤ) (more : List ℕ) (i : ℕ) → i < length l
    → u16_at (sample_bytes l ++ more) (2 * i) ≡ u16_at (two_bytes (pair_of (get_or l i (pos 0)))) 0
unfolding sample_bytes
bytes-at [] more i h = absurd (omega arith)
bytes-at (v ∷ rest) more zero h = refl
bytes-at (v ∷ rest) more (suc i) h =
    let place : 2 * suc i ≡ suc (suc (2 * i)) = omega arith in
    let next : suc (suc (2 * i)) + 1 ≡ suc (suc (2 * i + 1)) = omega arith in
    let b = sample_bytes (v ∷ rest) ++ more in
    ap (u16_at b) place ∙ ap (λ (n : ℕ). get_or b (suc (suc (2 * i))) 0 + get_or b n 0 * 256) next ∙ bytes-at rest more i (omega arith)

pub bytes_read : (l : List ℤ) (more : List ℕ) (i : ℕ) → i < length l → SFits w16 (get_or l i (pos 0))
    → sample_of (u16_at (sample_bytes l ++ more) (2 * i)) ≡ get_or l i (pos 0)
bytes_read l more i h fits =
    let v = get_or l i (pos 0) in
    ap sample_of (bytes-at l more i h ∙ two-read (pair_of v) (pair_fits v fits)) ∙ pair_read v fits
