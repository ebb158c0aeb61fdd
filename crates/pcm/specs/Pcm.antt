-- 16-bit little-endian PCM: a sample's two bytes, and the values that the stream gives. Definitions only. Assumes
-- nothing.
use Rattle.std.specs.Prelude.{◌≡◌, cond, List, ℕ, ◌+◌, ◌-◌, ◌*◌, ◌/◌, ◌%◌, ◌<◌, ltb, ℤ, pos, negsuc, Float, get_or}
use Rattle.std.specs.Float.{nan}
use Rattle.std.specs.Float.Ieee.{lt}
use Rattle.floats.specs.Write.{minus_one, sample_in}

-- 16 bits as a sample, in two's complement; `negsuc k` is −1 − k
unfoldable pub sample_of : ℕ → ℤ
sample_of n = cond (ltb n 32768) (pos n) (negsuc (65535 - n))

-- a sample's 16 bits
abbrev pub pair_of : ℤ → ℕ
pair_of (pos k) = k
pair_of (negsuc k) = 65535 - k

-- the sample that a read made a value of: that of a write, but −32768 for a value below −1
unfoldable pub sample_read : Float → ℤ
sample_read x = cond (lt x minus_one) (negsuc 32767) (sample_in x)

-- the first n samples
pub record Decoded (n : ℕ) (bytes : List ℕ) (samples : List ℤ) : Type 0 where
  pub sample : (i : ℕ) → i < n → get_or samples i (pos 0)
      ≡ sample_of (get_or bytes (2 * i) 0 + get_or bytes (2 * i + 1) 0 * 256)

-- the bytes of the first n values
pub record Encoded (n : ℕ) (values : List Float) (bytes : List ℕ) : Type 0 where
  pub low : (i : ℕ) → i < n → get_or bytes (2 * i) 0 ≡ pair_of (sample_read (get_or values i nan)) % 256
  pub high : (i : ℕ) → i < n → get_or bytes (2 * i + 1) 0 ≡ pair_of (sample_read (get_or values i nan)) / 256 % 256
