-- Room for frames in an area, by division and by multiplication. Assumes nothing.
use Prim.Native.Nat.{ℕ, ◌+◌, ◌-◌, ◌*◌, ◌/◌, ◌≤◌, ◌<◌}
use native.Mathlib.Nat.{div-lt_iff_lt-mul, le-div_iff_mul-le, mul-le-mul_left}
use native.Mathlib.Omega.{arith}

-- w frames lie in an area of len samples
pub frames-le : (ch w len : ℕ) → 0 < ch → w * ch ≤ len → w ≤ len / ch
frames-le ch w len p h = (le-div_iff_mul-le p).1 h

pub samples-le : (ch w len : ℕ) → 0 < ch → w ≤ len / ch → w * ch ≤ len
samples-le ch w len p h = (le-div_iff_mul-le p).0 h

pub samples-over : (ch w len : ℕ) → 0 < ch → len / ch < w → len < w * ch
samples-over ch w len p h = (div-lt_iff_lt-mul {k = ch} {x = len} {y = w} p).0 h

-- n more behind them
pub room-over : (ch w n len : ℕ) → 0 < ch → len / ch - w < n → len < (w + n) * ch
room-over ch w n len p h = samples-over ch (w + n) len p (omega arith)

pub room-under : (ch w n len : ℕ) → 0 < ch → w * ch ≤ len → n ≤ len / ch - w → (w + n) * ch ≤ len
room-under ch w n len p h k = samples-le ch (w + n) len p (omega (arith, frames-le ch w len p h))

-- a count of frames is at most the count of their samples
pub count-le : (ch w : ℕ) → 0 < ch → w ≤ w * ch
count-le ch w p = omega (arith, mul-le-mul_left {m = 1} {n = ch} w p)
