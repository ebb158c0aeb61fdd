-- Numbers as floats, and an f64 as an f32. IEEE 754 gives the meaning of each operation (std's `Float.Ieee`).
-- Definitions only.
use Rattle.std.specs.Prelude.{ℕ, ◌*◌, false, pos, negsuc, Float}
use Rattle.std.specs.Float.{nan, inf, fin, binary32}
use Rattle.std.specs.Float.Ieee.{up, down, round, of_int}

abbrev pub zero : Float
zero = fin false 0 (pos 0)

abbrev pub half : Float
half = fin false 1 (negsuc 0)

abbrev pub one : Float
one = fin false 1 (pos 0)

abbrev pub two : Float
two = fin false 1 (pos 1)

-- a count of frames as an f32; exact up to 2^24
abbrev pub count : ℕ → Float
count n = of_int binary32 (pos n)

-- Rust's `as f32` of an f64: the nearest f32, a tie to the even one
unfoldable pub narrow : Float → Float
narrow nan = nan
narrow (inf s) = inf s
narrow (fin s m e) = round binary32 s (m * up e) (down e)
