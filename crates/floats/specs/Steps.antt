-- docs/RULES.md, "Stretch steps": which step is due at a local speed, its count of frames, and the time error after it,
-- in the original's order of operations. Definitions only.
use Rattle.std.specs.Prelude.{ℕ, ◌+◌, max, Bool, cond, ◌&&◌, ◌||◌, ℤ, pos, negsuc, Float}
use Rattle.std.specs.Float.{binary32, binary64}
use Rattle.std.specs.Float.Ieee.{add, sub, mul, div, lt, le, to_signed, to_unsigned}
use Rattle.floats.specs.Numbers.{zero, half, one, two, count, narrow}

-- a copying step is due: 1 < s < 2 with time error below 0, or 0.5 < s < 1 with it above 0
unfoldable pub copying_due : Float → Float → Bool
copying_due s error = (lt one s && (lt s two && lt error zero)) || (lt s one && (lt half s && lt zero error))

-- 1 − (time error·s)/(T·(s − 1)): the product in f32, the rest in f64, rounded to f32
unfoldable pub to_copy : Float → Float → Float → Float
to_copy error s period =
    narrow (sub binary64 one (div binary64 (mul binary32 error s) (mul binary64 period (sub binary64 s one))))

-- a whole number, and 0 for one below zero
abbrev pub nat_of : ℤ → ℕ
nat_of (pos k) = k
nat_of (negsuc k) = 0

-- the frames that a copying step copies: `to_copy` cut, at most those left
unfoldable pub copy_count : Float → Float → Float → ℕ → ℕ
copy_count error s period left =
    cond (lt (count left) (to_copy error s period)) left (nat_of (to_signed 31 (to_copy error s period)))

-- k of a skip: the period, or period/(s − 1) cut toward zero for s ≥ 2
unfoldable pub skip_count : Float → ℕ → ℕ
skip_count s p = cond (le two s) (to_unsigned 64 (div binary32 (count p) (sub binary32 s one))) p

-- k of an insert: the period, or period·s/(1 − s) cut for s ≤ 0.5, at least 1
unfoldable pub insert_count : Float → ℕ → ℕ
insert_count s p =
    max 1 (cond (le s half) (to_unsigned 64 (div binary32 (mul binary32 (count p) s) (sub binary32 one s))) p)

-- the time error after n frames copied: error + (n·T)·(s − 1)/s, in f64 but for n·T, rounded to f32
unfoldable pub error_copied : Float → Float → Float → ℕ → Float
error_copied error s period n =
    narrow (add binary64 error (div binary64 (mul binary64 (mul binary32 (count n) period) (sub binary64 s one)) s))

-- `made` frames out for `used` frames of the input, of which `held` play for `play`: error + (made·T − used·play/held)
unfoldable pub error_moved : Float → Float → Float → ℕ → ℕ → ℕ → Float
error_moved error period play held made used =
    add binary32 error (sub binary32 (mul binary32 (count made) period)
    (div binary32 (mul binary32 (count used) play) (count held)))

-- after a skip of p that makes k frames, for s < 2
unfoldable pub error_skipped : Float → Float → Float → Float → ℕ → ℕ → ℕ → Float
error_skipped error s period play held p k = cond (lt s two) (error_moved error period play held k (p + k)) error

-- after an insert of p with k frames behind it, for s > 0.5
unfoldable pub error_inserted : Float → Float → Float → Float → ℕ → ℕ → ℕ → Float
error_inserted error s period play held p k = cond (lt half s) (error_moved error period play held (p + k) k) error
