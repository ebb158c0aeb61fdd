-- docs/RULES.md, "WAVE files": numbers in bytes, the lowest byte first. Definitions only. Assumes nothing.
use Rattle.std.specs.Prelude.{List, [], ◌∷◌, ◌++◌, ℕ, ◌+◌, ◌*◌, ◌/◌, ◌%◌, get_or}

-- the numbers of two and of four bytes that begin at byte `at`
abbrev pub u16_at : List ℕ → ℕ → ℕ
u16_at bytes at = get_or bytes at 0 + get_or bytes (at + 1) 0 * 256

abbrev pub u32_at : List ℕ → ℕ → ℕ
u32_at bytes at = u16_at bytes at + u16_at bytes (at + 2) * 65536

-- the two and the four bytes of a number
abbrev pub two_bytes : ℕ → List ℕ
two_bytes n = n % 256 ∷ (n / 256 % 256 ∷ [])

abbrev pub four_bytes : ℕ → List ℕ
four_bytes n = two_bytes n ++ two_bytes (n / 65536)
