-- Decimal numbers as ASCII text: digits, or digits, a point and digits, and the f32 that one gives. Definitions only.
-- Assumes nothing.
use Rattle.std.specs.Prelude.{ℕ, suc, ◌+◌, ◌-◌, ◌*◌, ◌^◌, pos, nat_le, nat_lt, Bool, cond, ◌&&◌, ◌==◌, Float}
use Rattle.std.specs.Prelude.{List, [], ◌∷◌, length, take, drop, Option, None, Some}
use Rattle.std.specs.Option.{option_map}
use Rattle.std.specs.List.{position}
use Rattle.std.specs.Float.{binary64}
use Rattle.std.specs.Float.Ieee.{of_int, div}
use Rattle.floats.specs.Numbers.{narrow}
use Rattle.decimal.specs.declared.Decimal.{Decimal}

-- `0` to `9`
abbrev pub is_digit : ℕ → Bool
is_digit b = nat_le 48 b && nat_le b 57

-- below this a number may take one digit more: it then has 15 at most, leading zeros not counted
abbrev pub limit : ℕ
limit = 100000000000000

-- the number of these digits behind those of n
unfoldable pub digits_from : ℕ → List ℕ → Option ℕ
digits_from n [] = Some n
digits_from n (b ∷ rest) = cond (is_digit b && nat_lt n limit) (digits_from (n * 10 + (b - 48)) rest) None

-- one digit or more
unfoldable pub whole_of : List ℕ → Option ℕ
whole_of text = cond (nat_le 1 (length text)) (digits_from 0 text) None

-- with k digits behind the point
abbrev pub placed : ℕ → Option ℕ → Option Decimal
placed k n = option_map (λ digits. record { digits = digits; places = k }) n

-- 1 to 15 digits behind the point, after those of n before it
unfoldable pub places_from : ℕ → List ℕ → Option Decimal
places_from n text =
    cond (nat_le 1 (length text) && nat_le (length text) 15) (placed (length text) (digits_from n text)) None

-- by the digits before the point
abbrev pub behind : Option ℕ → List ℕ → Option Decimal
behind None rest = None
behind (Some n) rest = places_from n rest

-- by the place of the point
abbrev pub split_at : List ℕ → Option ℕ → Option Decimal
split_at text None = placed 0 (whole_of text)
split_at text (Some point) = behind (whole_of (take point text)) (drop (suc point) text)

-- with no point, or at the first one
unfoldable pub decimal_of : List ℕ → Option Decimal
decimal_of text = split_at text (position (λ (b : ℕ). b == 46) text)

-- n over ten to the power of k, rounded to f64 and then to f32
unfoldable pub quotient : ℕ → ℕ → Float
quotient n k = narrow (div binary64 (of_int binary64 (pos n)) (of_int binary64 (pos (10 ^ k))))

unfoldable pub value_of : List ℕ → Option Float
value_of text = option_map (λ (d : Decimal). quotient d.digits d.places) (decimal_of text)
