-- The signs of the table. Lobe i is its entries from 50·i to 50·i + 50, those that tap i reads. Definitions only.
-- Assumes nothing.
use Rattle.std.specs.Prelude.{Bool, true, false, cond, ℕ, ◌+◌, ◌%◌, ltb, eqb, ℤ, pos, get_or, ◌≤ℤ◌}
use Rattle.sinc.specs.SincTable.{sinc_table}

-- lobes 0, 2, 4 and 7, 9, 11: none of their entries is above zero; none of the others' is below zero
unfoldable pub below_zero : ℕ → Bool
below_zero i = cond (ltb i 6) (eqb (i % 2) 0) (eqb (i % 2) 1)

-- z is at most zero if `below`, else at least zero
abbrev pub OnSide : Bool → ℤ → Type 0
OnSide true z = z ≤ℤ pos 0
OnSide false z = pos 0 ≤ℤ z

-- S[L] and S[L+1] are
abbrev pub EntriesOnSide : Bool → ℕ → Type 0
EntriesOnSide below L = OnSide below (get_or sinc_table L (pos 0)) × OnSide below (get_or sinc_table (L + 1) (pos 0))
