-- The rule of S: each entry is between −6175 and 32767, and S reads alike from both ends. One test is computed over the whole table; `rule-at`
-- gives what it says of an entry. Assumes nothing.
use mathlib.Core.Path.{◌≡◌, refl}
use mathlib.Core.Bool.{Bool, ◌&&◌}
use Prim.Native.Nat.{ℕ, ◌-◌, ◌≤◌, ◌<◌}
use native.Mathlib.Omega.{arith}
use lib.Dec.{T, leb→le}
use lib.IntN.{ℤ, pos, negsuc, nat_abs}
use lib.ListN.{length, get_or}
use lib.Signed.{le_z, ◌≤ℤ◌, le_z_yes}
use mir.Facts.{and_yes}
use Rattle.laws.proofs.Equal.{equal, equal_is}
use Rattle.laws.proofs.Tables.{every-at}
use Rattle.sinc.specs.SincTable.{sinc_table, sinc_table_size}

-- the rule of the entry z at k
ruled : ℕ → ℤ → Bool
ruled k z = (le_z (negsuc 6174) z && le_z z (pos 32767)) && equal z (get_or sinc_table (sinc_table_size - 1 - k) (pos 0))

pub record Rule (k : ℕ) : Type 0 where
  pub low : negsuc 6174 ≤ℤ get_or sinc_table k (pos 0)
  pub high : get_or sinc_table k (pos 0) ≤ℤ pos 32767
  pub alike : get_or sinc_table k (pos 0) ≡ get_or sinc_table (sinc_table_size - 1 - k) (pos 0)

pub sinc_table-length : length sinc_table ≡ sinc_table_size
unfolding sinc_table
sinc_table-length = refl

tested : (k : ℕ) → k < sinc_table_size → T (ruled k (get_or sinc_table k (pos 0)))
unfolding sinc_table ruled equal
tested k h = every-at ruled sinc_table (pos 0) tt k h

pub rule-at : (k : ℕ) → k < sinc_table_size → Rule k
unfolding ruled
rule-at k h =
    let z : ℤ = get_or sinc_table k (pos 0) in
    let t = and_yes (le_z (negsuc 6174) z && le_z z (pos 32767)) (equal z (get_or sinc_table (sinc_table_size - 1 - k) (pos 0))) (tested k h) in
    let b = and_yes (le_z (negsuc 6174) z) (le_z z (pos 32767)) t.0 in
    record { low = le_z_yes b.0; high = le_z_yes b.1; alike = equal_is z (get_or sinc_table (sinc_table_size - 1 - k) (pos 0)) t.1 }

between-abs : (z : ℤ) → negsuc 6174 ≤ℤ z → z ≤ℤ pos 32767 → nat_abs z ≤ 32767
between-abs (pos n) low high = leb→le n 32767 high.le
between-abs (negsuc n) low high = omega (arith, leb→le n 6174 low.le)

-- an entry is at most 32767 in size
pub entry-abs : (k : ℕ) → k < sinc_table_size → nat_abs (get_or sinc_table k (pos 0)) ≤ 32767
entry-abs k h = between-abs (get_or sinc_table k (pos 0)) (rule-at k h).low (rule-at k h).high
