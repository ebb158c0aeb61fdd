-- `sinc::find_sinc_coefficient` meets its contract: each step fits by a fact of `Coefficient`. Assumes nothing.
use mathlib.Core.Path.{◌≡◌, refl, sym, ap, ◌∙◌, subst}
use mathlib.Core.Bool.{Bool, true, false}
use Prim.Native.Nat.{ℕ, ◌+◌, ◌/◌, ◌≤◌, ◌<◌}
use native.Mathlib.Omega.{arith}
use lib.IntN.{ℤ, pos, neg_ℤ, ◌-ℤ◌, +ℤ_idl}
use lib.ListN.{length, get_or}
use mir.Syntax.{w32, w64}
use mir.Val.{SFits, to_z}
use mir.Facts.{to_z-of_z, to_z_pos, sfits_widen}
use Rattle.laws.proofs.Integers.{sfits-of-nat_abs}
use Rattle.laws.proofs.Widening.{i64}
use Rattle.sinc.specs.declared.table.SincTable.{SincTable}
use Rattle.sinc.specs.declared.window.Ratio.{Ratio}
use Rattle.sinc.specs.SincTable.{sinc_table_size}
use Rattle.sinc.specs.Sinc.{table_value}
use Rattle.sinc.specs.Lobes.{EntriesOnSide}
use Rattle.sinc.proofs.TableRule.{sinc_table-length}
use Rattle.sinc.proofs.Lobes.{signed, nat_abs-signed}
use Rattle.sinc.proofs.Coefficient.{Blend, size, size-le, share-le, mean-is, entries}
use Rattle.sinc.proofs.Coefficient.{left-fits}
use Rattle.sinc.proofs.Coefficient.{sum_fits, sum-reads, left-size-fits, size_fits, size-reads}
use Rattle.sinc.proofs.find_sinc_coefficient.Goals as goal
use Rattle.sinc.proofs.find_sinc_coefficient.Goals.{After-divide, After-divide-2, Else-below, Then-below}

long : (t : SincTable) → length t.entries.now ≡ sinc_table_size
long t = rw t.exact sinc_table-length

blended : (t : SincTable) (L : ℕ) (rest : Ratio) {below b : Bool} → below ≡ b → (L + 1 < sinc_table_size) × EntriesOnSide below L
    → Blend b (get_or t.entries.now L (pos 0)) (get_or t.entries.now (L + 1) (pos 0)) rest.width.of rest.at
blended t L rest {below} {b} same h = rw t.exact (entries b L rest.at rest.width.of h.0 rest.below (subst (λ (s : Bool). EntriesOnSide s L) same h.1))

pub bounds-table-left : goal.bounds-table-left
bounds-table-left c = omega (arith, long c.args.table, c.requires.0)

pub bounds-table-right : goal.bounds-table-right
bounds-table-right c = omega (arith, long c.args.table, c.requires.0)

pub overflow_mul-left_part : goal.overflow_mul-left_part
overflow_mul-left_part c = left-fits (blended c.args.table c.args.left c.args.rest refl c.requires) c.args.rest.narrow

-- a quotient q, with the sign of the side b
record Quotient (b : Bool) (value : ℤ) (q : ℕ) : Type 0 where
  small : q ≤ 65534
  reads : to_z w64 q ≡ pos q
  fits : SFits w32 (signed b q)
  is : signed b q ≡ value

module _ (t : SincTable) (L e N : ℕ) {b : Bool} (blend : Blend b (get_or t.entries.now L (pos 0)) (get_or t.entries.now (L + 1) (pos 0)) N e) where
  quotient : (q : ℕ) → q ≡ size (get_or t.entries.now L (pos 0)) (get_or t.entries.now (L + 1) (pos 0)) N e / N → Quotient b (table_value L e N) q
  unfolding table_value
  quotient q q_is =
      let small : q ≤ 65534 = omega (arith, q_is, share-le blend) in
      record {
        small = small;
        reads = to_z_pos w64 (omega arith);
        fits = sfits-of-nat_abs (signed b q) (omega (arith, nat_abs-signed b q));
        is = rw t.exact at (ap (signed b) q_is ∙ sym (mean-is blend));
      }

-- ---- the entries are not above zero

below-blended : (c : Then-below)
    → Blend true (get_or c.args.table.entries.now c.args.left (pos 0)) (get_or c.args.table.entries.now (c.args.left + 1) (pos 0)) c.args.rest.width.of c.args.rest.at
below-blended c =
    blended c.args.table c.args.left c.args.rest c.if-below.true c.requires

pub overflow_sub-size : goal.overflow_sub-size
overflow_sub-size c = left-size-fits (below-blended c) c.args.rest.narrow

pub overflow_sub-size-then-below : goal.overflow_sub-size-then-below
overflow_sub-size-then-below c = size_fits (below-blended c) c.args.rest.narrow

pub overflow_cast-size : goal.overflow_cast-size
overflow_cast-size c = rw (size-reads (below-blended c) c.args.rest.narrow) (tt, record { fits = omega (arith, size-le (below-blended c), c.args.rest.narrow) })

pub divide-requires-clause-size : goal.divide-requires-clause-size
divide-requires-clause-size c = rw (size-reads (below-blended c) c.args.rest.narrow) (omega (arith, size-le (below-blended c)))

module _ (c : After-divide) where
  below_quotient : Quotient true (table_value c.args.left c.args.rest.at c.args.rest.width.of) c.divide.result
  below_quotient =
      let b = below-blended c.before in
      quotient c.args.table c.args.left c.args.rest.at c.args.rest.width.of b c.divide.result (rw (size-reads b c.args.rest.narrow) at c.divide.ensures)

  negated-is : pos 0 -ℤ to_z w64 c.divide.result ≡ signed true c.divide.result
  negated-is = rw below_quotient.reads (+ℤ_idl (neg_ℤ (pos c.divide.result)))

  negated-reads : i64 (pos 0 -ℤ to_z w64 c.divide.result) ≡ signed true c.divide.result
  negated-reads = rw negated-is (to_z-of_z (sfits_widen {w' = w64} tt below_quotient.fits))

pub overflow_cast-result : goal.overflow_cast-result
overflow_cast-result c = record { sfits = omega (arith, (below_quotient c).small) }

pub overflow_sub-result : goal.overflow_sub-result
overflow_sub-result c = rw (negated-is c) (sfits_widen tt (below_quotient c).fits)

pub overflow_cast-result-then-below : goal.overflow_cast-result-then-below
overflow_cast-result-then-below c = rw (negated-reads c) (below_quotient c).fits

pub returns-then-below : goal.returns-then-below
returns-then-below c = rw (negated-reads c, to_z-of_z (below_quotient c).fits) (below_quotient c).is

-- ---- the entries are not below zero

above-blended : (c : Else-below)
    → Blend false (get_or c.args.table.entries.now c.args.left (pos 0)) (get_or c.args.table.entries.now (c.args.left + 1) (pos 0)) c.args.rest.width.of c.args.rest.at
above-blended c =
    blended c.args.table c.args.left c.args.rest c.if-below.false c.requires

pub overflow_add-size : goal.overflow_add-size
overflow_add-size c = sum_fits (above-blended c) c.args.rest.narrow

pub overflow_cast-size-2 : goal.overflow_cast-size-2
overflow_cast-size-2 c = rw (sum-reads (above-blended c) c.args.rest.narrow) (tt, record { fits = omega (arith, size-le (above-blended c), c.args.rest.narrow) })

pub divide-requires-2-clause-size : goal.divide-requires-2-clause-size
divide-requires-2-clause-size c = rw (sum-reads (above-blended c) c.args.rest.narrow) (omega (arith, size-le (above-blended c)))

above_quotient : (c : After-divide-2) → Quotient false (table_value c.args.left c.args.rest.at c.args.rest.width.of) c.divide-2.result
above_quotient c =
    let b = above-blended c.before in
    quotient c.args.table c.args.left c.args.rest.at c.args.rest.width.of b c.divide-2.result (rw (sum-reads b c.args.rest.narrow) at c.divide-2.ensures)

pub overflow_cast-result-2 : goal.overflow_cast-result-2
overflow_cast-result-2 c = record { sfits = omega (arith, (above_quotient c).small) }

pub returns : goal.returns
returns c = to_z_pos w32 (omega (arith, (above_quotient c).small)) ∙ (above_quotient c).is
