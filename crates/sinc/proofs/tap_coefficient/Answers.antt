-- `sinc::tap_coefficient` meets its contract. Assumes nothing.
use mathlib.Core.Path.{◌≡◌, sym, ◌∙◌}
use Prim.Native.Nat.{ℕ, ◌-◌, ◌*◌, ◌/◌, ◌%◌, ◌≤◌, ◌<◌}
use native.Mathlib.Nat.{div-mul-le_self, div-add-mod'}
use native.Mathlib.Omega.{arith}
use mir.Syntax.{w32}
use mir.Facts.{to_z-of_z}
use Rattle.sinc.specs.Sinc.{lobe_points}
use Rattle.sinc.proofs.Lobes.{lobe-side}
use Rattle.sinc.proofs.Coefficient.{place-lt, sinc_coefficient-is}
use Rattle.sinc.proofs.tap_coefficient.Goals as goal

-- the place and the remainder, as they are computed
module _ (r N : ℕ) {place : ℕ} (place_is : place ≡ lobe_points * r / N) where
  reached : place * N ≤ lobe_points * r
  reached = rw place_is (div-mul-le_self (lobe_points * r) N)

  remainder_is : lobe_points * r - place * N ≡ lobe_points * r % N
  remainder_is = rw place_is (omega (arith, div-add-mod' (lobe_points * r) N))

  -- the place lies within a lobe
  within : r < N → place < lobe_points
  within h = rw place_is (place-lt r N h)

pub overflow_sub-remainder : goal.overflow_sub-remainder
overflow_sub-remainder c = reached c.args.ratio.at c.args.ratio.width.of c.divide-place.ensures

pub find_sinc_coefficient-requires : goal.find_sinc_coefficient-requires
find_sinc_coefficient-requires c =
    let a = c.args in
    let inside = within a.ratio.at a.ratio.width.of c.divide-place.ensures a.ratio.below in
    rw c.is_below_zero.ensures (omega (arith, inside), lobe-side a.i c.divide-place.result c.requires inside)

pub returns : goal.returns
returns c =
    let a = c.args in
    to_z-of_z {w = w32} (record { sfits = c.find_sinc_coefficient.type_inv })
    ∙ rw (remainder_is a.ratio.at a.ratio.width.of c.divide-place.ensures, c.divide-place.ensures) at c.find_sinc_coefficient.ensures
    ∙ sym (sinc_coefficient-is a.i a.ratio.at a.ratio.width.of)
