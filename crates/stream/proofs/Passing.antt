-- What it says that a refusal's test was not met, and what an accepted read says of its stream and its area. For the crates above.
-- Assumes nothing.
use mathlib.Core.Path.{◌≡◌, refl}
use mathlib.Core.Bool.{Bool, true, false, not, cond, true≢false}
use mathlib.Core.List.{List}
use Prim.Native.Nat.{◌*◌, ◌≤◌}
use Rattle.std.specs.Prelude.{Option, Some, None}
use lib.IntN.{ℤ}
use lib.ListN.{length}
use Rattle.stream.specs.declared.SonicStream.{SonicStream}
use Rattle.stream.specs.declared.refusal.Refusal.{Refusal}
use Rattle.stream.specs.declared.refusal.Refusal.TheVariants.{BadStream, BadAreas}
use Rattle.stream.specs.Refusals.{is_in_order, output_bad, read_refusal}
use Rattle.stream.proofs.AreaTests.{output-of}

-- a test in a chain that ends at no refusal was not met
pub passed : (b : Bool) (refusal : Refusal) (rest : Option Refusal) → cond b (Some refusal) rest ≡ None → (b ≡ false) × (rest ≡ None)
passed true refusal rest e = cc
passed false refusal rest e = (refl, e)

pub in-order-passed : (b : Bool) → not b ≡ false → b ≡ true
in-order-passed true e = refl
in-order-passed false e = absurd (true≢false e)

-- of an accepted read
pub read-ordered : (s : SonicStream) (output : List ℤ) → read_refusal s output ≡ None → is_in_order s ≡ true
unfolding read_refusal
read-ordered s output e = in-order-passed (is_in_order s) (passed (not (is_in_order s)) BadStream _ e).0

pub read-room : (s : SonicStream) (output : List ℤ) → read_refusal s output ≡ None → s.waiting.0 * s.channels ≤ length output
unfolding read_refusal
read-room s output e =
    let in_order = passed (not (is_in_order s)) BadStream _ e in
    (output-of s output (passed (output_bad s output) BadAreas None in_order.1).0).0
