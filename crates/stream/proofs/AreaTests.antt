-- What the tests of refusals 4 and 5 show of the areas, as facts on their lengths. Here:
--   area-short, area-fits            one area
--   AreasGood, areas-of, output-of   the areas lent to a write or a flush; the one lent to a read
--   over-same, room-same             the code's division against the definition's product
-- `InOrder` passes them on. Assumes nothing.
use mathlib.Core.Path.{◌≡◌, refl, sym}
use mathlib.Core.Bool.{Bool, true, false, ◌||◌}
use mathlib.Core.List.{List}
use Prim.Native.Nat.{ℕ, ◌+◌, ◌-◌, ◌*◌, ◌/◌, ◌^◌, ◌≤◌}
use native.Mathlib.Omega.{arith}
use borrow.Author.Tests.{ltb-true, ltb-false, lt-ltb, le-ltb}
use lib.Dec.{ltb}
use lib.IntN.{ℤ}
use lib.ListN.{length}
use Rattle.frames.specs.Areas.{Areas}
use Rattle.frames.proofs.Room.{samples-le, samples-over, room-over, room-under}
use Rattle.period.specs.Rates.{max_required}
use Rattle.stream.specs.declared.SonicStream.{SonicStream}
use Rattle.stream.specs.Refusals.{max_area, too_long, too_short, sizes_bad, parts_bad, areas_bad, output_bad}
use Rattle.stream.proofs.Testing.{neither}

-- ---- one area

pub area-short : (area : List ℤ) → too_long area ≡ false → length area ≤ 2 ^ 24
area-short area e = let h : length area ≤ max_area = ltb-false max_area (length area) e in omega arith

pub area-fits : (channels k : ℕ) (area : List ℤ) → too_short channels k area ≡ false → k * channels ≤ length area
area-fits channels k area e = ltb-false (length area) (k * channels) e

-- ---- the areas of a call

-- refusal 4 is not met
pub record AreasGood (s : SonicStream) (a : Areas) : Type 0 where
  pub input_short : length a.input ≤ 2 ^ 24
  pub stage_short : length a.stage ≤ 2 ^ 24
  pub output_short : length a.output ≤ 2 ^ 24
  pub scratch_short : length a.scratch ≤ 2 ^ 24
  pub scratch_fits : max_required s.rate ≤ length a.scratch
  pub held : s.held.0 * s.channels ≤ length a.input
  pub tail : s.tail.0 * s.channels ≤ length a.stage
  pub waiting : s.waiting.0 * s.channels ≤ length a.output

pub areas-of : (s : SonicStream) (a : Areas) → areas_bad s a ≡ false → AreasGood s a
unfolding areas_bad sizes_bad parts_bad
areas-of s a e =
    let input : Bool = too_long a.input in
    let stage : Bool = too_long a.stage in
    let output : Bool = too_long a.output in
    let scratch : Bool = too_long a.scratch in
    let few : Bool = ltb (length a.scratch) (max_required s.rate) in
    let held : Bool = too_short s.channels s.held.0 a.input in
    let tail : Bool = too_short s.channels s.tail.0 a.stage in
    let waiting : Bool = too_short s.channels s.waiting.0 a.output in
    let p = neither (sizes_bad s a) (parts_bad s a) e in
    let i = neither input (stage || (output || (scratch || few))) p.0 in
    let t = neither stage (output || (scratch || few)) i.1 in
    let o = neither output (scratch || few) t.1 in
    let x = neither scratch few o.1 in
    let h = neither held (tail || waiting) p.1 in
    let w = neither tail waiting h.1 in
    record {
      input_short = area-short a.input i.0;
      stage_short = area-short a.stage t.0;
      output_short = area-short a.output o.0;
      scratch_short = area-short a.scratch x.0;
      scratch_fits = ltb-false (length a.scratch) (max_required s.rate) x.1;
      held = area-fits s.channels s.held.0 a.input h.0;
      tail = area-fits s.channels s.tail.0 a.stage w.0;
      waiting = area-fits s.channels s.waiting.0 a.output w.1;
    }

pub output-of : (s : SonicStream) (output : List ℤ) → output_bad s output ≡ false
    → (s.waiting.0 * s.channels ≤ length output) × (length output ≤ 2 ^ 24)
unfolding output_bad
output-of s output e =
    let p = neither (too_long output) (too_short s.channels s.waiting.0 output) e in
    (area-fits s.channels s.waiting.0 output p.1, area-short output p.0)

-- ---- the code's division against the definition's product

pub over-same : (area n ch : ℕ) → 1 ≤ ch → ltb (area / ch) n ≡ ltb area (n * ch)
over-same area n ch h = go (ltb (area / ch) n) refl
  where
    go : (b : Bool) → ltb (area / ch) n ≡ b → b ≡ ltb area (n * ch)
    go true e = sym (lt-ltb area (n * ch) (samples-over ch n area h (ltb-true (area / ch) n e)))
    go false e = sym (le-ltb area (n * ch) (samples-le ch n area h (ltb-false (area / ch) n e)))

-- n frames more behind w
pub room-same : (area w n ch : ℕ) → 1 ≤ ch → w * ch ≤ area → ltb (area / ch - w) n ≡ ltb area ((w + n) * ch)
room-same area w n ch h k = go (ltb (area / ch - w) n) refl
  where
    go : (b : Bool) → ltb (area / ch - w) n ≡ b → b ≡ ltb area ((w + n) * ch)
    go true e = sym (lt-ltb area ((w + n) * ch) (room-over ch w n area h (ltb-true (area / ch - w) n e)))
    go false e = sym (le-ltb area ((w + n) * ch) (room-under ch w n area h k (ltb-false (area / ch - w) n e)))
