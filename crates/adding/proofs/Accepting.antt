-- Where areas have the room, a write or a flush is refused with 12 alone, for a total past 64 bits. Here:
--   areas-bad-of      refusal 4 is not met, by the areas' lengths
--   total-alone       by 3 to 7 not met, the number is 0 or 12
-- Assumes nothing.
use mathlib.Core.Path.{◌≡◌, refl}
use mathlib.Core.Bool.{Bool, true, false}
use mathlib.Core.Logic.{◌⊎◌, inl, inr}
use Prim.Native.Nat.{ℕ, ◌+◌, ◌*◌, ◌≤◌}
use native.Mathlib.Nat.{mul-le-mul_right, le_trans}
use native.Mathlib.Omega.{arith}
use borrow.Author.Tests.{le-ltb}
use lib.ListN.{length}
use Rattle.frames.specs.Areas.{Areas}
use Rattle.stream.specs.declared.SonicStream.{SonicStream}
use Rattle.stream.specs.declared.refusal.Refusal.TheVariants.{TotalFull}
use Rattle.std.proofs.Common.{Some, None}
use Rattle.stream.specs.Balance.{past}
use Rattle.stream.specs.Refusals.{max_area, sizes_bad, parts_bad, areas_bad, stage_needed}
use Rattle.stream.proofs.AreaTests.{AreasGood}
use Rattle.stream.proofs.Needed.{needed-le}
use Rattle.period.specs.Rates.{max_required}
use Rattle.process.specs.Process.{Made}
use Rattle.adding.specs.Adding.{Accepted}
use Rattle.adding.specs.Calls.{refusal_of}
use Rattle.adding.proofs.Answers.{total-met, none-met}

pub areas-bad-of : (s : SonicStream) (a : Areas) → AreasGood s a → areas_bad s a ≡ false
unfolding areas_bad sizes_bad parts_bad
areas-bad-of s a g =
    rw (
      le-ltb max_area (length a.input) (omega (arith, g.input_short)),
      le-ltb max_area (length a.stage) (omega (arith, g.stage_short)),
      le-ltb max_area (length a.output) (omega (arith, g.output_short)),
      le-ltb max_area (length a.scratch) (omega (arith, g.scratch_short)),
      le-ltb (length a.scratch) (max_required s.rate) g.scratch_fits,
      le-ltb (length a.input) (s.held.0 * s.channels) g.held,
      le-ltb (length a.stage) (s.tail.0 * s.channels) g.tail,
      le-ltb (length a.output) (s.waiting.0 * s.channels) g.waiting,
    )

-- 6 is not met where the tail and the frames fit the stage, at any pitch
needed-fits : (s : SonicStream) (staged : ℕ) (a : Areas) → (s.tail.0 + staged) * s.channels ≤ length a.stage
    → stage_needed s staged * s.channels ≤ length a.stage
needed-fits s staged a h = le_trans (mul-le-mul_right s.channels (needed-le s staged)) h

pub total-alone : (s : SonicStream) (a : Areas) (n : ℕ) (m : Made) → Accepted s a n → (s.tail.0 + m.staged) * s.channels ≤ length a.stage
    → (s.waiting.0 + length m.frames) * s.channels ≤ length a.output → (refusal_of s a n m ≡ None) ⊎ (refusal_of s a n m ≡ Some TotalFull)
total-alone s a n m p stage output = go (past m.state.balance) refl
  where
    go : (b : Bool) → past m.state.balance ≡ b → (refusal_of s a n m ≡ None) ⊎ (refusal_of s a n m ≡ Some TotalFull)
    go true e = inr (total-met s a n _ _ _ p (needed-fits s m.staged a stage) output e)
    go false e = inl (none-met s a n _ _ _ p (needed-fits s m.staged a stage) output e)
