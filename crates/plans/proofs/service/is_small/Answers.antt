-- `plans::service::is_small` meets its contract. Assumes nothing.
use native.Mathlib.Omega.{arith}
use borrow.Author.Tests.{le-leb, lt-leb}
use lib.Ieee.{of_bits}
use Rattle.plans.specs.Plans.{is_small}
use Rattle.plans.proofs.service.is_small.Goals as goal

pub returns-then-s-ge4 : goal.returns-then-s-ge4
unfolding is_small of_bits
returns-then-s-ge4 c = let s = c.f32_to_usize-s in rw (← s.ensures, le-leb 4 s.result (omega arith))

pub returns-else-s-ge4 : goal.returns-else-s-ge4
unfolding is_small
returns-else-s-ge4 c = let s = c.f32_to_usize-s in rw (← s.ensures, lt-leb 4 s.result (omega arith))
