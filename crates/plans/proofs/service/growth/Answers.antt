-- `plans::service::growth` meets its contract. Assumes nothing.
use Prim.Native.Nat.{ℕ, ◌+◌, min}
use mathlib.Core.Path.{ap}
use lib.Ieee.{of_bits}
use Rattle.plans.specs.Plans.{growth_of}
use Rattle.plans.proofs.service.growth.Goals as goal

pub returns : goal.returns
unfolding growth_of of_bits
returns c = rw c.min.ensures (ap (λ (n : ℕ). min n c.args.longest + 1) c.f32_to_usize-most.ensures)
