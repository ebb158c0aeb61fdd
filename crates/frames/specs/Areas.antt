-- The four areas of samples that a call is lent (docs/RULES.md, "Areas and refusals"). Definitions only. Assumes
-- nothing.
use Rattle.std.specs.Prelude.{List, ℤ}

-- *input* holds written frames not yet used, *stage* the tail and a call's stretched frames, *output* the frames
-- waiting to be read, *scratch* the averages
pub record Areas : Type 0 where
  pub input : List ℤ
  pub stage : List ℤ
  pub output : List ℤ
  pub scratch : List ℤ

abbrev pub areas : List ℤ → List ℤ → List ℤ → List ℤ → Areas
areas input stage output scratch = record { input = input; stage = stage; output = output; scratch = scratch }
