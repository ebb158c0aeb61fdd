-- What the steps of a list add up to (docs/RULES.md, "A balance of frames" and "Stepping over a stall"). Definitions
-- only. Assumes nothing.
use Rattle.std.specs.Prelude.{ℕ, ◌+◌, List, [], ◌∷◌}
use Rattle.stretch.specs.declared.Step.{Step}
use Rattle.stretch.specs.Steps.{frames_out, frames_used, frames_skipped, frames_inserted, periods_passed}

-- frames: given, of the input used, of periods skipped, of periods inserted; and the periods passed over
pub record Tally : Type 0 where
  pub out : ℕ
  pub used : ℕ
  pub skipped : ℕ
  pub inserted : ℕ
  pub passed : ℕ

unfoldable pub tally : List Step → Tally
tally [] = record { out = 0; used = 0; skipped = 0; inserted = 0; passed = 0 }
tally (s ∷ ss) =
    record {
      out = frames_out s + (tally ss).out;
      used = frames_used s + (tally ss).used;
      skipped = frames_skipped s + (tally ss).skipped;
      inserted = frames_inserted s + (tally ss).inserted;
      passed = periods_passed s + (tally ss).passed;
    }
