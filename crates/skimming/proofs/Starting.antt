-- A stream and its plan are ready for a run, and so they are when the map is begun. Assumes nothing.
use mathlib.Core.Path.{◌≡◌, refl, sym, ap, ◌∙◌}
use Rattle.std.proofs.Common.{Option, Some}
use Prim.Native.Nat.{ℕ, ◌*◌, ◌/◌}
use native.Mathlib.Nat.{mul-mod_left}
use native.Mathlib.Omega.{arith}
use Rattle.stream.specs.declared.SonicStream.{SonicStream}
use Rattle.plans.specs.declared.Plan.{Plan}
use Rattle.plans.specs.Plans.{block_samples, IsServiceOf}
use Rattle.reels.specs.declared.reel.Reel.{Reel}
use Rattle.serving.specs.Steady.{Fresh}
use Rattle.serving.proofs.Fresh.{steady-unheld}
use Rattle.inputs.specs.declared.Source.{Source}
use Rattle.reels.specs.States.{sound}
use Rattle.reels.specs.Reels.{fresh_reel}
use Rattle.maps.specs.Maps.{MapWritten}
use Rattle.maps.proofs.Kept.{map-takes, map-serving}
use Rattle.skimming.specs.Skimming.{Underway}

pub ready_of : (s : SonicStream) (source : Source) (map : Option ℕ) (p : Plan) → Fresh s → IsServiceOf s (Some p) → Underway p (fresh_reel s source map)
ready_of s source map p f v =
    record {
      channels_are = sym v.1.channels_is;
      block_whole = rw (v.1.block_is, v.1.channels_is) (mul-mod_left (block_samples / s.channels) s.channels);
      level = λ e. refl;
      partial_last = λ e. refl;
      unflushed = refl;
      serving =
          record {
            steady = steady-unheld s f.unheld v.0 (omega (arith, ap (λ (n : ℕ). n * s.channels) f.waiting));
            plan_is = v.1;
            few_held = omega (arith, f.unheld.held, p.required_some);
            only_totals = tt;
          };
      none_waits = λ e. f.waiting;
    }

pub ready-mapped : {p : Plan} {r t : Reel} → Underway p r → MapWritten r t → Underway p t
ready-mapped {p} a m =
    record {
      channels_are = ap (λ (s : SonicStream). s.channels) m.stream_kept ∙ a.channels_are;
      block_whole = a.block_whole;
      level = λ e. m.written_kept ∙ a.level (map-takes p m e) ∙ sym m.input_kept.frames_same;
      partial_last = λ e. m.input_kept.partial_same ∙ a.partial_last (sym m.input_kept.ended_same ∙ e);
      unflushed = m.flushed_kept ∙ a.unflushed;
      serving = map-serving p m a.serving;
      none_waits = λ e. ap (λ (s : SonicStream). s.waiting.0) m.stream_kept ∙ a.none_waits (ap sound (sym (m.state_stays e)) ∙ e);
    }
