-- From one step of a run to the next:
--   flush-none, Ending                     whether a run is flushed, and what that shows
--   underway-again, underway-stopped       what the turns keep, and a failure
--   complete, complete-mapped              the whole run, and its map ended
-- Assumes nothing.
use mathlib.Core.Path.{◌≡◌, refl, sym, ap, ◌∙◌, subst}
use mathlib.Core.Bool.{Bool, true, false, not, ◌&&◌}
use Prim.Native.Nat.{ℕ, ◌≤◌}
use native.Mathlib.Omega.{arith}
use lib.Dec.{eqb}
use Rattle.std.specs.Prelude.{Result}
use Rattle.stream.specs.declared.refusal.Refused.{Refused}
use Rattle.process.specs.declared.Wrote.{Wrote}
use Rattle.plans.specs.declared.Plan.{Plan}
use Rattle.plans.specs.Plans.{output_area}
use Rattle.reels.specs.declared.reel.Reel.{Reel}
use Rattle.reels.specs.declared.state.RunState.{RunState}
use Rattle.reels.specs.States.{sound, kept}
use Rattle.reels.specs.Serving.{OnlyTotals, Serving}
use Rattle.reels.specs.Reels.{takes_more, SameInput, Stopped, Drained}
use Rattle.maps.specs.Maps.{MapWritten}
use Rattle.maps.proofs.Kept.{map-takes}
use Rattle.blocks.specs.Blocks.{Turned}
use Rattle.skimming.specs.Skimming.{flushes, Flushed, Underway, Complete}
use Rattle.stream.specs.declared.SonicStream.{SonicStream}
use Rattle.stream.proofs.InOrder.{both}
use Rattle.reels.proofs.Serving.{only_kept, serving-stays}
use Rattle.reels.proofs.Going.{failed-once, takes-sound, kept-unsound, same-input, input-trans, out-takes}

-- ---- the flush

pub flush-none : (g : Bool) (w : ℕ) → w ≡ 0 → g && not (eqb w 0) ≡ true → ⊥
flush-none true w e h = let z : ◌≡◌ {A = ℕ} 0 1 = cc in omega arith
flush-none false w e h = let z : ◌≡◌ {A = ℕ} 0 1 = cc in omega arith

-- what the flush of a run shows that was not flushed before
record Ending (p : Plan) (r s : Reel) : Type 0 where
  flag : s.flushed ≡ flushes p r
  still : takes_more p s ≡ true → takes_more p r ≡ true
  written_kept : s.written ≡ r.written
  input_kept : SameInput r s

ending_of : {answer : Result Wrote Refused} (p : Plan) (r s : Reel) → r.flushed ≡ false → Flushed p answer r s → Ending p r s
ending_of p r s u f = go (flushes p r) refl
  where
    go : (b : Bool) → flushes p r ≡ b → Ending p r s
    go true e =
        let a = f.done e in
        record {
          flag = a.flushed_is ∙ sym e;
          still = λ g. (both (takes_more p r) (not (eqb r.written 0)) e).0;
          written_kept = a.written_is;
          input_kept = a.input_kept;
        }
    go false e = rw (f.skipped e) (record { flag = u ∙ sym e; still = λ g. g; written_kept = refl; input_kept = same-input })

-- ---- the whole run

pub underway-again : {p : Plan} {r r' : Reel} → Underway p r → Turned p r r' → Underway p r'
underway-again l t =
    record {
      channels_are = t.channels_kept ∙ l.channels_are;
      block_whole = l.block_whole;
      level = λ e. t.level e (l.level (t.still e));
      partial_last = t.partial_last;
      unflushed = t.flushed_kept ∙ l.unflushed;
      serving = t.serving;
      none_waits = t.none_waits;
    }

unsound-of : {r t : Reel} → Stopped (kept r.state RunState.ReadFailed) r t → sound t.state ≡ false
unsound-of {r} k = ap sound k.state_is ∙ kept-unsound r.state RunState.ReadFailed refl

-- a stream that takes more has not failed
pub stopped-takes : {r t : Reel} (p : Plan) → Stopped (kept r.state RunState.ReadFailed) r t → takes_more p t ≡ true → ⊥
stopped-takes {r} {t} p k e = failed-once (takes-sound p t.stream.held.0 t.state e) (unsound-of k)

pub underway-stopped : {p : Plan} {r t : Reel} → Underway p r → Stopped (kept r.state RunState.ReadFailed) r t → Underway p t
underway-stopped {p} {r} {t} l k =
    record {
      channels_are = ap (λ (s : SonicStream). s.channels) k.stream_kept ∙ l.channels_are;
      block_whole = l.block_whole;
      level = λ e. absurd (stopped-takes p k e);
      partial_last = λ e. k.input_kept.partial_same ∙ l.partial_last (sym k.input_kept.ended_same ∙ e);
      unflushed = k.flushed_kept ∙ l.unflushed;
      serving =
          serving-stays p r t (λ e. absurd (failed-once e (unsound-of k)))
          (λ o. subst OnlyTotals (sym k.state_is) (only_kept r.state RunState.ReadFailed tt o)) k.stream_kept l.serving;
      none_waits = λ e. absurd (failed-once e (unsound-of k));
    }

pub complete : {p : Plan} {r s t : Reel} {answer : Result Wrote Refused} {samples : ℕ} (few : ℕ) → few ≤ 1 → samples ≡ output_area p.small → Underway p r → (takes_more p r ≡ true → r.ended ≡ true)
    → Flushed p answer r s → Serving p s → Drained samples few s t → Complete p t
complete {p} {r} {s} {t} few one z l end f y d =
    let o = d.out in
    let x = ending_of p r s l.unflushed f in
    let input = input-trans x.input_kept o.input_kept in
    let flag : t.flushed ≡ flushes p r = o.flushed_kept ∙ x.flag in
    let written : t.written ≡ r.written = o.written_kept ∙ x.written_kept in
    record {
      flushed_all = λ e. written ∙ l.level (both (takes_more p r) (not (eqb r.written 0)) (sym flag ∙ e)).0 ∙ sym input.frames_same;
      ended_all = λ e. input.ended_same ∙ end (x.still (out-takes p o e));
      written_all = λ e. written ∙ l.level (x.still (out-takes p o e)) ∙ sym input.frames_same;
      flushed_is = λ e. let g = x.still (out-takes p o e) in flag ∙ rw (g, written);
      partial_last = λ e. input.partial_same ∙ l.partial_last (sym input.ended_same ∙ e);
      none_waits = λ e. omega (arith, d.fewer e);
      only_totals = (o.serving_kept p z y).only_totals;
    }

pub complete-mapped : {p : Plan} {r t : Reel} → Complete p r → MapWritten r t → Complete p t
complete-mapped {p} a m =
    let i = m.input_kept in
    record {
      flushed_all = λ e. m.written_kept ∙ a.flushed_all (sym m.flushed_kept ∙ e) ∙ sym i.frames_same;
      ended_all = λ e. i.ended_same ∙ a.ended_all (map-takes p m e);
      written_all = λ e. m.written_kept ∙ a.written_all (map-takes p m e) ∙ sym i.frames_same;
      flushed_is = λ e. m.flushed_kept ∙ a.flushed_is (map-takes p m e) ∙ ap (λ (n : ℕ). not (eqb n 0)) (sym m.written_kept);
      partial_last = λ e. i.partial_same ∙ a.partial_last (sym i.ended_same ∙ e);
      none_waits =
          λ e. ap (λ (s : SonicStream). s.waiting.0) m.stream_kept ∙ a.none_waits (ap sound (sym (m.state_stays e)) ∙ e);
      only_totals = m.only_kept a.only_totals;
    }
