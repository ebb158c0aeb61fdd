-- From one step of a block to the next:
--   part-more, part_end                   the writes of a block
--   CountShows, read-serving, read-none-waits, samples-whole, turned    a block read; and written
-- Assumes nothing.
use Rattle.std.proofs.Common.{◌≡◌, ℕ, ◌+◌, ◌*◌, ◌/◌, ◌%◌, ◌^◌, ◌≤◌, Bool, true, false, cond, List, sym, refl, ap, ◌∙◌, subst, mul-div_cancel, arith, ltb-false, Result}
use native.Mathlib.Nat.{mul-mod_left}
use Rattle.stream.specs.declared.SonicStream.{SonicStream}
use Rattle.stream.specs.declared.refusal.Refused.{Refused}
use Rattle.process.specs.declared.Wrote.{Wrote}
use Rattle.inputs.proofs.Begun.{block-most}
use Rattle.plans.specs.declared.Plan.{Plan}
use Rattle.plans.specs.Plans.{output_area}
use Rattle.reels.specs.declared.reading.BlockRead.{BlockRead}
use Rattle.reels.specs.declared.reel.Reel.{Reel}
use Rattle.reels.specs.declared.state.RunState.{RunState}
use Rattle.reels.specs.States.{sound, kept}
use Rattle.reels.specs.Serving.{OnlyTotals, Serving}
use Rattle.reels.specs.Reels.{takes_more, WrittenOut, Drained, BlockReadAs}
use Rattle.maps.specs.Maps.{MapWritten}
use Rattle.reels.proofs.Blocks.{counted, full-whole}
use Rattle.reels.proofs.Going.{failed-once, kept-unsound, stays-takes, input-trans, out-takes}
use Rattle.reels.proofs.Serving.{only_kept, serving-stays}
use Rattle.maps.proofs.Kept.{map-serving}
use Rattle.blocks.specs.Blocks.{WriteAnswered, PartWritten, NoneWaits, BlockWritten, Turned}

-- ---- the writes of a block

-- one more write, a part of the map written and frames written out after it
pub part-more : {plan : Plan} {r s t u v : Reel} {answer : Result Wrote Refused} {samples : ℕ} (n k m : ℕ) → n + k ≡ m → samples ≡ output_area plan.small
    → takes_more plan s ≡ true → PartWritten plan n r s
    → WriteAnswered ((s.written + k) % 2 ^ 64) s answer t → t.stream.channels ≡ s.stream.channels → Serving plan t → MapWritten t u → WrittenOut samples u v
    → PartWritten plan m r v
part-more {plan} {r} {s} n k m e z g p w c y a o =
    record {
      still = λ h. p.still g;
      written_is =
          λ h. o.written_kept ∙ a.written_kept ∙ w.written_is ∙ counted r.written n k s.written (p.written_is g)
          ∙ ap (λ (x : ℕ). (r.written + x) % 2 ^ 64) e;
      input_kept = input-trans p.input_kept (input-trans w.input_kept (input-trans a.input_kept o.input_kept));
      flushed_kept = o.flushed_kept ∙ a.flushed_kept ∙ w.flushed_is ∙ p.flushed_kept;
      channels_kept = o.channels_kept ∙ ap (λ (x : SonicStream). x.channels) a.stream_kept ∙ c ∙ p.channels_kept;
      serving = o.serving_kept plan z (map-serving plan a y);
    }

-- the writes end with the block, or where the run has stopped
pub part_end : {plan : Plan} {r s t : Reel} {samples : ℕ} (n m few : ℕ) → (takes_more plan s ≡ true → n ≡ m) → few ≤ 1
    → samples ≡ output_area plan.small → PartWritten plan n r s → Drained samples few s t
    → BlockWritten plan m r t
part_end {plan} {r} {s} {t} n m few all one z p d =
    record {
      part =
          record {
            still = λ h. p.still (out-takes plan d.out h);
            written_is =
                λ h. let g = out-takes plan d.out h in
                d.out.written_kept ∙ p.written_is g ∙ ap (λ (x : ℕ). (r.written + x) % 2 ^ 64) (all g);
            input_kept = input-trans p.input_kept d.out.input_kept;
            flushed_kept = d.out.flushed_kept ∙ p.flushed_kept;
            channels_kept = d.out.channels_kept ∙ p.channels_kept;
            serving = d.out.serving_kept plan z p.serving;
          };
      none_waits = λ e. omega (arith, d.fewer e);
    }

-- ---- a block

-- a sound state after a read is the one before it
read_stays : {s t : RunState} (b : Bool) → t ≡ cond b (kept s RunState.ReadFailed) s → sound t ≡ true → t ≡ s
read_stays {s} true e h = absurd (failed-once h (ap sound e ∙ kept-unsound s RunState.ReadFailed refl))
read_stays false e h = e

-- what the counted bytes of a block show
record CountShows (p : Plan) (r : Reel) (b : BlockRead) : Type 0 where
  frames_is : b.reel.frames_in ≡ (r.frames_in + b.samples / p.channels) % 2 ^ 64
  still : takes_more p b.reel ≡ true → takes_more p r ≡ true
  partial_last : p.block % p.channels ≡ 0 → b.reel.ended ≡ false → b.reel.partial ≡ 0

count-shows : (p : Plan) (r : Reel) {bytes : List ℕ} (b : BlockRead) → 1 ≤ p.channels → BlockReadAs p r bytes b → CountShows p r b
count-shows p r b h x =
    let f = x.filled in
    let c = x.counted in
    let n = f.bytes / (2 * p.channels) in
    let frames : n ≡ b.samples / p.channels =
    sym (mul-div_cancel n {n = p.channels} h) ∙ ap (λ (k : ℕ). k / p.channels) (sym x.samples_are) in
    record {
      frames_is = c.frames_is ∙ ap (λ (k : ℕ). (r.frames_in + k) % 2 ^ 64) frames;
      still = stays-takes p r b.reel (ap (λ (s : SonicStream). s.held.0) c.stream_kept) (read_stays f.failed c.state_is);
      partial_last =
          λ w e. let full : f.bytes ≡ 2 * p.block =
          omega (arith, x.fits, block-most r.source (2 * p.block), ltb-false f.bytes (2 * p.block) (sym c.ended_is ∙ e)) in
          c.partial_is ∙ full-whole p.block f.bytes p.channels w full;
    }

-- a reel of a served job stays one, and no frame waits
pub read-serving : (p : Plan) (r : Reel) {bytes : List ℕ} (b : BlockRead) → BlockReadAs p r bytes b → Serving p r → Serving p b.reel
read-serving p r b x =
    let c = x.counted in
    serving-stays p r b.reel (read_stays x.filled.failed c.state_is)
    (λ o. subst OnlyTotals (sym c.state_is) (only r.state x.filled.failed o)) c.stream_kept
  where
    only : (s : RunState) (b : Bool) → OnlyTotals s → OnlyTotals (cond b (kept s RunState.ReadFailed) s)
    only s true o = only_kept s RunState.ReadFailed tt o
    only s false o = o

pub read-none-waits : (p : Plan) (r : Reel) {bytes : List ℕ} (b : BlockRead) → BlockReadAs p r bytes b → NoneWaits r → NoneWaits b.reel
read-none-waits p r b x n e =
    let c = x.counted in
    ap (λ (s : SonicStream). s.waiting.0) c.stream_kept ∙ n (ap sound (sym (read_stays {s = r.state} x.filled.failed c.state_is e)) ∙ e)

-- its samples are whole frames
pub samples-whole : (p : Plan) (r : Reel) {bytes : List ℕ} (b : BlockRead) → BlockReadAs p r bytes b → b.samples % p.channels ≡ 0
samples-whole p r b x =
    ap (λ (k : ℕ). k % p.channels) x.samples_are ∙ mul-mod_left (x.filled.bytes / (2 * p.channels)) p.channels

pub turned : (p : Plan) (r : Reel) {bytes : List ℕ} (b : BlockRead) (r' : Reel) → 1 ≤ p.channels → p.block % p.channels ≡ 0 → BlockReadAs p r bytes b
    → BlockWritten p (b.samples / p.channels) b.reel r' → Turned p r r'
turned p r b r' h w x y =
    let c = x.counted in
    let t = count-shows p r b h x in
    let q = y.part in
    let n = b.samples / p.channels in
    record {
      still = λ e. t.still (q.still e);
      level =
          λ e l. q.written_is e ∙ ap (λ (k : ℕ). (k + n) % 2 ^ 64) (c.written_kept ∙ l) ∙ sym t.frames_is ∙ sym q.input_kept.frames_same;
      partial_last = λ e. q.input_kept.partial_same ∙ t.partial_last w (sym q.input_kept.ended_same ∙ e);
      flushed_kept = q.flushed_kept ∙ c.flushed_kept;
      channels_kept = q.channels_kept ∙ ap (λ (s : SonicStream). s.channels) c.stream_kept;
      serving = q.serving;
      none_waits = y.none_waits;
    }
