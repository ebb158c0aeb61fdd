-- A read gives no more than the slice holds, and a frame or more.
use Rattle.std.proofs.Common.{◌≡◌, false, List, length, ℤ, sym, refl, ap, ◌∙◌, subst, arith, Result, Ok, Err}
use lib.Ieee.{Float}
use Rattle.stream.specs.declared.SonicStream.{SonicStream}
use Rattle.stream.specs.declared.refusal.Refused.{Refused}
use Rattle.read.specs.declared.Gave.{Gave}
use Rattle.read.specs.Reading.{read_call, stream_after_read}
use Rattle.plans.specs.declared.Plan.{Plan}
use Rattle.plans.specs.Plans.{output_area, block_samples}
use Rattle.serving.specs.Steady.{Steady, SameJob, ReadWent}
use Rattle.serving.proofs.Reading.{read-served}
use Rattle.reels.specs.declared.reel.Reel.{Reel}
use Rattle.reels.specs.declared.state.RunState.{RunState}
use Rattle.reels.specs.States.{sound}
use Rattle.reels.specs.Serving.{OnlyTotals, Serving}
use Rattle.reels.proofs.FramesRead.{given-of, same_of}
use Rattle.reels.proofs.Going.{failed-once, kept-unsound, out-stopped, moved}
use Rattle.reels.proofs.Serving.{output-of, only_kept, serving-moved}
use Rattle.reels.proofs.reel.Reel.write_out.Goals as goal

abbrev Went : Reel → SonicStream → Type 0
Went r t = Steady t × SameJob r.stream t × (t.held.0 ≡ r.stream.held.0)

module _ (r : Reel) (values : List Float) (output : List ℤ) where
  abbrev answer : Result Gave Refused
  answer = (read_call r.stream block_samples values output).answer

  -- a read of a steady stream is not refused
  went : (p : Plan) → length output ≡ output_area p.small → Serving p r → ReadWent r.stream answer
  went p z y = read-served r.stream y.steady output (output-of p r _ y z) block_samples values

  done : (g : Gave) → Ok g ≡ answer → (p : Plan) → length output ≡ output_area p.small → Serving p r → Went r g.stream
  done g told p z y = subst (ReadWent r.stream) (sym told) (went p z y)

pub samples-count-requires : goal.samples-count-requires
samples-count-requires g c =
    let a = c.args in
    let t = given-of a.self.stream a.values.now a.output.now _ (sym c.in-Ok.is ∙ c.read_f32.ensures.answer) in
    omega (arith, t.fits)

pub write_values-requires : goal.write_values-requires
write_values-requires g c =
    let a = c.args in
    let t = given-of a.self.stream a.values.now a.output.now _ (sym c.in-Ok.is ∙ c.read_f32.ensures.answer) in
    (omega (arith, t.fits), omega (arith, t.fits))

pub returns-in-Err : goal.returns-in-Err
returns-in-Err g c =
    let a = c.args in
    let values = a.values.now in
    let output = a.output.now in
    let told : Err c.in-Err.refused ≡ answer a.self values output = sym c.in-Err.is ∙ c.read_f32.ensures.answer in
    let s = same_of a.self.stream values output _ told in
    let k = c.stopped.ensures in
    let unsound : sound c.stopped.result.state ≡ false = ap sound k.state_is ∙ kept-unsound a.self.state _ refl in
    record {
      out =
          out-stopped _ refl k (ap (λ (t : SonicStream). t.channels) s) (ap (λ (t : SonicStream). t.held.0) s)
          (λ p z y. absurd (subst (ReadWent a.self.stream) (sym told) (went a.self values output p (omega arith) y)));
      stream_is = k.stream_kept ∙ ap stream_after_read told;
      fewer = λ e w. absurd (failed-once e unsound);
    }

pub returns-in-Ok-write_values : goal.returns-in-Ok-write_values
returns-in-Ok-write_values g c =
    let r = c.args.self in
    let values = c.args.values.now in
    let output = c.args.output.now in
    let told : Ok c.in-Ok.gave ≡ answer r values output = sym c.in-Ok.is ∙ c.read_f32.ensures.answer in
    let t = given-of r.stream values output _ told in
    record {
      out =
          record {
            input_kept = record { frames_same = refl; source_same = refl; partial_same = refl; ended_same = refl };
            written_kept = refl;
            flushed_kept = refl;
            notes_kept =
                record { stalls_same = refl; from_same = refl; passed_same = refl; gave_same = refl; tail_same = refl; passes_same = refl };
            map_kept = refl;
            channels_kept = t.channels_kept;
            held_kept = t.held_kept;
            state_stays = λ e. refl;
            serving_kept = λ p z y.
                let h = done r values output _ told p (omega arith) y in serving-moved p r _ (λ e. refl) (λ o. o) h.0 h.1 h.2 y;
            accounted = λ e. moved r.frames_out c.in-Ok.gave.frames.0 r.stream.waiting.0 _ _ refl t.left t.waited;
          };
      stream_is = ap stream_after_read told;
      fewer = λ e w. omega (arith, t.left, t.some (omega arith) w);
    }

pub returns-in-Err-write_values : goal.returns-in-Err-write_values
returns-in-Err-write_values g c =
    let r = c.args.self in
    let values = c.args.values.now in
    let output = c.args.output.now in
    let told : Ok c.in-Ok.gave ≡ answer r values output = sym c.in-Ok.is ∙ c.read_f32.ensures.answer in
    let t = given-of r.stream values output _ told in
    let k = c.stopped-in-Err-write_values.ensures in
    let unsound : sound c.stopped-in-Err-write_values.result.state ≡ false = ap sound k.state_is ∙ kept-unsound r.state _ refl in
    record {
      out =
          out-stopped _ refl k t.channels_kept t.held_kept
          (λ p z y.
          let h = subst (Went r) (sym k.stream_kept) (done r values output _ told p (omega arith) y) in
          serving-moved p r _ (λ e. absurd (failed-once e unsound))
          (λ o. subst OnlyTotals (sym k.state_is) (only_kept r.state RunState.WriteFailed tt o)) h.0 h.1 h.2 y);
      stream_is = k.stream_kept ∙ ap stream_after_read told;
      fewer = λ e w. absurd (failed-once e unsound);
    }
