-- What the state of a run shows, and runs that frames were written out of:
--   failed-once                        a truth value is one of two
--   takes-sound, failed-unsound        what the stream takes, and what has failed
--   kept-unsound                       the state after a refusal or a failure
--   same-input, input-trans            what is known of the input
--   same-notes, notes-trans            what is noted
--   out-same, out-trans                frames written out, in no turn and in one more
--   out-stopped                        a refusal or a failure behind a read
--   stays-takes, out-takes             a stream that takes more did so before
--   moved                              frames that wait no longer are counted
-- Assumes nothing.
use Rattle.std.proofs.Common.{◌≡◌, ℕ, ◌+◌, ◌-◌, ◌%◌, ◌^◌, ◌≤◌, Bool, true, false, cond, sym, refl, ap, ◌∙◌, arith}
use native.Mathlib.Nat.{mod-add-mod}
use Rattle.stream.specs.declared.SonicStream.{SonicStream}
use Rattle.plans.specs.declared.Plan.{Plan}
use Rattle.plans.specs.Plans.{output_area}
use Rattle.reels.specs.declared.reel.Reel.{Reel}
use Rattle.reels.specs.declared.state.RunState.{RunState}
use Rattle.reels.specs.States.{sound, failed, takes, kept}
use Rattle.reels.specs.Serving.{Serving}
use Rattle.reels.specs.Reels.{takes_more, SameInput, SameNotes, Stopped, WrittenOut}

-- a truth value is one of two
pub failed-once : {f : Bool} → f ≡ true → f ≡ false → ⊥
failed-once a b = let z : ◌≡◌ {A = ℕ} 0 1 = cc in omega arith

pub takes-sound : (p : Plan) (held : ℕ) (s : RunState) → takes p held s ≡ true → sound s ≡ true
takes-sound p held RunState.Going e = refl
takes-sound p held (RunState.Stalled at) e = refl
takes-sound p held (RunState.FlushStalled at) e = refl
takes-sound p held (RunState.Refused refusal) e = e
takes-sound p held RunState.ReadFailed e = e
takes-sound p held RunState.WriteFailed e = e

pub failed-unsound : (s : RunState) → failed s ≡ true → sound s ≡ false
failed-unsound RunState.Going e = sym e
failed-unsound (RunState.Stalled at) e = sym e
failed-unsound (RunState.FlushStalled at) e = sym e
failed-unsound (RunState.Refused refusal) e = refl
failed-unsound RunState.ReadFailed e = refl
failed-unsound RunState.WriteFailed e = refl

pub kept-unsound : (s next : RunState) → sound next ≡ false → sound (kept s next) ≡ false
kept-unsound s next e = go (sound s) refl
  where
    go : (b : Bool) → sound s ≡ b → sound (cond b next s) ≡ false
    go true h = e
    go false h = h

pub input-trans : {r s t : Reel} → SameInput r s → SameInput s t → SameInput r t
input-trans a b =
    record {
      frames_same = b.frames_same ∙ a.frames_same;
      partial_same = b.partial_same ∙ a.partial_same;
      ended_same = b.ended_same ∙ a.ended_same;
      source_same = b.source_same ∙ a.source_same;
    }

pub same-input : {r : Reel} → SameInput r r
same-input = record { frames_same = refl; source_same = refl; partial_same = refl; ended_same = refl }

pub notes-trans : {r s t : Reel} → SameNotes r s → SameNotes s t → SameNotes r t
notes-trans a b =
    record {
      stalls_same = b.stalls_same ∙ a.stalls_same;
      from_same = b.from_same ∙ a.from_same;
      passed_same = b.passed_same ∙ a.passed_same;
      gave_same = b.gave_same ∙ a.gave_same;
      tail_same = b.tail_same ∙ a.tail_same;
      passes_same = b.passes_same ∙ a.passes_same;
    }

pub same-notes : {r : Reel} → SameNotes r r
same-notes = record { stalls_same = refl; from_same = refl; passed_same = refl; gave_same = refl; tail_same = refl; passes_same = refl }

pub out-same : {samples : ℕ} {r : Reel} → WrittenOut samples r r
out-same =
    record {
      input_kept = same-input;
      written_kept = refl;
      flushed_kept = refl;
      notes_kept = same-notes;
      map_kept = refl;
      channels_kept = refl;
      held_kept = refl;
      state_stays = λ e. refl;
      accounted = λ e. refl;
      serving_kept = λ p z s. s;
    }

pub out-trans : {samples : ℕ} {r s t : Reel} → WrittenOut samples r s → WrittenOut samples s t → WrittenOut samples r t
out-trans {r} {s} {t} a b =
    let before : sound t.state ≡ true → sound s.state ≡ true = λ e. ap sound (sym (b.state_stays e)) ∙ e in
    record {
      input_kept = input-trans a.input_kept b.input_kept;
      written_kept = b.written_kept ∙ a.written_kept;
      flushed_kept = b.flushed_kept ∙ a.flushed_kept;
      notes_kept = notes-trans a.notes_kept b.notes_kept;
      map_kept = b.map_kept ∙ a.map_kept;
      channels_kept = b.channels_kept ∙ a.channels_kept;
      held_kept = b.held_kept ∙ a.held_kept;
      state_stays = λ e. b.state_stays e ∙ a.state_stays (before e);
      accounted = λ e. b.accounted e ∙ a.accounted (before e);
      serving_kept = λ p z y. b.serving_kept p z (a.serving_kept p z y);
    }

-- a read left the stream t, and then the run stopped
pub out-stopped : {samples : ℕ} {r r' : Reel} {t : SonicStream} (state : RunState) → sound state ≡ false
    → Stopped (kept r.state state) (record r { stream = t }) r' → t.channels ≡ r.stream.channels → t.held.0 ≡ r.stream.held.0
    → ((p : Plan) → samples ≡ output_area p.small → Serving p r → Serving p r') → WrittenOut samples r r'
out-stopped {r = r} {r' = r'} state u k channels held serving =
    let unsound : sound r'.state ≡ false = ap sound k.state_is ∙ kept-unsound r.state state u in
    let i = k.input_kept in
    let n = k.notes_kept in
    record {
      input_kept = record { frames_same = i.frames_same; source_same = i.source_same; partial_same = i.partial_same; ended_same = i.ended_same };
      written_kept = k.written_kept;
      flushed_kept = k.flushed_kept;
      notes_kept =
          record {
            stalls_same = n.stalls_same;
            from_same = n.from_same;
            passed_same = n.passed_same;
            gave_same = n.gave_same;
            tail_same = n.tail_same;
            passes_same = n.passes_same;
          };
      map_kept = k.map_kept;
      channels_kept = ap (λ (s : SonicStream). s.channels) k.stream_kept ∙ channels;
      held_kept = ap (λ (s : SonicStream). s.held.0) k.stream_kept ∙ held;
      state_stays = λ e. absurd (failed-once e unsound);
      accounted = λ e. absurd (failed-once e unsound);
      serving_kept = serving;
    }

-- a stream that takes more, in a state that a sound one may have become, did so before
pub stays-takes : (p : Plan) (r t : Reel) → t.stream.held.0 ≡ r.stream.held.0 → (sound t.state ≡ true → t.state ≡ r.state)
    → takes_more p t ≡ true → takes_more p r ≡ true
stays-takes p r t held stays e =
    let same = stays (takes-sound p t.stream.held.0 t.state e) in
    ap (λ (n : ℕ). takes p n r.state) (sym held) ∙ ap (takes p t.stream.held.0) (sym same) ∙ e

pub out-takes : (p : Plan) {samples : ℕ} {r t : Reel} → WrittenOut samples r t → takes_more p t ≡ true → takes_more p r ≡ true
out-takes p {r} {t} w e = stays-takes p r t w.held_kept w.state_stays e

pub moved : (out n waiting after left : ℕ) → after ≡ (out + n) % 2 ^ 64 → left ≡ waiting - n → n ≤ waiting
    → (after + left) % 2 ^ 64 ≡ (out + waiting) % 2 ^ 64
moved out n waiting after left a l h =
    let whole : out + n + left ≡ out + waiting = omega arith in
    ap (λ (k : ℕ). (k + left) % 2 ^ 64) a ∙ mod-add-mod (out + n) (2 ^ 64) left ∙ ap (λ (k : ℕ). k % 2 ^ 64) whole
