-- Parts of the map written: none and one more (map_same, map-trans); a stream that takes more did so before (map-takes), and a reel of a served job
-- stays one (map-serving). Assumes nothing.
use mathlib.Core.Path.{◌≡◌, refl, sym, ap, ◌∙◌}
use mathlib.Core.Bool.{true}
use Rattle.plans.specs.declared.Plan.{Plan}
use Rattle.reels.specs.declared.reel.Reel.{Reel}
use Rattle.stream.specs.declared.SonicStream.{SonicStream}
use Rattle.reels.specs.States.{sound}
use Rattle.reels.specs.Serving.{Serving}
use Rattle.reels.specs.Reels.{takes_more}
use Rattle.reels.proofs.Going.{stays-takes, same-input, input-trans, same-notes, notes-trans}
use Rattle.reels.proofs.Serving.{serving-stays}
use Rattle.maps.specs.Maps.{MapWritten}

pub map_same : {r : Reel} → MapWritten r r
map_same =
    record {
      input_kept = same-input;
      stream_kept = refl;
      written_kept = refl;
      out_kept = refl;
      flushed_kept = refl;
      notes_kept = same-notes;
      state_stays = λ e. refl;
      map_stays = λ e. refl;
      only_kept = λ o. o;
    }

pub map-trans : {r s t : Reel} → MapWritten r s → MapWritten s t → MapWritten r t
map-trans {r} {s} {t} a b =
    let before : sound t.state ≡ true → sound s.state ≡ true = λ e. ap sound (sym (b.state_stays e)) ∙ e in
    record {
      input_kept = input-trans a.input_kept b.input_kept;
      stream_kept = b.stream_kept ∙ a.stream_kept;
      written_kept = b.written_kept ∙ a.written_kept;
      out_kept = b.out_kept ∙ a.out_kept;
      flushed_kept = b.flushed_kept ∙ a.flushed_kept;
      notes_kept = notes-trans a.notes_kept b.notes_kept;
      state_stays = λ e. b.state_stays e ∙ a.state_stays (before e);
      map_stays = λ e. b.map_stays e ∙ a.map_stays (before e);
      only_kept = λ o. b.only_kept (a.only_kept o);
    }

pub map-takes : (p : Plan) {r t : Reel} → MapWritten r t → takes_more p t ≡ true → takes_more p r ≡ true
map-takes p {r} {t} w e = stays-takes p r t (ap (λ (s : SonicStream). s.held.0) w.stream_kept) w.state_stays e

pub map-serving : (p : Plan) {r t : Reel} → MapWritten r t → Serving p r → Serving p t
map-serving p {r} {t} w = serving-stays p r t w.state_stays w.only_kept w.stream_kept
