use Rattle.std.proofs.Common.{◌≡◌, false, refl, sym, ap, ◌∙◌, subst}
use Rattle.reels.specs.declared.state.RunState.{RunState}
use Rattle.reels.specs.States.{sound}
use Rattle.reels.specs.Serving.{OnlyTotals}
use Rattle.reels.proofs.Going.{failed-once, kept-unsound}
use Rattle.reels.proofs.Serving.{only_kept}
use Rattle.maps.proofs.mapped.Goals as goal

pub returns-in-Err : goal.returns-in-Err
returns-in-Err c =
    let r = c.args.reel in
    let k = c.stopped.ensures in
    let i = k.input_kept in
    let n = k.notes_kept in
    let unsound : sound c.stopped.result.state ≡ false = ap sound k.state_is ∙ kept-unsound r.state _ refl in
    record {
      input_kept = record { frames_same = i.frames_same; source_same = i.source_same; partial_same = i.partial_same; ended_same = i.ended_same };
      stream_kept = k.stream_kept;
      written_kept = k.written_kept;
      out_kept = k.out_kept;
      flushed_kept = k.flushed_kept;
      notes_kept =
          record {
            stalls_same = n.stalls_same;
            from_same = n.from_same;
            passed_same = n.passed_same;
            gave_same = n.gave_same;
            tail_same = n.tail_same;
            passes_same = n.passes_same;
          };
      state_stays = λ e. absurd (failed-once e unsound);
      map_stays = λ e. absurd (failed-once e unsound);
      only_kept = λ o. subst OnlyTotals (sym k.state_is) (only_kept r.state RunState.WriteFailed tt o);
    }
