-- `search::find_pitch_period_in_range` meets its contract: two periods more, and the last one. Assumes nothing.
use Rattle.std.proofs.Common.{◌≡◌, ◌+◌, ◌*◌, refl, ◌∙◌, ap, arith}
use Rattle.search.specs.Search.{candidate, lesser, greater, best, worst, found_of, find_pitch_period_in_range}
use Rattle.search.proofs.Candidates.{sweep-first, sweep-one}
use Rattle.search.proofs.find_pitch_period_in_range.Goals as goal
use Rattle.search.proofs.find_pitch_period_in_range.Goals.{then-more-eq1, else-more-eq1}

pub loop-pair-init : goal.loop-pair-init
loop-pair-init c =
    let x = c.args.samples.now in
    let low = c.args.min_period in
    let r = c.candidate_at-first.ensures in
    (r ∙ sweep-first (lesser c.args.ties) x low (omega arith), r ∙ sweep-first greater x low (omega arith))

pub loop-pair-preserved : goal.loop-pair-preserved
loop-pair-preserved c =
    let x = c.args.samples.now in
    let low = c.args.min_period in
    let q = low + 2 * c.loop-pair.pair in
    let two = c.neighbours_from-this.ensures in
    let b = sweep-one (lesser c.args.ties) x low {p = q} {q = q + 1} (omega arith) refl c.loop-pair.invariant.0 two.this c.lesser.ensures in
    let w = sweep-one greater x low {p = q} {q = q + 1} (omega arith) refl c.loop-pair.invariant.1 two.this c.greater.ensures in (
      sweep-one (lesser c.args.ties) x low (omega arith) (omega arith) b (two.next ∙ ap (candidate x) (omega arith)) c.lesser-best.ensures,
      sweep-one greater x low (omega arith) (omega arith) w (two.next ∙ ap (candidate x) (omega arith)) c.greater-worst.ensures,
    )

pub returns-clause-value : goal.returns-clause-value
unfolding find_pitch_period_in_range
returns-clause-value c =
    let x = c.args.samples.now in
    let ties = c.args.ties in
    let low = c.args.min_period in
    let high = c.args.max_period in
    let b : c.if-more-eq1.best ≡ best ties x low high =
    elim c.if-more-eq1.branch [
      | then-more-eq1 w ↦ w.best-is ∙ sweep-one (lesser ties) x low (omega arith) (omega arith) c.loop-pair.invariant.0 w.candidate_at-last.ensures w.lesser-best-then-more-eq1.ensures
      | else-more-eq1 w ↦ w.best-is ∙ c.loop-pair.invariant.0 ∙ ap (best ties x low) (omega arith)
    ] in
    let m : c.if-more-eq1.worst ≡ worst x low high =
    elim c.if-more-eq1.branch [
      | then-more-eq1 w ↦ w.worst-is ∙ sweep-one greater x low (omega arith) (omega arith) c.loop-pair.invariant.1 w.candidate_at-last.ensures w.greater-worst-then-more-eq1.ensures
      | else-more-eq1 w ↦ w.worst-is ∙ c.loop-pair.invariant.1 ∙ ap (worst x low) (omega arith)
    ] in
    c.found_of.ensures.value ∙ (λ i. found_of (b i) (m i))
