-- `period::pitch::Searched::least_at` meets its contract: the second search is handed a period near the range (`proofs/Ranges.antt`). Assumes nothing.
use Rattle.std.proofs.Common.{◌≡◌, sym, ◌∙◌, arith, rules}
use Rattle.period.specs.Rates.{skip}
use Rattle.period.proofs.Halves.{near-in, near_of, best-first, best-second}
use Rattle.period.proofs.pitch.Searched.least_at.Goals as goal

pub overflow_mul-near : goal.overflow_mul-near
overflow_mul-near c =
    let v = c.args.self.now in
    let near = near_of c.args.ties _ _ _ _ (c.first.view_is ∙ c.coarse_search-first.ensures) c.skip-skip.ensures.value in
    record { fits = omega (arith, (near-in c.args.ties _ _ _ v.in_limits near).0, v.in_limits.rate_high) }

pub returns-then-skip-eq1 : goal.returns-then-skip-eq1
returns-then-skip-eq1 c =
    let first = c.coarse_search-first.ensures in
    let one : skip c.args.self.now.rate ≡ 1 = sym c.skip-skip.ensures.value ∙ c.if-skip-eq1.true in
    record {
      near = near_of c.args.ties _ _ _ _ (c.first.view_is ∙ first) c.skip-skip.ensures.value;
      best = first ∙ best-first c.args.ties _ _ _ _ one;
    }

pub fine_search-best-requires : goal.fine_search-best-requires
fine_search-best-requires c =
    let near = near_of c.args.ties _ _ _ _ (c.first.view_is ∙ c.coarse_search-first.ensures) c.skip-skip.ensures.value in
    let inside = near-in c.args.ties _ _ _ c.args.self.now.in_limits near in
    record { near_high = inside.0; near_low = inside.1; fits = search rules }

pub returns : goal.returns
returns c =
    let near = near_of c.args.ties _ _ _ _ (c.first.view_is ∙ c.coarse_search-first.ensures) c.skip-skip.ensures.value in
    let more : skip c.args.self.now.rate ≡ 1 → ⊥ = λ z. c.if-skip-eq1.false (c.skip-skip.ensures.value ∙ z) in
    record { near = near; best = c.fine_search-best.ensures ∙ best-second c.args.ties _ _ _ _ more near }
