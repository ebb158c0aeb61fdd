-- `period::pitch::search_values` meets its contract: the samples, or the front of the scratch, are the values. Assumes nothing.
use Rattle.std.proofs.Common.{◌≡◌, ◌++◌, ◌*◌, sym, ap, ◌∙◌, length, take, drop, arith}
use mathlib.Core.List.{List}
use Prim.Native.Nat.{ℕ}
use borrow.Author.Tests.{eq-eqb, ne_eqb}
use lib.IntN.{ℤ}
use lib.Seq.{take_at}
use Rattle.search.specs.Outward.{wanted_in}
use Rattle.averages.specs.Averages.{down_sample_input}
use Rattle.period.specs.Pitch.{values_of}
use Rattle.averages.proofs.Averaging.{length-down_sample_input}
use Rattle.period.proofs.pitch.search_values.Goals as goal

-- the averages at the front of the scratch
front : (x d : List ℤ) (n per : ℕ) {out : List ℤ} → out ≡ down_sample_input x n per ++ drop n d → take n out ≡ down_sample_input x n per
front x d n per e = ap (take n) e ∙ take_at (down_sample_input x n per) (drop n d) n (length-down_sample_input x n per)

front_length : (x d : List ℤ) (n per : ℕ) {out : List ℤ} → out ≡ down_sample_input x n per ++ drop n d → length (take n out) ≡ n
front_length x d n per e = ap length (front x d n per e) ∙ length-down_sample_input x n per

pub candidate_in_range-requires : goal.candidate_in_range-requires
candidate_in_range-requires c =
    let a = c.args in
    let r = c.requires.searchable in
    let e : a.num_values * a.per_value.0 ≡ a.num_values = rw c.if-n-eq1.true (omega arith) in
    record { some = r.some; order = r.order; short = r.short; enough = omega (arith, r.enough, c.requires.averageable.enough) }

pub returns-then-n-eq1 : goal.returns-then-n-eq1
unfolding values_of
returns-then-n-eq1 c = rw (eq-eqb _ 1 c.if-n-eq1.true) c.candidate_in_range.ensures

pub slice_bounds-candidate_in_range-end-2 : goal.slice_bounds-candidate_in_range-end-2
slice_bounds-candidate_in_range-end-2 c = sym (front_length _ _ _ _ c.down_sample_input.ensures)

pub candidate_in_range-requires-2 : goal.candidate_in_range-requires-2
candidate_in_range-requires-2 c = rw (front_length _ _ _ _ c.down_sample_input.ensures) c.requires.searchable

pub returns : goal.returns
unfolding values_of
returns c =
    let a = c.args in
    let e = ap (λ (l : List ℤ). wanted_in a.wanted l a.low a.high) (front _ _ _ _ c.down_sample_input.ensures) in
    rw (ne_eqb _ 1 c.if-n-eq1.false) (c.candidate_in_range-2.ensures ∙ e)
