-- `crossfade::periods::insert_pitch_period` meets its contract: the period, and the crossfade behind it. Assumes nothing.
use Prim.Native.Nat.{◌+◌}
use native.Mathlib.Nat.{mul-le-mul_left, le_trans, le_of_eq}
use native.Mathlib.Omega.{arith}
use mathlib.Core.Path.{sym}
use Rattle.crossfade.proofs.Crossfading.{insert-within, insert-on}
use Rattle.crossfade.proofs.periods.insert_pitch_period.Goals as goal
use Rattle.crossfade.proofs.periods.insert_pitch_period.Goals.{After-copy_unmodified_samples, After-samples, Start}

-- ---- places

-- the three counts are made
module _ (c : After-samples) where
  abbrev copied : After-copy_unmodified_samples
  copied = c.before.before.before.before.before.before

  abbrev start : Start
  start = copied.before.before

pub overflow_add-later : goal.overflow_add-later
overflow_add-later c =
    let b = c.before.before.before.before.before in
    record { fits = omega (arith, mul-le-mul_left (b.args.position.0 + (b.args.period.0 + b.args.k.0)) b.requires.0, b.requires.2) }

pub overlap_add-requires : goal.overlap_add-requires
overlap_add-requires c =
    let d = c.before.before.before in
    let a = (start d).args in
    let p = (start d).requires in
    let w = insert-within a.input.now a.area.now a.channels a.position.0 a.period.0 a.k.0 a.to.0
    d.samples-here.ensures d.samples-there.ensures p.2 p.3 d.samples.ensures in
    record {
      k_le_longest_period = p.1;
      channels_in_bounds = (w.0, w.1, le_trans w.2 (le_of_eq (sym (copied d).copy_unmodified_samples.auto.area)));
    }

pub returns : goal.returns
returns c =
    let d = c.before.before.before.before.before in
    let a = (start d).args in
    let p = (start d).requires in
    insert-on a.input.now a.area.now a.channels a.position.0 a.period.0 a.k.0 a.to.0 d.samples-here.ensures
    d.samples-there.ensures p.2 p.3 d.samples.ensures (copied d).copy_unmodified_samples.ensures c.overlap_add.ensures
