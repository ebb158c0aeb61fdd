-- What the tests of refusal 3 show, as facts on numbers. Here:
--   Tests, tests-of, in-order-of             the five tests of a stream in order, from it and to it
--   limits-in, limits-range, limits_of       rate and channels
--   within-range                             a setting in its range
--   Ranges, ranges-of, settings-of, ranges-same      the three of them, from their test and to it, and of equal settings
--   period_in, prev-order, position-order    the period record and the positions
--   state-ready, ready_of                    what a call's work goes by, in any areas and in none
--   good_of, bad-of                          the two answers of `ordered`
-- Passed on: both, neither, holds (`Testing`); AreasGood, areas-of, output-of, area-short, area-fits, over-same, room-same (`AreaTests`).
-- Assumes nothing.
use mathlib.Core.Path.{◌≡◌, refl}
use mathlib.Core.Bool.{Bool, true, false, not, cond, ◌&&◌, ◌||◌}
use mathlib.Core.Logic.{◌⊎◌, inl, inr}
use mathlib.Core.List.{List, []}
use Prim.Native.Nat.{ℕ, ◌*◌}
use borrow.Author.Tests.{leb-true, ltb-true, ltb-false, eqb-true, not-true}
use lib.Dec.{T, leb, ltb, eqb}
use Rattle.std.specs.Prelude.{Option, Some, None}
use lib.IntN.{ℤ}
use lib.Ieee.{Float, le}
use Rattle.floats.specs.Settings.{sample_period, min_speed, max_speed, min_pitch, max_pitch, min_volume, max_volume}
use Rattle.period.specs.Rates.{min_period, max_period, InLimits}
use Rattle.search.specs.Search.{widest_gap}
use Rattle.period.specs.Pitch.{InRange, PrevInOrder}
use Rattle.rate.specs.declared.Rates.{Rates}
use Rattle.rate.specs.Halving.{rates_of}
use Rattle.rate.specs.Tail.{ceil_div, PositionInOrder}
use Rattle.stream.specs.declared.SonicStream.{SonicStream}
use Rattle.stream.specs.Stream.{state_of, unlent}
use Rattle.stream.specs.Refusals.{
  rate_bad,
  channels_bad,
  within,
  limits_in_order,
  period_in_order,
  settings_in_order,
  prev_in_order,
  positions_in_order,
  is_in_order,
}
use Rattle.stream.specs.Order.{order_of, StateReady}
pub use Rattle.stream.proofs.Testing.{both, neither, holds}
pub use Rattle.stream.proofs.AreaTests.{AreasGood, areas-of, output-of, area-short, area-fits, over-same, room-same}

-- ---- the tests

-- the five tests
pub record Tests (s : SonicStream) : Type 0 where
  pub limits : limits_in_order s ≡ true
  pub period : period_in_order s ≡ true
  pub settings : settings_in_order s ≡ true
  pub prev : prev_in_order s ≡ true
  pub positions : positions_in_order (rates_of s.rate s.pitch) s ≡ true

pub tests-of : (s : SonicStream) → is_in_order s ≡ true → Tests s
unfolding is_in_order
tests-of s e =
    let positions : Bool = positions_in_order (rates_of s.rate s.pitch) s in
    let a = both (limits_in_order s) (period_in_order s && (settings_in_order s && (prev_in_order s && positions))) e in
    let b = both (period_in_order s) (settings_in_order s && (prev_in_order s && positions)) a.1 in
    let c = both (settings_in_order s) (prev_in_order s && positions) b.1 in
    let d = both (prev_in_order s) positions c.1 in
    record { limits = a.0; period = b.0; settings = c.0; prev = d.0; positions = d.1 }

pub in-order-of : (s : SonicStream) → Tests s → is_in_order s ≡ true
unfolding is_in_order
in-order-of s t = rw (t.limits, t.period, t.settings, t.prev, t.positions)

-- ---- rate and channels

pub limits-in : (rate channels : ℕ) → rate_bad rate ≡ false → channels_bad channels ≡ false → InLimits rate channels
unfolding rate_bad channels_bad
limits-in rate channels r c =
    let p = neither (ltb rate 1000) (ltb 500000 rate) r in
    let q = neither (ltb channels 1) (ltb 32 channels) c in
    record {
      rate_low = ltb-false rate 1000 p.0;
      rate_high = ltb-false 500000 rate p.1;
      channels_low = ltb-false channels 1 q.0;
      channels_high = ltb-false 32 channels q.1;
    }

pub limits-range : (s : SonicStream) → limits_in_order s ≡ true → InLimits s.rate s.channels
unfolding limits_in_order
limits-range s e =
    let a = both (not (rate_bad s.rate)) (not (channels_bad s.channels)) e in
    limits-in s.rate s.channels (not-true (rate_bad s.rate) a.0) (not-true (channels_bad s.channels) a.1)

pub limits_of : (s : SonicStream) → is_in_order s ≡ true → InLimits s.rate s.channels
limits_of s e = limits-range s (tests-of s e).limits

-- ---- settings

-- one of them in its range
pub within-range : (low high x : Float) → within low high x ≡ true → T (le low x) × T (le x high)
within-range low high x e = let b = both (le low x) (le x high) e in (holds b.0, holds b.1)

-- the three of them
pub record Ranges (s : SonicStream) : Type 0 where
  pub speed : within min_speed max_speed s.speed ≡ true
  pub pitch : within min_pitch max_pitch s.pitch ≡ true
  pub volume : within min_volume max_volume s.volume ≡ true

pub ranges-of : (s : SonicStream) → settings_in_order s ≡ true → Ranges s
unfolding settings_in_order
ranges-of s e =
    let volume : Bool = within min_volume max_volume s.volume in
    let a = both (within min_speed max_speed s.speed) (within min_pitch max_pitch s.pitch && volume) e in
    let b = both (within min_pitch max_pitch s.pitch) volume a.1 in
    record { speed = a.0; pitch = b.0; volume = b.1 }

pub settings-of : (s : SonicStream) → Ranges s → settings_in_order s ≡ true
unfolding settings_in_order
settings-of s r = rw (r.speed, r.pitch, r.volume)

pub ranges-same : (s t : SonicStream) → t.speed ≡ s.speed → t.pitch ≡ s.pitch → t.volume ≡ s.volume → Ranges s → Ranges t
ranges-same s t speed pitch volume r =
    record { speed = rw speed r.speed; pitch = rw pitch r.pitch; volume = rw volume r.volume }

-- ---- the period record and the positions

pub period_in : (rate q : ℕ) → (eqb q 0 || (leb (min_period rate) q && leb q (max_period rate))) ≡ true → (q ≡ 0) ⊎ InRange rate q
period_in rate q e = go (eqb q 0) refl e
  where
    go : (b : Bool) → eqb q 0 ≡ b → (b || (leb (min_period rate) q && leb q (max_period rate))) ≡ true → (q ≡ 0) ⊎ InRange rate q
    go true z h = inl (eqb-true q 0 z)
    go false z h =
        let r = both (leb (min_period rate) q) (leb q (max_period rate)) h in
        inr (record { low = leb-true (min_period rate) q r.0; high = leb-true q (max_period rate) r.1 })

pub prev-order : (s : SonicStream) → prev_in_order s ≡ true → PrevInOrder s.rate (unlent s).prev
unfolding prev_in_order state_of
prev-order s e =
    let q = s.prev_period in
    let r = both (eqb q 0 || (leb (min_period s.rate) q && leb q (max_period s.rate))) (leb s.prev_min_diff widest_gap) e in
    record { period_in = period_in s.rate q r.0; min_diff_in = leb-true s.prev_min_diff widest_gap r.1 }

pub position-order : (r : Rates) (s : SonicStream) → positions_in_order r s ≡ true → PositionInOrder r (unlent s).at
unfolding positions_in_order state_of
position-order r s e =
    let least : ℕ = ceil_div (s.old_rate_position * r.new) r.old in
    let b = both (ltb s.old_rate_position r.old) (eqb s.new_rate_position least) e in
    record { below = ltb-true s.old_rate_position r.old b.0; least = eqb-true s.new_rate_position least b.1 }

-- ---- what a call's work goes by

-- whatever its areas hold
pub state-ready : (s : SonicStream) → is_in_order s ≡ true → (input stage : List ℤ) → StateReady (state_of s input stage)
unfolding state_of
state-ready s e input stage =
    let t = tests-of s e in
    let v = within-range min_volume max_volume s.volume (ranges-of s t.settings).volume in
    record {
      limits = limits_of s e;
      volume_low = v.0;
      volume_high = v.1;
      position = position-order (rates_of s.rate s.pitch) s t.positions;
      prev = prev-order s t.prev;
    }

pub ready_of : (s : SonicStream) → is_in_order s ≡ true → StateReady (unlent s)
ready_of s e = state-ready s e [] []

-- ---- what `ordered` answers

abbrev order_by : SonicStream → Bool → Option Float
order_by s b = cond b (Some (sample_period s.rate)) None

pub good_of : (s : SonicStream) (period : Float) → order_of s ≡ Some period → (is_in_order s ≡ true) × (period ≡ sample_period s.rate)
unfolding order_of
good_of s period e = go (is_in_order s) refl e
  where
    go : (b : Bool) → is_in_order s ≡ b → order_by s b ≡ Some period → (is_in_order s ≡ true) × (period ≡ sample_period s.rate)
    go true p h = (p, cc)
    go false p h = cc

pub bad-of : (s : SonicStream) → order_of s ≡ None → is_in_order s ≡ false
unfolding order_of
bad-of s e = go (is_in_order s) refl e
  where
    go : (b : Bool) → is_in_order s ≡ b → order_by s b ≡ None → is_in_order s ≡ false
    go true p h = cc
    go false p h = p
