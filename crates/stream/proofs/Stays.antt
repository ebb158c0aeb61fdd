-- A stream in order stays so. Theorems over the definitions of `specs/`, for the crates above:
--   ready-in-order      a stream that a call's work goes by, with its settings in range, is in order
--   state-in-order      so is the stream of such a state
--   open-in-order       the stream of an accepted opening is in order
--   zero-not-in-order, refused-not-in-order    the stream with every field 0 is not, nor so that of a refused opening
--   setting-in-order, set-in-order     a setting keeps it so; the stream of an accepted one is in order
--   waiting-in-order    a stream in order stays so with other frames waiting and the sample period of its rate
--   totals-free         whether a stream is in order does not go by its totals
-- Before them: the five tests from the facts, of these period-same (T is equal to itself) and positions-of; clamped settings.
-- Assumes nothing.
use mathlib.Core.Path.{◌≡◌, refl, subst}
use mathlib.Core.Bool.{Bool, true, false, not, cond, ◌&&◌, ◌||◌, or-true}
use mathlib.Core.Logic.{inl, ⊎_elim}
use Prim.Native.Nat.{ℕ, ◌*◌, ◌≤◌}
use native.Mathlib.Omega.{arith}
use borrow.Author.Tests.{le-leb, lt-ltb, le-ltb, eq-eqb}
use lib.Dec.{T, leb, eqb}
use lib.Ieee.Bits.{is_true}
use lib.Ieee.{Float, nan, inf, fin, le, lt, eq, is_nan, of_bits, up, down}
use Rattle.std.specs.Prelude.{Result, Ok, Err}
use Rattle.floats.specs.Numbers.{one}
use Rattle.floats.specs.Settings.{sample_period, clamped, min_speed, max_speed, min_pitch, max_pitch, min_volume, max_volume}
use Rattle.floats.proofs.Signs.{le-no-nan}
use Rattle.floats.proofs.Facts.{clamped-in, longest, period-range}
use Rattle.period.specs.declared.PeriodRecord.{PeriodRecord}
use Rattle.period.specs.Rates.{min_period, max_period, InLimits}
use Rattle.search.specs.declared.Ties.{Ties}
use Rattle.search.specs.Search.{widest_gap}
use Rattle.period.specs.Pitch.{PeriodIn, PrevInOrder}
use Rattle.rate.specs.declared.Rates.{Rates}
use Rattle.rate.specs.declared.Position.{Position}
use Rattle.rate.specs.Halving.{rates_of}
use Rattle.rate.specs.Tail.{start, ceil_div, PositionInOrder}
use Rattle.rate.proofs.Halving.{rates-within}
use Rattle.rate.proofs.Positions.{start-order}
use Rattle.stream.specs.declared.SonicStream.{SonicStream}
use Rattle.stream.specs.declared.Setting.{Setting}
use Rattle.stream.specs.declared.Setting.TheVariants.{Speed, Pitch, Volume, StepOver}
use Rattle.stream.specs.declared.refusal.Refusal.TheVariants.{BadRate, BadChannels}
use Rattle.stream.specs.declared.refusal.NotOpened.{NotOpened}
use Rattle.stream.specs.declared.refusal.Refused.{Refused}
use Rattle.stream.specs.declared.balance.Balance.{Balance}
use Rattle.stream.specs.State.{State, with_settings, with_balance}
use Rattle.stream.specs.Stream.{state_of, stream_of, unlent, zero_stream}
use Rattle.stream.specs.Refusals.{
  rate_bad,
  channels_bad,
  within,
  limits_in_order,
  period_in_order,
  settings_in_order,
  prev_in_order,
  positions_in_order,
  is_in_order,
}
use Rattle.stream.specs.Order.{StateReady, StreamReady}
use Rattle.stream.specs.Settings.{fresh, open_call, with_setting, not_in_order, set_call}
use Rattle.stream.proofs.InOrder.{tests-of, in-order-of, limits-in, limits_of, within-range, Ranges, ranges-of, settings-of, ready_of}
use Rattle.stream.proofs.Streams.{ready-stream}

-- ---- the tests, from the facts

limits-test : (s : SonicStream) → InLimits s.rate s.channels → limits_in_order s ≡ true
unfolding limits_in_order rate_bad channels_bad
limits-test s l =
    let rate = le-ltb s.rate 1000 l.rate_low in
    let channels = le-ltb s.channels 1 l.channels_low in
    rw (rate, le-ltb 500000 s.rate l.rate_high, channels, le-ltb 32 s.channels l.channels_high)

eq_self : (x : Float) → T (not (is_nan x)) → eq x x ≡ true
unfolding eq is_nan
eq_self nan h = absurd h
eq_self (inf true) h = refl
eq_self (inf false) h = refl
eq_self (fin true m e) h = rw (eq-eqb (m * up e * down e) (m * up e * down e) refl)
eq_self (fin false m e) h = rw (eq-eqb (m * up e * down e) (m * up e * down e) refl)

pub period-same : (rate : ℕ) → 1000 ≤ rate → rate ≤ 500000 → eq (sample_period rate) (sample_period rate) ≡ true
period-same rate low high = eq_self (sample_period rate) (le-no-nan (sample_period rate) longest (period-range rate low high).3).0

period-test : (s : SonicStream) → InLimits s.rate s.channels → s.sample_period ≡ sample_period s.rate → period_in_order s ≡ true
unfolding period_in_order
period-test s l e = rw e (period-same s.rate l.rate_low l.rate_high)

period-of : (rate : ℕ) (prev : PeriodRecord) → PeriodIn rate prev
    → (eqb prev.period 0 || (leb (min_period rate) prev.period && leb prev.period (max_period rate))) ≡ true
period-of rate prev p =
    ⊎_elim (λ z. rw (eq-eqb prev.period 0 z))
    (λ r. rw (le-leb (min_period rate) prev.period r.low, le-leb prev.period (max_period rate) r.high) (or-true (eqb prev.period 0))) p

prev-test : (s : SonicStream) → PrevInOrder s.rate (unlent s).prev → prev_in_order s ≡ true
unfolding prev_in_order state_of
prev-test s p = rw (period-of s.rate (unlent s).prev p.period_in, le-leb s.prev_min_diff widest_gap p.min_diff_in)

pub positions-of : (r : Rates) (s : SonicStream) → PositionInOrder r (unlent s).at → positions_in_order r s ≡ true
unfolding positions_in_order state_of
positions-of r s h =
    let least : ℕ = ceil_div (s.old_rate_position * r.new) r.old in
    rw (lt-ltb s.old_rate_position r.old h.below, eq-eqb s.new_rate_position least h.least)

-- ---- in order, from the facts

pub ready-in-order : (s : SonicStream) → StreamReady s → Ranges s → is_in_order s ≡ true
unfolding state_of
ready-in-order s r g =
    in-order-of s
    (record {
      limits = limits-test s r.state.limits;
      period = period-test s r.state.limits r.period_is;
      settings = settings-of s g;
      prev = prev-test s r.state.prev;
      positions = positions-of (rates_of s.rate s.pitch) s r.state.position;
    })

pub state-in-order : (x : State) (w : ℕ) → StateReady x → Ranges (stream_of x w) → is_in_order (stream_of x w) ≡ true
state-in-order x w r g = ready-in-order (stream_of x w) (ready-stream r w) g

pub waiting-in-order : (s : SonicStream) (w : ℕ) → is_in_order s ≡ true → is_in_order (stream_of (unlent s) w) ≡ true
unfolding state_of stream_of
waiting-in-order s w e =
    let g = ranges-of s (tests-of s e).settings in
    state-in-order (unlent s) w (ready_of s e) (record { speed = g.speed; pitch = g.pitch; volume = g.volume })

-- ---- settings in range

clamped-within : (x low high : Float) → T (le low high) → within low high (clamped x low high) ≡ true
clamped-within x low high h =
    let y = clamped x low high in
    let r = clamped-in x low high h in
    rw (is_true (le low y) r.0, is_true (le y high) r.1)

speed-range : T (le min_speed max_speed)
unfolding of_bits le lt eq
speed-range = tt

pitch-range : T (le min_pitch max_pitch)
unfolding of_bits le lt eq
pitch-range = tt

volume-range : T (le min_volume max_volume)
unfolding of_bits le lt eq
volume-range = tt

one-within : (within min_speed max_speed one ≡ true) × (within min_pitch max_pitch one ≡ true) × (within min_volume max_volume one ≡ true)
unfolding of_bits le lt eq
one-within = (refl, refl, refl)

-- positions of 0 are in order for every pitch
start-in : (rate : ℕ) (pitch : Float) → 1000 ≤ rate → rate ≤ 500000 → within min_pitch max_pitch pitch ≡ true
    → PositionInOrder (rates_of rate pitch) start
start-in rate pitch low high e =
    let p = within-range min_pitch max_pitch pitch e in
    let w = rates-within rate pitch low high p.0 p.1 in
    start-order (rates_of rate pitch) (omega (arith, w.old_least))

-- ---- an opening

fresh-in-order : (rate channels : ℕ) (ties : Ties) → InLimits rate channels → is_in_order (stream_of (fresh rate channels ties) 0) ≡ true
unfolding stream_of fresh
fresh-in-order rate channels ties l =
    let v = within-range min_volume max_volume one one-within.2 in
    let none : PrevInOrder rate (fresh rate channels ties).prev = record { period_in = inl refl; min_diff_in = omega arith } in
    state-in-order (fresh rate channels ties) 0
    (record { limits = l; volume_low = v.0; volume_high = v.1; position = start-in rate one l.rate_low l.rate_high one-within.1; prev = none })
    (record { speed = one-within.0; pitch = one-within.1; volume = one-within.2 })

pub open-in-order : (rate channels : ℕ) (ties : Ties) (s : SonicStream) → open_call rate channels ties ≡ Ok s → is_in_order s ≡ true
unfolding open_call
open-in-order rate channels ties s e = go (rate_bad rate) (channels_bad channels) refl refl e
  where
    answer : Bool → Bool → Result SonicStream NotOpened
    answer a b =
        cond a (Err (record { refusal = BadRate; given = rate; stream = zero_stream }))
        (cond b (Err (record { refusal = BadChannels; given = channels; stream = zero_stream })) (Ok (stream_of (fresh rate channels ties) 0)))

    go : (a b : Bool) → rate_bad rate ≡ a → channels_bad channels ≡ b → answer a b ≡ Ok s → is_in_order s ≡ true
    go true b p q h = cc
    go false true p q h = cc
    go false false p q h =
        let same : stream_of (fresh rate channels ties) 0 ≡ s = cc in
        subst (λ (t : SonicStream). is_in_order t ≡ true) same (fresh-in-order rate channels ties (limits-in rate channels p q))

-- 3 refuses what a refused opening carries
pub zero-not-in-order : is_in_order zero_stream ≡ false
unfolding is_in_order limits_in_order rate_bad zero_stream
zero-not-in-order = refl

pub refused-not-in-order : (rate channels : ℕ) (ties : Ties) (r : NotOpened) → open_call rate channels ties ≡ Err r → is_in_order r.stream ≡ false
unfolding open_call
refused-not-in-order rate channels ties r = go (rate_bad rate) (channels_bad channels)
  where
    not-in-order : zero_stream ≡ r.stream → is_in_order r.stream ≡ false
    not-in-order e = subst (λ (t : SonicStream). is_in_order t ≡ false) e zero-not-in-order

    go : (a b : Bool)
        → cond a (Err (record { refusal = BadRate; given = rate; stream = zero_stream }))
        (cond b (Err (record { refusal = BadChannels; given = channels; stream = zero_stream })) (Ok (stream_of (fresh rate channels ties) 0))) ≡ Err r
        → is_in_order r.stream ≡ false
    go true b h = let same : zero_stream ≡ r.stream = cc in not-in-order same
    go false true h = let same : zero_stream ≡ r.stream = cc in not-in-order same
    go false false h = cc

-- ---- a setting

module _ (s : SonicStream) (e : is_in_order s ≡ true) where
  -- all but settings and positions is as it was
  with-settings : (speed pitch volume : Float) (over : ℕ) (at : Position) (w : ℕ)
      → Ranges (stream_of (with_settings (unlent s) speed pitch volume over at) w)
      → PositionInOrder (rates_of s.rate pitch) at → is_in_order (stream_of (with_settings (unlent s) speed pitch volume over at) w) ≡ true
  unfolding state_of stream_of
  with-settings speed pitch volume over at w g p =
      let r = ready_of s e in
      let v = within-range min_volume max_volume volume g.volume in
      state-in-order (with_settings (unlent s) speed pitch volume over at) w
      (record { limits = r.limits; volume_low = v.0; volume_high = v.1; position = p; prev = r.prev }) g

  pub setting-in-order : (v : Setting) (w : ℕ) → is_in_order (stream_of (with_setting v (unlent s)) w) ≡ true
  unfolding with_setting state_of stream_of
  setting-in-order (Speed x) w =
      let r = ranges-of s (tests-of s e).settings in
      let speed = clamped-within x min_speed max_speed speed-range in
      with-settings (clamped x min_speed max_speed) s.pitch s.volume s.step_over (unlent s).at w
      (record { speed = speed; pitch = r.pitch; volume = r.volume }) (ready_of s e).position
  setting-in-order (Pitch x) w =
      let r = ranges-of s (tests-of s e).settings in
      let l = limits_of s e in
      let pitch = clamped-within x min_pitch max_pitch pitch-range in
      with-settings s.speed (clamped x min_pitch max_pitch) s.volume s.step_over start w
      (record { speed = r.speed; pitch = pitch; volume = r.volume }) (start-in s.rate (clamped x min_pitch max_pitch) l.rate_low l.rate_high pitch)
  setting-in-order (Volume x) w =
      let r = ranges-of s (tests-of s e).settings in
      let volume = clamped-within x min_volume max_volume volume-range in
      with-settings s.speed s.pitch (clamped x min_volume max_volume) s.step_over (unlent s).at w
      (record { speed = r.speed; pitch = r.pitch; volume = volume }) (ready_of s e).position
  setting-in-order (StepOver on) w =
      let r = ranges-of s (tests-of s e).settings in
      with-settings s.speed s.pitch s.volume (cond on 1 0) (unlent s).at w
      (record { speed = r.speed; pitch = r.pitch; volume = r.volume }) (ready_of s e).position

pub set-in-order : (s : SonicStream) (v : Setting) (t : SonicStream) → set_call s v ≡ Ok t → is_in_order t ≡ true
unfolding set_call
set-in-order s v t e = go (is_in_order s) refl e
  where
    answer : Bool → Result SonicStream Refused
    answer b = cond b (Ok (stream_of (with_setting v (unlent s)) s.waiting.0)) (Err (not_in_order s))

    go : (b : Bool) → is_in_order s ≡ b → answer b ≡ Ok t → is_in_order t ≡ true
    go true p h =
        let same : stream_of (with_setting v (unlent s)) s.waiting.0 ≡ t = cc in
        subst (λ (r : SonicStream). is_in_order r ≡ true) same (setting-in-order s p v s.waiting.0)
    go false p h = cc

-- ---- totals

pub totals-free : (x : State) (b : Balance) (w : ℕ) → is_in_order (stream_of (with_balance x b) w) ≡ is_in_order (stream_of x w)
unfolding is_in_order limits_in_order period_in_order settings_in_order prev_in_order positions_in_order stream_of
totals-free x b w = refl
