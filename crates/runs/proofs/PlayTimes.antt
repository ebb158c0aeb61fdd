-- Play time over whole runs, proved: `play-times`. The claim is in `specs/PlayTimes.antt`; the moves are in the crate floats, proofs/PlayTime.antt.
-- Every accepted call holds at most 2 ^ 24 frames (`calls-held`), so nothing is asked of a run. Assumes nothing.
use mathlib.Core.Path.{◌≡◌, refl, sym, ap, subst}
use mathlib.Core.Bool.{Bool, true, false}
use mathlib.Core.List.{List, [], ◌∷◌}
use Prim.Native.Nat.{ℕ, ◌-◌, ◌^◌, ◌≤◌, ◌<◌}
use native.Mathlib.Omega.{arith}
use borrow.Author.Tests.{eqb-false}
use lib.Dec.{T, eqb}
use lib.Ieee.{Float, le, of_bits, neg}
use lib.ListN.{length, length-append}
use Rattle.frames.specs.Framing.{Frame, flat}
use Rattle.floats.specs.Settings.{min_pitch, max_pitch, clamped}
use Rattle.floats.proofs.Facts.{Calm, zero-calm, grown-calm, left-calm, calm-finite, clamped-in}
use Rattle.search.specs.declared.Ties.{Ties}
use Rattle.stretch.specs.declared.Stretch.{Stretch}
use Rattle.stretch.specs.Speed.{answer_for}
use Rattle.stream.specs.declared.SonicStream.{SonicStream}
use Rattle.stream.specs.declared.Setting.{Setting}
use Rattle.stream.specs.declared.Setting.TheVariants.{Speed, Pitch, Volume, StepOver}
use Rattle.stream.specs.State.{State, with_input}
use Rattle.stream.specs.Stream.{stream_of}
use Rattle.stream.specs.Settings.{fresh, with_setting}
use Rattle.fill.specs.Taking.{Taken, removed, nothing, copied, call_at, place_of, steps_at, stepped, stretched, speed_at, taken}
use Rattle.process.specs.Process.{joined, counting, finished, process, write_work, flush_work, cleared}
use Rattle.process.proofs.Claims.{Held}
use Rattle.runs.specs.Ledger.{Call, setting, write, flush, read, Ledger, begun, entry}
use Rattle.runs.specs.Demand.{RunOf, last, ledger_of, accepted_of}
use Rattle.runs.specs.PlayTimes.{FiniteNotNegative, PlayTimeClaim}
use Rattle.runs.proofs.Work.{cond_cases, taken-cases, bare, taken-leaves}
use Rattle.runs.proofs.Tracking.{HeldCall}
use Rattle.runs.proofs.Simulation.{last-tracks, calls-held}
use Rattle.runs.proofs.Entries.{entries, EachCall}
use Rattle.runs.proofs.Claims.{ledger-is-book, pitch-range}

-- ---- a state whose speed and pitch are in their range, and whose play time is calm

record InRange (x : Float) : Type 0 where
  low : T (le min_pitch x)
  high : T (le x max_pitch)

record Timed (s : State) : Type 0 where
  speed : InRange s.speed
  pitch : InRange s.pitch
  play : Calm s.input_play_time

-- ---- what is left after a call's frames are taken

removed-calm : (k : ℕ) (s : State) → 0 < length s.input → length s.input ≤ 2 ^ 24 → Calm s.input_play_time
    → Calm (removed k s).input_play_time
unfolding removed
removed-calm k s some few c = left-calm s.input_play_time (length s.input - k) (length s.input) (omega arith) some few c

stepped-calm : (a : Stretch) (s : State) → 0 < length s.input → length s.input ≤ 2 ^ 24 → Calm s.input_play_time
    → Calm (stepped a s).input_play_time
unfolding stepped
stepped-calm a s some few c =
    let t : State = with_input s s.input a.prev s.input_play_time a.time_error in
    cond_cases (λ (r : State). Calm r.input_play_time) a.stalled t (removed a.used.0 t) (λ _. c)
    (λ _. removed-calm a.used.0 t some few c)

taken-calm : (s : State) → length s.input ≤ 2 ^ 24 → Calm s.input_play_time → Calm (taken s).state.input_play_time
unfolding nothing copied stretched taken
taken-calm s few c = go (eqb (length s.input) 0) refl
  where
    some_of : {n : ℕ} → (n ≡ 0 → ⊥) → 0 < n
    some_of {n} f = omega (arith, f)

    go : (b : Bool) → eqb (length s.input) 0 ≡ b → Calm (taken s).state.input_play_time
    go true e = rw e c
    go false e =
        let some : 0 < length s.input = some_of (eqb-false (length s.input) 0 e) in
        let answer : Stretch = answer_for (call_at (speed_at s) s) (flat s.input) (place_of s) (steps_at (speed_at s) s) in
        taken-cases s (λ (t : Taken). Calm t.state.input_play_time) (λ _. c) c (stepped-calm answer s some few c)
        (removed-calm (length s.input) s some few c)

-- ---- a call

work-timed : (s : State) → Held s → Timed s → Timed (process s).state
unfolding process finished counting bare
work-timed s h t =
    let same = (taken-leaves s).rest in
    record {
      speed = subst InRange (sym (ap (λ (x : State). x.speed) same)) t.speed;
      pitch = subst InRange (sym (ap (λ (x : State). x.pitch) same)) t.pitch;
      play = taken-calm s h.few t.play;
    }

-- frames join the input
joined-timed : (fs : List Frame) (s : State) → Held (joined fs s) → Timed s → Timed (joined fs s)
unfolding joined
joined-timed fs s h t =
    let few : length fs ≤ 2 ^ 24 = omega (arith, h.few, length-append s.input fs) in
    record {
      speed = t.speed;
      pitch = t.pitch;
      play =
          grown-calm s.rate (length fs) s.input_play_time s.speed s.pitch h.limits.rate_low h.limits.rate_high few
          t.speed.low t.speed.high t.pitch.low t.pitch.high t.play;
    }

cleared-timed : (s : State) → Timed s → Timed (cleared s)
unfolding cleared
cleared-timed s t = record { speed = t.speed; pitch = t.pitch; play = zero-calm }

clamped-range : (x : Float) → InRange (clamped x min_pitch max_pitch)
clamped-range x = let c = clamped-in x min_pitch max_pitch pitch-range in record { low = c.0; high = c.1 }

setting-timed : (v : Setting) (s : State) → Timed s → Timed (with_setting v s)
unfolding with_setting
setting-timed (Speed x) s t = record { speed = clamped-range x; pitch = t.pitch; play = t.play }
setting-timed (Pitch x) s t = record { speed = t.speed; pitch = clamped-range x; play = t.play }
setting-timed (Volume x) s t = record { speed = t.speed; pitch = t.pitch; play = t.play }
setting-timed (StepOver on) s t = record { speed = t.speed; pitch = t.pitch; play = t.play }

entry-timed : (l : Ledger) (c : Call) → HeldCall l c → Timed l.state → Timed (entry l c).state
unfolding entry write_work flush_work
entry-timed l (setting v) h t = setting-timed v l.state t
entry-timed l (write samples) h t = work-timed _ h (joined-timed _ l.state h t)
entry-timed l flush h t = cleared-timed _ (work-timed _ h (joined-timed _ l.state h t))
entry-timed l (read most) h t = t

-- ---- call after call

entries-timed : (l : Ledger) (cs : List Call) → EachCall HeldCall l cs → Timed l.state → Timed (entries l cs).state
unfolding entries
entries-timed l [] h t = t
entries-timed l (c ∷ cs) h t = entries-timed (entry l c) cs h.1 (entry-timed l c h.0 t)

begun-timed : (rate channels : ℕ) (ties : Ties) → Timed (begun rate channels ties).state
unfolding begun fresh le of_bits neg
begun-timed rate channels ties = record { speed = record { low = tt; high = tt }; pitch = record { low = tt; high = tt }; play = zero-calm }

-- the ledger's play time
ledger-calm : {rate channels : ℕ} {ties : Ties} (a : RunOf rate channels ties) → Calm (ledger_of a).state.input_play_time
ledger-calm {rate} {channels} {ties} a =
    let held = calls-held rate channels ties a.stream a.opens a.events a.allowed in
    rw (ledger-is-book a) (entries-timed (begun rate channels ties) (accepted_of a) held (begun-timed rate channels ties)).play

pub play-times : PlayTimeClaim
unfolding stream_of
play-times rate channels ties a =
    let t = last-tracks rate channels ties a.stream a.opens a.events a.allowed in
    let same : (last a).stream.input_play_time ≡ (ledger_of a).state.input_play_time = ap (λ (s : SonicStream). s.input_play_time) t.stream in
    subst FiniteNotNegative (sym same) (calm-finite (ledger-calm a))
