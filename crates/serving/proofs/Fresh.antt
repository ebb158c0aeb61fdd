-- Streams that are steady before any call that is lent areas: fresh-opened, fresh_set, steady-unheld; and one of which frames were read: steady-read.
-- Assumes nothing.
use mathlib.Core.Path.{◌≡◌, refl, ◌∙◌}
use mathlib.Core.Bool.{Bool, true, false, cond}
use mathlib.Core.List.{[]}
use Rattle.std.specs.Prelude.{Result, Ok, Err}
use Prim.Native.Nat.{ℕ, ◌*◌, ◌≤◌}
use native.Mathlib.Nat.{le_trans, mul-le-mul_right}
use native.Mathlib.Omega.{arith}
use Rattle.floats.proofs.Pace.{paced-fresh}
use Rattle.search.specs.declared.Ties.{Ties}
use Rattle.stream.specs.declared.SonicStream.{SonicStream}
use Rattle.stream.specs.declared.Setting.{Setting}
use Rattle.stream.specs.declared.Setting.TheVariants.{Speed, Pitch, Volume, StepOver}
use Rattle.stream.specs.declared.refusal.Refusal.TheVariants.{BadRate, BadChannels}
use Rattle.stream.specs.declared.refusal.NotOpened.{NotOpened}
use Rattle.stream.specs.Stream.{state_of, stream_of, unlent, zero_stream}
use Rattle.stream.specs.Settings.{fresh, open_call, with_setting}
use Rattle.stream.specs.Refusals.{rate_bad, channels_bad}
use Rattle.stream.proofs.Stays.{open-in-order, setting-in-order, waiting-in-order}
use Rattle.stream.proofs.Streams.{held-is, tail_is}
use Rattle.plans.specs.Plans.{output_area, is_small, served}
use Rattle.serving.specs.Steady.{Steady, Unheld, Fresh, SameJob}
use Rattle.serving.proofs.Served.{pace-ready, small_same, limit-same}

-- ---- opened and set

pub fresh-opened : (rate channels : ℕ) (ties : Ties) (s : SonicStream) → open_call rate channels ties ≡ Ok s → Fresh s
unfolding open_call fresh stream_of
fresh-opened rate channels ties s e = go (rate_bad rate) (channels_bad channels) e
  where
    go : (a b : Bool)
        → ◌≡◌ {A = Result SonicStream NotOpened} (cond a (Err (record { refusal = BadRate; given = rate; stream = zero_stream }))
        (cond b (Err (record { refusal = BadChannels; given = channels; stream = zero_stream })) (Ok (stream_of (fresh rate channels ties) 0)))) (Ok s)
        → Fresh s
    go true b h = cc
    go false true h = cc
    go false false h =
        let same : stream_of (fresh rate channels ties) 0 ≡ s = cc in
        record {
          unheld = record { in_order = open-in-order rate channels ties s e; held = rw (← same) refl; tail = rw (← same) refl; play = rw (← same) refl };
          waiting = rw (← same) refl;
        }

-- what a setting leaves alone
set_keeps : (s : SonicStream) (v : Setting) (w : ℕ) → let t = stream_of (with_setting v (unlent s)) w in
    (t.held.0 ≡ s.held.0) × (t.tail.0 ≡ s.tail.0) × (t.input_play_time ≡ s.input_play_time)
unfolding with_setting state_of stream_of
set_keeps s (Speed x) w = (held-is s [] [], tail_is s [] [], refl)
set_keeps s (Pitch x) w = (held-is s [] [], tail_is s [] [], refl)
set_keeps s (Volume x) w = (held-is s [] [], tail_is s [] [], refl)
set_keeps s (StepOver on) w = (held-is s [] [], tail_is s [] [], refl)

pub fresh_set : (s : SonicStream) (v : Setting) → Fresh s → Fresh (stream_of (with_setting v (unlent s)) s.waiting.0)
unfolding stream_of
fresh_set s v f =
    let u = f.unheld in
    let w = s.waiting.0 in
    let k = set_keeps s v w in
    record {
      unheld = record { in_order = setting-in-order s u.in_order v w; held = k.0 ∙ u.held; tail = k.1 ∙ u.tail; play = k.2 ∙ u.play };
      waiting = f.waiting;
    }

pub steady-unheld : (s : SonicStream) → Unheld s → served s ≡ true → s.waiting.0 * s.channels ≤ output_area (is_small s) → Steady s
steady-unheld s f v w =
    record {
      in_order = f.in_order;
      is_served = v;
      tail_few = omega (arith, f.tail);
      held_few = omega (arith, f.held);
      waiting_fits = w;
      paced = rw (f.held, f.play) (paced-fresh (pace-ready s f.in_order));
    }

-- ---- read

pub steady-read : (s : SonicStream) (w : ℕ) → w ≤ s.waiting.0 → Steady s → Steady (stream_of (unlent s) w) × SameJob s (stream_of (unlent s) w)
unfolding state_of stream_of
steady-read s w fewer y =
    let t = stream_of (unlent s) w in
    let same : SameJob s t = record { rate = refl; channels = refl; speed = refl; pitch = refl } in
    let held : t.held.0 ≡ s.held.0 = held-is s [] [] in (
      record {
        in_order = waiting-in-order s w y.in_order;
        is_served = rw (limit-same s t same) y.is_served;
        tail_few = rw (tail_is s [] []) y.tail_few;
        held_few = rw (limit-same s t same, held) y.held_few;
        waiting_fits = rw (small_same s t same) (le_trans (mul-le-mul_right s.channels fewer) y.waiting_fits);
        paced = rw held y.paced;
      },
      same,
    )
