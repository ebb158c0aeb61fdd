-- No frames and copied frames, in the words of the contracts: how they fill the area. Here:
--   AreaFits, FillsWith                 what is asked and said of an area that is filled behind its first `kept` frames
--   ready-limits, held_few              counts of a stream in order, where the frames held lie in the input
--   speed-same                          the local speed of a stream and of its state
--   empty-filled, waiting-filled        no frames
--   all_filled, copied-over, copied-full, copied-filled     all frames
-- Assumes nothing.
use mathlib.Core.Path.{◌≡◌, refl, sym, ap, ◌∙◌, subst}
use mathlib.Core.Bool.{true, false}
use mathlib.Core.List.{List}
use Prim.Native.Nat.{ℕ, ◌+◌, ◌*◌, ◌^◌, ◌≤◌, ◌<◌, zero-le}
use native.Mathlib.Nat.{le_of_eq}
use native.Mathlib.Omega.{arith}
use lib.IntN.{ℤ}
use lib.ListN.{length, drop}
use lib.Seq.{paste}
use Rattle.frames.specs.Framing.{frames_of, Behind}
use Rattle.frames.proofs.Framing.{length-frames_of}
use Rattle.frames.proofs.Behind.{behind-none, behind-paste}
use Rattle.frames.proofs.Room.{count-le}
use Rattle.floats.specs.Settings.{sample_period}
use Rattle.floats.specs.Write.{local_speed, speed_changes}
use Rattle.period.specs.Rates.{InLimits, max_required}
use Rattle.stretch.specs.Tally.{tally}
use Rattle.stretch.specs.Speed.{stalled}
use Rattle.stream.specs.declared.SonicStream.{SonicStream}
use Rattle.stream.specs.Balance.{none}
use Rattle.stream.specs.State.{State}
use Rattle.stream.specs.Stream.{state_of, stream_of, ChangedBy}
use Rattle.stream.specs.Order.{StreamReady}
use Rattle.stream.proofs.Streams.{held-is, own}
use Rattle.fill.specs.declared.Outcome.{Outcome}
use Rattle.fill.specs.declared.Outcome.TheVariants.{Empty, Copied, Waiting}
use Rattle.fill.specs.declared.Filled.{Filled}
use Rattle.stream.specs.declared.refusal.Refusal.{Refusal}
use Rattle.stream.specs.declared.refusal.Refusal.TheVariants.{StageFull, OutputFull}
use Rattle.std.proofs.Common.{Result, Ok, Err}
use Rattle.fill.specs.Taking.{Taken, nothing, removed, copied, speed_at, taken, counted}
use Rattle.fill.specs.Filling.{speed_of}
use Rattle.fill.specs.Filling.{nothing_filled, FilledBy}
use Rattle.fill.proofs.Branches.{taken-empty, taken-waiting, taken-copied}

-- ---- an area that is filled behind its first `kept` frames, with at most `most`; it goes from `entry` to `exit`

pub record AreaFits (s : SonicStream) (kept : ℕ) (input area : List ℤ) : Type 0 where
  pub held : s.held.0 * s.channels ≤ length input
  pub kept_fit : kept * s.channels ≤ length area
  pub input_short : length input ≤ 2 ^ 24

-- whatever the tail is, which lies in the stage
abbrev pub FillsWith : SonicStream → ℕ → ℕ → List ℤ → List ℤ → List ℤ → Result Filled Refusal → Type 0
FillsWith s kept most input entry exit f = (stage : List ℤ) → FilledBy s kept most (taken (state_of s input stage)) input entry exit f

-- ---- counts

pub ready-limits : {s : SonicStream} → StreamReady s → InLimits s.rate s.channels
unfolding state_of
ready-limits r = r.state.limits

module _ {s : SonicStream} {kept : ℕ} {input area : List ℤ} (r : StreamReady s) (fit : AreaFits s kept input area) where
  pub held_few : s.held.0 ≤ 2 ^ 24
  held_few = omega (arith, count-le s.channels s.held.0 (ready-limits r).channels_low, fit.held, fit.input_short)

-- ---- the local speed

pub speed-same : (s : SonicStream) (input stage : List ℤ) → speed_at (state_of s input stage) ≡ speed_of s
unfolding state_of
speed-same s input stage =
    ap (λ (n : ℕ). local_speed n (sample_period s.rate) s.input_play_time) (length-frames_of s.channels s.held.0 input)

-- all frames held were copied, and the stream t has none of them
abbrev pub all_filled : SonicStream → SonicStream → Filled
all_filled s t = (record { frames = s.held; used = s.held; balance = none; stream = t; told = record { outcome = Copied; passed = 0; sum = 0 } })

module _ (s : SonicStream) (kept most : ℕ) (r : StreamReady s) (input area : List ℤ) (fit : AreaFits s kept input area) where
  abbrev state : List ℤ → State
  state stage = state_of s input stage

  held : (stage : List ℤ) → length (state stage).input ≡ s.held.0
  held stage = held-is s input stage

  -- ---- no frames

  nothing-filled : (stage : List ℤ) (o : Outcome) → FilledBy s kept most (nothing o (state stage)) input area area (Ok (nothing_filled s o))
  unfolding nothing state_of counted stalled tally
  nothing-filled stage o =
      record {
        told = refl;
        balance = refl;
        behind = behind-none s.channels kept area fit.kept_fit;
        within = zero-le;
        used = zero-le;
        rest = refl;
        stream = sym (own s input stage r.period_is);
        prev_in = r.state.prev;
      }

  pub empty-filled : s.held.0 ≡ 0 → FillsWith s kept most input area area (Ok (nothing_filled s Empty))
  empty-filled e stage = rw (taken-empty (state stage) (held stage ∙ e)) (nothing-filled stage Empty)

  pub waiting-filled : 1 ≤ s.held.0 → speed_changes (speed_of s) ≡ true → s.held.0 < max_required s.rate
      → FillsWith s kept most input area area (Ok (nothing_filled s Waiting))
  unfolding state_of
  waiting-filled some e few stage =
      let n = held stage in
      let t = taken-waiting (state stage) (omega (arith, n)) (ap speed_changes (speed-same s input stage) ∙ e) (omega (arith, n)) in
      rw t (nothing-filled stage Waiting)

  -- ---- all frames

  module _ (some : 1 ≤ s.held.0) (same : speed_changes (speed_of s) ≡ false) where
    copies : (stage exit : List ℤ) (f : Result Filled Refusal) → FilledBy s kept most (copied (state stage)) input area exit f
        → FilledBy s kept most (taken (state stage)) input area exit f
    copies stage exit f =
        let t = taken-copied (state stage) (omega (arith, held stage)) (ap speed_changes (speed-same s input stage) ∙ same) in
        subst (λ (x : Taken). FilledBy s kept most x input area exit f) (sym t)

    pub copied-over : most < s.held.0 → FillsWith s kept most input area area (Err StageFull)
    unfolding copied
    copied-over over stage = copies stage area (Err StageFull) (refl, subst (λ (n : ℕ). most < n) (sym (held stage)) over)

    module _ (few : s.held.0 ≤ most) where
      few-are : (stage : List ℤ) → length (state stage).input ≤ most
      few-are stage = subst (λ (n : ℕ). n ≤ most) (sym (held stage)) few

      pub copied-full : length area < (kept + s.held.0) * s.channels → FillsWith s kept most input area area (Err OutputFull)
      unfolding copied
      copied-full over stage =
          let no_room = subst (λ (n : ℕ). length area < (kept + n) * s.channels) (sym (held stage)) over in
          copies stage area (Err OutputFull) (record { kept = refl; over = no_room }, few-are stage)

      pub copied-filled : (exit : List ℤ) (t : SonicStream) → (kept + s.held.0) * s.channels ≤ length area
          → exit ≡ paste area (kept * s.channels) (drop 0 input) (s.held.0 * s.channels)
          → ChangedBy (removed s.held.0) s s.waiting.0 t
          → FillsWith s kept most input area exit (Ok (all_filled s t))
      unfolding copied removed state_of counted stalled tally
      copied-filled exit t fits e changed stage =
          let ch = s.channels in
          let b = behind-paste ch kept s.held.0 area input fits fit.held in
          copies stage exit (Ok (all_filled s t))
          (record {
            told = refl;
            balance = refl;
            behind = subst (λ (x : List ℤ). Behind ch kept s.held.0 area x (frames_of ch s.held.0 input)) (sym e) b;
            within = few-are stage;
            used = le_of_eq refl;
            rest = ap (λ (n : ℕ). drop n (frames_of ch s.held.0 input)) (sym (held stage));
            stream = changed input stage ∙ ap (λ (n : ℕ). stream_of (removed n (state stage)) s.waiting.0) (sym (held stage));
            prev_in = r.state.prev;
          })
