-- A call's whole work, from the area that was filled and the finish: finish-ready, work-done, work-refused. Assumes nothing.
use mathlib.Core.Path.{◌≡◌, refl, sym, ap, ◌∙◌, subst}
use mathlib.Core.Bool.{Bool, true, false, cond}
use mathlib.Core.List.{List, [], map}
use Prim.Native.Nat.{ℕ, ◌+◌, ◌-◌, ◌*◌, ◌/◌, ◌≤◌, ◌<◌}
use native.Mathlib.Nat.{not-le_of_lt}
use lib.Ieee.{Float, eq}
use lib.ListN.{length, take, length-drop, length-map}
use Rattle.frames.specs.Areas.{Areas, areas}
use Rattle.frames.specs.Framing.{Frame, frames_of, NoRoom}
use Rattle.frames.proofs.Framing.{length-frames_of, frames_of-cong}
use Rattle.frames.proofs.Behind.{behind-length, behind-whole}
use Rattle.frames.proofs.Room.{samples-le, samples-over, room-under, room-over}
use Rattle.floats.specs.Numbers.{one}
use Rattle.volume.specs.Volume.{scaled}
use Rattle.rate.specs.declared.Position.{Position}
use Rattle.rate.specs.Conversion.{Conversion, adjust_rate}
use Rattle.rate.specs.Adjusting.{new_frames}
use Rattle.rate.proofs.Chunks.{adjust_rate-order}
use Rattle.stream.specs.declared.SonicStream.{SonicStream}
use Rattle.stream.specs.Balance.{booked, past}
use Rattle.stream.specs.State.{State, with_tail, with_balance}
use Rattle.stream.specs.Stream.{state_of, stream_of, ChangedBy}
use Rattle.stream.specs.Order.{StateReady, StreamReady}
use Rattle.stream.specs.Refusals.{stage_needed}
use Rattle.stream.proofs.Needed.{needed-straight, needed-joining}
use Rattle.stream.proofs.Streams.{changed-back, tail-alike, balance-alike, ready-stream, ready-tail, ready-balance}
use Rattle.process.specs.declared.Wrote.{Wrote}
use Rattle.stream.specs.declared.refusal.Refusal.{Refusal}
use Rattle.stream.specs.declared.refusal.Refusal.TheVariants.{StageFull, OutputFull, TotalFull}
use Rattle.std.proofs.Common.{Result, Ok, Err}
use Rattle.fill.specs.declared.Filled.{Filled}
use Rattle.fill.specs.Taking.{Taken, taken}
use Rattle.process.specs.Process.{Made, counting, finished, process}
use Rattle.fill.specs.declared.destination.Destination.{Destination}
use Rattle.fill.specs.Filling.{straight, destination_of, destination_in, filled_area, other_area, FillReady, FilledAs, FillEnsures}
use Rattle.fill.proofs.Filling.{ready-limits}
use Rattle.process.specs.Finishing.{FinishReady, totals, finished_state, FinishedAs, FinishedBy, conversion_of, FinishEnsures}
use Rattle.process.specs.Working.{Unchanged, WorkedAs, WorkedBy, WorkEnsures}
use Rattle.process.proofs.States.{Keeps}
use Rattle.process.proofs.Taken.{taken-keeps}
use Rattle.process.proofs.Finishing.{StateFinished}

-- ---- what filling leaves in stage and output, which go from a to b: the tail, the frames waiting, and the lengths

pub record Spared (s : SonicStream) (a b : Areas) : Type 0 where
  pub tail : take (s.tail.0 * s.channels) b.stage ≡ take (s.tail.0 * s.channels) a.stage
  pub waiting : take (s.waiting.0 * s.channels) b.output ≡ take (s.waiting.0 * s.channels) a.output

module _ (s : SonicStream) (a b : Areas) where
  -- where x says whether the frames go straight out
  abbrev kept_frames : Bool → ℕ
  kept_frames x = cond x s.waiting.0 s.tail.0

  kept-is : (x : Bool) → straight s ≡ x → (destination_in s a).kept.0 ≡ kept_frames x
  kept-is true e = rw e
  kept-is false e = rw e

  spared-by : (x : Bool) → take (kept_frames x * s.channels) (cond x b.output b.stage) ≡ take (kept_frames x * s.channels) (cond x a.output a.stage)
      → cond x b.stage b.output ≡ cond x a.stage a.output → Spared s a b
  spared-by true kept other = record { tail = ap (take (s.tail.0 * s.channels)) other; waiting = kept }
  spared-by false kept other = record { tail = kept; waiting = ap (take (s.waiting.0 * s.channels)) other }

  spared : take ((destination_in s a).kept.0 * s.channels) (filled_area s b) ≡ take ((destination_in s a).kept.0 * s.channels) (filled_area s a)
      → other_area s b ≡ other_area s a → Spared s a b
  spared kept other =
      spared-by (straight s)
      (subst (λ (n : ℕ). take (n * s.channels) (filled_area s b) ≡ take (n * s.channels) (filled_area s a)) (kept-is (straight s) refl) kept) other

  -- and lengths: where both areas keep theirs
  longs-by : (x : Bool) → length (cond x b.output b.stage) ≡ length (cond x a.output a.stage)
      → cond x b.stage b.output ≡ cond x a.stage a.output
      → (length b.stage ≡ length a.stage) × (length b.output ≡ length a.output)
  longs-by true long other = (ap length other, long)
  longs-by false long other = (long, ap length other)

-- ---- a call that was filled as f says

module _ (s : SonicStream) (d : Filled) (a b : Areas)
    (f : FilledAs s (destination_in s a).kept.0 (destination_in s a).most.0 (taken (state_of s a.input a.stage)) a.input (filled_area s a)
    (filled_area s b) d) (other : other_area s b ≡ other_area s a) where
  t : Taken
  t = taken (state_of s a.input a.stage)

  rest-length : length t.state.input ≡ s.held.0 - d.used.0
  unfolding t
  rest-length =
      sym (ap length f.rest) ∙ length-drop d.used.0 (frames_of s.channels s.held.0 a.input)
      ∙ ap (λ (n : ℕ). n - d.used.0) (length-frames_of s.channels s.held.0 a.input)

  staged-is : length t.frames ≡ d.frames.0
  unfolding t
  staged-is = behind-length f.behind

  kept : Spared s a b
  kept = spared s a b f.behind.kept other

  longs : (length b.stage ≡ length a.stage) × (length b.output ≡ length a.output)
  longs = longs-by s a b (straight s) f.behind.long other

  -- the destination is the same before and after, since the lengths are
  same-destination : destination_in s b ≡ destination_in s a
  same-destination = λ i. destination_of s (longs.0 i) (longs.1 i)

  pub finish-ready : StreamReady s → FillReady s a → FinishReady s d (areas a.input b.stage b.output [])
  unfolding stream_of t
  finish-ready r fit =
      record {
        used =
            record {
              ready = r;
              held = ap (λ (x : SonicStream). x.held.0) f.stream ∙ rest-length;
              period_is = rw f.stream;
              used = f.used;
              held_fits = fit.fit.held;
              input_short = fit.fit.input_short;
              stage_short = rw longs.0 fit.fit.stage_short;
              output_short = rw longs.1 fit.fit.output_short;
            };
        convert =
            record {
              ready = r;
              placed =
                  subst (λ (g : Destination). (g.kept.0 + d.frames.0) * s.channels ≤ length (filled_area s b)) (sym same-destination)
                  (rw f.behind.long f.behind.fits);
              tail_fits = rw longs.0 fit.fit.tail;
              waiting_fits = rw longs.1 fit.fit.waiting;
            };
      }

  keeps : Keeps (state_of s a.input a.stage) t.state
  unfolding t
  keeps = taken-keeps (state_of s a.input a.stage)

  volume-is : t.state.volume ≡ s.volume
  unfolding state_of
  volume-is = keeps.settings.volume

  -- the conversion of its frames
  c : Conversion
  c = conversion_of s d.frames.0 (areas a.input b.stage b.output [])

  conversion-is : adjust_rate t.state.rate t.state.pitch t.state.at t.state.tail t.frames ≡ c
  unfolding t c state_of
  conversion-is =
      let k = keeps.settings in
      let tail = frames_of-cong s.channels s.tail.0 b.stage a.stage kept.tail in
      let made = subst (λ (g : Destination). new_frames s.channels g.kept.0 d.frames.0 (filled_area s b) ≡ (taken (state_of s a.input a.stage)).frames)
      (sym same-destination) f.behind.made in
      λ i. adjust_rate (k.rate i) (k.pitch i) (keeps.at i) ((keeps.tail ∙ sym tail) i) (sym made i)

  process-is : process (state_of s a.input a.stage) ≡ finished t c
  unfolding process t
  process-is = ap (finished t) conversion-is

  scaled-length : length (map (map (scaled t.state.volume)) c.made) ≡ length c.made
  scaled-length = length-map c.made (map (scaled t.state.volume))

  -- what 6 counts fits the stage: at pitch 1.0 the frames, at another the tail too
  fits_by : (x : Bool) → straight s ≡ x → 0 < s.channels → s.tail.0 * s.channels ≤ length a.stage
      → length t.frames ≤ (destination_in s a).most.0 → stage_needed s (length t.frames) * s.channels ≤ length a.stage
  fits_by true e some tail h =
      let few : length t.frames ≤ length a.stage / s.channels = rw e at h in
      rw (needed-straight s (length t.frames) e) (samples-le s.channels (length t.frames) (length a.stage) some few)
  fits_by false e some tail h =
      let few : length t.frames ≤ length a.stage / s.channels - s.tail.0 = rw e at h in
      rw (needed-joining s (length t.frames) e) (room-under s.channels s.tail.0 (length t.frames) (length a.stage) some tail few)

  -- ---- the stream after it

  totals-are : totals d ≡ (finished t c).state.balance
  unfolding finished counting t stream_of
  totals-are = λ i. booked (f.stream i).balance (f.balance i)

  stream_is : (x : SonicStream) → StateFinished s d c x → x ≡ stream_of (finished t c).state (s.waiting.0 + length (finished t c).frames)
  unfolding finished counting t
  stream_is x e =
      let w : ℕ = s.waiting.0 + length c.made in
      changed-back (finished_state d c) (λ y z h. balance-alike (tail-alike h c.rest c.rest refl refl) refl) t.state s.waiting.0 w x
      (subst (λ (y : SonicStream). ChangedBy (finished_state d c) y w x) f.stream e)
      ∙ (λ i. stream_of (with_balance (with_tail t.state c.rest c.at) (totals-are i)) (s.waiting.0 + sym scaled-length i))

  module _ (r : StreamReady s) (fit : FillReady s a) where
    taken-ready : StateReady t.state
    unfolding state_of t
    taken-ready =
        let k = keeps.settings in
        let o = r.state in
        record {
          limits = rw (k.rate, k.channels) o.limits;
          volume_low = rw volume-is o.volume_low;
          volume_high = rw volume-is o.volume_high;
          position = rw (k.rate, k.pitch, keeps.at) o.position;
          prev = rw k.rate f.prev_in;
        }

    stream-ready : (w : ℕ) → StreamReady (stream_of (finished t c).state w)
    unfolding finished counting
    stream-ready w =
        let u = t.state in
        let at = rw conversion-is at (adjust_rate-order u.rate u.pitch u.at u.tail t.frames taken-ready.position) in
        ready-stream (ready-balance (ready-tail taken-ready c.rest c.at at) _) w

    stage_fits : stage_needed s (length t.frames) * s.channels ≤ length a.stage
    unfolding t
    stage_fits = fits_by (straight s) refl (ready-limits r).channels_low fit.fit.tail f.within

    -- ---- the whole; the areas are e at the end

    module _ (e : Areas) where
      abbrev before : Areas
      before = areas a.input b.stage b.output []

      abbrev after : Areas
      after = areas e.input e.stage e.output []

      waiting_kept : frames_of s.channels s.waiting.0 b.output ≡ frames_of s.channels s.waiting.0 a.output
      waiting_kept = frames_of-cong s.channels s.waiting.0 b.output a.output kept.waiting

      worked : (w : Wrote) → FinishedAs s d c before after w → WorkedAs s (finished t c) a e w
      unfolding finished counting t
      worked w h =
          record {
            told = h.told ∙ f.told;
            stream = stream_is w.stream h.stream;
            ready = rw (stream_is w.stream h.stream) (stream-ready (s.waiting.0 + length (finished t c).frames));
            stage_fits = stage_fits;
            output_fits = rw (scaled-length, ← longs.1) h.behind.fits;
            totals_fit = ap past (sym totals-are) ∙ h.within;
            held = rw rest-length (h.rest ∙ f.rest);
            tail = h.tail;
            waiting = rw (scaled-length, volume-is, ← waiting_kept) (behind-whole h.behind);
          }

      -- refused after the finish: the input and the stage are as they were before it
      unchanged : e.input ≡ a.input → e.stage ≡ b.stage
          → take (s.waiting.0 * s.channels) e.output ≡ take (s.waiting.0 * s.channels) b.output → Unchanged s a e
      unchanged input stage output =
          record {
            held = ap (frames_of s.channels s.held.0) input;
            tail = ap (frames_of s.channels s.tail.0) stage ∙ frames_of-cong s.channels s.tail.0 b.stage a.stage kept.tail;
            waiting = frames_of-cong s.channels s.waiting.0 e.output a.output (output ∙ kept.waiting);
          }

      worked-by : (r : Result Wrote Refusal) → FinishedBy s d c before after r → WorkedBy s (finished t c) a e r
      unfolding finished
      worked-by (Ok w) h = worked w h
      worked-by (Err OutputFull) h = (unchanged h.0 h.1 h.2.kept, stage_fits, rw (scaled-length, ← longs.1) h.2.over)
      worked-by (Err TotalFull) h =
          (unchanged h.input h.stage h.kept, stage_fits, rw (scaled-length, ← longs.1) h.fits, ap past (sym totals-are) ∙ h.passed)
      worked-by (Err _) h = absurd h

      pub work-done : (w : Result Wrote Refusal) → FinishEnsures s d (areas a.input b.stage b.output []) (areas e.input e.stage e.output []) w
          → WorkEnsures s a e w
      unfolding c
      work-done w h = subst (λ (m : Made). WorkedBy s m a e w) (sym process-is) (worked-by w h)

-- ---- a call that is refused before the finish: the areas go from a to b

made-straight : (rate : ℕ) (pitch : Float) (at : Position) (tail fs : List Frame) → eq pitch one ≡ true → (adjust_rate rate pitch at tail fs).made ≡ fs
unfolding adjust_rate
made-straight rate pitch at tail fs e = rw e

module _ (s : SonicStream) (a b : Areas) (r : StreamReady s) (fit : FillReady s a) (input : b.input ≡ a.input) (other : other_area s b ≡ other_area s a) where
  abbrev state : State
  state = state_of s a.input a.stage

  abbrev frames : List Frame
  frames = (taken (state_of s a.input a.stage)).frames

  some : 0 < s.channels
  some = (ready-limits r).channels_low

  as-it-came : take ((destination_in s a).kept.0 * s.channels) (filled_area s b) ≡ take ((destination_in s a).kept.0 * s.channels) (filled_area s a)
      → Unchanged s a b
  as-it-came h =
      let k = spared s a b h other in
      record {
        held = ap (frames_of s.channels s.held.0) input;
        tail = frames_of-cong s.channels s.tail.0 b.stage a.stage k.tail;
        waiting = frames_of-cong s.channels s.waiting.0 b.output a.output k.waiting;
      }

  -- too many frames for the stage
  over_by : (x : Bool) → straight s ≡ x → (destination_in s a).most.0 < length frames → length a.stage < stage_needed s (length frames) * s.channels
  over_by true e h =
      let over : length a.stage / s.channels < length frames = rw e at h in
      rw (needed-straight s (length frames) e) (samples-over s.channels (length frames) (length a.stage) some over)
  over_by false e h =
      let over : length a.stage / s.channels - s.tail.0 < length frames = rw e at h in
      rw (needed-joining s (length frames) e) (room-over s.channels s.tail.0 (length frames) (length a.stage) some over)

  work-over : take ((destination_in s a).kept.0 * s.channels) (filled_area s b) ≡ take ((destination_in s a).kept.0 * s.channels) (filled_area s a)
      → (destination_in s a).most.0 < length (taken (state_of s a.input a.stage)).frames → WorkEnsures s a b (Err StageFull)
  unfolding process finished
  work-over h over = (as-it-came h, over_by (straight s) refl over)

  -- no room in the output: only at pitch 1.0, where frames go there
  abbrev NoRoomLeft : Type 0
  NoRoomLeft =
      (stage_needed s (length frames) * s.channels ≤ length a.stage)
      × (length a.output < (s.waiting.0 + length (process state).frames) * s.channels)

  full_by : (x : Bool) → straight s ≡ x → length frames ≤ (destination_in s a).most.0
      → length (filled_area s a) < ((destination_in s a).kept.0 + length frames) * s.channels → NoRoomLeft
  unfolding process finished state_of
  full_by true e few over =
      let u = (taken state).state in
      let c : Conversion = adjust_rate u.rate u.pitch u.at u.tail frames in
      let same : eq u.pitch one ≡ true = rw (taken-keeps state).settings.pitch e in
      let made = length-map c.made (map (scaled u.volume)) ∙ ap length (made-straight u.rate u.pitch u.at u.tail frames same) in
      let within : length frames ≤ length a.stage / s.channels = rw e at few in
      let output : length a.output < (s.waiting.0 + length frames) * s.channels = rw e at over in
      (rw (needed-straight s (length frames) e) (samples-le s.channels (length frames) (length a.stage) some within), rw made output)
  full_by false e few over =
      let within : length frames ≤ length a.stage / s.channels - s.tail.0 = rw e at few in
      let stage : length a.stage < (s.tail.0 + length frames) * s.channels = rw e at over in
      absurd (not-le_of_lt stage (room-under s.channels s.tail.0 (length frames) (length a.stage) some fit.fit.tail within))

  work-full : NoRoom s.channels (destination_in s a).kept.0 (filled_area s a) (filled_area s b) (taken (state_of s a.input a.stage)).frames
      → length (taken (state_of s a.input a.stage)).frames ≤ (destination_in s a).most.0 → WorkEnsures s a b (Err OutputFull)
  unfolding process finished
  work-full h few = let n = full_by (straight s) refl few h.over in (as-it-came h.kept, n.0, n.1)

  pub work-refused : (e : Refusal) → FillEnsures s a b (Err e) → WorkEnsures s a b (Err e)
  work-refused StageFull h = work-over h.0.0 h.0.1
  work-refused OutputFull h = work-full h.0.0 h.0.1
  work-refused _ h = absurd h.0
