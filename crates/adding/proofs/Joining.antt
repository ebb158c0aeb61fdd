-- The frames that a call adds behind those held, and what its work requires then:
--   written_behind, silence-behind     the frames of a write and of a flush, in the input
--   held-joined, tail-joined, needed-joined     the counts of the stream with these frames
--   add-ready, ready_with              refusals 3 to 5 are not met, and stay so when the frames are added
--   accepted-areas, accepted-ready     what the work requires
--   accepted-channels, accepted-place, accepted-held, accepted-tail, accepted-samples     counts
-- Assumes nothing.
use mathlib.Core.Path.{◌≡◌, ap}
use mathlib.Core.Bool.{true, false, cond}
use mathlib.Core.List.{List, [], map}
use Prim.Native.Nat.{ℕ, ◌+◌, ◌*◌, ◌/◌, ◌^◌, ◌≤◌}
use native.Mathlib.Nat.{add-mul}
use native.Mathlib.Omega.{arith}
use borrow.Author.Tests.{ltb-false}
use lib.IntN.{ℤ, pos}
use lib.Ieee.{Float, eq}
use lib.ListN.{length, length-append, length-map, replicate, length-replicate}
use lib.Seq.{paste}
use Rattle.frames.specs.Areas.{Areas, areas}
use Rattle.frames.specs.Framing.{frames_of, Behind}
use Rattle.frames.proofs.Framing.{length-frames_of, frames_of-map}
use Rattle.frames.proofs.Behind.{behind-paste, silent-frames}
use Rattle.frames.proofs.Room.{samples-le, count-le}
use Rattle.floats.specs.Numbers.{one}
use Rattle.floats.specs.Settings.{sample_period}
use Rattle.floats.specs.Write.{sample_in}
use Rattle.stream.specs.declared.SonicStream.{SonicStream}
use Rattle.stream.specs.Stream.{state_of, stream_of}
use Rattle.stream.specs.Order.{StreamReady}
use Rattle.stream.specs.Refusals.{is_in_order, too_short, sizes_bad, parts_bad, areas_bad, stage_needed}
use Rattle.stream.proofs.InOrder.{limits_of, ready_of}
use Rattle.stream.proofs.AreaTests.{AreasGood, areas-of}
use Rattle.stream.proofs.Streams.{ready-stream, ready-input}
use Rattle.fill.specs.Filling.{FillReady}
use Rattle.process.specs.Process.{joined}
use Rattle.process.specs.Streams.{joined_stream}
use Rattle.adding.specs.Adding.{Accepted, AddReady}

-- ---- the frames, in the input

-- whole frames of samples
pub written_behind : (ch w n : ℕ) (samples : List Float) (entry exit : List ℤ) → n * ch ≤ length samples → (w + n) * ch ≤ length entry
    → exit ≡ paste entry (w * ch) (map sample_in samples) (n * ch) → Behind ch w n entry exit (map (map sample_in) (frames_of ch n samples))
written_behind ch w n samples entry exit h k e =
    rw (e, ← frames_of-map sample_in ch n samples)
    (behind-paste ch w n entry (map sample_in samples) k (omega (arith, length-map samples sample_in)))

-- frames of silence
pub silence-behind : (ch w n : ℕ) (entry exit : List ℤ) → (w + n) * ch ≤ length entry
    → exit ≡ paste entry (w * ch) (replicate (n * ch) (pos 0)) (n * ch) → Behind ch w n entry exit (replicate n (replicate ch (pos 0)))
silence-behind ch w n entry exit k e =
    rw (e, ← silent-frames ch n (pos 0))
    (behind-paste ch w n entry (replicate (n * ch) (pos 0)) k (omega (arith, length-replicate (n * ch) (pos 0))))

-- ---- the stream with these frames

module _ (s : SonicStream) (n : ℕ) where
  pub held-joined : (joined_stream n s).held.0 ≡ s.held.0 + n
  unfolding joined state_of stream_of
  held-joined = simp (length-append, length-frames_of, length-replicate)

  pub tail-joined : (joined_stream n s).tail.0 ≡ s.tail.0
  unfolding joined state_of stream_of
  tail-joined = length-frames_of s.channels s.tail.0 []

  pub needed-joined : (staged : ℕ) → stage_needed (joined_stream n s) staged ≡ stage_needed s staged
  unfolding stage_needed joined state_of stream_of
  needed-joined staged = ap (λ (k : ℕ). cond (eq s.pitch one) staged (k + staged)) tail-joined

-- ---- what the work asks for

-- refusals 3 to 5 are not met
pub add-ready : (s : SonicStream) (period : Float) (a : Areas) (n : ℕ) → (is_in_order s ≡ true) × (period ≡ sample_period s.rate) → areas_bad s a ≡ false
    → too_short s.channels (s.held.0 + n) a.input ≡ false → AddReady s period a n
add-ready s period a n o g f =
    record {
      accepted = record { in_order = o.0; areas_good = g; fits = ltb-false (length a.input) ((s.held.0 + n) * s.channels) f };
      period_is = o.1;
    }

-- they go by the areas' lengths
pub ready_with : {s : SonicStream} {period : Float} {a : Areas} {n : ℕ} → AddReady s period a n → (input : List ℤ) → length input ≡ length a.input
    → AddReady s period (areas input a.stage a.output a.scratch) n
unfolding areas_bad sizes_bad parts_bad
ready_with r input e =
    let p = r.accepted in
    record { accepted = record { in_order = p.in_order; areas_good = rw e p.areas_good; fits = rw e p.fits }; period_is = r.period_is }

module _ {s : SonicStream} {a : Areas} {n : ℕ} (p : Accepted s a n) where
  good : AreasGood s a
  good = areas-of s a p.areas_good

  accepted-areas : FillReady (joined_stream n s) a
  unfolding joined state_of stream_of
  accepted-areas =
      let held : (joined_stream n s).held.0 * s.channels ≤ length a.input = rw (held-joined s n) p.fits in
      let tail : (joined_stream n s).tail.0 * s.channels ≤ length a.stage = rw (tail-joined s n) good.tail in
      record {
        fit = record {
          held = held;
          tail = tail;
          waiting = good.waiting;
          input_short = good.input_short;
          stage_short = good.stage_short;
          output_short = good.output_short;
        };
        scratch_fits = good.scratch_fits;
      }

  pub accepted-ready : StreamReady (joined_stream n s) × FillReady (joined_stream n s) a
  unfolding joined
  accepted-ready =
      let r = ready_of s p.in_order in
      (ready-stream (ready-input r _ _ _ _ r.prev) s.waiting.0, accepted-areas)

  -- ---- counts that the code passes on

  pub accepted-channels : 1 ≤ s.channels
  accepted-channels = (limits_of s p.in_order).channels_low

  -- the frames added lie behind those held
  pub accepted-place : s.held.0 * s.channels + n * s.channels ≤ length a.input
  accepted-place = omega (arith, add-mul s.held.0 n s.channels, p.fits)

  pub accepted-held : s.held.0 + n ≤ 2 ^ 24
  accepted-held = omega (arith, count-le s.channels (s.held.0 + n) accepted-channels, p.fits, good.input_short)

  pub accepted-tail : s.tail.0 ≤ 2 ^ 24
  accepted-tail = omega (arith, count-le s.channels s.tail.0 accepted-channels, good.tail, good.stage_short)

  -- whole frames of a write
  pub accepted-samples : (samples : List Float) → n ≡ length samples / s.channels → n * s.channels ≤ length samples
  accepted-samples samples e = samples-le s.channels n (length samples) accepted-channels (omega arith)
