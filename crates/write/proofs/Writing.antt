-- A write, to its answer:
--   written             the frames that it adds
--   stored-behind       as many of its samples as are stored, behind those held
--   write-behind        its frames, stored behind those held
--   write-early         its contract, refused before its work
--   write-answered      its contract, by the answer to its work
-- Assumes nothing.
use mathlib.Core.Path.{◌≡◌, sym, ap}
use mathlib.Core.List.{List, map, ◌++◌}
use Prim.Native.Nat.{ℕ, ◌*◌, ◌/◌}
use lib.IntN.{ℤ}
use lib.Ieee.{Float}
use lib.ListN.{length}
use lib.Seq.{paste, length-take-le}
use Rattle.frames.specs.Areas.{Areas, areas}
use Rattle.frames.specs.Framing.{Frame, frames_of, Behind}
use Rattle.frames.proofs.Framing.{length-frames_of}
use Rattle.floats.specs.Write.{sample_in}
use Rattle.floats.proofs.Stores.{behind-copied}
use Rattle.stream.specs.declared.SonicStream.{SonicStream}
use Rattle.stream.specs.Stream.{state_of, stream_of}
use Rattle.stream.specs.declared.refusal.Refused.{Refused}
use Rattle.process.specs.declared.Wrote.{Wrote}
use Rattle.std.proofs.Common.{Result, Ok, Err, ◌≤◌, ◌-◌, ◌∙◌, take, drop, append-nil, arith}
use Rattle.std.proofs.Math.ListN.{drop_of_length-le}
use Rattle.std.proofs.lemmas.List.{take-map, take_rest, length-drop}
use Rattle.process.specs.Process.{Made, whole_frames, joined, write_work}
use Rattle.process.specs.Streams.{joined_stream}
use Rattle.process.specs.Working.{WorkedAs}
use Rattle.adding.specs.Calls.{accepted_call, write_call}
use Rattle.adding.specs.Adding.{Accepted, AddReady}
use Rattle.adding.proofs.Answers.{CallAnswered, call-done}
use Rattle.adding.proofs.Joining.{written_behind, accepted-samples}
use Rattle.adding.proofs.Adding.{work_of, worked-in-order, added-refused, added-worked, added-none}
use Rattle.write_parts.specs.Writing.{RefusedEarly, WorkAnswered}

-- the n frames that it adds, as the input holds them
abbrev pub written : SonicStream → List Float → ℕ → List Frame
written s samples n = map (map sample_in) (frames_of s.channels n samples)

-- ---- its frames are stored

-- `stored` is the area behind those held, with the samples stored at its front
pub stored-behind : {A : Type 0} (value : A → Float) (d stored : List ℤ) (samples : List A) (held count : ℕ) → count ≤ length samples
    → stored ≡ paste (take (length d - held) (drop held d)) 0 (map sample_in (map value (take count samples))) (length (take count samples))
    → take held d ++ (stored ++ drop (length d - held) (drop held d)) ≡ paste d held (map sample_in (map value samples)) count
stored-behind value d stored samples held count h is =
    let long : length (drop held d) ≤ length d - held = omega (arith, length-drop held d) in
    let values = map value (take count samples) in
    let none : stored ++ drop (length d - held) (drop held d) ≡ stored =
    ap (λ (r : List ℤ). stored ++ r) (drop_of_length-le (drop held d) long) ∙ append-nil stored in
    ap (λ (r : List ℤ). take held d ++ r) (none ∙ is ∙ (λ i. paste (take_rest d held i) 0 (map sample_in values) (length (take count samples))))
    ∙ behind-copied sample_in d (map value samples) values held count _ (sym (take-map value count samples)) (length-take-le count samples h)

pub write-behind : (s : SonicStream) (samples : List Float) (a : Areas) (period : Float) (n : ℕ) (stored : List ℤ) → AddReady s period a n
    → n ≡ length samples / s.channels → stored ≡ paste a.input (s.held.0 * s.channels) (map sample_in samples) (n * s.channels)
    → Behind s.channels s.held.0 n a.input stored (written s samples n)
write-behind s samples a period n stored r count pasted =
    let p = r.accepted in
    written_behind s.channels s.held.0 n samples a.input stored (accepted-samples p samples count) p.fits pasted

-- ---- refused before its work

pub write-early : (s : SonicStream) (samples : List Float) (a : Areas) (e : Refused) → RefusedEarly s (length samples / s.channels) a e
    → CallAnswered s.channels (write_call s samples a) (Err e) a
unfolding write_call whole_frames
write-early s samples a e h =
    let m = write_work samples (state_of s a.input a.stage) in
    (rw (length-frames_of s.channels (length samples / s.channels) samples) (h m (accepted_call s a m.told m.state m.frames)), tt)

-- ---- by the answer to its work

module _ (s : SonicStream) (samples : List Float) (a b : Areas) (n : ℕ) (p : Accepted s a n) (whole : n ≡ length samples / s.channels) (input : List ℤ)
    (h : Behind s.channels s.held.0 n a.input input (written s samples n)) where
  abbrev made : Made
  made = work_of s a (written s samples n)

  done : (w : Wrote) → WorkedAs (joined_stream n s) made (areas input a.stage a.output a.scratch) b w
      → CallAnswered s.channels (accepted_call s a made.told made.state made.frames) (Ok w) b
  unfolding joined state_of stream_of
  done w r =
      let order = worked-in-order s w.stream a (written s samples n) _ p.in_order r.stream r.ready in
      call-done s a b w made.told made.state made.frames r.told r.stream order r.held r.tail r.waiting

  pub write-answered : (r : Result Wrote Refused) → WorkAnswered s n (areas input a.stage a.output a.scratch) b r
      → CallAnswered s.channels (write_call s samples a) r b
  unfolding write_call write_work whole_frames state_of
  write-answered (Ok w) r =
      rw (← whole, length-frames_of s.channels n samples, added-none s a b n p input (written s samples n) h w r)
      (done w (added-worked s a b n p input (written s samples n) h w r))
  write-answered (Err e) r =
      rw (← whole, length-frames_of s.channels n samples)
      (added-refused s a b n p input (written s samples n) h (accepted_call s a made.told made.state made.frames) e r.1 r.0)
