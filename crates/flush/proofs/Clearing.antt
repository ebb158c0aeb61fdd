-- A flush, to its answer: the frames expected of those made, and nothing held. Here:
--   take-shorter, expected-front     the first e of the frames made, behind those waiting
--   expected-is                      e
--   cleared_after, cleared-is, cleared-in-order, cleared-ready     the stream handed back
--   flush-early, flush-input-full                 its contract, refused before its work
--   silent, flush-refused, flush-done             the frames that it adds; its contract, by the answer to its work
-- Assumes nothing.
use mathlib.Core.Path.{◌≡◌, refl, sym, ap, ◌∙◌}
use mathlib.Core.Bool.{true, false}
use mathlib.Core.List.{List, [], ◌∷◌, ◌++◌}
use Prim.Native.Nat.{ℕ, zero, suc, ◌+◌, ◌-◌, ◌*◌, ◌≤◌, min}
use native.Mathlib.Omega.{arith}
use lib.IntN.{ℤ, pos}
use lib.ListN.{length, take, length-take, replicate}
use lib.Seq.{take-append-add}
use Rattle.frames.specs.Areas.{Areas, areas}
use Rattle.frames.specs.Framing.{Frame, frames_of, Behind}
use Rattle.frames.proofs.Framing.{length-frames_of, take-frames_of}
use Rattle.floats.specs.Settings.{sample_period}
use Rattle.floats.specs.Flush.{expected_frames}
use Rattle.period.specs.Rates.{max_required}
use Rattle.stream.specs.declared.SonicStream.{SonicStream}
use Rattle.stream.specs.State.{State}
use Rattle.stream.specs.Stream.{state_of, stream_of, unlent}
use Rattle.stream.specs.declared.refusal.Refusal.TheVariants.{InputFull}
use Rattle.stream.specs.declared.refusal.Refused.{Refused}
use Rattle.stream.specs.Refusals.{
  limits_in_order,
  period_in_order,
  settings_in_order,
  prev_in_order,
  positions_in_order,
  is_in_order,
  areas_bad,
  too_short,
}
use Rattle.std.proofs.Common.{Ok, Err}
use Rattle.process.specs.declared.Wrote.{Wrote}
use Rattle.process.specs.Process.{Made, joined, flush_work, expected, cleared}
use Rattle.process.specs.Streams.{joined_stream}
use Rattle.process.specs.Working.{WorkedAs}
use Rattle.adding.specs.Calls.{accepted_call, flush_call}
use Rattle.adding.specs.Adding.{Accepted, AddEnsures}
use Rattle.adding.proofs.Answers.{CallAnswered, call-done, input-refused}
use Rattle.adding.proofs.Adding.{work_of, worked-in-order, added-refused, added-worked, added-none}
use Rattle.write_parts.specs.Writing.{RefusedEarly, WorkAnswered}

take-shorter : {A : Type 0} (e : ℕ) (l : List A) → take (length (take e l)) l ≡ take e l
take-shorter zero l = refl
take-shorter (suc e) [] = refl
take-shorter {A} (suc e) (x ∷ xs) = ap (λ (r : List A). x ∷ r) (take-shorter e xs)

-- behind w frames, the first e of those made
expected-front : (ch w e : ℕ) (a b : List ℤ) (made : List Frame) → frames_of ch (w + length made) b ≡ frames_of ch w a ++ made
    → frames_of ch (w + length (take e made)) b ≡ frames_of ch w a ++ take e made
expected-front ch w e a b made q =
    let k : ℕ = length (take e made) in
    let fewer : k ≤ length made = omega (arith, length-take e made) in
    sym (take-frames_of ch (w + k) (w + length made) b (omega arith)) ∙ ap (take (w + k)) q
    ∙ ap (λ (i : ℕ). take (i + k) (frames_of ch w a ++ made)) (sym (length-frames_of ch w a))
    ∙ take-append-add (frames_of ch w a) made k ∙ ap (λ (r : List Frame). frames_of ch w a ++ r) (take-shorter e made)

-- the frames that it keeps, of those that the stream and its areas hold
expected-is : (s : SonicStream) (a : Areas)
    → expected (state_of s a.input a.stage) ≡ expected_frames s.held.0 s.tail.0 s.speed s.pitch
unfolding expected state_of
expected-is s a = rw (length-frames_of s.channels s.held.0 a.input, length-frames_of s.channels s.tail.0 a.stage)

-- ---- the stream handed back

-- t after the work on s, of whose new frames at most e are kept
abbrev pub cleared_after : SonicStream → ℕ → SonicStream → SonicStream
cleared_after s e t = stream_of (cleared (unlent t)) (s.waiting.0 + min e (t.waiting.0 - s.waiting.0))

cleared-is : (s t : SonicStream) (x : State) (e : ℕ) (frames : List Frame) → t ≡ stream_of x (s.waiting.0 + length frames)
    → cleared_after s e t ≡ stream_of (cleared x) (s.waiting.0 + length (take e frames))
unfolding cleared state_of stream_of
cleared-is s t x e frames is =
    let made-is : s.waiting.0 + length frames - s.waiting.0 ≡ length frames = omega arith in
    let count-is = ap (min e) made-is ∙ sym (length-take e frames) in
    rw is (λ i. stream_of (cleared x) (s.waiting.0 + count-is i))

cleared-in-order : (t : SonicStream) (x : State) (w w' : ℕ) → t ≡ stream_of x w → is_in_order t ≡ true → is_in_order (stream_of (cleared (unlent t)) w') ≡ true
unfolding is_in_order limits_in_order period_in_order settings_in_order prev_in_order positions_in_order cleared state_of stream_of
cleared-in-order t x w w' is e = rw is (rw is at e)

-- what `cleared` asks of the stream after the work
pub cleared-ready : (s : SonicStream) (n : ℕ) (a b : Areas) (w : Wrote) → AddEnsures s n a b (Ok w)
    → (s.waiting.0 ≤ w.stream.waiting.0) × (w.stream.sample_period ≡ sample_period w.stream.rate)
unfolding joined state_of stream_of
cleared-ready s n a b w r = (omega (arith, ap (λ (x : SonicStream). x.waiting.0) r.stream), r.ready.period_is)

-- ---- refused before its work

module _ (s : SonicStream) (a : Areas) where
  abbrev work : Made
  work = flush_work (state_of s a.input a.stage)

  pub flush-early : (e : Refused) → ((added : ℕ) → RefusedEarly s added a e) → CallAnswered s.channels (flush_call s a) (Err e) a
  unfolding flush_call
  flush-early e h = (h _ work _, tt)

  pub flush-input-full : (n : ℕ) → n ≡ 2 * max_required s.rate → is_in_order s ≡ true → areas_bad s a ≡ false
      → too_short s.channels (s.held.0 + n) a.input ≡ true
      → CallAnswered s.channels (flush_call s a) (Err (record { refusal = InputFull; stream = s })) a
  unfolding flush_call
  flush-input-full n count o g e = rw (← count) (input-refused s a n work _ o g e)

-- ---- by its work

-- n frames of silence
abbrev pub silent : SonicStream → ℕ → List Frame
silent s n = replicate n (replicate s.channels (pos 0))

module _ (s : SonicStream) (a b : Areas) (n : ℕ) (p : Accepted s a n) (count : n ≡ 2 * max_required s.rate) (input : List ℤ)
    (h : Behind s.channels s.held.0 n a.input input (silent s n)) (e : ℕ)
    (few : e ≡ expected_frames s.held.0 s.tail.0 s.speed s.pitch) where
  abbrev made : Made
  made = work_of s a (silent s n)

  -- the areas that the work begins with
  abbrev begun : Areas
  begun = areas input a.stage a.output a.scratch

  pub flush-refused : (r : Refused) → WorkAnswered s n (areas input a.stage a.output a.scratch) b (Err r)
      → CallAnswered s.channels (flush_call s a) (Err r) b
  unfolding flush_call flush_work state_of
  flush-refused r w =
      rw (expected-is s a, ← few, ← count)
      (added-refused s a b n p input (silent s n) h (accepted_call s a made.told (cleared made.state) (take e made.frames)) r w.1 w.0)

  -- what is handed back
  abbrev kept : Wrote → Wrote
  kept w = record { told = w.told; stream = cleared_after s e w.stream }

  done : (w : Wrote) → WorkedAs (joined_stream n s) made begun b w
      → CallAnswered s.channels (accepted_call s a made.told (cleared made.state) (take e made.frames)) (Ok (kept w)) b
  unfolding cleared frames_of joined state_of stream_of
  done w r =
      let t = w.stream in
      let order = worked-in-order s t a (silent s n) _ p.in_order r.stream r.ready in
      let output = expected-front s.channels s.waiting.0 e a.output b.output made.frames r.waiting in
      call-done s a b (kept w) made.told (cleared made.state) (take e made.frames) r.told
      (cleared-is s t made.state e made.frames r.stream) (cleared-in-order t made.state _ _ r.stream order) refl refl output

  pub flush-done : (w : Wrote) → AddEnsures s n (areas input a.stage a.output a.scratch) b (Ok w)
      → CallAnswered s.channels (flush_call s a) (Ok (record { told = w.told; stream = cleared_after s e w.stream })) b
  unfolding flush_call flush_work state_of
  flush-done w r =
      rw (expected-is s a, ← few, ← count, added-none s a b n p input (silent s n) h w r)
      (done w (added-worked s a b n p input (silent s n) h w r))
