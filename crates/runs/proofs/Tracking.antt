-- A moment of a run and the ledger side by side, and how an answered write or flush keeps them so. Assumes nothing.
use mathlib.Core.Path.{◌≡◌, refl, sym, ap, ◌∙◌, subst}
use mathlib.Core.List.{List, [], ◌∷◌, ◌++◌, map, append_assoc, append-nil, map-append}
use Rattle.std.specs.Prelude.{Option, None, Some, Result, Ok, Err}
use Rattle.std.specs.Result.{is_ok}
use Prim.Native.Nat.{ℕ, ◌+◌, ◌*◌, ◌≤◌}
use native.Mathlib.Omega.{arith}
use lib.IntN.{pos}
use lib.Ieee.{Float}
use lib.ListN.{length, replicate}
use Rattle.frames.specs.Areas.{Areas}
use Rattle.frames.specs.Framing.{Frame, frames_of}
use Rattle.floats.specs.Write.{sample_in, sample_out}
use Rattle.period.specs.Rates.{max_required}
use Rattle.stream.specs.declared.SonicStream.{SonicStream}
use Rattle.stream.specs.declared.refusal.Refusal.{Refusal}
use Rattle.stream.specs.declared.refusal.Refused.{Refused}
use Rattle.stream.specs.State.{State}
use Rattle.stream.specs.Stream.{stream_of}
use Rattle.fill.specs.declared.Told.{Told}
use Rattle.fill.specs.declared.Outcome.{Outcome}
use Rattle.process.specs.Process.{whole_frames, joined}
use Rattle.process.proofs.Claims.{Held}
use Rattle.process.specs.declared.Wrote.{Wrote}
use Rattle.adding.specs.Calls.{refused_call, accepted_call, call_by, CallEnsures}
use Rattle.runs.specs.Ledger.{Call, setting, write, flush, read, Ledger, entry, posted}
use Rattle.runs.specs.Run.{Moment, Lent, SameLengths, leave, after_call, values}
use Rattle.runs.proofs.KeptParts.{frames-shown, frames-kept, frames-left, length-left}

-- the stream is that of the ledger's state, the kept parts are its input and tail, and what was given with what waits is what it made
pub record Tracks (m : Moment) (l : Ledger) : Type 0 where
  pub waiting : ℕ
  pub stream : m.stream ≡ stream_of l.state waiting
  pub input : frames_of l.state.channels (length l.state.input) m.input ≡ l.state.input
  pub input_length : length m.input ≡ length l.state.input * l.state.channels
  pub tail : frames_of l.state.channels (length l.state.tail) m.tail ≡ l.state.tail
  pub tail_length : length m.tail ≡ length l.state.tail * l.state.channels
  pub output_length : length m.output ≡ waiting * l.state.channels
  pub made : m.given ++ values (frames_of l.state.channels waiting m.output) ≡ values l.made
  pub outcomes : m.outcomes ≡ l.outcomes

-- what the laws of stretch steps ask of a write or a flush: of the state with the frames that it adds
abbrev pub HeldCall : Ledger → Call → Type 0
HeldCall l (setting v) = Unit {0}
HeldCall l (write samples) = Held (joined (map (map sample_in) (whole_frames l.state.channels samples)) l.state)
HeldCall l flush = Held (joined (replicate (2 * max_required l.state.rate) (replicate l.state.channels (pos 0))) l.state)
HeldCall l (read most) = Unit {0}

-- an accepted call's entry in the ledger, what its work asks for, and room for what it keeps
pub record Accepts (l : Ledger) (waiting : ℕ) (a : Areas) (c : Call) (told : Told) (t : State) (frames : List Frame) : Type 0 where
  pub entered : entry l c ≡ record { state = t; made = l.made ++ frames; outcomes = l.outcomes ++ (told.outcome ∷ []) }
  pub held : HeldCall l c
  pub channels_is : t.channels ≡ l.state.channels
  pub input_fits : length t.input * l.state.channels ≤ length a.input
  pub tail_fits : length t.tail * l.state.channels ≤ length a.stage
  pub output_fits : (waiting + length frames) * l.state.channels ≤ length a.output
  pub waiting_fits : waiting * l.state.channels ≤ length a.output

module _ {m : Moment} {l : Ledger} (h : Tracks m l) where
  abbrev ch : ℕ
  ch = l.state.channels

  abbrev s : SonicStream
  s = stream_of l.state h.waiting

  abbrev refused : Refusal → Result Wrote Refused
  refused refusal = Err (record { refusal = refusal; stream = s })

  refused-tracks : (a b : Areas) (refusal : Refusal) → Lent m a → SameLengths a b
      → CallEnsures ch (refused_call refusal s a) (refused refusal) b
      → Tracks (after_call m (refused refusal) b) l
  unfolding after_call refused_call stream_of
  refused-tracks a b refusal g same e =
      let in_kept : leave (length l.state.input * ch) b.input m.input ≡ m.input =
      frames-kept ch (length l.state.input) m.input a.input b.input g.input same.input h.input_length e.input in
      let tail-kept : leave (length l.state.tail * ch) b.stage m.tail ≡ m.tail =
      frames-kept ch (length l.state.tail) m.tail a.stage b.stage g.stage same.stage h.tail_length e.tail in
      let out_kept : leave (h.waiting * ch) b.output m.output ≡ m.output =
      frames-kept ch h.waiting m.output a.output b.output g.output same.output h.output_length e.output in
      record {
        waiting = h.waiting;
        stream = refl;
        input = rw in_kept h.input;
        input_length = rw in_kept h.input_length;
        tail = rw tail-kept h.tail;
        tail_length = rw tail-kept h.tail_length;
        output_length = rw out_kept h.output_length;
        made = rw out_kept h.made;
        outcomes = append-nil m.outcomes ∙ h.outcomes;
      }

  module _ (c : Call) (a b : Areas) (told : Told) (t : State) (frames : List Frame) where
    abbrev waits : ℕ
    waits = h.waiting + length frames

    abbrev done : Result Wrote Refused
    done = Ok (record { told = told; stream = stream_of t waits })

    accepted-tracks : Lent m a → SameLengths a b → CallEnsures ch (accepted_call s a told t frames) done b
        → Accepts l h.waiting a c told t frames → Tracks (after_call m done b) (entry l c)
    unfolding after_call accepted_call stream_of
    accepted-tracks g same ensured f =
        let e : CallEnsures t.channels (accepted_call s a told t frames) done b =
        subst (λ (k : ℕ). CallEnsures k (accepted_call s a told t frames) done b) (sym f.channels_is) ensured in
        let in-fits : length t.input * t.channels ≤ length b.input = rw f.channels_is (omega (arith, f.input_fits, same.input)) in
        let tail_fits : length t.tail * t.channels ≤ length b.stage = rw f.channels_is (omega (arith, f.tail_fits, same.stage)) in
        let out-fits : waits * t.channels ≤ length b.output = rw f.channels_is (omega (arith, f.output_fits, same.output)) in
        let before : List Frame = frames_of ch h.waiting m.output in
        let seen : frames_of ch h.waiting a.output ≡ before =
        frames-shown ch h.waiting m.output a.output g.output h.output_length f.waiting_fits in
        let now : frames_of t.channels waits (leave (waits * t.channels) b.output m.output) ≡ before ++ frames =
        frames-left t.channels waits m.output b.output out-fits ∙ e.output ∙ ap (λ (r : List Frame). r ++ frames) seen in
        let tracks : Tracks (after_call m done b) (record { state = t; made = l.made ++ frames; outcomes = l.outcomes ++ (told.outcome ∷ []) }) =
        record {
          waiting = waits;
          stream = refl;
          input = frames-left t.channels (length t.input) m.input b.input in-fits ∙ e.input;
          input_length = length-left t.channels (length t.input) m.input b.input in-fits;
          tail = frames-left t.channels (length t.tail) m.tail b.stage tail_fits ∙ e.tail;
          tail_length = length-left t.channels (length t.tail) m.tail b.stage tail_fits;
          output_length = length-left t.channels waits m.output b.output out-fits;
          made =
              ap (λ (r : List Frame). m.given ++ values r) now
              ∙ ap (λ (r : List (List Float)). m.given ++ r) (map-append (map sample_out) before frames)
              ∙ sym (append_assoc m.given (values before) (values frames))
              ∙ ap (λ (r : List (List Float)). r ++ values frames) h.made
              ∙ sym (map-append (map sample_out) l.made frames);
          outcomes = ap (λ (r : List Outcome). r ++ (told.outcome ∷ [])) h.outcomes;
        }
        in
        subst (λ (x : Ledger). Tracks (after_call m done b) x) (sym f.entered) tracks

    -- by its answer
    abbrev AnswerTracks : Result Wrote Refused → Type 0
    AnswerTracks r = Tracks (after_call m r b) (posted l (record { call = c; accepted = is_ok r }))

    -- a write or a flush, by its refusal
    pub call-tracks : (r : Result Wrote Refused) (refusal : Option Refusal) → Lent m a → SameLengths a b
        → CallEnsures ch (call_by refusal s a (accepted_call s a told t frames)) r b
        → (refusal ≡ None → Accepts l h.waiting a c told t frames)
        → AnswerTracks r
    unfolding posted accepted_call refused_call stream_of
    call-tracks r None g same e f =
        let q : r ≡ done = e.answer in
        subst AnswerTracks (sym q) (accepted-tracks g same (subst (λ (y : Result Wrote Refused). CallEnsures ch (accepted_call s a told t frames) y b) q e) (f refl))
    call-tracks r (Some refusal) g same e f =
        let q : r ≡ refused refusal = e.answer in
        subst AnswerTracks (sym q) (refused-tracks a b refusal g same (subst (λ (y : Result Wrote Refused). CallEnsures ch (refused_call refusal s a) y b) q e))
