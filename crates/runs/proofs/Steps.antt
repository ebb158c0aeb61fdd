-- How an answered setting or read keeps a moment and the ledger side by side; first, the stream that such a call leaves. Assumes nothing.
use mathlib.Core.Path.{◌≡◌, refl, sym, ap, ◌∙◌, subst}
use mathlib.Core.Bool.{Bool, true, false, cond}
use mathlib.Core.List.{List, ◌++◌, map, append_assoc, append-nil, map-append}
use Rattle.std.specs.Prelude.{Option, None, Some, Result, Ok, Err}
use Rattle.std.specs.Result.{is_ok}
use Prim.Native.Nat.{ℕ, ◌-◌, ◌*◌, ◌≤◌}
use native.Mathlib.Nat.{le_trans, mul-le-mul_right}
use native.Mathlib.Omega.{arith}
use lib.Ieee.{Float}
use lib.ListN.{length, take, drop, take-append-drop}
use Rattle.frames.specs.Framing.{Frame, frames_of}
use Rattle.frames.proofs.Framing.{length-frames_of}
use Rattle.floats.specs.Write.{sample_out}
use Rattle.rate.specs.declared.Position.{Position}
use Rattle.stream.specs.declared.SonicStream.{SonicStream}
use Rattle.stream.specs.declared.Setting.{Setting}
use Rattle.stream.specs.declared.Setting.TheVariants.{Speed, Pitch, Volume, StepOver}
use Rattle.stream.specs.declared.refusal.Refusal.{Refusal}
use Rattle.stream.specs.declared.refusal.Refused.{Refused}
use Rattle.stream.specs.State.{State, with_settings}
use Rattle.stream.specs.Stream.{state_of, stream_of, unlent}
use Rattle.stream.specs.Settings.{with_setting, not_in_order}
use Rattle.read.specs.declared.Gave.{Gave}
use Rattle.read.specs.Reading.{read_by, ReadEnsures}
use Rattle.runs.specs.Ledger.{setting, read, Ledger, entry, posted}
use Rattle.runs.specs.Run.{ReadAreas, Moment, Agree, leave, after_setting, after_read, values}
use Rattle.runs.proofs.KeptParts.{frames-shown, frames-kept, frames-left, length-left}
use Rattle.runs.proofs.Work.{setting-cases}
use Rattle.runs.proofs.Tracking.{Tracks}

-- ---- the stream that a call leaves which is not lent input and stage

module _ (s : State) (w k : ℕ) where
  -- a stream tells of these only how many frames they hold
  settings-unlent : (speed pitch volume : Float) (over : ℕ) (at : Position)
      → stream_of (with_settings (unlent (stream_of s w)) speed pitch volume over at) k ≡ stream_of (with_settings s speed pitch volume over at) k
  unfolding stream_of state_of
  settings-unlent speed pitch volume over at = simp length-frames_of

  setting-unlent : (v : Setting) → stream_of (with_setting v (unlent (stream_of s w))) k ≡ stream_of (with_setting v s) k
  unfolding with_setting stream_of state_of
  setting-unlent (Speed x) = settings-unlent _ _ _ _ _
  setting-unlent (Pitch x) = settings-unlent _ _ _ _ _
  setting-unlent (Volume x) = settings-unlent _ _ _ _ _
  setting-unlent (StepOver on) = settings-unlent _ _ _ _ _

module _ {m : Moment} {l : Ledger} (h : Tracks m l) where
  abbrev ch : ℕ
  ch = l.state.channels

  abbrev s : SonicStream
  s = stream_of l.state h.waiting

  -- ---- a setting

  abbrev Settled : SonicStream → State → Type 0
  Settled x t =
      x ≡ stream_of t h.waiting → Tracks (after_setting m (Ok x)) (record { state = t; made = l.made; outcomes = l.outcomes })

  settings-track : (x : SonicStream) (speed pitch volume : Float) (over : ℕ) (at : Position)
      → Settled x (with_settings l.state speed pitch volume over at)
  unfolding after_setting
  settings-track x speed pitch volume over at e =
      record {
        waiting = h.waiting;
        stream = e;
        input = h.input;
        input_length = h.input_length;
        tail = h.tail;
        tail_length = h.tail_length;
        output_length = h.output_length;
        made = h.made;
        outcomes = h.outcomes;
      }

  abbrev SettingTracks : Setting → Result SonicStream Refused → Type 0
  SettingTracks v r = Tracks (after_setting m r) (posted l (record { call = setting v; accepted = is_ok r }))

  -- by whether the stream is in order
  pub setting-tracks : (v : Setting) (r : Result SonicStream Refused) (b : Bool)
      → r ≡ cond b (Ok (stream_of (with_setting v (unlent s)) h.waiting)) (Err (not_in_order s))
      → SettingTracks v r
  unfolding posted entry after_setting
  setting-tracks v r true e =
      let x : SonicStream = stream_of (with_setting v (unlent s)) h.waiting in
      subst (SettingTracks v) (sym e)
      (setting-cases (Settled x) l.state (settings-track x) v (setting-unlent l.state h.waiting h.waiting v))
  setting-tracks v r false e =
      let t : State = l.state in
      subst (SettingTracks v) (sym e) (settings-track s t.speed t.pitch t.volume t.step_over t.at refl)

  -- ---- a read

  module _ (a b : ReadAreas) (g : Agree m.output a.output) (same : length b.output ≡ length a.output) where
    abbrev shown : List Frame
    shown = frames_of ch h.waiting a.output

    abbrev answered : ℕ → Result Gave Refused
    answered n = Ok (record { frames = record { 0 = n }; stream = stream_of (unlent s) (h.waiting - n) })

    abbrev refused : Refusal → Result Gave Refused
    refused refusal = Err (record { refusal = refusal; stream = s })

    given-tracks : (n : ℕ) → h.waiting * ch ≤ length a.output
        → ReadEnsures ch (read_by None s n shown) (answered n) a.slice b.slice b.output
        → Tracks (after_read m (answered n) b) l
    unfolding after_read state_of stream_of
    given-tracks n fits e =
        let t : State = l.state in
        let left : ℕ = h.waiting - n in
        let less : left ≤ h.waiting = omega arith in
        let left-fits : left * ch ≤ length b.output = le_trans (mul-le-mul_right ch less) (omega arith) in
        let seen : shown ≡ frames_of ch h.waiting m.output =
        frames-shown ch h.waiting m.output a.output g h.output_length fits in
        let later : frames_of ch left (leave (left * ch) b.output m.output) ≡ drop n shown =
        frames-left ch left m.output b.output left-fits ∙ e.output in
        record {
          waiting = left;
          stream = settings-unlent t h.waiting left t.speed t.pitch t.volume t.step_over t.at;
          input = h.input;
          input_length = h.input_length;
          tail = h.tail;
          tail_length = h.tail_length;
          output_length = length-left ch left m.output b.output left-fits;
          made =
              rw (later, e.given)
              (append_assoc m.given (values (take n shown)) (values (drop n shown))
              ∙ ap (λ (r : List (List Float)). m.given ++ r)
              (sym (map-append (map sample_out) (take n shown) (drop n shown)) ∙ ap (λ (r : List Frame). values r) (take-append-drop n shown ∙ seen))
              ∙ h.made);
          outcomes = h.outcomes;
        }

    refused-tracks : (refusal : Refusal) (n : ℕ) → ReadEnsures ch (read_by (Some refusal) s n shown) (refused refusal) a.slice b.slice b.output
        → Tracks (after_read m (refused refusal) b) l
    unfolding after_read frames_of stream_of
    refused-tracks refusal n e =
        let kept : leave (h.waiting * ch) b.output m.output ≡ m.output =
        frames-kept ch h.waiting m.output a.output b.output g same h.output_length e.output in
        record {
          waiting = h.waiting;
          stream = refl;
          input = h.input;
          input_length = h.input_length;
          tail = h.tail;
          tail_length = h.tail_length;
          output_length = rw kept h.output_length;
          made = rw (kept, append-nil m.given) h.made;
          outcomes = h.outcomes;
        }

    abbrev ReadTracks : ℕ → Result Gave Refused → Type 0
    ReadTracks most r = Tracks (after_read m r b) (posted l (record { call = read most; accepted = is_ok r }))

    -- by its refusal; n the frames that it would give
    pub read-tracks : (r : Result Gave Refused) (refusal : Option Refusal) (n most : ℕ) → (refusal ≡ None → h.waiting * ch ≤ length a.output)
        → ReadEnsures ch (read_by refusal s n shown) r a.slice b.slice b.output
        → ReadTracks most r
    unfolding posted entry stream_of
    read-tracks r None n most fits e =
        let q : r ≡ answered n = e.answer in
        subst (ReadTracks most) (sym q)
        (given-tracks n (fits refl) (subst (λ (y : Result Gave Refused). ReadEnsures ch (read_by None s n shown) y a.slice b.slice b.output) q e))
    read-tracks r (Some refusal) n most fits e =
        let q : r ≡ refused refusal = e.answer in
        subst (ReadTracks most) (sym q)
        (refused-tracks refusal n (subst (λ (y : Result Gave Refused). ReadEnsures ch (read_by (Some refusal) s n shown) y a.slice b.slice b.output) q e))
