-- How many frames a ledger makes whose calls answer 'copied' or 'empty', from its last pitch on. Assumes nothing.
use mathlib.Core.Path.{◌≡◌, refl, sym, ap, ◌∙◌, subst}
use mathlib.Core.Bool.{Bool, false}
use mathlib.Core.List.{List, [], ◌∷◌, ◌++◌, map}
use Prim.Native.Nat.{ℕ, ◌+◌, ◌-◌, ◌*◌, ◌<◌}
use native.Mathlib.Nat.{zero-add}
use native.Mathlib.Omega.{arith}
use lib.Ieee.{Float, eq}
use lib.ListN.{length, length-append, length-map}
use Rattle.frames.specs.Framing.{Frame}
use Rattle.floats.specs.Numbers.{one}
use Rattle.floats.specs.Write.{sample_in}
use Rattle.volume.specs.Volume.{scaled}
use Rattle.rate.specs.declared.Rates.{Rates}
use Rattle.rate.specs.declared.Position.{Position}
use Rattle.rate.specs.Halving.{rates_of}
use Rattle.rate.specs.Tail.{start, ceil_div, scan, steps, consumable}
use Rattle.rate.specs.Conversion.{Conversion, convert, adjust_rate}
use Rattle.rate.proofs.Chunks.{and_then, convert-append}
use Rattle.rate.proofs.Counts.{start-count}
use Rattle.stream.specs.declared.Setting.{Setting}
use Rattle.stream.specs.declared.Setting.TheVariants.{Speed, Pitch, Volume, StepOver}
use Rattle.stream.specs.State.{State}
use Rattle.stream.specs.Settings.{with_setting}
use Rattle.process.specs.Process.{whole_frames}
use Rattle.runs.specs.Ledger.{Call, setting, write, flush, read, Ledger, entry}
use Rattle.runs.specs.Demand.{All, NoWrite, NoFlush, NoPitch, NotPitch, frames_in, held_pitch}
use Rattle.runs.proofs.Work.{setting-cases, bare}
use Rattle.runs.proofs.Passage.{Passage, passed, all, adjust_by, join_tail-convert, scaled_by}
use Rattle.runs.proofs.Quiet.{passage_in, NothingHeld, QuietCall, samples_in, setting-passes, write-passes}
use Rattle.runs.proofs.Entries.{entries, QuietCalls}

-- ---- frames converted from the last pitch on

-- the ledger holds this pitch, and has converted the frames fs from positions at 0
record Converted (rate : ℕ) (pitch : Float) (l : Ledger) (fs : List Frame) : Type 0 where
  held : l.state.pitch ≡ pitch
  tail : l.state.tail ≡ (convert (rates_of rate pitch) start fs).rest
  at : l.state.at ≡ (convert (rates_of rate pitch) start fs).at
  made : length l.made ≡ length (convert (rates_of rate pitch) start fs).made

-- F frames in all, converted to as many as were made
pub record FramesCounted (r : Rates) (F : ℕ) (made : List Frame) : Type 0 where
  pub frames : List Frame
  pub number : length frames ≡ F
  pub counted : length made ≡ length (convert r start frames).made

-- k·N/O rounded up, of k = F − 12 tail frames consumed
pub counted_is : (r : Rates) (F : ℕ) (made : List Frame) → 0 < r.old → FramesCounted r F made → length made ≡ ceil_div ((F - 12) * r.new) r.old
unfolding convert
counted_is r F made p k =
    k.counted ∙ start-count r (consumable k.frames) k.frames p ∙ ap (λ (n : ℕ). ceil_div ((n - 12) * r.new) r.old) k.number

module _ (rate channels : ℕ) (pitch : Float) (other : eq pitch one ≡ false) where
  abbrev r : Rates
  r = rates_of rate pitch

  -- and converts new ones behind these
  converts-more : (l : Ledger) (fs new : List Frame) → Converted rate pitch l fs → NothingHeld rate channels l
      → adjust_rate l.state.rate l.state.pitch l.state.at l.state.tail new
      ≡ convert r (convert r start fs).at ((convert r start fs).rest ++ new)
  unfolding adjust_rate
  converts-more l fs new converted calm =
      let t : State = l.state in
      ap (λ (k : ℕ). adjust_rate k t.pitch t.at t.tail new) calm.rate_is
      ∙ ap (λ (x : Float). adjust_rate rate x t.at t.tail new) converted.held
      ∙ ap (λ (b : Bool). adjust_by b r t.at t.tail new) other
      ∙ join_tail-convert r t.at t.tail new calm.short
      ∙ ap (λ (x : Position). convert r x (t.tail ++ new)) converted.at
      ∙ ap (λ (x : List Frame). convert r (convert r start fs).at (x ++ new)) converted.tail

  write-converts : (l : Ledger) (fs : List Frame) (samples : List Float) → Converted rate pitch l fs → NothingHeld rate channels l → QuietCall l (write samples)
      → Converted rate pitch (entry l (write samples)) (fs ++ samples_in (whole_frames channels samples))
  unfolding bare passed and_then
  write-converts l fs samples converted calm quiet =
      let new : List Frame = samples_in (whole_frames channels samples) in
      let c : Conversion = convert r start fs in
      let d : Conversion = convert r c.at (c.rest ++ new) in
      let x : Conversion = adjust_rate l.state.rate l.state.pitch l.state.at l.state.tail new in
      let out : List Frame = scaled_by l.state.volume x.made in
      let e : passage_in (entry l (write samples)) ≡ passed all (passage_in l) new = (write-passes calm samples quiet).0 in
      let more : x ≡ d = converts-more l fs new converted calm in
      let whole : convert r start (fs ++ new) ≡ and_then r c new = convert-append r start fs new in
      let made : length (entry l (write samples)).made ≡ length (l.made ++ out) = ap (λ (y : Passage). length y.made) e in
      let same : length x.made ≡ length d.made = ap (λ (y : Conversion). length y.made) more in
      let wanted : length (convert r start (fs ++ new)).made ≡ length (c.made ++ d.made) = ap (λ (y : Conversion). length y.made) whole in
      record {
        held = ap (λ (y : Passage). y.state.pitch) e ∙ converted.held;
        tail = ap (λ (y : Passage). y.state.tail) e ∙ ap (λ (y : Conversion). y.rest) more ∙ sym (ap (λ (y : Conversion). y.rest) whole);
        at = ap (λ (y : Passage). y.state.at) e ∙ ap (λ (y : Conversion). y.at) more ∙ sym (ap (λ (y : Conversion). y.at) whole);
        made =
            omega (
              arith,
              converted.made,
              length-append l.made out,
              length-map x.made (map (scaled l.state.volume)),
              length-append c.made d.made,
            );
      }

  setting-converts : (l : Ledger) (fs : List Frame) (v : Setting) → NotPitch v → Converted rate pitch l fs → Converted rate pitch (entry l (setting v)) fs
  unfolding entry with_setting
  setting-converts l fs (Speed x) n c = record { held = c.held; tail = c.tail; at = c.at; made = c.made }
  setting-converts l fs (Pitch x) n c = absurd n
  setting-converts l fs (Volume x) n c = record { held = c.held; tail = c.tail; at = c.at; made = c.made }
  setting-converts l fs (StepOver on) n c = record { held = c.held; tail = c.tail; at = c.at; made = c.made }

  behind-counted : (cs : List Call) (l : Ledger) (fs : List Frame) → NothingHeld rate channels l → QuietCalls l cs
      → All NoPitch cs → All NoFlush cs → Converted rate pitch l fs
      → FramesCounted r (length fs + frames_in channels cs) (entries l cs).made
  unfolding entries frames_in entry
  behind-counted [] l fs calm quiet no-pitch no-flush converted = record { frames = fs; number = omega arith; counted = converted.made }
  behind-counted (setting x ∷ cs) l fs calm quiet no-pitch no-flush converted =
      behind-counted cs (entry l (setting x)) fs (setting-passes calm x).1 quiet.1 no-pitch.1 no-flush.1
      (setting-converts l fs x no-pitch.0 converted)
  behind-counted (write samples ∷ cs) l fs calm quiet no-pitch no-flush converted =
      let whole : List (List Float) = whole_frames channels samples in
      let new : List Frame = samples_in whole in
      let e : length (fs ++ new) + frames_in channels cs ≡ length fs + (length whole + frames_in channels cs) =
      omega (arith, length-append fs new, length-map whole (map sample_in)) in
      subst (λ (F : ℕ). FramesCounted r F (entries (entry l (write samples)) cs).made) e
      (behind-counted cs (entry l (write samples)) (fs ++ new) (write-passes calm samples quiet.0).1 quiet.1 no-pitch.1 no-flush.1
      (write-converts l fs samples converted calm quiet.0))
  behind-counted (flush ∷ cs) l fs calm quiet no-pitch no-flush converted = absurd no-flush.0
  behind-counted (read most ∷ cs) l fs calm quiet no-pitch no-flush converted =
      behind-counted cs l fs calm quiet.1 no-pitch.1 no-flush.1 converted

-- ---- before it

-- nothing in the tail, and nothing made
pub record Untouched (l : Ledger) : Type 0 where
  pub tail : l.state.tail ≡ []
  pub made : l.made ≡ []

setting-untouched : (l : Ledger) (v : Setting) → Untouched l → Untouched (entry l (setting v))
unfolding entry
setting-untouched l v t =
    setting-cases (λ (s : State). Untouched (record { state = s; made = l.made; outcomes = l.outcomes })) l.state
    (λ speed pitch volume over at. record { tail = t.tail; made = t.made }) v

module _ (rate channels : ℕ) (x : Float) (other : eq (held_pitch x) one ≡ false) where
  -- setting the pitch puts p and n to 0
  pitch-converts : (l : Ledger) → Untouched l → Converted rate (held_pitch x) (entry l (setting (Pitch x))) []
  unfolding entry with_setting convert scan steps
  pitch-converts l t = record { held = refl; tail = t.tail; at = refl; made = ap length t.made }

  pub calls-counted : (before behind : List Call) (l : Ledger) → NothingHeld rate channels l → Untouched l
      → QuietCalls l (before ++ setting (Pitch x) ∷ behind)
      → All NoWrite before → All NoPitch behind → All NoFlush (before ++ setting (Pitch x) ∷ behind)
      → FramesCounted (rates_of rate (held_pitch x)) (frames_in channels (before ++ setting (Pitch x) ∷ behind))
      (entries l (before ++ setting (Pitch x) ∷ behind)).made
  unfolding entries frames_in entry
  calls-counted [] behind l calm untouched quiet no_write no-pitch no-flush =
      subst (λ (F : ℕ). FramesCounted (rates_of rate (held_pitch x)) F (entries (entry l (setting (Pitch x))) behind).made) (zero-add (frames_in channels behind))
      (behind-counted rate channels (held_pitch x) other behind (entry l (setting (Pitch x))) [] (setting-passes calm (Pitch x)).1 quiet.1
      no-pitch no-flush.1 (pitch-converts l untouched))
  calls-counted (setting v ∷ before) behind l calm untouched quiet no_write no-pitch no-flush =
      calls-counted before behind (entry l (setting v)) (setting-passes calm v).1 (setting-untouched l v untouched) quiet.1
      no_write.1 no-pitch no-flush.1
  calls-counted (write samples ∷ before) behind l calm untouched quiet no_write no-pitch no-flush = absurd no_write.0
  calls-counted (flush ∷ before) behind l calm untouched quiet no_write no-pitch no-flush = absurd no-flush.0
  calls-counted (read most ∷ before) behind l calm untouched quiet no_write no-pitch no-flush =
      calls-counted before behind l calm untouched quiet.1 no_write.1 no-pitch no-flush.1
