-- The second half of a call's work, in the words of the contracts. Here:
--   mapped-behind                 volume
--   StateFinished, removed-as, used-fits, left-fits, commit-passed, commit-done     the commit
--   straight-done, staged_done, staged-placed, staged-fits     the conversion, where frames go straight out and where they go through the stage
--   commit-ready, finish-done     the finish, which the commit ends
-- Assumes nothing.
use mathlib.Core.Path.{◌≡◌, refl, ap, ◌∙◌, subst}
use mathlib.Core.Bool.{Bool, true, false, cond}
use mathlib.Core.List.{List, [], map}
use Prim.Native.Nat.{ℕ, ◌+◌, ◌-◌, ◌*◌, ◌≤◌}
use native.Mathlib.Nat.{add-mul, zero-mul, mul-le-mul_right, le_trans}
use native.Mathlib.Omega.{arith}
use lib.IntN.{ℤ}
use lib.ListN.{length, drop, length-drop, length-map}
use lib.Seq.{paste}
use Rattle.frames.specs.Areas.{Areas, areas}
use Rattle.frames.specs.Framing.{Frame, frames_of, Behind}
use Rattle.frames.specs.Removal.{FrontRemoved}
use Rattle.frames.proofs.Framing.{length-frames_of, frames_of-map}
use Rattle.frames.proofs.Behind.{behind-paste}
use Rattle.frames.proofs.Removal.{remaining-frames, removed-frames}
use Rattle.volume.specs.Volume.{scaled}
use Rattle.rate.specs.declared.Adjusted.{Adjusted}
use Rattle.rate.specs.Conversion.{Conversion, adjust_rate}
use Rattle.rate.specs.Adjusting.{AdjustedAs, new_frames, AdjustEnsures}
use Rattle.stream.specs.declared.SonicStream.{SonicStream}
use Rattle.stream.specs.declared.balance.Balance.{Balance}
use Rattle.stream.specs.Balance.{past}
use Rattle.stream.specs.Stream.{state_of, stream_of, ChangedBy}
use Rattle.process.specs.declared.Wrote.{Wrote}
use Rattle.stream.specs.declared.refusal.Refusal.{Refusal}
use Rattle.stream.specs.declared.refusal.Refusal.TheVariants.{OutputFull, TotalFull}
use Rattle.std.proofs.Common.{Option, Some, Result, Ok, Err}
use Rattle.fill.specs.declared.Filled.{Filled}
use Rattle.fill.specs.Filling.{straight}
use Rattle.process.specs.Finishing.{UsedReady, ConvertReady, ConvertEnsures, CommitReady, totals, finished_state, FinishedBy, adjusted_as}

-- ---- volume: a map over the samples of frames

pub mapped-behind : (f : ℤ → ℤ) (ch w m : ℕ) (entry exit : List ℤ) → (w + m) * ch ≤ length entry
    → exit ≡ paste entry (w * ch) (map f (drop (w * ch) entry)) (m * ch) → Behind ch w m entry exit (map (map f) (new_frames ch w m entry))
mapped-behind f ch w m entry exit h e =
    let rest : List ℤ = drop (w * ch) entry in
    let l : m * ch ≤ length (map f rest) = omega (arith, length-map rest f, length-drop (w * ch) entry, add-mul w m ch) in
    rw e (subst (Behind ch w m entry (paste entry (w * ch) (map f rest) (m * ch))) (frames_of-map f ch m rest) (behind-paste ch w m entry (map f rest) h l))

-- ---- the commit

-- the stream x has the tail and the positions of the conversion c and the totals of d, and its frames wait
abbrev pub StateFinished : SonicStream → Filled → Conversion → SonicStream → Type 0
StateFinished s d c x = ChangedBy (finished_state d c) d.stream (s.waiting.0 + length c.made) x

-- the stream x with the positions of an answer c and what it leaves of the tail, w frames waiting, and the totals b
abbrev pub committed : SonicStream → Adjusted → ℕ → Balance → SonicStream
committed x c w b =
    record x {
      old_rate_position = c.at.old;
      new_rate_position = c.at.new;
      tail = c.left;
      waiting = record { 0 = w };
      balance = b;
    }

-- the counts n and m of samples removed and kept are k and l
pub removed-as : {area exit : List ℤ} {n m k l : ℕ} → FrontRemoved n m area exit → n ≡ k → m ≡ l → FrontRemoved k l area exit
removed-as {area} {exit} r p q = rw (← p, ← q) r

module _ {s : SonicStream} {d : Filled} {a : Areas} where
  pub used-fits : UsedReady s d a → d.used.0 * s.channels + d.stream.held.0 * s.channels ≤ length a.input
  used-fits r =
      let e : d.used.0 + d.stream.held.0 ≡ s.held.0 = omega (arith, r.held, r.used) in
      omega (arith, add-mul d.used.0 d.stream.held.0 s.channels, ap (λ (n : ℕ). n * s.channels) e, r.held_fits)

  -- the input without the frames used
  rest-removed : {exit : List ℤ} → UsedReady s d a
      → FrontRemoved (d.used.0 * s.channels) (d.stream.held.0 * s.channels) a.input exit
      → frames_of s.channels (s.held.0 - d.used.0) exit ≡ drop d.used.0 (frames_of s.channels s.held.0 a.input)
  rest-removed r moved =
      let e : d.used.0 + d.stream.held.0 ≡ s.held.0 = omega (arith, r.held, r.used) in
      rw (← r.held) (removed-frames s.channels d.used.0 d.stream.held.0 moved ∙ ap (λ (n : ℕ). drop d.used.0 (frames_of s.channels n a.input)) e)

  module _ {c : Adjusted} (r : CommitReady s d c a) where
    pub left-fits : c.from.0 * s.channels + c.left.0 * s.channels ≤ length a.stage
    left-fits = omega (arith, add-mul c.from.0 c.left.0 s.channels, r.within)

    done-is : StateFinished s d (adjusted_as s c a) (committed d.stream c (s.waiting.0 + c.made.0) (totals d))
    unfolding state_of stream_of
    done-is input stage = simp length-frames_of (rw r.used.period_is)

    -- a total passes 64 bits: the areas stay as they are
    pub commit-passed : past (totals d) ≡ true → FinishedBy s d (adjusted_as s c a) a a (Err TotalFull)
    commit-passed e = record { input = refl; stage = refl; kept = refl; fits = rw length-frames_of r.fits; passed = e }

    -- the areas go from a to b
    pub commit-done : (b : Areas) (t : Balance) → (past (totals d) ≡ false) × (totals d ≡ t)
        → FrontRemoved (d.used.0 * s.channels) (d.stream.held.0 * s.channels) a.input b.input
        → FrontRemoved (c.from.0 * s.channels) (c.left.0 * s.channels) a.stage b.stage
        → Behind s.channels s.waiting.0 c.made.0 a.output b.output
        (map (map (scaled s.volume)) (new_frames s.channels s.waiting.0 c.made.0 a.output))
        → FinishedBy s d (adjusted_as s c a) a b (Ok (record { told = d.told; stream = committed d.stream c (s.waiting.0 + c.made.0) t }))
    commit-done b t within input stage behind =
        record {
          told = refl;
          within = within.0;
          stream = rw (← within.1) done-is;
          rest = rest-removed r.used input;
          tail = rw length-frames_of (remaining-frames s.channels c.from.0 c.left.0 stage);
          behind = rw length-frames_of behind;
        }

-- ---- the conversion of `new` frames

module _ (s : SonicStream) (new : ℕ) (a : Areas) (r : ConvertReady s new a) where
  -- they stand in the output already
  pub straight-done : straight s ≡ true
      → ConvertEnsures s new a a.output
      (Some (record { made = record { 0 = new }; from = record { 0 = 0 }; left = s.tail; at = record { old = s.old_rate_position; new = s.new_rate_position } }))
  unfolding adjust_rate
  straight-done e =
      rw e
      (record {
        behind = record { kept = refl; made = refl; long = refl; fits = rw e at r.placed };
        rest = ap (λ (i : ℕ). frames_of s.channels s.tail.0 (drop i a.stage)) (zero-mul s.channels);
        at = refl;
        within = omega arith;
      })

  pub staged_done : straight s ≡ false → (exit : List ℤ) (x : Option Adjusted)
      → AdjustEnsures s.channels s.rate s.pitch (record { old = s.old_rate_position; new = s.new_rate_position }) s.tail.0 new s.waiting.0
      a.stage a.output exit x → ConvertEnsures s new a exit x
  staged_done e exit x h = rw e h

  -- at another pitch than 1.0 they stand in the stage, behind the tail
  pub staged-placed : straight s ≡ false → (s.tail.0 + new) * s.channels ≤ length a.stage
  staged-placed e = rw e at r.placed

  -- what is left of the tail lies in the stage
  pub staged-fits : cond (straight s) s.tail.0 (s.tail.0 + new) * s.channels ≤ length a.stage
  staged-fits = go (straight s) refl
    where
      go : (b : Bool) → straight s ≡ b → cond b s.tail.0 (s.tail.0 + new) * s.channels ≤ length a.stage
      go true e = r.tail_fits
      go false e = staged-placed e

-- ---- the finish

-- frames behind, then others in their place
behind-again : {ch w m n : ℕ} {a b c : List ℤ} {fs gs : List Frame} → Behind ch w m a b fs → Behind ch w n b c gs → Behind ch w n a c gs
behind-again p q = record { kept = q.kept ∙ p.kept; made = q.made; long = q.long ∙ p.long; fits = rw (← p.long) q.fits }

-- the conversion c took the output to `middle`, and left of the tail what lies within the first `staged` frames; from there the commit goes on
module _ (s : SonicStream) (d : Filled) (c : Conversion) (a : Areas) (middle : List ℤ) {staged : ℕ} {x : Adjusted}
    (j : AdjustedAs s.channels s.waiting.0 staged c a.stage a.output middle x) where
  abbrev between : Areas
  between = areas a.input a.stage middle []

  pub commit-ready : UsedReady s d a → staged * s.channels ≤ length a.stage → CommitReady s d x (areas a.input a.stage middle [])
  commit-ready r fits =
      record {
        used =
            record {
              ready = r.ready;
              held = r.held;
              period_is = r.period_is;
              used = r.used;
              held_fits = r.held_fits;
              input_short = r.input_short;
              stage_short = r.stage_short;
              output_short = rw j.behind.long r.output_short;
            };
        within = le_trans (mul-le-mul_right s.channels j.within) fits;
        fits = rw j.behind.long j.behind.fits;
      }

  adjusted-is : adjusted_as s x between ≡ c
  adjusted-is = λ i. record { made = j.behind.made i; rest = j.rest i; at = j.at i }

  from_start : (b : Areas) (w : Result Wrote Refusal) → FinishedBy s d c between b w → FinishedBy s d c a b w
  from_start b (Ok w) h =
      record { told = h.told; within = h.within; stream = h.stream; rest = h.rest; tail = h.tail; behind = behind-again j.behind h.behind }
  from_start b (Err OutputFull) h =
      (h.0, h.1, record { kept = h.2.kept ∙ j.behind.kept; over = rw (← j.behind.long) h.2.over })
  from_start b (Err TotalFull) h =
      record {
        input = h.input;
        stage = h.stage;
        kept = h.kept ∙ j.behind.kept;
        fits = rw (← j.behind.long) h.fits;
        passed = h.passed;
      }
  from_start b (Err _) h = absurd h

  pub finish-done : (b : Areas) (w : Result Wrote Refusal)
      → FinishedBy s d (adjusted_as s x (areas a.input a.stage middle [])) (areas a.input a.stage middle []) b w → FinishedBy s d c a b w
  finish-done b w h = from_start b w (subst (λ (z : Conversion). FinishedBy s d z between b w) adjusted-is h)
