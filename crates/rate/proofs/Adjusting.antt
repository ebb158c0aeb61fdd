-- What a conversion at another pitch than 1.0 leaves, with new frames and without, in the words of the contracts. Assumes nothing.
use mathlib.Core.Path.{◌≡◌, refl, sym, ap, ◌∙◌, subst}
use mathlib.Core.Bool.{false}
use mathlib.Core.List.{List, [], ◌∷◌, ◌++◌}
use Rattle.std.specs.Prelude.{Option, Some}
use Prim.Native.Nat.{ℕ, ◌+◌, ◌*◌, ◌≤◌, ◌<◌}
use native.Mathlib.Nat.{zero-mul}
use native.Mathlib.Omega.{arith}
use lib.ListN.{length, drop}
use lib.IntN.{ℤ}
use lib.Ieee.{Float, eq}
use Rattle.floats.specs.Numbers.{one}
use Rattle.frames.specs.Framing.{Frame, frames_of}
use Rattle.frames.proofs.Framing.{frames_of-add, length-frames_of}
use Rattle.frames.proofs.Behind.{behind-none}
use Rattle.rate.specs.declared.Position.{Position}
use Rattle.rate.specs.declared.Adjusted.{Adjusted}
use Rattle.rate.specs.Halving.{rates_of}
use Rattle.rate.specs.Conversion.{Conversion, convert, join_tail, adjust_rate}
use Rattle.rate.specs.Adjusting.{AdjustedBy, new_frames, ScanEnsures, AdjustEnsures}

-- the tail as it was
stays : (ch tail : ℕ) (stage : List ℤ) → frames_of ch tail (drop (0 * ch) stage) ≡ frames_of ch tail stage
stays ch tail stage = ap (λ (i : ℕ). frames_of ch tail (drop i stage)) (zero-mul ch)

-- ---- by the number of new frames

module _ (ch rate : ℕ) (pitch : Float) (at : Position) (tail new w : ℕ) (stage entry exit : List ℤ) (a : Option Adjusted) where
  join-some : (fs : List Frame) → length fs ≡ new → 0 < new
      → join_tail (rates_of rate pitch) at (frames_of ch tail stage) fs ≡ convert (rates_of rate pitch) at (frames_of ch tail stage ++ fs)
  unfolding join_tail
  join-some [] l h = absurd (omega arith)
  join-some (f ∷ fs) l h = refl

  other-pitch : eq pitch one ≡ false → (fs : List Frame)
      → adjust_rate rate pitch at (frames_of ch tail stage) fs ≡ join_tail (rates_of rate pitch) at (frames_of ch tail stage) fs
  unfolding adjust_rate
  other-pitch e fs = rw e

  pub some_new : eq pitch one ≡ false → 0 < new → ScanEnsures ch (rates_of rate pitch) (tail + new) w at stage entry exit a
      → AdjustEnsures ch rate pitch at tail new w stage entry exit a
  some_new e h d =
      let fs : List Frame = new_frames ch tail new stage in
      let joined : adjust_rate rate pitch at (frames_of ch tail stage) fs ≡ convert (rates_of rate pitch) at (frames_of ch (tail + new) stage) =
      other-pitch e fs ∙ join-some fs (length-frames_of ch new (drop (tail * ch) stage)) h
      ∙ ap (convert (rates_of rate pitch) at) (sym (frames_of-add ch tail new stage)) in
      subst (λ (x : Conversion). AdjustedBy ch w (tail + new) x stage entry exit a) (sym joined) d

-- nothing new
pub none-new : (ch rate : ℕ) (pitch : Float) (at : Position) (tail new w : ℕ) (stage entry : List ℤ) → eq pitch one ≡ false → new ≡ 0
    → w * ch ≤ length entry → AdjustEnsures ch rate pitch at tail new w stage entry entry
    (Some (record { made = record { 0 = 0 }; from = record { 0 = 0 }; left = record { 0 = tail }; at = at }))
unfolding adjust_rate join_tail frames_of
none-new ch rate pitch at tail new w stage entry e z h =
    rw (z, e) (record { behind = behind-none ch w entry h; rest = stays ch tail stage; at = refl; within = omega arith })
