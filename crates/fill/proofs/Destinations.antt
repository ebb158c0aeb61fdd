-- Where a call's frames go, by the areas. Here:
--   room-is, fits, few, short, room-there, target-fits     counts there
--   copy-fits, copied-straight, copied-staged, put-straight, put-staged     what a copy and a stretch do there
-- Assumes nothing.
use mathlib.Core.Path.{◌≡◌, refl, subst}
use mathlib.Core.Bool.{Bool, true, false, cond}
use mathlib.Core.List.{List}
use Prim.Native.Nat.{ℕ, ◌+◌, ◌-◌, ◌*◌, ◌/◌, ◌^◌, ◌≤◌, ◌<◌}
use native.Mathlib.Nat.{div-le_self, add-mul, le_of_eq}
use native.Mathlib.Omega.{arith}
use lib.IntN.{ℤ}
use lib.ListN.{length, drop}
use lib.Seq.{paste}
use Rattle.frames.specs.Areas.{Areas}
use Rattle.frames.proofs.Room.{room-under}
use Rattle.stretch.specs.declared.StretchCall.{StretchCall}
use Rattle.stretch.specs.declared.Stretch.{Stretch}
use Rattle.std.proofs.Common.{Option}
use Rattle.stretch.specs.Speed.{change_speed, AreaAfter}
use Rattle.stream.specs.declared.SonicStream.{SonicStream}
use Rattle.fill.specs.declared.destination.Destination.{Destination}
use Rattle.fill.specs.Filling.{straight, destination_by, destination_in, filled_area, other_area, place_for, AreasFit, CopyEnsures, StretchEnsures}
use Rattle.fill.proofs.Filling.{AreaFits}

module _ (s : SonicStream) (a : Areas) where
  -- by whether they go straight out
  abbrev destination : Bool → Destination
  destination b = destination_by b s (length a.stage) (length a.output)

  pub room-is : (destination_in s a).room.0 ≡ length (filled_area s a) / s.channels - (destination_in s a).kept.0
  room-is = go (straight s)
    where
      go : (b : Bool) → (destination b).room.0 ≡ length (cond b a.output a.stage) / s.channels - (destination b).kept.0
      go true = refl
      go false = refl

  module _ (fit : AreasFit s a) where
    pub fits : AreaFits s (destination_in s a).kept.0 a.input (filled_area s a)
    fits = go (straight s)
      where
        go : (b : Bool) → AreaFits s (destination b).kept.0 a.input (cond b a.output a.stage)
        go true = record { held = fit.held; kept_fit = fit.waiting; input_short = fit.input_short }
        go false = record { held = fit.held; kept_fit = fit.tail; input_short = fit.input_short }

    pub few : (destination_in s a).most.0 ≤ 2 ^ 24
    few = go (straight s)
      where
        all : length a.stage / s.channels ≤ length a.stage
        all = div-le_self (length a.stage) s.channels

        go : (b : Bool) → (destination b).most.0 ≤ 2 ^ 24
        go true = omega (arith, all, fit.stage_short)
        go false = omega (arith, all, fit.stage_short)

    pub short : length (filled_area s a) ≤ 2 ^ 24
    short = go (straight s)
      where
        go : (b : Bool) → length (cond b a.output a.stage) ≤ 2 ^ 24
        go true = fit.output_short
        go false = fit.stage_short

    pub room-there : 0 < s.channels
        → (destination_in s a).kept.0 * s.channels + (destination_in s a).room.0 * s.channels ≤ length (filled_area s a)
    room-there some =
        let to = destination_in s a in
        let all = room-under s.channels to.kept.0 to.room.0 (length (filled_area s a)) some fits.kept_fit (le_of_eq room-is) in
        omega (arith, add-mul to.kept.0 to.room.0 s.channels, all)

-- ---- the target of a stretch u, at the place at, where b says whether its frames go straight out

pub target-fits : (s : SonicStream) (a : Areas) (u : StretchCall) (to : Destination) (at : ℕ) (b : Bool) → AreasFit s a → 0 < s.channels
    → to ≡ destination_in s a → at ≡ to.kept.0 * u.channels → u.channels ≡ s.channels → straight s ≡ b
    → (at + to.room.0 * u.channels ≤ length (cond b a.output a.stage)) × (to.most.0 ≤ 2 ^ 24)
target-fits s a u to at b fit some is place same e = rw (place, same, is, ← e) (room-there s a fit some, few s a fit)

-- ---- a copy, behind k frames of the area

pub copy-fits : (s : SonicStream) (a : Areas) (k : ℕ) (b : Bool) → (k + s.held.0) * s.channels ≤ length (filled_area s a) → straight s ≡ b
    → k * s.channels + s.held.0 * s.channels ≤ length (cond b a.output a.stage)
copy-fits s a k b fits e = rw (← e) (omega (arith, add-mul k s.held.0 s.channels, fits))

module _ (s : SonicStream) (a b : Areas) (k : ℕ) (is : k ≡ (destination_in s a).kept.0) where
  abbrev put : List ℤ → ℕ → List ℤ
  put area n = paste area (n * s.channels) (drop 0 a.input) (s.held.0 * s.channels)

  abbrev Copied : ℕ → Type 0
  Copied n = (filled_area s b ≡ put (filled_area s a) n) × (other_area s b ≡ other_area s a)

  pub copied-straight : straight s ≡ true → b.output ≡ put a.output k → b.stage ≡ a.stage → CopyEnsures s a b
  copied-straight e p q = subst Copied is (rw e (p, q))

  pub copied-staged : straight s ≡ false → b.stage ≡ put a.stage k → b.output ≡ a.output → CopyEnsures s a b
  copied-staged e p q = subst Copied is (rw e (p, q))

-- ---- a stretch u of the samples in a's input

module _ (s : SonicStream) (u : StretchCall) (a b : Areas) (r : Option Stretch) (to : Destination) (is : to ≡ destination_in s a) where
  abbrev PutIn : List ℤ → List ℤ → Destination → Type 0
  PutIn entry exit d =
      (r ≡ change_speed u a.input (place_for s) d.most.0)
      × AreaAfter u a.input (place_for s) d.room.0 d.most.0 entry exit (d.kept.0 * s.channels)

  abbrev Put : Destination → Type 0
  Put d =
      (r ≡ change_speed u a.input (place_for s) d.most.0)
      × AreaAfter u a.input (place_for s) d.room.0 d.most.0 (filled_area s a) (filled_area s b) (d.kept.0 * s.channels)
      × (other_area s b ≡ other_area s a)

  pub put-straight : straight s ≡ true → PutIn a.output b.output to → b.stage ≡ a.stage → StretchEnsures s u a b r
  put-straight e p q = subst Put is (rw e (p.0, p.1, q))

  pub put-staged : straight s ≡ false → PutIn a.stage b.stage to → b.output ≡ a.output → StretchEnsures s u a b r
  put-staged e p q = subst Put is (rw e (p.0, p.1, q))
