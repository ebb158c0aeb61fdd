-- Frames that pass through rate and volume: in one piece or in several, the same comes of them, if at most 12 frames are in the tail.
-- Assumes nothing.
use mathlib.Core.Path.{◌≡◌, refl, sym, ap, ◌∙◌, subst}
use mathlib.Core.Bool.{Bool, true, false, cond}
use mathlib.Core.List.{List, [], ◌∷◌, ◌++◌, map, append_assoc, append-nil, map-append}
use Prim.Native.Nat.{ℕ, ◌≤◌}
use native.Mathlib.Omega.{arith}
use lib.Ieee.{Float, eq}
use lib.ListN.{length, drop, length-drop}
use Rattle.frames.specs.Framing.{Frame}
use Rattle.floats.specs.Numbers.{one}
use Rattle.volume.specs.Volume.{scaled}
use Rattle.rate.specs.declared.Rates.{Rates}
use Rattle.rate.specs.declared.Position.{Position}
use Rattle.rate.specs.Halving.{rates_of}
use Rattle.rate.specs.Tail.{scan, steps, consumable}
use Rattle.rate.specs.Conversion.{Conversion, convert, join_tail, adjust_rate}
use Rattle.rate.proofs.Chunks.{and_then, convert-append}
use Rattle.stream.specs.State.{State, with_tail}

-- ---- rate, by whether the pitch is 1.0

abbrev pub Short : List Frame → Type 0
Short tail = length tail ≤ 12

abbrev pub adjust_by : Bool → Rates → Position → List Frame → List Frame → Conversion
adjust_by b r at tail fs = cond b (record { made = fs; rest = tail; at = at }) (join_tail r at tail fs)

-- with a short tail, a call without new frames is no exception
pub join_tail-convert : (r : Rates) (at : Position) (tail fs : List Frame) → Short tail → join_tail r at tail fs ≡ convert r at (tail ++ fs)
unfolding join_tail convert scan steps
join_tail-convert r at tail [] h =
    let e : tail ++ [] ≡ tail = append-nil tail in
    let z : consumable tail ≡ 0 = omega arith in
    sym
    (ap (λ (l : List Frame). convert r at l) e
    ∙ ap (λ (k : ℕ). record { made = scan r k at tail; rest = drop k tail; at = steps r k at }) z)
join_tail-convert r at tail (f ∷ fs) h = refl

convert-short : (r : Rates) (at : Position) (l : List Frame) → Short (convert r at l).rest
unfolding convert
convert-short r at l = omega (arith, length-drop (consumable l) l)

adjust-short : (b : Bool) (r : Rates) (at : Position) (tail fs : List Frame) → Short tail → Short (adjust_by b r at tail fs).rest
adjust-short true r at tail fs h = h
adjust-short false r at tail fs h =
    subst (λ (c : Conversion). Short c.rest) (sym (join_tail-convert r at tail fs h)) (convert-short r at (tail ++ fs))

adjust-none : (b : Bool) (r : Rates) (at : Position) (tail : List Frame) → adjust_by b r at tail [] ≡ record { made = []; rest = tail; at = at }
unfolding join_tail
adjust-none true r at tail = refl
adjust-none false r at tail = refl

-- a conversion c, and then new frames ys
unfoldable adjust_more : Bool → Rates → Conversion → List Frame → Conversion
adjust_more b r c ys =
    let d : Conversion = adjust_by b r c.at c.rest ys in
    record { made = c.made ++ d.made; rest = d.rest; at = d.at }

adjust-append : (b : Bool) (r : Rates) (at : Position) (tail xs ys : List Frame) → Short tail
    → adjust_by b r at tail (xs ++ ys) ≡ adjust_more b r (adjust_by b r at tail xs) ys
unfolding adjust_more and_then
adjust-append true r at tail xs ys h = refl
adjust-append false r at tail xs ys h =
    let c : Conversion = convert r at (tail ++ xs) in
    join_tail-convert r at tail (xs ++ ys) h
    ∙ ap (λ (l : List Frame). convert r at l) (sym (append_assoc tail xs ys))
    ∙ convert-append r at (tail ++ xs) ys
    ∙ sym
    (ap (λ (d : Conversion). record { made = c.made ++ d.made; rest = d.rest; at = d.at })
    (join_tail-convert r c.at c.rest ys (convert-short r at (tail ++ xs))))
    ∙ ap (λ (k : Conversion). adjust_more false r k ys) (sym (join_tail-convert r at tail xs h))

-- ---- rate and volume

-- what frames that pass through go by: of a state its rate, settings, tail and positions; and the frames made so far
pub record Passage : Type 0 where
  pub state : State
  pub made : List Frame

abbrev pub scaled_by : Float → List Frame → List Frame
scaled_by volume fs = map (map (scaled volume)) fs

-- after a conversion; `cut` says what of its frames is kept
abbrev converted : (List Frame → List Frame) → Passage → Conversion → Passage
converted cut q c = record { state = with_tail q.state c.rest c.at; made = q.made ++ cut (scaled_by q.state.volume c.made) }

-- after the new frames fs
unfoldable pub passed : (List Frame → List Frame) → Passage → List Frame → Passage
passed cut q fs = converted cut q (adjust_rate q.state.rate q.state.pitch q.state.at q.state.tail fs)

-- all are kept
abbrev pub all : List Frame → List Frame
all fs = fs

module _ (q : Passage) where
  abbrev s : State
  s = q.state

  abbrev b : Bool
  b = eq s.pitch one

  abbrev r : Rates
  r = rates_of s.rate s.pitch

  pub passed_none : passed all q [] ≡ q
  unfolding passed adjust_rate
  passed_none = ap (converted all q) (adjust-none b r s.at s.tail) ∙ (λ i. record { state = s; made = append-nil q.made i })

  pub passed-append : (xs ys : List Frame) → Short s.tail → passed all q (xs ++ ys) ≡ passed all (passed all q xs) ys
  unfolding passed adjust_rate adjust_more
  passed-append xs ys h =
      let c : Conversion = adjust_by b r s.at s.tail xs in
      let d : Conversion = adjust_by b r c.at c.rest ys in
      let before : List Frame = scaled_by s.volume c.made in
      let behind : List Frame = scaled_by s.volume d.made in
      let made : q.made ++ scaled_by s.volume (c.made ++ d.made) ≡ (q.made ++ before) ++ behind =
      ap (λ (m : List Frame). q.made ++ m) (map-append (map (scaled s.volume)) c.made d.made) ∙ sym (append_assoc q.made before behind) in
      ap (converted all q) (adjust-append b r s.at s.tail xs ys h) ∙ (λ i. record { state = with_tail s d.rest d.at; made = made i })

  pub passed-short : (cut : List Frame → List Frame) (fs : List Frame) → Short s.tail → Short (passed cut q fs).state.tail
  unfolding passed adjust_rate
  passed-short cut fs h = adjust-short b r s.at s.tail fs h
