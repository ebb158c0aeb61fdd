-- Laws of the scan and of the conversion: frames one by one, tail frames one by one, a tail that comes in parts, positions in order.
-- `convert-append` is what a run that is cut into calls rests on. Assumes nothing.
use mathlib.Core.Path.{◌≡◌, refl, sym, ap, ◌∙◌}
use mathlib.Core.Bool.{Bool, true, false, cond}
use mathlib.Core.List.{List, [], ◌∷◌, ◌++◌, append_assoc, append-nil}
use Prim.Native.Nat.{ℕ, zero, suc, ◌+◌, ◌≤◌}
use native.Mathlib.Nat.{suc-add, zero-add}
use native.Mathlib.Omega.{arith}
use lib.Ieee.{Float, eq}
use lib.ListN.{length, take, drop, length-append, length-drop}
use lib.Seq.{take-append-le, drop-append-le, drop-drop}
use Rattle.floats.specs.Numbers.{one}
use Rattle.frames.specs.Framing.{Frame}
use Rattle.sinc.specs.Sinc.{sinc_filter_points}
use Rattle.rate.specs.declared.Rates.{Rates}
use Rattle.rate.specs.declared.Position.{Position}
use Rattle.rate.specs.Halving.{rates_of}
use Rattle.rate.specs.Tail.{PositionInOrder, due, next, steps, interpolated, emit, scan, consumable}
use Rattle.rate.specs.Conversion.{Conversion, convert, join_tail, adjust_rate}
use Rattle.rate.proofs.Positions.{steps-order, steps-add}

-- the position i frames on
abbrev pub on : Position → ℕ → Position
on s i = record { old = s.old; new = s.new + i }

module _ (r : Rates) where
  -- ---- the frames of one tail frame

  pub length-emit : (k : ℕ) (s : Position) (w : List Frame) → length (emit r k s w) ≡ k
  unfolding emit
  length-emit zero s w = refl
  length-emit (suc k) s w = ap suc (length-emit k (on s 1) w)

  -- one frame more
  pub emit-snoc : (i : ℕ) (s : Position) (w : List Frame) → emit r (suc i) s w ≡ emit r i s w ++ (interpolated r (on s i) w ∷ [])
  unfolding emit
  emit-snoc zero s w =
      let e : s.new + 0 ≡ s.new = omega arith in
      ap (λ (n : ℕ). interpolated r (record { old = s.old; new = n }) w ∷ []) (sym e)
  emit-snoc (suc i) s w =
      let e : s.new + 1 + i ≡ s.new + suc i = omega arith in
      ap (λ (l : List Frame). interpolated r s w ∷ l)
      (emit-snoc i (on s 1) w
      ∙ ap (λ (n : ℕ). emit r i (on s 1) w ++ (interpolated r (record { old = s.old; new = n }) w ∷ [])) e)

  -- ---- tail frames

  -- the scan of j + k tail frames is the scan of j and then of k
  pub scan-add : (j k : ℕ) (s : Position) (l : List Frame) → scan r (j + k) s l ≡ scan r j s l ++ scan r k (steps r j s) (drop j l)
  unfolding scan steps
  scan-add zero k s l = ap (λ (i : ℕ). scan r i s l) (zero-add k)
  scan-add (suc j) k s l =
      let one : 1 + j ≡ suc j = omega arith in
      let first : List Frame = emit r (due r s) s (take sinc_filter_points l) in
      let more : List Frame = scan r j (next r s) (drop 1 l) in
      let ahead : drop j (drop 1 l) ≡ drop (suc j) l = drop-drop j 1 l ∙ ap (λ (i : ℕ). drop i l) one in
      ap (λ (i : ℕ). scan r i s l) (suc-add j k)
      ∙ ap (λ (m : List Frame). first ++ m)
      (scan-add j k (next r s) (drop 1 l) ∙ ap (λ (m : List Frame). more ++ scan r k (steps r j (next r s)) m) ahead)
      ∙ sym (append_assoc first more (scan r k (steps r j (next r s)) (drop (suc j) l)))

  -- one tail frame more
  pub scan-snoc : (j : ℕ) (s : Position) (l : List Frame)
      → scan r (suc j) s l ≡ scan r j s l ++ emit r (due r (steps r j s)) (steps r j s) (take sinc_filter_points (drop j l))
  unfolding scan
  scan-snoc j s l =
      let e : suc j ≡ j + 1 = omega arith in
      let t : Position = steps r j s in
      ap (λ (i : ℕ). scan r i s l) e ∙ scan-add j 1 s l
      ∙ ap (λ (m : List Frame). scan r j s l ++ m) (append-nil (emit r (due r t) t (take sinc_filter_points (drop j l))))

  -- what stands behind the frames in reach has no part in the scan
  pub scan-append : (j : ℕ) (s : Position) (a b : List Frame) → j + sinc_filter_points ≤ length a → scan r j s (a ++ b) ≡ scan r j s a
  unfolding scan
  scan-append zero s a b h = refl
  scan-append (suc j) s [] b h = absurd (omega arith)
  scan-append (suc j) s (x ∷ xs) b h =
      let e : take sinc_filter_points ((x ∷ xs) ++ b) ≡ take sinc_filter_points (x ∷ xs) = take-append-le sinc_filter_points (x ∷ xs) b (omega arith) in
      let ih : scan r j (next r s) (xs ++ b) ≡ scan r j (next r s) xs = scan-append j (next r s) xs b (omega arith) in
      rw (e, ih)

  -- all of a's frames that can be consumed
  scan-front : (s : Position) (a b : List Frame) (j : ℕ) → j ≡ consumable a → scan r j s (a ++ b) ≡ scan r j s a
  unfolding scan
  scan-front s a b zero e = refl
  scan-front s a b (suc j) e = scan-append (suc j) s a b (omega arith)

  -- ---- conversions

  -- one conversion, and then another of the tail that it left with b behind it
  unfoldable pub and_then : Conversion → List Frame → Conversion
  and_then c b =
      let d : Conversion = convert r c.at (c.rest ++ b) in
      record { made = c.made ++ d.made; rest = d.rest; at = d.at }

  -- converting a and then, with the tail that is left, b, is converting all at once
  pub convert-append : (s : Position) (a b : List Frame) → convert r s (a ++ b) ≡ and_then (convert r s a) b
  unfolding convert and_then
  convert-append s a b =
      let j : ℕ = consumable a in
      let k : ℕ = consumable (drop j a ++ b) in
      let e : consumable (a ++ b) ≡ j + k = simp (length-append, length-drop) (omega arith) in
      let d : drop j (a ++ b) ≡ drop j a ++ b = drop-append-le j a b (omega arith) in
      let made : scan r (consumable (a ++ b)) s (a ++ b) ≡ scan r j s a ++ scan r k (steps r j s) (drop j a ++ b) =
      ap (λ (i : ℕ). scan r i s (a ++ b)) e ∙ scan-add j k s (a ++ b) ∙ rw (d, scan-front s a b j refl) in
      let rest : drop (consumable (a ++ b)) (a ++ b) ≡ drop k (drop j a ++ b) =
      ap (λ (i : ℕ). drop i (a ++ b)) e ∙ sym (drop-drop k j (a ++ b)) ∙ ap (λ (l : List Frame). drop k l) d in
      let at : steps r (consumable (a ++ b)) s ≡ steps r k (steps r j s) = ap (λ (i : ℕ). steps r i s) e ∙ steps-add r j k s in
      λ i. record { made = made i; rest = rest i; at = at i }

-- ---- positions stay in order

pub convert-order : (r : Rates) (s : Position) (l : List Frame) → PositionInOrder r s → PositionInOrder r (convert r s l).at
unfolding convert
convert-order r s l h = steps-order r (consumable l) s h

join_tail-order : (r : Rates) (s : Position) (tail fs : List Frame) → PositionInOrder r s → PositionInOrder r (join_tail r s tail fs).at
unfolding join_tail
join_tail-order r s tail [] h = h
join_tail-order r s tail (f ∷ fs) h = convert-order r s (tail ++ (f ∷ fs)) h

pub adjust_rate-order : (rate : ℕ) (pitch : Float) (s : Position) (tail fs : List Frame) → PositionInOrder (rates_of rate pitch) s
    → PositionInOrder (rates_of rate pitch) (adjust_rate rate pitch s tail fs).at
unfolding adjust_rate
adjust_rate-order rate pitch s tail fs h = go (eq pitch one)
  where
    go : (b : Bool) → PositionInOrder (rates_of rate pitch) (cond b (record { made = fs; rest = tail; at = s }) (join_tail (rates_of rate pitch) s tail fs)).at
    go true = h
    go false = join_tail-order (rates_of rate pitch) s tail fs h
