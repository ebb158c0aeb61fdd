-- The loop that scales samples in place: its turn, and its end. Assumes nothing.
use mathlib.Core.Path.{◌≡◌, refl, sym, ap, ◌∙◌}
use mathlib.Core.List.{List, [], ◌∷◌, ◌++◌, map, map-id}
use Prim.Native.Nat.{ℕ, ◌+◌, ◌≤◌, ◌<◌}
use native.Mathlib.Omega.{arith}
use native.Mathlib.Numerals.{add-one}
use lib.ListN.{length, drop, get_or, set, length-drop, length-map, get_or-map, take-append-drop}
use lib.Seq.{paste, paste-suc, get_or-drop, drop-paste, take-add}

module _ {A : Type 0} (f : A → A) (z : A) where
  -- a sample that is not yet scaled is as it was
  pub unscaled-is : (d : List A) (at i : ℕ) → at + i < length d → get_or (paste d at (map f (drop at d)) i) (at + i) z ≡ get_or d (at + i) z
  unscaled-is d at i h =
      let s : List A = map f (drop at d) in
      let l : i ≤ length s = omega (arith, length-map (drop at d) f, length-drop at d) in
      let e : at + i + 0 ≡ at + i = omega arith in
      ap (λ (k : ℕ). get_or (paste d at s i) k z) (sym e) ∙ sym (get_or-drop (at + i) (paste d at s i) 0 z)
      ∙ ap (λ (r : List A). get_or r 0 z) (drop-paste d at s i (omega arith) l)
      ∙ get_or-drop (at + i) d 0 z ∙ ap (λ (k : ℕ). get_or d k z) e

  -- one sample more
  pub scaled-turn : (d : List A) (at i : ℕ) → at + i < length d
      → set (paste d at (map f (drop at d)) i) (at + i) (f (get_or d (at + i) z)) ≡ paste d at (map f (drop at d)) (i + 1)
  scaled-turn d at i h =
      let s : List A = map f (drop at d) in
      let l : i < length s = omega (arith, length-map (drop at d) f, length-drop at d) in
      ap (λ (x : A). set (paste d at s i) (at + i) x) (ap f (sym (get_or-drop at d i z)) ∙ sym (get_or-map f (drop at d) i z))
      ∙ paste-suc d at s i (f z) h l ∙ ap (paste d at s) (sym (add-one i))

map-cong : {A B : Type 0} (f g : A → B) → ((x : A) → f x ≡ g x) → (l : List A) → map f l ≡ map g l
map-cong f g e [] = refl
map-cong f g e (x ∷ xs) = rw (e x, map-cong f g e xs)

module _ {A : Type 0} (f : A → A) (d : List A) (at n : ℕ) where
  -- the same scaling by another name
  pub paste-cong : (g : A → A) → ((x : A) → f x ≡ g x) → paste d at (map f (drop at d)) n ≡ paste d at (map g (drop at d)) n
  paste-cong g e = ap (λ (s : List A). paste d at s n) (map-cong f g e (drop at d))

  -- nothing is scaled
  pub paste-same : ((x : A) → f x ≡ x) → paste d at (map f (drop at d)) n ≡ d
  paste-same e =
      paste-cong (λ (x : A). x) e ∙ ap (λ (s : List A). paste d at s n) (map-id (drop at d))
      ∙ ap (λ (r : List A). r ++ drop (at + n) d) (sym (take-add at n d)) ∙ take-append-drop (at + n) d
