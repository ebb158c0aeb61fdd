-- Laws of an area's samples as frames: length, the samples of frames, prefixes and rests, a map over samples. Assumes nothing.
use mathlib.Core.Path.{◌≡◌, refl, sym, ap, ◌∙◌}
use mathlib.Core.List.{List, [], ◌∷◌, ◌++◌, map}
use Prim.Native.Nat.{ℕ, zero, suc, ◌+◌, ◌-◌, ◌*◌, ◌≤◌}
use native.Mathlib.Nat.{suc-mul, zero-mul, zero-add, suc-add}
use native.Mathlib.Omega.{arith}
use lib.ListN.{length, take, drop}
use lib.Seq.{take-add, take-take, take_at, drop_at, drop-drop, take-nil}
use Rattle.frames.specs.Framing.{frames_of, flat}

module _ {A : Type 0} where
  pub length-frames_of : (ch k : ℕ) (a : List A) → length (frames_of ch k a) ≡ k
  unfolding frames_of
  length-frames_of ch zero a = refl
  length-frames_of ch (suc k) a = ap suc (length-frames_of ch k (drop ch a))

  pub flat-frames_of : (ch k : ℕ) (a : List A) → flat (frames_of ch k a) ≡ take (k * ch) a
  unfolding frames_of flat
  flat-frames_of ch zero a = ap (λ (i : ℕ). take i a) (sym (zero-mul ch))
  flat-frames_of ch (suc k) a =
      let e : ch + k * ch ≡ suc k * ch = omega (arith, suc-mul k ch) in
      rw (flat-frames_of ch k (drop ch a)) (sym (take-add ch (k * ch) a) ∙ ap (λ (i : ℕ). take i a) e)

  pub drop-take : (m n : ℕ) (l : List A) → drop m (take (m + n) l) ≡ take n (drop m l)
  drop-take zero n l = ap (λ (i : ℕ). take i l) (zero-add n)
  drop-take (suc m) n [] = ap (λ (r : List A). drop (suc m) r) (take-nil (suc m + n)) ∙ sym (take-nil n)
  drop-take (suc m) n (x ∷ xs) =
      let e : suc m + n ≡ suc (m + n) = omega arith in
      ap (λ (i : ℕ). drop (suc m) (take i (x ∷ xs))) e ∙ drop-take m n xs

  -- frames see no further than they reach
  pub frames_of-take : (ch k : ℕ) (a : List A) → frames_of ch k (take (k * ch) a) ≡ frames_of ch k a
  unfolding frames_of
  frames_of-take ch zero a = refl
  frames_of-take ch (suc k) a =
      let e : suc k * ch ≡ ch + k * ch = omega (arith, suc-mul k ch) in
      let f : take ch (take (ch + k * ch) a) ≡ take ch a = take-take ch (ch + k * ch) a (omega arith) in
      rw (e, f, drop-take ch (k * ch) a, frames_of-take ch k (drop ch a))

  pub frames_of-cong : (ch k : ℕ) (a b : List A) → take (k * ch) a ≡ take (k * ch) b → frames_of ch k a ≡ frames_of ch k b
  frames_of-cong ch k a b e = sym (frames_of-take ch k a) ∙ ap (frames_of ch k) e ∙ frames_of-take ch k b

  pub samples-cong : (ch k : ℕ) (a b : List A) → frames_of ch k a ≡ frames_of ch k b → take (k * ch) a ≡ take (k * ch) b
  samples-cong ch k a b e = sym (flat-frames_of ch k a) ∙ ap flat e ∙ flat-frames_of ch k b

  -- ---- from an area's samples, as loops leave them, to frames

  pub frames_of-add : (ch j k : ℕ) (a : List A) → frames_of ch (j + k) a ≡ frames_of ch j a ++ frames_of ch k (drop (j * ch) a)
  unfolding frames_of
  frames_of-add ch zero k a = ap (λ (i : ℕ). frames_of ch i a) (zero-add k) ∙ ap (λ (i : ℕ). frames_of ch k (drop i a)) (sym (zero-mul ch))
  frames_of-add ch (suc j) k a =
      let e : ch + j * ch ≡ suc j * ch = omega (arith, suc-mul j ch) in
      ap (λ (i : ℕ). frames_of ch i a) (suc-add j k)
      ∙ ap (λ (r : List (List A)). take ch a ∷ r)
      (frames_of-add ch j k (drop ch a)
      ∙ ap (λ (r : List A). frames_of ch j (drop ch a) ++ frames_of ch k r) (drop-drop (j * ch) ch a ∙ ap (λ (i : ℕ). drop i a) e))

  pub take-frames_of : (ch n k : ℕ) (a : List A) → n ≤ k → take n (frames_of ch k a) ≡ frames_of ch n a
  take-frames_of ch n k a h =
      let e : k ≡ n + (k - n) = omega arith in
      ap (λ (i : ℕ). take n (frames_of ch i a)) e ∙ ap (take n) (frames_of-add ch n (k - n) a)
      ∙ take_at (frames_of ch n a) (frames_of ch (k - n) (drop (n * ch) a)) n (length-frames_of ch n a)

  pub drop-frames_of : (ch n k : ℕ) (a : List A) → n ≤ k → drop n (frames_of ch k a) ≡ frames_of ch (k - n) (drop (n * ch) a)
  drop-frames_of ch n k a h =
      let e : k ≡ n + (k - n) = omega arith in
      ap (λ (i : ℕ). drop n (frames_of ch i a)) e ∙ ap (drop n) (frames_of-add ch n (k - n) a)
      ∙ drop_at (frames_of ch n a) (frames_of ch (k - n) (drop (n * ch) a)) n (length-frames_of ch n a)

module _ {A B : Type 0} (f : A → B) where
  take-map : (n : ℕ) (a : List A) → take n (map f a) ≡ map f (take n a)
  take-map zero a = refl
  take-map (suc n) [] = refl
  take-map (suc n) (x ∷ xs) = ap (λ (r : List B). f x ∷ r) (take-map n xs)

  drop-map : (n : ℕ) (a : List A) → drop n (map f a) ≡ map f (drop n a)
  drop-map zero a = refl
  drop-map (suc n) [] = refl
  drop-map (suc n) (x ∷ xs) = drop-map n xs

  pub frames_of-map : (ch k : ℕ) (a : List A) → frames_of ch k (map f a) ≡ map (map f) (frames_of ch k a)
  unfolding frames_of
  frames_of-map ch zero a = refl
  frames_of-map ch (suc k) a = rw (take-map ch a, drop-map ch a, frames_of-map ch k (drop ch a))
