-- Copies into an area: what a copy leaves, one turn of a copying loop, and one list behind another. Assumes nothing.
use mathlib.Core.Path.{◌≡◌, sym, ap, ◌∙◌}
use mathlib.Core.List.{List, [], ◌∷◌, ◌++◌, map, append_assoc}
use Prim.Native.Nat.{ℕ, suc, ◌+◌, ◌-◌, ◌≤◌, ◌<◌}
use native.Mathlib.Omega.{arith}
use native.Mathlib.Numerals.{add-one}
use lib.ListN.{length, take, drop, get_or, set, length-append, length-drop, replicate, length-replicate, get_or-replicate, length-map, get_or-map}
use lib.Seq.{paste, paste-suc, take-paste, drop-paste, take_at, drop_at, drop-drop, take-add, take-append-le, length-take-le, get_or_at, get_or-drop}

module _ {A : Type 0} where
  pub paste-front : (d s : List A) (to n : ℕ) → to ≤ length d → take to (paste d to s n) ≡ take to d
  paste-front d s to n h =
      ap (take to) (append_assoc (take to d) (take n s) (drop (to + n) d)) ∙ take_at (take to d) (take n s ++ drop (to + n) d) to (length-take-le to d h)

  pub paste-part : (d s : List A) (to n : ℕ) → to ≤ length d → n ≤ length s → take n (drop to (paste d to s n)) ≡ take n s
  paste-part d s to n h k =
      ap (λ (l : List A). take n (drop to l)) (append_assoc (take to d) (take n s) (drop (to + n) d))
      ∙ ap (take n) (drop_at (take to d) (take n s ++ drop (to + n) d) to (length-take-le to d h))
      ∙ take_at (take n s) (drop (to + n) d) n (length-take-le n s k)

  -- a copy sees no further than it reaches
  pub paste-cong : (d s r : List A) (to n : ℕ) → take n s ≡ take n r → paste d to s n ≡ paste d to r n
  paste-cong d s r to n e = ap (λ (l : List A). take to d ++ l ++ drop (to + n) d) e

  -- a copy in two parts
  pub paste-add : (d s : List A) (to i j : ℕ) → to + i + j ≤ length d → i + j ≤ length s
      → paste (paste d to s i) (to + i) (drop i s) j ≡ paste d to s (i + j)
  paste-add d s to i j h k =
      let place : to + i + j ≡ to + (i + j) = omega arith in
      let p = paste d to s i in
      let front : take (to + i) p ≡ take to d ++ take i s = take-paste d to s i (omega arith) (omega arith) in
      let back : drop (to + i + j) p ≡ drop (to + (i + j)) d =
      sym (drop-drop j (to + i) p) ∙ ap (drop j) (drop-paste d to s i (omega arith) (omega arith)) ∙ drop-drop j (to + i) d
      ∙ ap (λ (n : ℕ). drop n d) place in
      (λ n. front n ++ take j (drop i s) ++ back n)
      ∙ ap (λ (l : List A). l ++ drop (to + (i + j)) d) (append_assoc (take to d) (take i s) (take j (drop i s)))
      ∙ ap (λ (l : List A). take to d ++ l ++ drop (to + (i + j)) d) (sym (take-add i j s))

  -- one sample more of a copy
  pub copy-turn : (z : A) (d s : List A) (to from i : ℕ) → to + i < length d → from + i < length s
      → set (paste d to (drop from s) i) (to + i) (get_or s (from + i) z) ≡ paste d to (drop from s) (i + 1)
  copy-turn z d s to from i h k =
      ap (λ (x : A). set (paste d to (drop from s) i) (to + i) x) (sym (get_or-drop from s i z))
      ∙ paste-suc d to (drop from s) i z h (omega (arith, length-drop from s)) ∙ ap (paste d to (drop from s)) (sym (add-one i))

  -- a sample behind those already moved to the front is still where it was
  pub move_same : (z : A) (d : List A) (to from i : ℕ) → to ≤ from → from + i < length d
      → get_or (paste d to (drop from d) i) (from + i) z ≡ get_or d (from + i) z
  move_same z d to from i h k =
      let p : List A = paste d to (drop from d) i in
      let e : from + i ≡ to + i + (from - to) = omega arith in
      ap (λ (n : ℕ). get_or p n z) e
      ∙ sym (get_or-drop (to + i) p (from - to) z)
      ∙ ap (λ (l : List A). get_or l (from - to) z) (drop-paste d to (drop from d) i (omega arith) (omega (arith, length-drop from d)))
      ∙ get_or-drop (to + i) d (from - to) z
      ∙ ap (λ (n : ℕ). get_or d n z) (sym e)

  -- one sample more of a silence
  pub silence-turn : (z : A) (d : List A) (to n i : ℕ) → to + i < length d → i < n
      → set (paste d to (replicate n z) i) (to + i) z ≡ paste d to (replicate n z) (i + 1)
  silence-turn z d to n i h k =
      ap (λ (x : A). set (paste d to (replicate n z) i) (to + i) x) (sym (get_or-replicate n i z z k))
      ∙ paste-suc d to (replicate n z) i z h (omega (arith, length-replicate n z)) ∙ ap (paste d to (replicate n z)) (sym (add-one i))

  -- one sample more behind a list
  pub paste-snoc : (d s : List A) (to i : ℕ) (v : A) → length s ≡ i → to + i < length d
      → set (paste d to s i) (to + i) v ≡ paste d to (s ++ (v ∷ [])) (suc i)
  paste-snoc d s to i v e h =
      let w = s ++ (v ∷ []) in
      let n : length w ≡ suc i = omega (arith, length-append s (v ∷ [])) in
      let same : take i s ≡ take i w = sym (take-append-le i s (v ∷ []) (omega arith)) in
      let last : v ≡ get_or w i v = sym (get_or_at s v [] v i e) in
      (λ j. set (take to d ++ same j ++ drop (to + i) d) (to + i) (last j)) ∙ paste-suc d to w i v h (omega arith)

  -- a list behind another
  pub paste-append : (d s r : List A) (to i j : ℕ) → length s ≡ i → length r ≡ j → to + i + j ≤ length d
      → paste (paste d to s i) (to + i) r j ≡ paste d to (s ++ r) (i + j)
  paste-append d s r to i j e f h =
      let w = s ++ r in
      let front : take i s ≡ take i w = sym (take-append-le i s r (omega arith)) in
      let rest : r ≡ drop i w = sym (drop_at s r i e) in
      (λ k. paste (paste-cong d s w to i front k) (to + i) (rest k) j) ∙ paste-add d w to i j h (omega (arith, length-append s r))

module _ {A B : Type 0} (f : A → B) where
  -- one element more of a mapped copy
  pub map-turn : (y : A) (d : List B) (s : List A) (to i : ℕ) → to + i < length d → i < length s
      → set (paste d to (map f s) i) (to + i) (f (get_or s i y)) ≡ paste d to (map f s) (i + 1)
  map-turn y d s to i h k =
      ap (λ (x : B). set (paste d to (map f s) i) (to + i) x) (sym (get_or-map f s i y))
      ∙ paste-suc d to (map f s) i (f y) h (omega (arith, length-map s f))
      ∙ ap (paste d to (map f s)) (sym (add-one i))
