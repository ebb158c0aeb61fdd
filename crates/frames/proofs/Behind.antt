-- Copies behind the frames that an area holds, and frames of silence. Assumes nothing.
use mathlib.Core.Path.{◌≡◌, refl, sym, ap, ◌∙◌, subst}
use mathlib.Core.List.{List, [], ◌∷◌, ◌++◌}
use Prim.Native.Nat.{ℕ, zero, suc, ◌+◌, ◌*◌, ◌≤◌}
use native.Mathlib.Omega.{arith}
use native.Mathlib.Nat.{suc-mul, add-mul}
use lib.ListN.{length, take, drop, replicate}
use lib.Seq.{paste, length-paste}
use lib.IntN.{ℤ}
use Rattle.frames.specs.Framing.{Frame, frames_of, Behind}
use Rattle.frames.proofs.Framing.{frames_of-cong, frames_of-add, length-frames_of, take-frames_of}
use Rattle.frames.proofs.Pasted.{paste-front, paste-part}

-- m frames of s behind w frames of d
pub behind-paste : (ch w m : ℕ) (d s : List ℤ) → (w + m) * ch ≤ length d → m * ch ≤ length s
    → Behind ch w m d (paste d (w * ch) s (m * ch)) (frames_of ch m s)
behind-paste ch w m d s h k =
    let e : (w + m) * ch ≡ w * ch + m * ch = add-mul w m ch in
    record {
      kept = paste-front d s (w * ch) (m * ch) (omega arith);
      made = frames_of-cong ch m (drop (w * ch) (paste d (w * ch) s (m * ch))) s (paste-part d s (w * ch) (m * ch) (omega arith) k);
      long = length-paste d (w * ch) s (m * ch) (omega arith) k;
      fits = h;
    }

-- no frame behind
pub behind-none : (ch w : ℕ) (d : List ℤ) → w * ch ≤ length d → Behind ch w 0 d d []
unfolding frames_of
behind-none ch w d h =
    let e : w + 0 ≡ w = omega arith in
    record { kept = refl; made = refl; long = refl; fits = subst (λ (k : ℕ). k * ch ≤ length d) (sym e) h }

-- the number of frames behind
pub behind-length : {ch w m : ℕ} {d x : List ℤ} {fs : List Frame} → Behind ch w m d x fs → length fs ≡ m
behind-length {ch} {w} {m} {d} {x} {fs} b = sym (ap length b.made) ∙ length-frames_of ch m (drop (w * ch) x)

-- the frames at the front, with those behind them
pub behind-whole : {ch w m : ℕ} {d x : List ℤ} {fs : List Frame} → Behind ch w m d x fs → frames_of ch (w + m) x ≡ frames_of ch w d ++ fs
behind-whole {ch} {w} {m} {d} {x} {fs} b = rw (frames_of-add ch w m x, frames_of-cong ch w x d b.kept, b.made)

-- the frames at the front
pub behind-front : {ch w m : ℕ} {d x : List ℤ} {fs : List Frame} → Behind ch w m d x fs → frames_of ch w x ≡ frames_of ch w d
behind-front {ch} {w} {m} {d} {x} {fs} b = frames_of-cong ch w x d b.kept

-- fewer frames at the front
pub front_less : {A : Type 0} (ch n k : ℕ) (a b : List A) → n ≤ k → frames_of ch k a ≡ frames_of ch k b → frames_of ch n a ≡ frames_of ch n b
front_less ch n k a b h e = sym (take-frames_of ch n k a h) ∙ ap (take n) e ∙ take-frames_of ch n k b h

-- frames of silence
replicate-add : {A : Type 0} (n m : ℕ) (x : A) → (take n (replicate (n + m) x) ≡ replicate n x) × (drop n (replicate (n + m) x) ≡ replicate m x)
replicate-add zero m x = (refl, ap (λ (k : ℕ). replicate k x) (omega_zero m))
  where
    omega_zero : (k : ℕ) → 0 + k ≡ k
    omega_zero k = omega arith
replicate-add {A} (suc n) m x =
    let e : suc n + m ≡ suc (n + m) = omega arith in
    let r = replicate-add n m x in
    (ap (λ (k : ℕ). take (suc n) (replicate k x)) e ∙ ap (λ (l : List A). x ∷ l) r.0, ap (λ (k : ℕ). drop (suc n) (replicate k x)) e ∙ r.1)

pub silent-frames : {A : Type 0} (ch m : ℕ) (x : A) → frames_of ch m (replicate (m * ch) x) ≡ replicate m (replicate ch x)
unfolding frames_of
silent-frames ch zero x = refl
silent-frames {A} ch (suc m) x =
    let e : suc m * ch ≡ ch + m * ch = omega (arith, suc-mul m ch) in
    let r = replicate-add ch (m * ch) x in
    ap (λ (k : ℕ). frames_of ch (suc m) (replicate k x)) e
    ∙ ap (λ (l : List A). l ∷ frames_of ch m (drop ch (replicate (ch + m * ch) x))) r.0
    ∙ ap (λ (l : List A). replicate ch x ∷ frames_of ch m l) r.1
    ∙ ap (λ (l : List (List A)). replicate ch x ∷ l) (silent-frames ch m x)
