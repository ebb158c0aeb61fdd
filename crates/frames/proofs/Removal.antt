-- Samples removed from the front of an area: where each remaining sample is, and the frames that remain. Assumes nothing.
use mathlib.Core.Path.{◌≡◌, sym, ap, ◌∙◌, subst}
use mathlib.Core.List.{List, ◌++◌}
use Prim.Native.Nat.{ℕ, ◌+◌, ◌-◌, ◌*◌, ◌≤◌}
use native.Mathlib.Omega.{arith}
use native.Mathlib.Nat.{zero-add}
use lib.IntN.{ℤ}
use lib.ListN.{length, take, drop, length-drop, take-append-drop}
use lib.Seq.{paste, paste-zero, drop-paste, drop-drop}
use Rattle.frames.specs.Framing.{frames_of}
use Rattle.frames.specs.Removal.{FrontRemoved}
use Rattle.frames.proofs.Framing.{frames_of-cong, drop-frames_of}
use Rattle.frames.proofs.Pasted.{paste-part, paste-add}

-- ---- samples

module _ {A : Type 0} (d : List A) (n i j : ℕ) (h : n + i + j ≤ length d) where
  -- the samples behind those already moved are still where they were
  behind_moved : drop (n + i) (paste d 0 (drop n d) i) ≡ drop i (drop n d)
  behind_moved =
      let p : List A = paste d 0 (drop n d) i in
      let e : n + i ≡ 0 + i + n = omega arith in
      let f : 0 + i + n ≡ n + i = omega arith in
      ap (λ (k : ℕ). drop k p) e
      ∙ sym (drop-drop n (0 + i) p)
      ∙ ap (drop n) (drop-paste d 0 (drop n d) i (omega arith) (omega (arith, length-drop n d)))
      ∙ drop-drop n (0 + i) d
      ∙ ap (λ (k : ℕ). drop k d) f
      ∙ sym (drop-drop i n d)

  -- j samples more are moved
  pub moved_on : (area : List A) → area ≡ paste d 0 (drop n d) i → paste area i (drop (n + i) area) j ≡ paste d 0 (drop n d) (i + j)
  moved_on area e =
      let p : List A = paste d 0 (drop n d) i in
      let z : i ≡ 0 + i = omega arith in
      ap (λ (l : List A). paste l i (drop (n + i) l) j) e
      ∙ ap (λ (l : List A). paste p i l j) behind_moved
      ∙ ap (λ (k : ℕ). paste p k (drop i (drop n d)) j) z
      ∙ paste-add d (drop n d) 0 i j (omega arith) (omega (arith, length-drop n d))

-- each remaining sample is moved
pub rest-moved : (count kept : ℕ) (d : List ℤ) → count + kept ≤ length d → FrontRemoved count kept d (paste d 0 (drop count d) kept)
rest-moved count kept d h =
    let rest : List ℤ = drop count d in
    let long : kept ≤ length rest = omega (arith, length-drop count d) in
    record {
      remaining = paste-part d rest 0 kept (omega arith) long;
      behind = subst (λ (k : ℕ). drop k (paste d 0 rest kept) ≡ drop k d) (zero-add kept) (drop-paste d 0 rest kept (omega arith) long);
      none_go = λ e. ap (λ (n : ℕ). paste d 0 (drop n d) kept) e ∙ ap (λ (k : ℕ). take kept d ++ drop k d) (zero-add kept) ∙ take-append-drop kept d;
      none_remain = λ e. ap (paste d 0 rest) e ∙ sym (paste-zero d 0 rest);
    }

-- ---- frames

module _ (ch n m : ℕ) {entry exit : List ℤ} (r : FrontRemoved (n * ch) (m * ch) entry exit) where
  -- the frames that remain
  pub remaining-frames : frames_of ch m exit ≡ frames_of ch m (drop (n * ch) entry)
  remaining-frames = frames_of-cong ch m exit (drop (n * ch) entry) r.remaining

  -- they are all but the first n, in their order
  pub removed-frames : frames_of ch m exit ≡ drop n (frames_of ch (n + m) entry)
  removed-frames =
      let k : n + m - n ≡ m = omega arith in
      remaining-frames ∙ ap (λ (i : ℕ). frames_of ch i (drop (n * ch) entry)) (sym k) ∙ sym (drop-frames_of ch n (n + m) entry (omega arith))
