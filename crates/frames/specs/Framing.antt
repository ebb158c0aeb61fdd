-- docs/RULES.md, "What a stream is": an area's samples as frames. Definitions only. Assumes nothing.
use Rattle.std.specs.Prelude.{◌≡◌, List, [], ◌∷◌, ◌++◌, ℕ, zero, suc, ◌+◌, ◌*◌, ◌≤◌, ◌<◌, length, take, drop, ℤ}

-- one sample per channel
abbrev pub Frame : Type 0
Frame = List ℤ

-- the first k frames of ch samples each
unfoldable pub frames_of : {A : Type 0} → ℕ → ℕ → List A → List (List A)
frames_of ch zero a = []
frames_of ch (suc k) a = take ch a ∷ frames_of ch k (drop ch a)

-- the samples of frames, frame after frame
unfoldable pub flat : {A : Type 0} → List (List A) → List A
flat [] = []
flat (f ∷ fs) = f ++ flat fs

-- behind the first w frames, which stay as in the area `entry`, the frames fs; m of them, within the area
pub record Behind (ch w m : ℕ) (entry exit : List ℤ) (fs : List Frame) : Type 0 where
  pub kept : take (w * ch) exit ≡ take (w * ch) entry
  pub made : frames_of ch m (drop (w * ch) exit) ≡ fs
  pub long : length exit ≡ length entry
  pub fits : (w + m) * ch ≤ length entry

-- the frames fs do not fit behind the first w frames, which stay
pub record NoRoom (ch w : ℕ) (entry exit : List ℤ) (fs : List Frame) : Type 0 where
  pub kept : take (w * ch) exit ≡ take (w * ch) entry
  pub over : length entry < (w + length fs) * ch
