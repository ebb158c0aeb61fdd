-- The frame that a window of 12 tail frames makes, from the stage's samples. Assumes nothing.
use mathlib.Core.Path.{◌≡◌, sym, ap, ◌∙◌}
use mathlib.Core.List.{List, []}
use Prim.Native.Nat.{ℕ, zero, suc, ◌+◌, ◌-◌, ◌*◌, ◌≤◌, ◌<◌}
use native.Mathlib.Nat.{zero-mul, suc-mul}
use native.Mathlib.Omega.{arith}
use lib.ListN.{length, take, drop, get_or}
use lib.Seq.{drop-drop, get_or-take, get_or-drop, length-take-le}
use lib.IntN.{ℤ, pos}
use Rattle.frames.specs.Framing.{frames_of}
use Rattle.frames.proofs.Framing.{drop-frames_of, take-frames_of}
use Rattle.sinc.specs.Sinc.{sinc_filter_points, tabulate, interpolate, interpolate_frame}
use Rattle.sinc.proofs.Tabulated.{tabulate-cong}
use Rattle.sinc.proofs.Channels.{interpolate-cong, length-interpolate_frame}
use Rattle.rate.specs.declared.Rates.{Rates}
use Rattle.rate.specs.declared.Position.{Position}
use Rattle.rate.specs.Tail.{interpolate_window, interpolated}

-- the window at the tail frame j
pub window-is : (ch tail j : ℕ) (stage : List ℤ) → j + sinc_filter_points ≤ tail → take sinc_filter_points (drop j (frames_of ch tail stage)) ≡ frames_of ch sinc_filter_points (drop (j * ch) stage)
window-is ch tail j stage h =
    ap (take sinc_filter_points) (drop-frames_of ch j tail stage (omega arith)) ∙ take-frames_of ch sinc_filter_points (tail - j) (drop (j * ch) stage) (omega arith)

-- the frame i of some
get_or-frames_of : {A : Type 0} (ch k i : ℕ) (a : List A) → i < k → get_or (frames_of ch k a) i [] ≡ take ch (drop (i * ch) a)
unfolding frames_of
get_or-frames_of ch zero i a h = absurd (omega arith)
get_or-frames_of ch (suc k) zero a h = ap (λ (n : ℕ). take ch (drop n a)) (sym (zero-mul ch))
get_or-frames_of ch (suc k) (suc i) a h =
    let e : ch + i * ch ≡ suc i * ch = omega (arith, suc-mul i ch) in
    get_or-frames_of ch k i (drop ch a) (omega arith) ∙ ap (take ch) (drop-drop (i * ch) ch a ∙ ap (λ (n : ℕ). drop n a) e)

module _ (ch ratio N : ℕ) (x : List ℤ) (h : ch ≤ length x) where
  channels_is : length (get_or (frames_of ch sinc_filter_points x) 0 []) ≡ ch
  channels_is = ap length (get_or-frames_of ch sinc_filter_points 0 x (omega arith) ∙ ap (λ (n : ℕ). take ch (drop n x)) (zero-mul ch)) ∙ length-take-le ch x h

  -- tap i of channel c
  tap-is : (c i : ℕ) → c < ch → i < sinc_filter_points → get_or (get_or (frames_of ch sinc_filter_points x) i []) c (pos 0) ≡ get_or x (i * ch + c) (pos 0)
  tap-is c i k l =
      ap (λ (f : List ℤ). get_or f c (pos 0)) (get_or-frames_of ch sinc_filter_points i x l) ∙ get_or-take ch (drop (i * ch) x) c (pos 0) k ∙ get_or-drop (i * ch) x c (pos 0)

  -- a window's frame is the flat samples' frame
  pub interpolate_window-is : interpolate_window (frames_of ch sinc_filter_points x) ratio N ≡ interpolate_frame x ch ratio N
  unfolding interpolate_window interpolate_frame
  interpolate_window-is =
      ap (λ (n : ℕ). tabulate n (λ c. interpolate (λ i. get_or (get_or (frames_of ch sinc_filter_points x) i []) c (pos 0)) ratio N)) channels_is
      ∙ tabulate-cong ch _ _ (λ c k. interpolate-cong ratio N (λ i l. tap-is c i k l))

  pub length-interpolate_window : length (interpolate_window (frames_of ch sinc_filter_points x) ratio N) ≡ ch
  length-interpolate_window = ap length interpolate_window-is ∙ length-interpolate_frame x ch ratio N

pub length-interpolated : (r : Rates) (s : Position) (ch : ℕ) (x : List ℤ) → ch ≤ length x → length (interpolated r s (frames_of ch sinc_filter_points x)) ≡ ch
unfolding interpolated
length-interpolated r s ch x h = length-interpolate_window ch ((s.old + 1) * r.new - s.new * r.old - 1) r.new x h
