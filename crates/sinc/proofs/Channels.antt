-- A frame's channels. Behind them, laws for the crates that cite `interpolate` and `interpolate_frame`. Assumes nothing.
use mathlib.Core.Path.{◌≡◌, refl, sym, ap, ◌∙◌}
use mathlib.Core.List.{List}
use Prim.Native.Nat.{ℕ, ◌+◌, ◌*◌, ◌<◌}
use native.Mathlib.Omega.{arith}
use lib.IntN.{ℤ, pos}
use lib.ListN.{length, drop, get_or}
use lib.Seq.{get_or-drop}
use lib.Signed.{shr_z}
use Rattle.sinc.specs.Sinc.{sinc_filter_points, tap_sum, held_sample, interpolate, interpolate_frame}
use Rattle.sinc.specs.Weights.{weighted_sample}
use Rattle.sinc.proofs.Tabulated.{length-tabulate, get_or-tabulate}
use Rattle.sinc.proofs.Taps.{weighted_sum-cong}

-- channel c of the frame that begins at `from`, its first tap at `first`: a value that the code has
pub channel-is : (x : List ℤ) (from channels c first : ℕ) (weights : ℕ → ℤ) {value : ℤ} → first ≡ from + c
    → value ≡ weighted_sample (λ i. get_or x (first + i * channels) (pos 0)) weights
    → value ≡ weighted_sample (λ i. get_or (drop from x) (i * channels + c) (pos 0)) weights
unfolding weighted_sample
channel-is x from channels c first weights e v =
    let place : (i : ℕ) → first + i * channels ≡ from + (i * channels + c) = λ i. omega arith in
    v ∙ ap (λ (z : ℤ). held_sample (shr_z z 65536))
    (weighted_sum-cong sinc_filter_points
    (λ i h. ap (λ (n : ℕ). get_or x n (pos 0)) (place i) ∙ sym (get_or-drop from x (i * channels + c) (pos 0)))
    (λ i h. refl))

-- ---- for the crates above

-- a sample depends on its 12 taps alone
pub interpolate-cong : {taps taps' : ℕ → ℤ} (r N : ℕ) → ((i : ℕ) → i < sinc_filter_points → taps i ≡ taps' i) → interpolate taps r N ≡ interpolate taps' r N
unfolding interpolate tap_sum
interpolate-cong r N p = ap (λ (z : ℤ). held_sample (shr_z z 65536)) (weighted_sum-cong sinc_filter_points p (λ i h. refl))

pub length-interpolate_frame : (x : List ℤ) (channels r N : ℕ) → length (interpolate_frame x channels r N) ≡ channels
unfolding interpolate_frame
length-interpolate_frame x channels r N = length-tabulate channels (λ c. interpolate (λ i. get_or x (i * channels + c) (pos 0)) r N)

pub get_or-interpolate_frame : (x : List ℤ) (channels r N c : ℕ) → c < channels
    → get_or (interpolate_frame x channels r N) c (pos 0) ≡ interpolate (λ i. get_or x (i * channels + c) (pos 0)) r N
unfolding interpolate_frame
get_or-interpolate_frame x channels r N c h =
    get_or-tabulate channels (λ k. interpolate (λ i. get_or x (i * channels + k) (pos 0)) r N) c (pos 0) h
