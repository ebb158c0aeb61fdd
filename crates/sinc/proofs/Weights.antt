-- Twelve weights: which are coefficients, a frame by them, and those of phases that are kept. Assumes nothing.
use mathlib.Core.Path.{◌≡◌, refl, ap, ◌∙◌}
use mathlib.Core.Bool.{Bool, true, false}
use mathlib.Core.List.{List}
use Prim.Native.Nat.{ℕ, ◌+◌, ◌-◌, ◌*◌, ◌/◌, ◌%◌, ◌<◌}
use native.Mathlib.Omega.{arith}
use borrow.Author.Tests.{ltb-true, ltb-false}
use lib.Dec.{ltb}
use lib.IntN.{ℤ, pos}
use lib.ListN.{length, get_or, set}
use lib.Seq.{paste, get_or-set_same, get_or-set_other, get_or-drop}
use lib.Signed.{shr_z}
use Rattle.sinc.specs.Sinc.{sinc_filter_points, sinc_coefficient, tap_sum, held_sample, interpolate, interpolate_frame}
use Rattle.sinc.specs.Weights.{SmallWeights, weighted_sample, weighted_frame, CoefficientsOf, PhasesKept}
use Rattle.sinc.proofs.Coefficient.{sinc_coefficient-abs}
use Rattle.sinc.proofs.Tabulated.{tabulate-cong, tabulate-turn}
use Rattle.sinc.proofs.Taps.{weighted_sum-cong}

-- ---- a loop that fills a list from the front

abbrev pub Filled : ℕ → (ℕ → ℤ) → List ℤ → Type 0
Filled n f l = (j : ℕ) → j < n → get_or l j (pos 0) ≡ f j

-- one value more
pub filled-turn : (l : List ℤ) (n : ℕ) (f : ℕ → ℤ) (v : ℤ) → n < length l → Filled n f l → v ≡ f n → Filled (n + 1) f (set l n v)
filled-turn l n f v h filled e j k = go (ltb j n) refl
  where
    go : (b : Bool) → ltb j n ≡ b → get_or (set l n v) j (pos 0) ≡ f j
    go true t =
        let below : j < n = ltb-true j n t in
        get_or-set_other l n j v (pos 0) (λ q. absurd (omega arith)) ∙ filled j below
    go false t =
        let last : j ≡ n = omega (arith, ltb-false j n t) in
        rw last (get_or-set_same l n v (pos 0) h ∙ e)

-- ---- a frame by weights

-- its sample of the channel c
abbrev pub channel_sample : List ℤ → ℕ → List ℤ → ℕ → ℤ
channel_sample x channels weights c = weighted_sample (λ i. get_or x (i * channels + c) (pos 0)) (λ i. get_or weights i (pos 0))

-- one sample more is written
pub frame-turn : (out : List ℤ) (to : ℕ) (x : List ℤ) (channels : ℕ) (weights : List ℤ) (c : ℕ) → to + c < length out → c < channels
    → set (paste out to (weighted_frame x channels weights) c) (to + c) (channel_sample x channels weights c)
    ≡ paste out to (weighted_frame x channels weights) (c + 1)
unfolding weighted_frame
frame-turn out to x channels weights c h k = tabulate-turn out to channels (channel_sample x channels weights) c (pos 0) h k

-- ---- they are coefficients

module _ {weights : List ℤ} {r N : ℕ} (h : CoefficientsOf r N weights) where
  pub weights-small : r < N → SmallWeights weights
  weights-small k i l = rw (h.value i l) (sinc_coefficient-abs i r N l k)

  pub weighted_frame-is : (x : List ℤ) (channels : ℕ) → weighted_frame x channels weights ≡ interpolate_frame x channels r N
  unfolding weighted_frame weighted_sample interpolate_frame interpolate tap_sum
  weighted_frame-is x channels =
      tabulate-cong channels _ _ (λ c k. ap (λ (z : ℤ). held_sample (shr_z z 65536)) (weighted_sum-cong sinc_filter_points (λ i l. refl) h.value))

-- ---- the phases, one coefficient after the other

abbrev pub phase_coefficient : ℕ → ℕ → ℕ → ℤ
phase_coefficient step N m = sinc_coefficient (m % sinc_filter_points) (step * (m / sinc_filter_points + 1) - 1) N

-- all of them
pub phases-filled : (step phases : ℕ) (kept : List ℤ)
    → Filled (sinc_filter_points * phases) (phase_coefficient step (step * phases)) kept → PhasesKept step phases kept
phases-filled step phases kept filled k l = record {
  value = λ i q.
      let m : ℕ = sinc_filter_points * k + i in
      let phase : m / sinc_filter_points ≡ k = omega arith in
      let tap : m % sinc_filter_points ≡ i = omega arith in
      get_or-drop (sinc_filter_points * k) kept i (pos 0)
      ∙ filled m (omega arith) ∙ (λ t. sinc_coefficient (tap t) (step * (phase t + 1) - 1) (step * phases));
}
