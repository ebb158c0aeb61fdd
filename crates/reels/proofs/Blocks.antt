-- Whole frames of a block, of so many channels:
--   whole-fit, full-whole     the samples of the whole frames of so many bytes; a full block leaves none over
--   whole-ends                the end of a write
--   joined-frames, counted    frames of two parts, and their count modulo 2^64
--   front_length              the samples of a block's front
--   write-length, write-frames, write-whole    the samples and the frames of a write
-- Assumes nothing.
use Rattle.std.proofs.Common.{◌≡◌, ℕ, ◌+◌, ◌-◌, ◌*◌, ◌/◌, ◌%◌, ◌^◌, ◌≤◌, List, length, take, drop, ℤ, sym, ap, ◌∙◌, add_assoc, mul_assoc, mul_comm, add_comm, div-add-mod', le-div_iff_mul-le, div-mul-le_self, arith, length-drop, length-take}
use native.Mathlib.Nat.{min-eq_left}
use native.Mathlib.Nat.{mod-add-mod, mul-add-div_right, mul-add-mod_self_right, mul-mod_left}
use Rattle.plans.specs.Plans.{block_samples}

twice : (n ch : ℕ) → n * (2 * ch) ≡ 2 * (n * ch)
twice n ch = ap (λ (k : ℕ). n * k) (mul_comm 2 ch) ∙ sym (mul_assoc n ch 2) ∙ mul_comm (n * ch) 2

-- two bytes to each, in frames of ch samples
pub whole-fit : (bytes ch : ℕ) → 2 * (bytes / (2 * ch) * ch) ≤ bytes
whole-fit bytes ch =
    let n = bytes / (2 * ch) in
    let e : n * (2 * ch) ≡ 2 * (n * ch) = twice n ch in
    omega (arith, div-mul-le_self bytes (2 * ch))

-- some frames behind whole ones end a frame
pub whole-ends : (at frames ch : ℕ) → at % ch ≡ 0 → (at + frames * ch) % ch ≡ 0
whole-ends at frames ch h = ap (λ (k : ℕ). k % ch) (add_comm at (frames * ch)) ∙ mul-add-mod_self_right frames ch at ∙ h

-- the frames up to `at` and those from there to `end`
pub joined-frames : (at end ch : ℕ) → 1 ≤ ch → at ≤ end → at % ch ≡ 0 → at / ch + (end - at) / ch ≡ end / ch
joined-frames at end ch c h e =
    let n = at / ch in
    let whole : n * ch + (end - at) ≡ end = omega (arith, div-add-mod' at ch) in
    sym (mul-add-div_right {m = ch} c n (end - at)) ∙ ap (λ (k : ℕ). k / ch) whole

-- n frames and then k, counted one after the other
pub counted : (w n k after : ℕ) → after ≡ (w + n) % 2 ^ 64 → (after + k) % 2 ^ 64 ≡ (w + (n + k)) % 2 ^ 64
counted w n k after e =
    ap (λ (x : ℕ). (x + k) % 2 ^ 64) e ∙ mod-add-mod (w + n) (2 ^ 64) k ∙ ap (λ (x : ℕ). x % 2 ^ 64) (add_assoc w n k)

pub write-length : (block : List ℤ) (at end : ℕ) → at ≤ end → end ≤ length block → length (take (end - at) (drop at block)) ≡ end - at
write-length block at end h l = length-take (end - at) (drop at block) ∙ min-eq_left {n = end - at} (omega (arith, length-drop at block))

-- the frames up to `at`, and those of the write from there to `end`
pub write-frames : (block : List ℤ) (at end : ℕ) {ch : ℕ} → 1 ≤ ch → at ≤ end → end ≤ length block → at % ch ≡ 0
    → at / ch + length (take (end - at) (drop at block)) / ch ≡ end / ch
write-frames block at end {ch} c h l e =
    ap (λ (k : ℕ). at / ch + k / ch) (write-length block at end h l) ∙ joined-frames at end ch c h e

-- the samples of a part from the front
pub front_length : (block : List ℤ) (n : ℕ) → n ≤ length block → length (take n block) ≡ n
front_length block n h = length-take n block ∙ min-eq_left h

-- a write from the end of a frame to the end of a frame is of whole frames
pub write-whole : (block : List ℤ) (at end ch : ℕ) → at ≤ end → end ≤ length block → at % ch ≡ 0 → end % ch ≡ 0
    → length (take (end - at) (drop at block)) % ch ≡ 0
write-whole block at end ch h l a e =
    let n = at / ch in
    let whole : n * ch + (end - at) ≡ end = omega (arith, div-add-mod' at ch) in
    ap (λ (k : ℕ). k % ch) (write-length block at end h l) ∙ sym (mul-add-mod_self_right n ch (end - at)) ∙ ap (λ (k : ℕ). k % ch) whole ∙ e

-- a full block of whole frames leaves no byte over
pub full-whole : (block bytes ch : ℕ) → block % ch ≡ 0 → bytes ≡ 2 * block → bytes % (2 * ch) ≡ 0
full-whole block bytes ch h e =
    let n = block / ch in
    let doubled : n * (2 * ch) ≡ 2 * (n * ch) = twice n ch in
    let same : bytes ≡ n * (2 * ch) = omega (arith, div-add-mod' block ch) in
    ap (λ (k : ℕ). k % (2 * ch)) same ∙ mul-mod_left n (2 * ch)
