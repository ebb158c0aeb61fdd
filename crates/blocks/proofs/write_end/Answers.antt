use Rattle.std.proofs.Common.{◌≡◌, ℕ, ◌+◌, ◌-◌, ◌*◌, ◌/◌, ◌%◌, ◌≤◌, Bool, true, false, min, leb, refl, ap, ◌∙◌, le_trans, mul-le-mul, div-mul-le_self, le_of_mul-le-mul_right, leb-true, leb-false, arith}
use Rattle.std.proofs.Math.Nat.{min-eq_left, min-eq_right, min-le_left, min-le_right}
use Rattle.plans.specs.Plans.{input_area}
use Rattle.reels.proofs.Blocks.{whole-ends}
use Rattle.blocks.proofs.write_end.Goals as goal

-- so many frames at the most
few : (n frames ch : ℕ) → 1 ≤ ch → n ≤ frames * ch → n / ch ≤ frames
few n frames ch low h = le_of_mul-le-mul_right (le_trans (div-mul-le_self n ch) h) low

-- some frames, or what is left, behind whole ones
ends : (at len frames ch : ℕ) → at ≤ len → at % ch ≡ 0 → len % ch ≡ 0 → (at + min (frames * ch) (len - at)) % ch ≡ 0
ends at len frames ch h a l = go (leb (frames * ch) (len - at)) refl
  where
    go : (b : Bool) → leb (frames * ch) (len - at) ≡ b → (at + min (frames * ch) (len - at)) % ch ≡ 0
    go true e = ap (λ (k : ℕ). (at + k) % ch) (min-eq_left (leb-true (frames * ch) (len - at) e)) ∙ whole-ends at frames ch a
    go false e =
        let less : len - at ≤ frames * ch = omega (arith, leb-false (frames * ch) (len - at) e) in
        let all : at + (len - at) ≡ len = omega arith in
        ap (λ (k : ℕ). (at + k) % ch) (min-eq_right less) ∙ ap (λ (k : ℕ). k % ch) all ∙ l

pub samples-size-requires : goal.samples-size-requires
samples-size-requires c =
    let p = c.args.plan in
    let most : c.max-frames.result ≤ input_area = omega (arith, p.full_fits, p.calls_fit, p.limit_fits) in
    omega (
      arith,
      mul-le-mul {n₁ = c.max-frames.result} {m₁ = c.args.plan.channels} {n₂ = input_area} {m₂ = 32} most p.limits.channels_high,
    )

pub returns : goal.returns
returns c =
    let p = c.args.plan in
    let a = c.args in
    let frames = c.max-frames.result in
    let room : a.held.0 + frames ≤ a.plan.limit = omega (arith, p.full_fits, p.calls_fit, c.requires.3) in
    let size = c.samples-size.ensures in
    let size_is : c.min.result ≡ min (frames * a.plan.channels) (a.len - a.at) = c.min.ensures ∙ ap (λ (k : ℕ). min k (a.len - a.at)) size in
    let some : 1 ≤ frames * a.plan.channels = mul-le-mul {n₁ = 1} {m₁ = 1} (omega arith) p.limits.channels_low in
    let most = few (a.at + c.min.result - a.at) frames a.plan.channels p.limits.channels_low
    (omega (arith, size_is, min-le_left (frames * a.plan.channels) (a.len - a.at))) in (
      omega arith,
      omega arith,
      ap (λ (k : ℕ). (a.at + k) % a.plan.channels) size_is ∙ ends a.at a.len frames a.plan.channels (omega arith) c.requires.1 c.requires.2,
      omega (arith, most, room),
    )
