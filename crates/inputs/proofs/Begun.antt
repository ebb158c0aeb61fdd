-- A block that begins with the bytes of a number: what is put there, and other bytes behind them; and how long a block is. Assumes nothing.
use Rattle.std.proofs.Common.{◌≡◌, refl, sym, ap, ◌∙◌, ⊎_elim, ℕ, zero, suc, ◌-◌, ◌+◌, ◌/◌, ◌%◌, ◌^◌, ◌≤◌, ◌<◌, min, List, ◌++◌, length, replicate, get_or, take, drop, arith, div-one}
use Rattle.std.proofs.lemmas.Bool.{cases_lt}
use Rattle.std.proofs.lemmas.List.{length-replicate, length-take, get_or-replicate, get_or-take, get_or-drop, get_or-append_right}
use Rattle.std.proofs.Math.Nat.{div-eq_of_lt, pow-le-pow_right, min-le_right, le_refl}
use Rattle.std.specs.Int.{to_le_bytes, w32}
use lib.ListN.{get_or-append}
use Rattle.inputs.specs.declared.Source.{Source}
use Rattle.inputs.specs.declared.Source.TheVariants.{Raw, Wave}
use Rattle.inputs.specs.Sources.{block_of, Begins}

-- a byte of a number of 32 bits
le-byte : (number i : ℕ) → i < 4 → get_or (to_le_bytes w32 number) i 0 ≡ number / 256 ^ i % 256
le-byte number zero l = ap (λ (n : ℕ). n % 256) (sym (div-one number))
le-byte number (suc zero) l = refl
le-byte number (suc (suc zero)) l = refl
le-byte number (suc (suc (suc zero))) l = refl
le-byte number (suc (suc (suc (suc i)))) l = absurd (omega arith)

-- it has no fifth
no-byte : (number i : ℕ) → number < 2 ^ 32 → 4 ≤ i → number / 256 ^ i % 256 ≡ 0
no-byte number i h l =
    let most : 256 ^ 4 ≤ 256 ^ i = pow-le-pow_right {n = 256} (omega arith) l in
    let below : number < 256 ^ i = omega (arith, most) in
    ap (λ (n : ℕ). n % 256) (div-eq_of_lt below)

-- its first k bytes, and zeros behind them
pub begins-bytes : (number n k m : ℕ) (bytes zeros rest : List ℕ) → number < 2 ^ 32 → k ≡ min n 4 → n ≤ m
    → bytes ≡ take k (to_le_bytes w32 number) → zeros ≡ replicate m 0 → Begins number n (bytes ++ drop k (zeros ++ rest))
begins-bytes number n k m bytes zeros rest h e enough first other = rw (first, other) (record { byte = at })
  where
    front : List ℕ
    front = take k (to_le_bytes w32 number)

    long : length front ≡ k
    long = simp length-take (omega arith)

    at : (i : ℕ) → i < n → get_or (front ++ drop k (replicate m 0 ++ rest)) i 0 ≡ number / 256 ^ i % 256
    at i l =
        ⊎_elim (λ (w : i < k).
        get_or-append front _ 0 i (omega (arith, long)) ∙ get_or-take k (to_le_bytes w32 number) i 0 w ∙ le-byte number i (omega arith))
        (λ (w : k ≤ i).
        get_or-append_right front _ k i 0 long w
        ∙ get_or-drop k (replicate m 0 ++ rest) (i - k) 0
        ∙ get_or-append (replicate m 0) rest 0 (k + (i - k)) (omega (arith, length-replicate {A = ℕ} m 0))
        ∙ get_or-replicate m (k + (i - k)) 0 0 (omega arith)
        ∙ sym (no-byte number i h (omega arith)))
        (cases_lt i k)

-- what stands behind the block does not matter
pub begins-front : (number n : ℕ) (block rest : List ℕ) → n ≤ length block → Begins number n block → Begins number n (block ++ rest)
begins-front number n block rest h b = record { byte = λ i l. get_or-append block rest 0 i (omega arith) ∙ b.byte i l }

-- a block is as long as was asked for, at the most
pub block-most : (s : Source) (most : ℕ) → block_of s most ≤ most
unfolding block_of
block-most (Raw first ready) most = le_refl most
block-most (Wave size left) most = min-le_right left most
