-- Lists of bytes laid into a destination, one behind another. Assumes nothing.
use mathlib.Core.Path.{◌≡◌, refl, ap, sym, ◌∙◌}
use mathlib.Core.List.{List, [], ◌∷◌, ◌++◌}
use Prim.Native.Nat.{ℕ, ◌+◌, ◌/◌, ◌%◌, ◌≤◌}
use native.Mathlib.Omega.{arith}
use Rattle.std.specs.Int.{w32, to_le_bytes}
use lib.ListN.{length, length-append}
use lib.Seq.{paste}
use Rattle.frames.proofs.Pasted.{paste-append}
use Rattle.chunks.specs.Numbers.{four_bytes}

-- f is d with the bytes s laid from byte `to` on
pub record Laid (d : List ℕ) (to : ℕ) (s f : List ℕ) : Type 0 where
  pub is : f ≡ paste d to s (length s)

-- more of them behind
pub behind : {d e s : List ℕ} {to : ℕ} → Laid d to s e → (r f : List ℕ) → f ≡ paste e (to + length s) r (length r)
    → to + length s + length r ≤ length d → Laid d to (s ++ r) f
behind {d} {e} {s} {to} l r f q h =
    record {
      is =
          q ∙ ap (λ (x : List ℕ). paste x (to + length s) r (length r)) l.is
          ∙ paste-append d s r to (length s) (length r) refl refl h
          ∙ ap (paste d to (s ++ r)) (sym (length-append s r));
    }

-- the library's four bytes of a number
pub four-same : (n : ℕ) → to_le_bytes w32 n ≡ four_bytes n
four-same n =
    let high : n / 16777216 ≡ n / 65536 / 256 = omega arith in
    ap (λ (k : ℕ). n % 256 ∷ (n / 256 % 256 ∷ (n / 65536 % 256 ∷ (k % 256 ∷ [])))) high
