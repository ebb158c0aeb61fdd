-- Sums and means of samples. Sections: a sum within its range, a sum of n samples, one sample more, the mean, two samples, the
-- means so far at the front of a list. Assumes nothing.
use mathlib.Core.Path.{◌≡◌, refl, sym, ap, ◌∙◌, subst}
use mathlib.Core.Bool.{Bool, true, false, cond}
use mathlib.Core.List.{List, [], ◌∷◌, ◌++◌, append_assoc}
use Prim.Native.Nat.{ℕ, zero, suc, ◌+◌, ◌-◌, ◌*◌, ◌/◌, ◌≤◌, ◌<◌}
use native.Mathlib.Nat.{div-le_of_le-mul, div-lt_iff_lt-mul, mul_comm}
use native.Mathlib.Numerals.{add-one}
use native.Mathlib.Omega.{arith}
use borrow.Author.Tests.{ltb-true, ltb-false}
use lib.Dec.{ltb}
use lib.IntN.{ℤ, pos, negsuc, nat_abs, sub_ℕ, ◌+ℤ◌, +ℤ_idl}
use lib.ListN.{length, get_or, drop, set, length-append, length-set}
use lib.Seq.{drop-cons, set_at}
use lib.Signed.{mag, quot_z}
use mir.Facts.{to_z-of_z, to_z_pos, sfits_widen}
use mir.Syntax.{w16, w32}
use mir.Val.{SFits, to_z, of_z}
use Rattle.laws.proofs.Integers.{mag-neg, sfits-of-nat_abs}
use Rattle.laws.proofs.Widening.{widened-reads}
use Rattle.averages.specs.Averages.{sum_from, mean_from, down_sample_input, most_averaged}

-- ---- from −32,768·n to 32,767·n
abbrev pub SumWithin : ℕ → ℤ → Type 0
SumWithin n (pos a) = a ≤ 32767 * n
SumWithin n (negsuc a) = suc a ≤ 32768 * n

within-subℕ-cases : (t : Bool) (a b n : ℕ) → ltb a b ≡ t → a ≤ 32767 * n → b ≤ 32768 * n → SumWithin n (cond t (negsuc (b - suc a)) (pos (a - b)))
within-subℕ-cases true a b n e p q = omega (arith, ltb-true a b e)
within-subℕ-cases false a b n e p q = omega (arith, ltb-false a b e)

within-subℕ : (a b n : ℕ) → a ≤ 32767 * n → b ≤ 32768 * n → SumWithin n (sub_ℕ a b)
within-subℕ a b n = within-subℕ-cases (ltb a b) a b n refl

within_more : (z y : ℤ) (n : ℕ) → SumWithin n z → mag y < 32768 → SumWithin (n + 1) (z +ℤ y)
within_more (pos a) (pos b) n p q = omega arith
within_more (pos a) (negsuc b) n p q = within-subℕ a (suc b) (n + 1) (omega arith) (omega arith)
within_more (negsuc a) (pos b) n p q = within-subℕ b (suc a) (n + 1) (omega arith) (omega arith)
within_more (negsuc a) (negsuc b) n p q = omega arith

nat_abs-within : (z : ℤ) (n : ℕ) → SumWithin n z → nat_abs z ≤ 32768 * n
nat_abs-within (pos a) n p = omega arith
nat_abs-within (negsuc a) n p = omega arith

-- ---- z is the sum of n samples from the place `from` on
pub record Total (x : List ℤ) (from n : ℕ) (z : ℤ) : Type 0 where
  pub is : z ≡ sum_from x from n
  pub within : SumWithin n z

pub total-none : (x : List ℤ) (from : ℕ) → Total x from 0 (pos 0)
unfolding sum_from
total-none x from = record { is = refl; within = omega arith }

total-more : {x : List ℤ} {from n : ℕ} {z : ℤ} → Total x from n z → mag (get_or x (from + n) (pos 0)) < 32768
    → Total x from (n + 1) (z +ℤ get_or x (from + n) (pos 0))
unfolding sum_from
total-more {x} {from} {n} {z} total h = record { is = rw (add-one, total.is); within = within_more z _ n total.within h }

total-fits : {x : List ℤ} {from n : ℕ} {z : ℤ} → Total x from n z → n ≤ most_averaged → SFits w32 z
total-fits {x} {from} {n} {z} total h = sfits-of-nat_abs z (omega (arith, nat_abs-within z n total.within))

pub total-at : {x : List ℤ} {from n m : ℕ} {z : ℤ} → n ≡ m → Total x from n z → Total x from m z
total-at e total = rw e at total

-- ---- one sample more, as the code widens and adds it
module _ {x : List ℤ} {from n : ℕ} {z : ℤ} (total : Total x from n z) (sample : mag (get_or x (from + n) (pos 0)) < 32768) (few : n < most_averaged) where
  abbrev s : ℤ
  s = get_or x (from + n) (pos 0)

  sample-fits : SFits w16 s
  sample-fits = record { sfits = sample }

  added-fits : SFits w32 (z +ℤ to_z w32 (of_z w32 (to_z w16 (of_z w16 s))))
  added-fits = rw (widened-reads w32 tt sample-fits) (total-fits (total-more total sample) (omega arith))

  pub added-total : Total x from (n + 1) (to_z w32 (of_z w32 (z +ℤ to_z w32 (of_z w32 (to_z w16 (of_z w16 s))))))
  added-total = rw (to_z-of_z added-fits, widened-reads w32 tt sample-fits) (total-more total sample)

-- ---- the mean of n samples, as the code divides and narrows it
mean-within : (z : ℤ) (n : ℕ) → 1 ≤ n → SumWithin n z → SFits w16 (quot_z z (pos n))
mean-within (pos a) n h p = record { sfits = (div-lt_iff_lt-mul {k = n} {x = a} {y = 32768} (omega arith)).1 (omega arith) }
mean-within (negsuc a) n h p = record { sfits = mag-neg (suc a / n) 32768 (div-le_of_le-mul n (omega (arith, mul_comm n 32768))) (omega arith) }

module _ {x : List ℤ} {from n : ℕ} {z : ℤ} (total : Total x from n z) (some : 1 ≤ n) (few : n ≤ most_averaged) where
  count-reads : to_z w32 n ≡ pos n
  count-reads = to_z_pos w32 (omega arith)

  mean-fits : SFits w16 (quot_z z (pos n))
  mean-fits = mean-within z n some total.within

  quotient_fits : SFits w32 (quot_z z (to_z w32 n))
  quotient_fits = rw count-reads (sfits_widen {w = w16} tt mean-fits)

  quotient-narrows : SFits w16 (to_z w32 (of_z w32 (quot_z z (to_z w32 n))))
  quotient-narrows = rw (to_z-of_z quotient_fits, count-reads) mean-fits

  pub mean-reads : to_z w16 (of_z w16 (to_z w32 (of_z w32 (quot_z z (to_z w32 n))))) ≡ mean_from x from n
  unfolding mean_from
  mean-reads = rw (to_z-of_z quotient-narrows, to_z-of_z quotient_fits, count-reads, total.is)

-- ---- two samples
pub total-one : (a b : ℤ) → SFits w16 a → Total (a ∷ b ∷ []) 0 1 (to_z w32 (of_z w32 (to_z w16 (of_z w16 a))))
total-one a b h =
    rw (widened-reads w32 tt h) (subst (Total (a ∷ b ∷ []) 0 1) (+ℤ_idl a) (total-more (total-none (a ∷ b ∷ []) 0) h.sfits))

pub mean_from-two : (x : List ℤ) (from : ℕ) → mean_from (get_or x from (pos 0) ∷ get_or x (from + 1) (pos 0) ∷ []) 0 2 ≡ mean_from x from 2
unfolding mean_from sum_from
mean_from-two x from =
    let e : from + 0 ≡ from = omega arith in
    rw e

-- ---- the means so far: n of them at the front of `out`, the rest as in `old`
pub length-down_sample_input : (x : List ℤ) (n per : ℕ) → length (down_sample_input x n per) ≡ n
unfolding down_sample_input
length-down_sample_input x zero per = refl
length-down_sample_input x (suc n) per = rw length-append (omega (arith, length-down_sample_input x n per))

pub record Front (x old out : List ℤ) (n per : ℕ) : Type 0 where
  pub made : out ≡ down_sample_input x n per ++ drop n old
  pub long : length out ≡ length old

pub front-none : (x old : List ℤ) (per : ℕ) → Front x old old 0 per
unfolding down_sample_input
front-none x old per = record { made = refl; long = refl }

pub front_at : {x old out : List ℤ} {n m per : ℕ} → n ≡ m → Front x old out n per → Front x old out m per
front_at e f = rw e at f

-- one more, as the code stores it
module _ {x old out : List ℤ} {n per : ℕ} {v : ℤ} (f : Front x old out n per) (room : n < length old) (fits : SFits w16 v)
    (is : v ≡ mean_from x (n * per) per) where
  set_front : set out n v ≡ down_sample_input x (suc n) per ++ drop (suc n) old
  unfolding down_sample_input
  set_front =
      let front = down_sample_input x n per in
      ap (λ (l : List ℤ). set l n v) (f.made ∙ ap (λ (l : List ℤ). front ++ l) (drop-cons old n (pos 0) room))
      ∙ set_at front (get_or old n (pos 0)) (drop (suc n) old) v n (length-down_sample_input x n per)
      ∙ ap (λ (m : ℤ). front ++ (m ∷ drop (suc n) old)) is
      ∙ sym (append_assoc front (mean_from x (n * per) per ∷ []) (drop (suc n) old))

  pub front-more : Front x old (set out n (to_z w16 (of_z w16 v))) (n + 1) per
  front-more = rw (to_z-of_z fits, add-one) (record { made = set_front; long = length-set out n v ∙ f.long })
