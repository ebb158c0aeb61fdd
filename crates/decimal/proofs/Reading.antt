-- Reading a text from its front, by the byte at i. Assumes nothing.
use Rattle.std.proofs.Common.{◌≡◌, ℕ, Bool, true, false, None, Some, Option, suc, ◌+◌, ◌-◌, ◌*◌, ◌<◌, ◌≤◌, cond, ◌&&◌, ltb, List, length, get_or, drop, refl, ◌∙◌, add-one, drop-cons, lt-ltb, le-ltb}
use lib.Seq.{drop-length}
use Rattle.decimal.specs.Decimal.{is_digit, limit, digits_from}

module _ (text : List ℕ) (n i : ℕ) (inside : i < length text) where
  digits-at : (digit few : Bool) → is_digit (get_or text i 0) ≡ digit → ltb n limit ≡ few
      → digits_from n (drop i text) ≡ cond (digit && few) (digits_from (n * 10 + (get_or text i 0 - 48)) (drop (suc i) text)) None
  unfolding digits_from
  digits-at digit few d f = rw (drop-cons text i 0, d, f)

  pub digits-refused : is_digit (get_or text i 0) ≡ false → digits_from n (drop i text) ≡ None
  digits-refused d = digits-at false (ltb n limit) d refl

  pub digits-full : limit ≤ n → digits_from n (drop i text) ≡ None
  digits-full full = digits-at _ false refl (le-ltb n limit full) ∙ ends (is_digit (get_or text i 0)) _
    where
      ends : (digit : Bool) (rest : Option ℕ) → cond (digit && false) rest None ≡ None
      ends true rest = refl
      ends false rest = refl

  pub digits_more : is_digit (get_or text i 0) ≡ true → n < limit
      → digits_from n (drop i text) ≡ digits_from (n * 10 + (get_or text i 0 - 48)) (drop (i + 1) text)
  digits_more d few = rw add-one (digits-at true true d (lt-ltb n limit few))

pub digits-end : (text : List ℕ) (n i : ℕ) → i ≡ length text → digits_from n (drop i text) ≡ Some n
unfolding digits_from
digits-end text n i e = rw (e, drop-length)
