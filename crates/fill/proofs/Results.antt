-- What is known of an Option by what `ok_or` made of it. The layers above cite it. Assumes nothing.
use Rattle.std.proofs.Common.{◌≡◌, refl, Option, Some, None, Ok, Err, ok_or}

module _ {A E : Type 0} where
  pub was_some : (o : Option A) (e : E) (x : A) → ok_or o e ≡ Ok x → o ≡ Some x
  was_some None e x is = cc
  was_some (Some y) e x is = cc

  pub was_none : (o : Option A) (e d : E) → ok_or o e ≡ Err d → (o ≡ None) × (e ≡ d)
  was_none None e d is = (refl, cc)
  was_none (Some y) e d is = (cc, cc)
