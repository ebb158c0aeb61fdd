-- What `book` answers says of the totals (C-16). For the crates above. Assumes nothing.
use Rattle.std.proofs.Common.{◌≡◌, refl, Bool, true, false, cond, Some, None}
use Rattle.stream.specs.declared.balance.Balance.{Balance}
use Rattle.stream.specs.Balance.{booked, past, book_of}

pub past_of : (b c : Balance) → book_of b c ≡ None → past (booked b c) ≡ true
unfolding book_of
past_of b c e = go (past (booked b c)) e
  where
    go : (t : Bool) → cond t None (Some (booked b c)) ≡ None → t ≡ true
    go true f = refl
    go false f = cc

pub within_of : (b c x : Balance) → book_of b c ≡ Some x → (past (booked b c) ≡ false) × (booked b c ≡ x)
unfolding book_of
within_of b c x e = go (past (booked b c)) e
  where
    go : (t : Bool) → cond t None (Some (booked b c)) ≡ Some x → (t ≡ false) × (booked b c ≡ x)
    go true f = (cc, cc)
    go false f = (refl, cc)
