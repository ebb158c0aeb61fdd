-- docs/RULES.md, "A balance of frames". Definitions only. Assumes nothing.
use Rattle.std.specs.Prelude.{Bool, cond, ◌||◌, ℕ, ◌+◌, ◌-◌, ◌^◌, ltb, Option, Some, None}
use Rattle.stream.specs.declared.balance.Balance.{Balance}

-- fresh totals, and those of a call that skips and inserts nothing
abbrev pub none : Balance
none = record { skipped = 0; inserted = 0 }

-- totals with those of a call
unfoldable pub booked : Balance → Balance → Balance
booked b c = record { skipped = b.skipped + c.skipped; inserted = b.inserted + c.inserted }

-- the greatest total
abbrev pub max_total : ℕ
max_total = 2 ^ 64 - 1

-- 12: a total past 64 bits
unfoldable pub past : Balance → Bool
past b = ltb max_total b.skipped || ltb max_total b.inserted

-- none past 64 bits
unfoldable pub book_of : Balance → Balance → Option Balance
book_of b c = cond (past (booked b c)) None (Some (booked b c))
