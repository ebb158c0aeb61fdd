-- docs/RULES.md, "Moving the rest down". Definitions only. Assumes nothing.
use Rattle.std.specs.Prelude.{◌≡◌, List, ℕ, take, drop, ℤ}

-- the first `count` samples of an area go, and the `kept` samples behind them remain
pub record FrontRemoved (count kept : ℕ) (entry exit : List ℤ) : Type 0 where
  -- those that remain stand at the front, in their order
  pub remaining : take kept exit ≡ take kept (drop count entry)
  -- every place behind them is as it stood
  pub behind : drop kept exit ≡ drop kept entry
  -- when none go, or none remain, the whole area is
  pub none_go : count ≡ 0 → exit ≡ entry
  pub none_remain : kept ≡ 0 → exit ≡ entry
