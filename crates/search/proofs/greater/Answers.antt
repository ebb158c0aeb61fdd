-- `search::greater` meets its contract: the test picks as the definition does. Assumes nothing.
use borrow.Author.Tests.{lt-ltb, le-ltb}
use Rattle.search.specs.Search.{greater}
use Rattle.search.proofs.greater.Goals as goal

pub returns-then-old-new : goal.returns-then-old-new
unfolding greater
returns-then-old-new c = rw (← c.old.view_is, ← c.new.view_is, lt-ltb _ _ c.if-old-new.true)

pub returns-else-old-new : goal.returns-else-old-new
unfolding greater
returns-else-old-new c = rw (← c.old.view_is, ← c.new.view_is, le-ltb _ _ c.if-old-new.false)
