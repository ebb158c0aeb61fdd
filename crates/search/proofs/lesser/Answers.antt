-- `search::lesser` meets its contract: the test picks as the definition does. Assumes nothing.
use Rattle.std.proofs.Common.{rules}
use Rattle.search.proofs.Candidates.{measured, better-at-tie, not-better-at-tie}
use Rattle.search.proofs.lesser.Goals as goal

pub returns-then-new-old : goal.returns-then-new-old
returns-then-new-old c =
    let o = c.old.inside in
    let n = c.new.inside in
    rw (← c.old.view_is, ← c.new.view_is, better-at-tie c.args.ties (measured o.period o.diff) (measured n.period n.diff) c.if-new-old.true (search rules))

pub returns-else-new-old : goal.returns-else-new-old
returns-else-new-old c =
    let o = c.old.inside in
    let n = c.new.inside in
    rw (← c.old.view_is, ← c.new.view_is, not-better-at-tie c.args.ties (measured o.period o.diff) (measured n.period n.diff) c.if-new-old.false (search rules))
