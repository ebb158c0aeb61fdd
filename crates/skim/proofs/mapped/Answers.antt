-- The reel is a fresh one.
use Rattle.skim.proofs.mapped.Goals as goal

pub written-requires : goal.written-requires
written-requires c = rw c.new.ensures (c.requires c.in-Ok.map)
