-- What a search for one candidate is to find: of docs/RULES.md, "Period search", the period with the least D(q)/q, or
-- that with the greatest. What it finds does not hang on the period from which it looks. Definitions only. Assumes
-- nothing.
use Rattle.std.specs.Prelude.{ℕ, List, ℤ}
use Rattle.search.specs.declared.Candidate.{Candidate}
use Rattle.search.specs.declared.outward.Wanted.{Wanted}
use Rattle.search.specs.declared.outward.Wanted.TheVariants.{Least, Greatest}
use Rattle.search.specs.Search.{best, worst}

-- the candidate of low..=high that is wanted
unfoldable pub wanted_in : Wanted → List ℤ → ℕ → ℕ → Candidate
wanted_in (Least ties near) x low high = best ties x low high
wanted_in Greatest x low high = worst x low high
