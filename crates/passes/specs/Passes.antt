-- Frames of a reel of which nothing came out: their count, and stretches of them. Counts are of 64 bits. Definitions
-- only. Assumes nothing.
use Rattle.std.specs.Prelude.{ℕ, ◌+◌, ◌%◌, ◌^◌, cond, ◌==◌, nat_lt}
use Rattle.passes.specs.declared.Span.{Span}
use Rattle.passes.specs.declared.Passes.{Passes}

-- nothing was passed over
abbrev pub none : Passes
none =
    record {
      periods = 0;
      frames = 0;
      last = record { first = 0; frames = 0 };
      longest = record { first = 0; frames = 0 };
    }

-- a stretch s with a piece p behind it: the two joined if p begins where s ends, else p alone
abbrev pub joined : Span → Span → Span
joined s p =
    cond (p.first == (s.first + s.frames) % 2 ^ 64)
    (record { first = s.first; frames = (s.frames + p.frames) % 2 ^ 64 })
    p

-- the longer of two, and the first if they are as long
abbrev pub longer : Span → Span → Span
longer s t = cond (nat_lt s.frames t.frames) t s

-- one more piece, with so many periods that are counted
abbrev pub noted : Passes → ℕ → Span → Passes
noted p periods piece =
    record {
      periods = (p.periods + periods) % 2 ^ 64;
      frames = (p.frames + piece.frames) % 2 ^ 64;
      last = joined p.last piece;
      longest = longer p.longest (joined p.last piece);
    }
