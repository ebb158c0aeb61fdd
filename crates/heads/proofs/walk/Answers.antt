-- A data chunk is met with a format that is read.
use Rattle.std.proofs.Common.{◌≡◌, sym, subst, ap, ◌∙◌, Result, Ok, Err, MatchResult}
use Rattle.std.specs.Prelude.{IsErrAnd}
use Rattle.chunks.specs.declared.Chunk.{Chunk}
use Rattle.inputs.specs.Sources.{wave_source, size_of}
use Rattle.chunks.proofs.Bounds.{data-bounds}
use Rattle.heads.proofs.walk.Goals as goal

-- what `map_err` hands on is what it was given
same-chunk : {E D : Type 0} (P : E → D → Type 0) (r : Result Chunk E) (q : Result Chunk D) (x : Chunk)
    → MatchResult r (λ y. q ≡ Ok y) (λ e. IsErrAnd q (P e)) → q ≡ Ok x → r ≡ Ok x
same-chunk P (Ok y) q x m e = cc
same-chunk P (Err d) q x m e = absurd (subst (λ a. IsErrAnd a (P d)) e m)

pub returns-in-Data : goal.returns-in-Data
returns-in-Data g c =
    let chunk = same-chunk _ _ _ _ c.map_err.ensures.cases c.in_ok-chunk.was ∙ ap Ok c.in-Data.is in
    let source = c.of_wave.ensures in
    ((data-bounds _ _ _ _ _ (sym c.read_chunk.ensures ∙ chunk)).0, source ∙ ap wave_source (sym (ap size_of source)))
