use Rattle.std.proofs.Common.{ℕ, ◌/◌, ◌%◌, ap, ◌∙◌, subst, arith, rules}
use Rattle.stream.specs.declared.SonicStream.{SonicStream}
use Rattle.reels.proofs.Blocks.{front_length}
use Rattle.blocks.specs.Blocks.{BlockWritten}
use Rattle.blocks.proofs.Parts.{read-serving, read-none-waits, samples-whole, turned}
use Rattle.blocks.proofs.turn.Goals as goal

pub write_block-requires : goal.write_block-requires
write_block-requires g c =
    let a = c.args in
    let p = c.requires in
    let b = c.read_block-read.result in
    let e = c.read_block-read.ensures in (
      search rules,
      (
        (
          ap (λ (s : SonicStream). s.channels) e.2.counted.stream_kept ∙ p.usable.0,
          ap (λ (k : ℕ). k % a.plan.channels) (front_length _ b.samples (omega (arith, e.0, e.1))) ∙ samples-whole a.plan a.reel b e.2,
        ),
        ((omega arith, omega arith), (p.served.0, read-serving a.plan a.reel b e.2 p.served.1, read-none-waits a.plan a.reel b e.2 p.served.2)),
      ),
    )

pub returns : goal.returns
returns g c =
    let a = c.args in
    let b = c.read_block-read.result in
    let e = c.read_block-read.ensures in
    let size = front_length c.read_block-read.new.block b.samples (omega (arith, e.0, e.1)) in
    turned a.plan a.reel b c.write_block.result a.plan.limits.channels_low c.requires.usable.1 e.2
    (subst (λ (n : ℕ). BlockWritten a.plan (n / a.plan.channels) b.reel c.write_block.result) size c.write_block.ensures)
