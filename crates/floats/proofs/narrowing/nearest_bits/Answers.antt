-- `floats::narrowing::nearest_bits` meets its contract: the pattern of the magnitude with the sign of b. Assumes nothing.
use Rattle.std.proofs.Common.{◌≡◌, ℕ, ◌/◌, ◌%◌, ◌^◌, ◌<◌, Bool, true, false, leb, sym, ◌∙◌, zero-add, arith, le-leb}
use borrow.Author.Tests.{lt-leb}
use lib.Ieee.{binary32, binary64, of_bits, to_bits}
use Rattle.floats.specs.Numbers.{narrow}
use Rattle.floats.proofs.NarrowFields.{narrowed, of_bits_is, no-nan-fields}
use Rattle.floats.proofs.narrowing.nearest_bits.Goals as goal

pub magnitude-m-requires : goal.magnitude-m-requires
magnitude-m-requires c =
    let b = c.args.b in
    let h : b % 2 ^ 63 / 2 ^ 52 < 2048 = omega arith in
    record { exponent_fits = h; digits_fit = omega arith; no_nan = no-nan-fields b h c.requires }

signed : (b : ℕ) (s : Bool) → leb (2 ^ 63) b ≡ s
    → narrowed s (b % 2 ^ 63 / 2 ^ 52) (b % 2 ^ 52) ≡ to_bits binary32 (narrow (of_bits binary64 b))
signed b s h = rw (of_bits_is b, h)

pub returns-then-b-ge9223372036854775808 : goal.returns-then-b-ge9223372036854775808
returns-then-b-ge9223372036854775808 c =
    let b = c.args.b in
    sym (c.magnitude-m.ensures.value true) ∙ signed b true (le-leb (2 ^ 63) b c.if-b-ge9223372036854775808.true)

pub returns-else-b-ge9223372036854775808 : goal.returns-else-b-ge9223372036854775808
returns-else-b-ge9223372036854775808 c =
    let b = c.args.b in
    sym (zero-add c.magnitude-m.result) ∙ sym (c.magnitude-m.ensures.value false)
    ∙ signed b false (lt-leb (2 ^ 63) b c.if-b-ge9223372036854775808.false)
