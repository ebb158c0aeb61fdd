-- `floats::narrowing::magnitude` meets its contract: each range of e is a fact of `proofs/NarrowFields.antt`. Assumes nothing.
use Rattle.std.proofs.Common.{◌≡◌, ℕ, ◌+◌, ◌-◌, ◌*◌, ◌%◌, ◌^◌, ◌<◌, ◌≤◌, sym, ap, ◌∙◌, one-mul, arith, lit<, pow_pos, pow_mono, shl_exact}
use lib.Ieee.Nearest.{closest}
use Rattle.floats.proofs.NarrowBits.{mark}
use Rattle.floats.proofs.NarrowFields.{tiny-is, low-is, low_le, mid-is, mid_le, high_is, with_lead}
use Rattle.floats.proofs.narrowing.magnitude.Goals as goal
use Rattle.floats.proofs.narrowing.magnitude.Goals.{After-closest, After-closest-then-e-lt1151, Else-e-lt1151, Start}

-- ---- places, and what is known there

-- 1 << w
shifted : (w : ℕ) → w < 64 → 1 * 2 ^ w % 2 ^ 64 ≡ 2 ^ w
shifted w h = shl_exact {a = 1} 1 w 64 (lit< tt) (omega arith) ∙ one-mul (2 ^ w)

-- e is from 873 below 897
abbrev low : After-closest → Start
low c = c.before.before.before

-- from 897 below 1151
abbrev mid : After-closest-then-e-lt1151 → Start
mid c = c.before.before.before.before

-- from 1151
abbrev high : Else-e-lt1151 → Start
high c = c.before.before.before

-- what is kept of a subnormal `f32`
kept : (c : After-closest) → c.closest.result ≡ closest (2 ^ 52 + (low c).args.t) (2 ^ (926 - (low c).args.e))
kept c =
    let a = (low c).args in
    c.closest.ensures ∙ ap (closest (2 ^ 52 + a.t)) (shifted (926 - a.e) (omega arith))

kept-le : (c : After-closest) → c.closest.result ≤ 2 ^ 23
kept-le c =
    let s = low c in
    let t = s.args.t in
    rw (kept c) (low_le (2 ^ 52 + t) (926 - s.args.e) (with_lead t s.requires.digits_fit) (omega arith))

-- what is kept of a normal one
kept-le-2 : (c : After-closest-then-e-lt1151) → c.closest-then-e-lt1151.result ≤ 2 ^ 24
kept-le-2 c =
    let s = mid c in
    rw c.closest-then-e-lt1151.ensures (mid_le (2 ^ 52 + s.args.t) (with_lead s.args.t s.requires.digits_fit))

pub returns-then-e-lt873 : goal.returns-then-e-lt873
returns-then-e-lt873 c = record {
  value = λ s. tiny-is s c.args.e c.args.t c.if-e-lt873.true c.requires.digits_fit;
  bound = lit< tt;
}

pub closest-requires : goal.closest-requires
closest-requires c =
    let w = 926 - c.args.e in
    record {
      digits_fit = omega arith;
      unit_positive = rw (shifted w (omega arith)) (pow_pos w);
      unit_fits = rw (shifted w (omega arith)) (pow_mono {i = w} {j = 53} (omega arith));
    }

pub overflow_cast-result : goal.overflow_cast-result
overflow_cast-result c = omega (arith, kept-le c)

pub returns-then-e-lt897 : goal.returns-then-e-lt897
returns-then-e-lt897 c =
    let s = low c in
    let is = sym (kept c) in
    let from : 873 ≤ s.args.e = omega arith in
    record {
      value = λ t. low-is t s.args.e s.args.t from c.if-e-lt897.true s.requires.digits_fit ∙ (λ i. mark t + is i);
      bound = omega (arith, kept-le c);
    }

pub overflow_add-result : goal.overflow_add-result
overflow_add-result c = omega (arith, kept-le-2 c)

pub overflow_cast-result-then-e-lt1151 : goal.overflow_cast-result-then-e-lt1151
overflow_cast-result-then-e-lt1151 c = omega (arith, kept-le-2 c)

pub returns-then-e-lt1151 : goal.returns-then-e-lt1151
returns-then-e-lt1151 c =
    let s = mid c in
    let e = s.args.e in
    let is = sym c.closest-then-e-lt1151.ensures in
    let from : 897 ≤ e = omega arith in
    record {
      value = λ t. mid-is t e s.args.t from c.if-e-lt1151.true s.requires.digits_fit ∙ (λ i. mark t + ((e - 897) * 2 ^ 23 + is i));
      bound = omega (arith, kept-le-2 c);
    }

pub returns : goal.returns
returns c =
    let s = high c in
    record {
      value = λ t. high_is t s.args.e s.args.t c.if-e-lt1151.false s.requires.exponent_fits s.requires.digits_fit s.requires.no_nan;
      bound = lit< tt;
    }
