-- The two loops of the scan: what holds at each, their starts, turns and ends. Assumes nothing.
use mathlib.Core.Path.{◌≡◌, refl, sym, ap, ◌∙◌, subst}
use mathlib.Core.List.{List, [], ◌∷◌, ◌++◌, append_assoc, append-nil}
use Rattle.std.specs.Prelude.{Some}
use Prim.Native.Nat.{ℕ, suc, ◌+◌, ◌-◌, ◌*◌, ◌≤◌, ◌<◌}
use native.Mathlib.Omega.{arith}
use native.Mathlib.Nat.{mul-le-mul_right}
use native.Mathlib.Numerals.{add-one}
use lib.ListN.{length, take, drop, length-append}
use lib.Seq.{take-take, drop-drop, take_all, length-paste, paste}
use lib.IntN.{ℤ}
use Rattle.frames.specs.Framing.{Frame, frames_of, Behind, NoRoom}
use Rattle.frames.proofs.Framing.{frames_of-add, frames_of-cong, drop-frames_of, drop-take, length-frames_of}
use Rattle.frames.proofs.Pasted.{paste-front, paste-part}
use Rattle.frames.proofs.Behind.{behind-length, behind-none}
use Rattle.sinc.specs.Sinc.{sinc_filter_points}
use Rattle.rate.specs.declared.Rates.{Rates}
use Rattle.rate.specs.declared.Position.{Position}
use Rattle.rate.specs.Tail.{due, next, steps, interpolated, emit, scan, consumable}
use Rattle.rate.specs.Conversion.{convert}
use Rattle.rate.specs.Adjusting.{ScanEnsures}
use Rattle.rate.proofs.Positions.{steps-snoc}
use Rattle.rate.proofs.Chunks.{length-emit, emit-snoc, scan-add, scan-snoc}

-- one frame more behind the w frames
behind-snoc : (ch w m : ℕ) (entry out : List ℤ) (fs : List Frame) (f : Frame) → Behind ch w m entry out fs → length f ≡ ch
    → (w + m) * ch + ch ≤ length entry → Behind ch w (m + 1) entry (paste out ((w + m) * ch) f ch) (fs ++ (f ∷ []))
unfolding frames_of
behind-snoc ch w m entry out fs f b l h =
    let to : ℕ = (w + m) * ch in
    let out' : List ℤ = paste out to f ch in
    let s : to ≡ w * ch + m * ch = omega arith in
    let room : to + ch ≤ length out = omega (arith, b.long) in
    let front : take to out' ≡ take to out = paste-front out f to ch (omega arith) in
    let low : take (w * ch) out' ≡ take (w * ch) out =
    sym (take-take (w * ch) to out' (omega arith)) ∙ ap (take (w * ch)) front ∙ take-take (w * ch) to out (omega arith) in
    let mid : take (m * ch) (drop (w * ch) out') ≡ take (m * ch) (drop (w * ch) out) =
    sym (drop-take (w * ch) (m * ch) out') ∙ ap (drop (w * ch)) (subst (λ (i : ℕ). take i out' ≡ take i out) s front) ∙ drop-take (w * ch) (m * ch) out in
    let last : take ch (drop to out') ≡ f = paste-part out f to ch (omega arith) (omega arith) ∙ take_all ch f (omega arith) in
    let top : frames_of ch 1 (drop (m * ch) (drop (w * ch) out')) ≡ f ∷ [] =
    ap (λ (x : List ℤ). take ch x ∷ []) (drop-drop (m * ch) (w * ch) out' ∙ ap (λ (i : ℕ). drop i out') (sym s)) ∙ ap (λ (x : Frame). x ∷ []) last in
    record {
      kept = low ∙ b.kept;
      made = frames_of-add ch m 1 (drop (w * ch) out')
          ∙ ap (λ (x : List Frame). x ++ frames_of ch 1 (drop (m * ch) (drop (w * ch) out')))
          (frames_of-cong ch m (drop (w * ch) out') (drop (w * ch) out) mid ∙ b.made)
          ∙ ap (λ (x : List Frame). fs ++ x) top;
      long = length-paste out to f ch room (omega arith) ∙ b.long;
      fits = omega arith;
    }

-- ---- the outer loop: j tail frames have been consumed, m frames made, from the position s to t

pub record Scanning (ch w : ℕ) (r : Rates) (s : Position) (l : List Frame) (entry out : List ℤ) (j m : ℕ) (t : Position) : Type 0 where
  pub behind : Behind ch w m entry out (scan r j s l)
  pub at : t ≡ steps r j s

pub scanning-start : (ch w : ℕ) (r : Rates) (s : Position) (l : List Frame) (entry : List ℤ) → w * ch ≤ length entry → Scanning ch w r s l entry entry 0 0 s
unfolding scan steps
scanning-start ch w r s l entry h = record { behind = behind-none ch w entry h; at = refl }

-- ---- the inner loop: i of the frames due at the position t have been made of the window x, behind the frames fs

pub record Emitting (ch w : ℕ) (r : Rates) (t : Position) (x : List Frame) (entry out : List ℤ) (fs : List Frame) (m n : ℕ) : Type 0 where
  pub i : ℕ
  pub new : n ≡ t.new + i
  pub within : i ≤ due r t
  pub behind : Behind ch w m entry out (fs ++ emit r i t x)

-- its start: the area as the outer loop has it
unfoldable pub emitting-start : (ch w : ℕ) (r : Rates) (t : Position) (x : List Frame) (out : List ℤ) (m : ℕ) → (w + m) * ch ≤ length out
    → Emitting ch w r t x out out (frames_of ch m (drop (w * ch) out)) m t.new
unfolding emit
emitting-start ch w r t x out m h = record {
  i = 0;
  new = omega arith;
  within = omega arith;
  behind = record { kept = refl; made = sym (append-nil (frames_of ch m (drop (w * ch) out))); long = refl; fits = h };
}

module _ {ch w : ℕ} {r : Rates} {t : Position} {x : List Frame} {entry out : List ℤ} {fs : List Frame} {m n : ℕ}
    (b : Emitting ch w r t x entry out fs m n) where
  -- its turn: the frame at n
  pub emitting-turn : (out' : List ℤ) → b.i < due r t → (w + m) * ch + ch ≤ length entry
      → length (interpolated r (record { old = t.old; new = n }) x) ≡ ch
      → out' ≡ paste out ((w + m) * ch) (interpolated r (record { old = t.old; new = n }) x) ch
      → Emitting ch w r t x entry out' fs (m + 1) (n + 1)
  emitting-turn out' more h l e =
      let f : Frame = interpolated r (record { old = t.old; new = n }) x in
      let made : List Frame = emit r b.i t x in
      let same : f ≡ interpolated r (record { old = t.old; new = t.new + b.i }) x =
      ap (λ (k : ℕ). interpolated r (record { old = t.old; new = k }) x) b.new in
      let snoc : fs ++ made ++ (f ∷ []) ≡ fs ++ emit r (suc b.i) t x =
      append_assoc fs made (f ∷ []) ∙ ap (λ (z : List Frame). fs ++ z) (ap (λ (z : Frame). made ++ (z ∷ [])) same ∙ sym (emit-snoc r b.i t x)) in
      let q = behind-snoc ch w m entry out (fs ++ made) f b.behind l h in
      let q' = subst (Behind ch w (m + 1) entry (paste out ((w + m) * ch) f ch)) snoc q in
      let q'' = subst (λ (z : List ℤ). Behind ch w (m + 1) entry z (fs ++ emit r (suc b.i) t x)) (sym e) q' in
      record { i = suc b.i; new = omega (arith, b.new); within = more; behind = q'' }

-- ---- an inner loop that began at the outer loop's area out₁

module _ {ch w : ℕ} {r : Rates} {s t : Position} {l x : List Frame} {entry out₁ out : List ℤ} {j m₁ m n : ℕ} (a : Scanning ch w r s l entry out₁ j m₁ t)
    (b : Emitting ch w r t x out₁ out (frames_of ch m₁ (drop (w * ch) out₁)) m n) (window : take sinc_filter_points (drop j l) ≡ x) where
  -- as the outer loop sees it
  emitted : Behind ch w m entry out (scan r j s l ++ emit r b.i t x)
  emitted = record {
    kept = b.behind.kept ∙ a.behind.kept;
    made = b.behind.made ∙ ap (λ (z : List Frame). z ++ emit r b.i t x) a.behind.made;
    long = b.behind.long ∙ a.behind.long;
    fits = omega (arith, b.behind.fits, a.behind.long);
  }

  -- all frames due make one tail frame more
  all-due : scan r (suc j) s l ≡ scan r j s l ++ emit r (due r t) t x
  all-due =
      scan-snoc r j s l ∙ ap (λ (z : Position). scan r j s l ++ emit r (due r z) z (take sinc_filter_points (drop j l))) (sym a.at)
      ∙ ap (λ (z : List Frame). scan r j s l ++ emit r (due r t) t z) window

  -- the outer loop's turn
  pub scanning-turn : (t' : Position) → due r t ≤ b.i → t' ≡ next r t → Scanning ch w r s l entry out (j + 1) m t'
  scanning-turn t' most e =
      let all : b.i ≡ due r t = omega (arith, b.within) in
      let made : scan r j s l ++ emit r b.i t x ≡ scan r (suc j) s l = ap (λ (k : ℕ). scan r j s l ++ emit r k t x) all ∙ sym all-due in
      rw add-one (record { behind = subst (Behind ch w m entry out) made emitted; at = e ∙ ap (next r) a.at ∙ sym (steps-snoc r j s) })

  -- no room for a frame that is due, in a scan of k tail frames
  pub scanning-full : (k : ℕ) → b.i < due r t → j < k → length out < (w + m) * ch + ch → NoRoom ch w entry out (scan r k s l)
  scanning-full k more jk h =
      let e : k ≡ suc j + (k - suc j) = omega arith in
      let later : List Frame = scan r (k - suc j) (steps r (suc j) s) (drop (suc j) l) in
      let whole : scan r k s l ≡ scan r (suc j) s l ++ later = ap (λ (z : ℕ). scan r z s l) e ∙ scan-add r (suc j) (k - suc j) s l in
      let n₁ : length (scan r k s l) ≡ length (scan r (suc j) s l) + length later = ap length whole ∙ length-append (scan r (suc j) s l) later in
      let n₂ : length (scan r (suc j) s l) ≡ length (scan r j s l) + due r t =
      ap length all-due ∙ length-append (scan r j s l) (emit r (due r t) t x) ∙ ap (λ (z : ℕ). length (scan r j s l) + z) (length-emit r (due r t) t x) in
      let n₃ : length (scan r j s l) + b.i ≡ m =
      sym (length-append (scan r j s l) (emit r b.i t x) ∙ ap (λ (z : ℕ). length (scan r j s l) + z) (length-emit r b.i t x)) ∙ behind-length emitted in
      let c : w + m + 1 ≤ w + length (scan r k s l) = omega arith in
      record { kept = emitted.kept; over = omega (arith, mul-le-mul_right ch c, emitted.long) }

-- ---- the ends, as the contract says them

module _ {ch w : ℕ} {r : Rates} {s t : Position} {entry out : List ℤ} {j m : ℕ} (tail : ℕ) (stage : List ℤ) where
  pub scan-done : Scanning ch w r s (frames_of ch tail stage) entry out j m t → j ≡ tail - sinc_filter_points
      → ScanEnsures ch r tail w s stage entry out
      (Some (record { made = record { 0 = m }; from = record { 0 = j }; left = record { 0 = tail - j }; at = t }))
  unfolding convert
  scan-done a e =
      let l : List Frame = frames_of ch tail stage in
      let k : j ≡ consumable l = e ∙ ap (λ (i : ℕ). i - sinc_filter_points) (sym (length-frames_of ch tail stage)) in
      record {
        behind = subst (λ (i : ℕ). Behind ch w m entry out (scan r i s l)) k a.behind;
        rest = sym (drop-frames_of ch j tail stage (omega arith)) ∙ ap (λ (i : ℕ). drop i l) k;
        at = a.at ∙ ap (λ (i : ℕ). steps r i s) k;
        within = omega arith;
      }
