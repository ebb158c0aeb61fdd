-- How long a crossfade is; one sample and one frame more of it in an area; the frames of a skip and of an insert there. Assumes nothing.
use mathlib.Core.Path.{◌≡◌, refl, sym, ap, ◌∙◌}
use mathlib.Core.List.{List, [], ◌∷◌, ◌++◌}
use Prim.Native.Nat.{ℕ, zero, suc, ◌+◌, ◌*◌, ◌≤◌, ◌<◌}
use native.Mathlib.Omega.{arith}
use native.Mathlib.Nat.{zero-mul, suc-mul, add-mul, mul-one}
use native.Mathlib.Numerals.{add-one}
use lib.IntN.{ℤ, pos}
use lib.ListN.{length, drop, get_or, set, length-append, length-drop}
use lib.Seq.{paste, get_or-drop, drop-drop, length-take-le}
use mir.Syntax.{w16}
use mir.Val.{SFits}
use mir.Facts.{to_z-of_z}
use Rattle.laws.proofs.Widening.{i16}
use Rattle.crossfade.specs.Crossfade.{crossfade_sample, crossfade_frame, crossfade_to, overlap_add}
use Rattle.crossfade.specs.Crossfade.{copy_unmodified_samples, skip_pitch_period, insert_pitch_period}
use Rattle.frames.proofs.Pasted.{paste-snoc, paste-append}

-- ---- lengths

crossfade_frame-length : (k t : ℕ) (down up : List ℤ) (n : ℕ) → length (crossfade_frame k t down up n) ≡ n
unfolding crossfade_frame
crossfade_frame-length k t down up zero = refl
crossfade_frame-length k t down up (suc n) = rw length-append (omega (arith, crossfade_frame-length k t down up n))

crossfade_to-length : (k channels : ℕ) (down up : List ℤ) (t : ℕ) → length (crossfade_to k channels down up t) ≡ t * channels
unfolding crossfade_to
crossfade_to-length k channels down up zero = sym (zero-mul channels)
crossfade_to-length k channels down up (suc t) =
    let n = crossfade_frame-length k t (drop (t * channels) down) (drop (t * channels) up) channels in
    rw length-append (omega (arith, crossfade_to-length k channels down up t, suc-mul t channels))

pub overlap_add-length : (k channels : ℕ) (down up : List ℤ) → length (overlap_add k channels down up) ≡ k * channels
unfolding overlap_add
overlap_add-length k channels down up = crossfade_to-length k channels down up k

pub copy_unmodified_samples-length : (channels : ℕ) (x : List ℤ) (at n : ℕ) → (at + n) * channels ≤ length x
    → length (copy_unmodified_samples channels x at n) ≡ n * channels
unfolding copy_unmodified_samples
copy_unmodified_samples-length channels x at n h =
    length-take-le (n * channels) (drop (at * channels) x) (omega (arith, add-mul at n channels, length-drop (at * channels) x))

-- the front of what is left of one channel behind t frames
front-is : (x : List ℤ) (a t : ℕ) → get_or (drop (t * 1) (drop a x)) 0 (pos 0) ≡ get_or x (a + t) (pos 0)
front-is x a t =
    let e : a + (t * 1 + 0) ≡ a + t = omega arith in
    get_or-drop (t * 1) (drop a x) 0 (pos 0) ∙ get_or-drop a x (t * 1 + 0) (pos 0) ∙ ap (λ (n : ℕ). get_or x n (pos 0)) e

-- ---- what stands at the places `down` and `up` of the input x, written at the place `to` of the area

-- a value that the code has as the sample of step t: from the two samples at the places `down` and `up`, read back from their bits
pub record Faded (x : List ℤ) (down up k t : ℕ) (v : ℤ) : Type 0 where
  pub down_sample : SFits w16 (get_or x down (pos 0))
  pub up_sample : SFits w16 (get_or x up (pos 0))
  pub sample : SFits w16 v
  pub value : v ≡ crossfade_sample (i16 (get_or x down (pos 0))) (i16 (get_or x up (pos 0))) k t

module _ (x area : List ℤ) (down up to k : ℕ) where
  -- one sample more behind the samples s, as both loops write it into the area as it stands; s' is s with it
  sample-on : (s s' : List ℤ) (t i : ℕ) {v : ℤ} {now : List ℤ} → length s ≡ i
      → s' ≡ s ++ (crossfade_sample (get_or x (down + i) (pos 0)) (get_or x (up + i) (pos 0)) k t ∷ []) → to + i < length area
      → Faded x (down + i) (up + i) k t v → now ≡ paste area to s i → set now (to + i) (i16 v) ≡ paste area to s' (i + 1)
  sample-on s s' t i {v} {now} n e h f same =
      let is : i16 v ≡ crossfade_sample (get_or x (down + i) (pos 0)) (get_or x (up + i) (pos 0)) k t =
      to_z-of_z f.sample ∙ f.value ∙ (λ j. crossfade_sample (to_z-of_z f.down_sample j) (to_z-of_z f.up_sample j) k t) in
      (λ j. set (same j) (to + i) (is j))
      ∙ paste-snoc area s to i (crossfade_sample (get_or x (down + i) (pos 0)) (get_or x (up + i) (pos 0)) k t) n h
      ∙ (λ j. paste area to (sym e j) (sym (add-one i) j))

  -- one sample more of frame t
  pub frame_on : (t i : ℕ) {v : ℤ} {now : List ℤ} → to + i < length area → Faded x (down + i) (up + i) k t v
      → now ≡ paste area to (crossfade_frame k t (drop down x) (drop up x) i) i
      → set now (to + i) (i16 v) ≡ paste area to (crossfade_frame k t (drop down x) (drop up x) (i + 1)) (i + 1)
  unfolding crossfade_frame
  frame_on t i h f same =
      let l : List ℤ = crossfade_frame k t (drop down x) (drop up x) i in
      let next : crossfade_frame k t (drop down x) (drop up x) (i + 1)
      ≡ l ++ (crossfade_sample (get_or x (down + i) (pos 0)) (get_or x (up + i) (pos 0)) k t ∷ []) =
      ap (crossfade_frame k t (drop down x) (drop up x)) (add-one i)
      ∙ (λ j. l ++ (crossfade_sample (get_or-drop down x i (pos 0) j) (get_or-drop up x i (pos 0) j) k t ∷ [])) in
      sample-on l (crossfade_frame k t (drop down x) (drop up x) (i + 1)) t i (crossfade_frame-length k t (drop down x) (drop up x) i) next h f same

  -- one sample more of one channel
  pub mono_on : (i : ℕ) {v : ℤ} {now : List ℤ} → to + i < length area → Faded x (down + i) (up + i) k i v
      → now ≡ paste area to (crossfade_to k 1 (drop down x) (drop up x) i) i
      → set now (to + i) (i16 v) ≡ paste area to (crossfade_to k 1 (drop down x) (drop up x) (i + 1)) (i + 1)
  unfolding crossfade_to crossfade_frame
  mono_on i h f same =
      let l : List ℤ = crossfade_to k 1 (drop down x) (drop up x) i in
      let one : i * 1 ≡ i = omega arith in
      let next : crossfade_to k 1 (drop down x) (drop up x) (i + 1)
      ≡ l ++ (crossfade_sample (get_or x (down + i) (pos 0)) (get_or x (up + i) (pos 0)) k i ∷ []) =
      ap (crossfade_to k 1 (drop down x) (drop up x)) (add-one i)
      ∙ (λ j. l ++ (crossfade_sample (front-is x down i j) (front-is x up i j) k i ∷ [])) in
      sample-on l (crossfade_to k 1 (drop down x) (drop up x) (i + 1)) i i (crossfade_to-length k 1 (drop down x) (drop up x) i ∙ one) next h f same

  -- frame t behind the samples before it
  pub crossfade-on : (channels t past : ℕ) {now now' : List ℤ} → past ≡ t * channels → to + past + channels ≤ length area
      → now ≡ paste area to (crossfade_to k channels (drop down x) (drop up x) t) past
      → now' ≡ paste now (to + past) (crossfade_frame k t (drop (down + past) x) (drop (up + past) x) channels) channels
      → now' ≡ paste area to (crossfade_to k channels (drop down x) (drop up x) (t + 1)) (past + channels)
  unfolding crossfade_to
  crossfade-on channels t past e h same wrote =
      let l : List ℤ = crossfade_to k channels (drop down x) (drop up x) t in
      let f : List ℤ = crossfade_frame k t (drop (down + past) x) (drop (up + past) x) channels in
      let n : length l ≡ past = crossfade_to-length k channels (drop down x) (drop up x) t ∙ sym e in
      let m = crossfade_frame-length k t (drop (down + past) x) (drop (up + past) x) channels in
      let next : f ≡ crossfade_frame k t (drop (t * channels) (drop down x)) (drop (t * channels) (drop up x)) channels =
      (λ j. crossfade_frame k t (drop (down + e j) x) (drop (up + e j) x) channels)
      ∙ sym (λ j. crossfade_frame k t (drop-drop (t * channels) down x j) (drop-drop (t * channels) up x j) channels) in
      wrote ∙ ap (λ (z : List ℤ). paste z (to + past) f channels) same
      ∙ paste-append area l f to past channels n m h ∙ ap (λ (z : List ℤ). paste area to (l ++ z) (past + channels)) next
      ∙ ap (λ (i : ℕ). paste area to (crossfade_to k channels (drop down x) (drop up x) i) (past + channels)) (sym (add-one t))

  -- all of them
  pub crossfade-all : (channels : ℕ) {t past : ℕ} {now : List ℤ} → past ≡ t * channels → t ≡ k
      → now ≡ paste area to (crossfade_to k channels (drop down x) (drop up x) t) past
      → now ≡ paste area to (overlap_add k channels (drop down x) (drop up x)) (k * channels)
  unfolding overlap_add
  crossfade-all channels e all same =
      let past_is = e ∙ ap (λ (n : ℕ). n * channels) all in
      same ∙ (λ j. paste area to (crossfade_to k channels (drop down x) (drop up x) (all j)) (past_is j))

-- the n samples of one channel are its k frames
pub one-channel : (area down up : List ℤ) (to : ℕ) {n k channels : ℕ} {exit : List ℤ} → n ≡ k → channels ≡ 1
    → exit ≡ paste area to (overlap_add n 1 down up) n → exit ≡ paste area to (overlap_add k channels down up) (k * channels)
one-channel area down up to {n} {k} {channels} e one h =
    let all : n ≡ k * channels = e ∙ sym (ap (λ (m : ℕ). k * m) one ∙ mul-one k) in
    h ∙ (λ j. paste area to (overlap_add (e j) (sym one j) down up) (all j))

-- ---- the frames of a step at frame `at` of the input x, written at the place `to` of the area; `here` and `there` are the samples of the
-- frames `at` and `at + period`, `past` those of the period

module _ (x area : List ℤ) (channels at period k to : ℕ) {here there : ℕ} (h : here ≡ at * channels) (t : there ≡ (at + period) * channels) where
  pub skip-on : {exit : List ℤ} → exit ≡ paste area to (overlap_add k channels (drop here x) (drop there x)) (k * channels)
      → exit ≡ paste area to (skip_pitch_period channels x at period k) (k * channels)
  unfolding skip_pitch_period
  skip-on e = e ∙ (λ j. paste area to (overlap_add k channels (drop (h j) x) (drop (t j) x)) (k * channels))

  -- the crossfade of an insert stays within the input and the area
  pub insert-within : {past : ℕ} → (at + (period + k)) * channels ≤ length x → to + (period + k) * channels ≤ length area → past ≡ period * channels
      → (there + k * channels ≤ length x) × (here + k * channels ≤ length x) × (to + past + k * channels ≤ length area)
  insert-within within room p = (omega arith, omega arith, omega arith)

  pub insert-on : {past : ℕ} {copied exit : List ℤ} → (at + (period + k)) * channels ≤ length x → to + (period + k) * channels ≤ length area
      → past ≡ period * channels → copied ≡ paste area to (copy_unmodified_samples channels x at period) (period * channels)
      → exit ≡ paste copied (to + past) (overlap_add k channels (drop there x) (drop here x)) (k * channels)
      → exit ≡ paste area to (insert_pitch_period channels x at period k) ((period + k) * channels)
  unfolding insert_pitch_period
  insert-on {past} within room p c e =
      let down : List ℤ = drop ((at + period) * channels) x in
      let up : List ℤ = drop (at * channels) x in
      let front : List ℤ = copy_unmodified_samples channels x at period in
      let fade : List ℤ = overlap_add k channels down up in
      let count : period * channels + k * channels ≡ (period + k) * channels = sym (add-mul period k channels) in
      let n = copy_unmodified_samples-length channels x at period (omega arith) in
      let m = overlap_add-length k channels down up in
      e ∙ (λ j. paste (c j) (to + p j) (overlap_add k channels (drop (t j) x) (drop (h j) x)) (k * channels))
      ∙ paste-append area front fade to (period * channels) (k * channels) n m (omega arith)
      ∙ ap (paste area to (front ++ fade)) count
