-- A mapped list in an area: one element more, from the front; the first k of a list, at the front, and behind a others. Assumes nothing.
use Rattle.std.proofs.Common.{◌≡◌, ℕ, ◌+◌, ◌-◌, ◌<◌, ◌≤◌, List, ◌++◌, map, length, get_or, set, take, drop, refl, sym, ap, ◌∙◌, le_refl, zero-add, append_assoc, arith}
use Rattle.std.proofs.lemmas.List.{take-map}
use lib.Seq.{paste, take-take, drop-drop}
use Rattle.frames.proofs.Pasted.{map-turn}

pub mapped-turn : {A B : Type 0} (f : A → B) (y : A) (d area : List B) (s : List A) (i : ℕ) (v : B) → length s ≤ length d → i < length s
    → area ≡ paste d 0 (map f s) i → v ≡ f (get_or s i y) → set area i v ≡ paste d 0 (map f s) (i + 1)
mapped-turn f y d area s i v n h e is =
    let at : 0 + i ≡ i = zero-add i in
    ap (λ (j : ℕ). set area j v) (sym at) ∙ (λ k. set (e k) (0 + i) (is k)) ∙ map-turn f y d s 0 i (omega arith) h

-- the front of an area, made of the first k of a list
pub front-pasted : {A B : Type 0} (f : A → B) (d : List B) (s : List A) (k : ℕ) → map f (take k s) ++ drop k d ≡ paste d 0 (map f s) k
front-pasted f d s k = (λ i. sym (take-map f k s) i ++ drop (sym (zero-add k) i) d)

-- a part of an area, the k places from a on, made of the first k of a list
pub part-pasted : {A B : Type 0} (f : A → B) (d : List B) (s : List A) (a k : ℕ) (part : List B) → part ≡ map f (take k s)
    → take a d ++ (part ++ drop (a + k - a) (drop a d)) ≡ paste d a (map f s) k
part-pasted f d s a k part is =
    let long : a + k - a ≡ k = omega arith in
    let behind : drop (a + k - a) (drop a d) ≡ drop (a + k) d = ap (λ (n : ℕ). drop n (drop a d)) long ∙ drop-drop k a d in
    (λ i. take a d ++ ((is ∙ sym (take-map f k s)) i ++ behind i)) ∙ sym (append_assoc (take a d) (take k (map f s)) (drop (a + k) d))

-- the same of a copy of the first k, which sees no further than it reaches
pub front-copied : {A B : Type 0} (f : A → B) (d : List B) (s part : List A) (k n : ℕ) → part ≡ take k s → n ≡ k
    → paste d 0 (map f part) n ≡ paste d 0 (map f s) k
front-copied {A} {B} f d s part k n is many =
    (λ i. paste d 0 (map f (is i)) (many i)) ∙ sym (front-pasted f d (take k s) k)
    ∙ ap (λ (l : List A). map f l ++ drop k d) (take-take k k s (le_refl k)) ∙ front-pasted f d s k

pub behind-copied : {A B : Type 0} (f : A → B) (d : List B) (s part : List A) (a k n : ℕ) → part ≡ take k s → n ≡ k
    → take a d ++ paste (drop a d) 0 (map f part) n ≡ paste d a (map f s) k
behind-copied {A} {B} f d s part a k n is many =
    let long : k ≡ a + k - a = omega arith in
    ap (λ (r : List B). take a d ++ r) (front-copied f (drop a d) s part k n is many ∙ sym (front-pasted f (drop a d) s k))
    ∙ (λ i. take a d ++ (map f (take k s) ++ drop (long i) (drop a d))) ∙ part-pasted f d s a k (map f (take k s)) refl
