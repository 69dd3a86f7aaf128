-- Laws of words: the eight bytes that a word is read from, words put one after another, and how many octets a word and a name have.
-- Assumes nothing.
use Prim.Native.Nat.{ℕ, zero, suc, ◌+◌, ◌-◌, ◌*◌, ◌/◌, ◌%◌, ◌^◌, ◌≤◌, ◌<◌}
use mathlib.Core.Path.{◌≡◌, refl, sym, ap, subst, ◌∙◌}
use mathlib.Core.Logic.{⊎_elim}
use mathlib.Core.Bool.{Bool, true, false, cond}
use mathlib.Core.List.{List, [], ◌∷◌, ◌++◌, append_assoc, append-nil}
use native.Mathlib.Omega.{arith}
use native.Mathlib.Nat.{add-suc, add-zero, pow-suc, div-div-eq-div-mul}
use lib.ListN.{length, take, drop, get_or, replicate, length-append, length-drop, drop_of_length-le}
use lib.Seq.{drop-cons, length-take-le, take_all}
use lib.Dec.{eqb, leb, ltb}
use lib.Pow.{pow_mono, pow-add}
use lib.Count.{count_leading_zeros, leading_length}
use borrow.Author.Tests.{eqb-true, eqb-false, leb-true, leb-false, ltb-true, ltb-false}
use Rattle.std.specs.Int.{from_le_bytes, to_le_bytes}
use mir.Syntax.{w64}
use Rattle.lists.specs.Put.{put}
use Rattle.lists.proofs.Tests.{bool_cases}
use Rattle.lists.proofs.PutLaws.{put-more, put_front}
use Rattle.names.specs.declared.Name.{Name}
use Rattle.names.specs.Names.{octets, spells, name_octets, name_in, name_of, behind, without_zeros, name_length}
use Rattle.names.specs.Inner.{word_length}
use Rattle.names.proofs.NameLaws.{length-octets, without-short, without-zeros, without-behind, zero_word}

-- EIGHT BYTES

module _ (s : List ℕ) (at : ℕ) where
  byte-first : (i k : ℕ) → at + i < length s → spells (take (suc k) (drop (at + i) s)) ≡ get_or s (at + i) 0 + 256 * spells (take k (drop (at + suc i) s))
  unfolding spells
  byte-first i k h = rw (add-suc at i, drop-cons s (at + i) 0 h)

  pub word_bytes : at + 8 ≤ length s
      → spells (take 8 (drop at s))
      ≡ get_or s at 0 + 256 * get_or s (at + 1) 0 + 65536 * get_or s (at + 2) 0 + 16777216 * get_or s (at + 3) 0 + 4294967296 * get_or s (at + 4) 0
      + 1099511627776 * get_or s (at + 5) 0 + 281474976710656 * get_or s (at + 6) 0 + 72057594037927936 * get_or s (at + 7) 0
  unfolding spells
  word_bytes h =
      let first : spells (take 8 (drop at s)) ≡ get_or s at 0 + 256 * spells (take 7 (drop (at + 1) s)) =
      subst (λ (i : ℕ). spells (take 8 (drop i s)) ≡ get_or s i 0 + 256 * spells (take 7 (drop (at + 1) s))) (add-zero at) (byte-first 0 7 (omega arith)) in
      omega (
        arith,
        first,
        byte-first 1 6 (omega arith),
        byte-first 2 5 (omega arith),
        byte-first 3 4 (omega arith),
        byte-first 4 3 (omega arith),
        byte-first 5 2 (omega arith),
        byte-first 6 1 (omega arith),
        byte-first 7 0 (omega arith),
      )

-- The library's conversions say the same.
pub le-spells : (bs : List ℕ) → 8 ≤ length bs → from_le_bytes w64 bs ≡ spells (take 8 bs)
le-spells bs h = omega (arith, word_bytes bs 0 (omega arith))

pub le-word : (bs s : List ℕ) (at : ℕ) → at + 8 ≤ length s → bs ≡ take 8 (drop at s) → from_le_bytes w64 bs ≡ spells (take 8 (drop at s))
le-word bs s at h e =
    let size : length bs ≡ 8 = ap length e ∙ length-take-le 8 (drop at s) (omega (arith, length-drop at s)) in
    le-spells bs (omega arith) ∙ ap spells (take_all 8 bs (omega arith) ∙ e)

pub le-octets : (n : ℕ) → n < 18446744073709551616 → to_le_bytes w64 n ≡ octets 8 n
unfolding octets
le-octets n h =
    let last : n / 72057594037927936 % 256 ≡ n / 72057594037927936 = omega arith in
    simp (div-div-eq-div-mul, last)

-- Three words put one after another.
pub three-put : (l l₁ l₂ l₃ : List ℕ) (at a b c : ℕ) → l₁ ≡ put l at (octets 8 a) → l₂ ≡ put l₁ (at + 8) (octets 8 b) → l₃ ≡ put l₂ (at + 16) (octets 8 c)
    → l₃ ≡ put l at (octets 8 a ++ (octets 8 b ++ octets 8 c))
three-put l l₁ l₂ l₃ at a b c e₁ e₂ e₃ =
    let two : l₂ ≡ put l at (octets 8 a ++ octets 8 b) = put-more l l₁ l₂ at (octets 8 a) (at + 8) (octets 8 b) e₁ (omega (arith, length-octets 8 a)) e₂ in
    put-more l l₂ l₃ at (octets 8 a ++ octets 8 b) (at + 16) (octets 8 c) two (omega (arith, length-append (octets 8 a) (octets 8 b), length-octets 8 a, length-octets 8 b)) e₃
    ∙ ap (put l at) (append_assoc (octets 8 a) (octets 8 b) (octets 8 c))

-- OCTETS PUT INTO ZEROS

pub put_all : (xs l : List ℕ) → length xs ≡ length l → put l 0 xs ≡ xs
put_all xs l e =
    put_front xs l (omega arith) ∙ ap (λ (r : List ℕ). xs ++ r) (drop_of_length-le l {i = length xs} (omega arith)) ∙ append-nil xs

drop-zeros : (m k : ℕ) → drop m (replicate {A = ℕ} k 0) ≡ replicate (k - m) 0
drop-zeros zero k = let all : k - 0 ≡ k = omega arith in ap (λ (j : ℕ). replicate j 0) (sym all)
drop-zeros (suc m) zero = let none : 0 - suc m ≡ 0 = omega arith in ap (λ (j : ℕ). replicate j 0) (sym none)
drop-zeros (suc m) (suc k) = let fewer : suc k - suc m ≡ k - m = omega arith in drop-zeros m k ∙ ap (λ (j : ℕ). replicate j 0) (sym fewer)

pub copied-name : (xs l : List ℕ) → l ≡ xs ++ drop (length xs) (replicate {A = ℕ} 24 0) → name_in l ≡ name_of xs
copied-name xs l e = ap name_in (e ∙ ap (λ (q : List ℕ). xs ++ q) (drop-zeros (length xs) 24))

-- HOW MANY OCTETS A WORD HAS

-- A number is no smaller than its octets need, those left of it being w.
abbrev Left : ℕ → List ℕ → Type 0
Left n w = (j : ℕ) → length w ≡ suc j → 256 ^ j ≤ n

-- One octet, and one octet before others: the number is no smaller than that, and it is below what they hold.
module _ (x : ℕ) where
  one-least : Left x (behind x [])
  one-least = cases (eqb x 0) refl
    where
      cases : (t : Bool) → eqb x 0 ≡ t → Left x (cond t [] (x ∷ []))
      cases true t j e = absurd (omega arith)
      cases false t zero e = let some : x ≡ 0 → ⊥ = eqb-false x 0 t in omega arith
      cases false t (suc j) e = absurd (omega arith)

  one-most : x < 256 → x < 256 ^ length (behind x [])
  one-most h = cases (eqb x 0) refl
    where
      cases : (t : Bool) → eqb x 0 ≡ t → x < 256 ^ length (cond {A = List ℕ} t [] (x ∷ []))
      cases true t = let none : x ≡ 0 = eqb-true x 0 t in omega arith
      cases false t = h

module _ (n : ℕ) where
  next-least : (w : List ℕ) → Left (n / 256) w → Left n (behind (n % 256) w)
  next-least [] h j e = omega (arith, one-least (n % 256) j e)
  next-least (y ∷ ys) h j e =
      let same : j ≡ suc (length ys) = omega arith in
      omega (arith, h (length ys) refl, ap (λ (i : ℕ). 256 ^ i) same, pow-suc 256 (length ys))

  next-most : (w : List ℕ) → n / 256 < 256 ^ length w → n < 256 ^ length (behind (n % 256) w)
  next-most [] h =
      let small : n < 256 = omega arith in
      let same : n % 256 ≡ n = omega arith in
      omega (arith, same, one-most (n % 256) (omega arith))
  next-most (y ∷ ys) h = omega (arith, pow-suc 256 (suc (length ys)))

octets-least : (k n : ℕ) → Left n (without_zeros (octets (suc k) n))
unfolding octets without_zeros
octets-least zero n = one-least n
octets-least (suc k) n = next-least n (without_zeros (octets (suc k) (n / 256))) (octets-least k (n / 256))

octets-most : (k n : ℕ) → n < 256 ^ suc k → n < 256 ^ length (without_zeros (octets (suc k) n))
unfolding octets without_zeros
octets-most zero n h = one-most n h
octets-most (suc k) n h = next-most n (without_zeros (octets (suc k) (n / 256))) (octets-most k (n / 256) (omega (arith, pow-suc 256 (suc k))))

-- A word of j octets is below 256 ^ j, and not below 256 ^ (j - 1).
module _ (w : ℕ) where
  pub word-short : word_length w ≤ 8
  word-short = omega (arith, without-short (octets 8 w), length-octets 8 w)

  pub word-least : (j : ℕ) → word_length w ≡ suc j → 256 ^ j ≤ w
  word-least = octets-least 7 w

  pub word-most : w < 18446744073709551616 → w < 256 ^ word_length w
  word-most = octets-most 7 w

-- Powers of 256 as powers of 2.
octets-bits : (j : ℕ) → 256 ^ j ≡ 2 ^ (8 * j)
octets-bits zero = refl
octets-bits (suc j) =
    let e : 8 * suc j ≡ 8 * j + 8 = omega arith in
    pow-suc 256 j ∙ ap (λ (m : ℕ). m * 256) (octets-bits j) ∙ sym (ap (λ (i : ℕ). 2 ^ i) e ∙ pow-add 2 (8 * j) 8)

-- The word's bits up to the highest that is set, in octets.
module _ (w m : ℕ) (small : w < 18446744073709551616) where
  bits_most : 2 ^ m ≤ 2 * w + 1 → m ≤ 8 * word_length w
  bits_most h =
      ⊎_elim (λ (b : leb m (8 * word_length w) ≡ true). leb-true m (8 * word_length w) b)
      (λ (b : leb m (8 * word_length w) ≡ false).
      let more = leb-false m (8 * word_length w) b in
      absurd (omega (arith, h, word-most w small, octets-bits (word_length w), pow-suc 2 (8 * word_length w), pow_mono {i = suc (8 * word_length w)} {j = m} more)))
      (bool_cases (leb m (8 * word_length w)))

  bits-least : w < 2 ^ m → (j : ℕ) → word_length w ≡ suc j → 8 * j < m
  bits-least h j e =
      ⊎_elim (λ (b : ltb (8 * j) m ≡ true). ltb-true (8 * j) m b)
      (λ (b : ltb (8 * j) m ≡ false).
      let fewer = ltb-false (8 * j) m b in absurd (omega (arith, h, word-least w j e, octets-bits j, pow_mono {i = m} {j = 8 * j} fewer)))
      (bool_cases (ltb (8 * j) m))

pub word-zeros : (w : ℕ) → w < 18446744073709551616 → 8 - count_leading_zeros 64 w / 8 ≡ word_length w
word-zeros w small =
    let t = leading_length 64 w small in
    let most : t.0 ≤ 8 * word_length w = bits_most w t.0 small t.3 in
    cases (count_leading_zeros 64 w) t.0 t.1 (word_length w) (word-short w) most (bits-least w t.0 small t.2)
  where
    cases : (z m : ℕ) → z + m ≡ 64 → (j : ℕ) → j ≤ 8 → m ≤ 8 * j → ((i : ℕ) → j ≡ suc i → 8 * i < m) → 8 - z / 8 ≡ j
    cases z m e zero h most least = omega arith
    cases z m e (suc i) h most least = omega (arith, least i refl)

-- HOW MANY OCTETS A NAME HAS

word_none : (w : ℕ) → w ≡ 0 → word_length w ≡ 0
unfolding octets without_zeros
word_none w e = rw e

word_some : (w : ℕ) → (w ≡ 0 → ⊥) → 0 < word_length w
word_some w h =
    ⊎_elim (λ (b : ltb 0 (word_length w) ≡ true). ltb-true 0 (word_length w) b)
    (λ (b : ltb 0 (word_length w) ≡ false).
    let none = ltb-false 0 (word_length w) b in absurd (h (zero_word w (omega arith))))
    (bool_cases (ltb 0 (word_length w)))

module _ (n : Name) where
  pub length-third : (n.third ≡ 0 → ⊥) → name_length n ≡ 16 + word_length n.third
  unfolding name_octets
  length-third h =
      let a = octets 8 n.first in
      let b = octets 8 n.second in
      let c = octets 8 n.third in
      let inner : without_zeros (b ++ c) ≡ b ++ without_zeros c = without-behind b c (word_some n.third h) in
      let size : length (without_zeros (b ++ c)) ≡ 8 + word_length n.third = ap length inner ∙ omega (arith, length-append b (without_zeros c), length-octets 8 n.second) in
      omega (arith, ap length (without-behind a (b ++ c) (omega arith)), length-append a (without_zeros (b ++ c)), length-octets 8 n.first)

  pub length-second : n.third ≡ 0 → (n.second ≡ 0 → ⊥) → name_length n ≡ 8 + word_length n.second
  unfolding name_octets
  length-second e h =
      let a = octets 8 n.first in
      let b = octets 8 n.second in
      let c = octets 8 n.third in
      let inner : without_zeros (b ++ c) ≡ without_zeros b = without-zeros b c (word_none n.third e) in
      omega (
        arith,
        ap length (without-behind a (b ++ c) (omega (arith, ap length inner, word_some n.second h))),
        length-append a (without_zeros (b ++ c)),
        ap length inner,
        length-octets 8 n.first,
      )

  pub length-first : n.third ≡ 0 → n.second ≡ 0 → name_length n ≡ word_length n.first
  unfolding name_octets
  length-first e f =
      let a = octets 8 n.first in
      let b = octets 8 n.second in
      let c = octets 8 n.third in
      let inner : without_zeros (b ++ c) ≡ without_zeros b = without-zeros b c (word_none n.third e) in
      ap length (without-zeros a (b ++ c) (ap length inner ∙ word_none n.second f))
