-- Words at their places in a line.
-- Assumes nothing.
use Prim.Native.Nat.{ℕ, suc, ◌+◌, ◌-◌, ◌≤◌, ◌<◌}
use native.Mathlib.Omega.{arith}
use mathlib.Core.Path.{◌≡◌, refl, sym, ap, ◌∙◌}
use mathlib.Core.Bool.{Bool, true, false, cond}
use mathlib.Core.List.{List, [], ◌∷◌}
use lib.ListN.{length, take, drop, get_or, length-drop}
use lib.Seq.{drop-drop, length-take-le, get_or-take, get_or-drop}
use native.Mathlib.Nat.{add-zero}
use lib.Dec.{eqb, ltb}
use borrow.Author.Tests.{eq-eqb, ne_eqb, ltb-true, ltb-false}
use Rattle.std.specs.Prelude.{◌==◌}
use Rattle.std.specs.List.{prefix_len}
use Rattle.octets.specs.Seeking.{index_of}
use Rattle.console_words.specs.Words.{up_to, from_on, skip_spaces, empty?, between, NextWord}

-- Without the spaces in front.
by_space : (b : Bool) (n x : ℕ) (xs : List ℕ) → drop (cond b (1 + n) 0) (x ∷ xs) ≡ cond b (drop n xs) (x ∷ xs)
by_space true n x xs = let e : 1 + n ≡ suc n = omega arith in ap (λ (k : ℕ). drop k (x ∷ xs)) e
by_space false n x xs = refl

pub spaces-skipped : (xs : List ℕ) → drop (prefix_len (λ (x : ℕ). x == 32) xs) xs ≡ skip_spaces xs
unfolding skip_spaces
spaces-skipped [] = refl
spaces-skipped (x ∷ xs) = by_space (x == 32) (prefix_len (λ (x : ℕ). x == 32) xs) x xs ∙ ap (λ (l : List ℕ). cond (x == 32) l (x ∷ xs)) (spaces-skipped xs)

-- Where the first b stands, from a place on.
module _ (s : List ℕ) (from b r : ℕ) (place : r ≡ from + index_of b (drop from s)) where
  pub found_before : between from r s ≡ up_to b (drop from s)
  unfolding up_to
  found_before = let e : r - from ≡ index_of b (drop from s) = omega (arith, place) in ap (λ (k : ℕ). take k (drop from s)) e

  pub found-rest : drop r s ≡ from_on b (drop from s)
  unfolding from_on
  found-rest = ap (λ (k : ℕ). drop k s) place ∙ sym (drop-drop (index_of b (drop from s)) from s)

pub found-first : (s : List ℕ) (b r : ℕ) → r ≡ 0 + index_of b (drop 0 s) → take r s ≡ up_to b s
found-first s b r place = let e : r ≡ r - 0 = omega arith in ap (λ (k : ℕ). take k s) e ∙ found_before s 0 b r place

pub word_at : (s : List ℕ) (from start end : ℕ) → from ≤ start → drop start s ≡ skip_spaces (drop from s) → end ≡ start + index_of 32 (drop start s) → end ≤ length s → NextWord s from (record { start = start; end = end })
word_at s from start end later skipped found inside =
    record {
      later = later;
      ordered = omega arith;
      inside = inside;
      word = found_before s start 32 end found ∙ ap (up_to 32) skipped;
      rest = found-rest s start 32 end found ∙ ap (from_on 32) skipped;
    }

pub ends_at : (s : List ℕ) (p : ℕ) (xs : List ℕ) → p ≤ length s → drop p s ≡ xs → eqb p (length s) ≡ empty? xs
ends_at s p [] le e = eq-eqb p (length s) (omega (arith, length-drop p s, ap length e))
ends_at s p (x ∷ xs) le e = ne_eqb p (length s) (λ h. absurd (omega (arith, length-drop p s, ap length e)))

-- Nothing stands between two places that are the same, and something between others.
pub nothing-between : (s : List ℕ) (start end : ℕ) → start ≡ end → empty? (between start end s) ≡ true
nothing-between s start end e = let z : end - start ≡ 0 = omega arith in ap (λ (k : ℕ). empty? (take k (drop start s))) z

some_of : (xs : List ℕ) → 0 < length xs → empty? xs ≡ false
some_of [] lt = absurd (omega arith)
some_of (x ∷ xs) lt = refl

pub length-between : (s : List ℕ) (start end : ℕ) → start ≤ end → end ≤ length s → length (between start end s) ≡ end - start
length-between s start end le inside = length-take-le (end - start) (drop start s) (omega (arith, length-drop start s))

apart : (a b : ℕ) → a ≤ b → (a ≡ b → ⊥) → a < b
apart a b le k = by (ltb a b) refl
  where
    by : (t : Bool) → ltb a b ≡ t → a < b
    by true e = ltb-true a b e
    by false e = absurd (k (omega (arith, ltb-false a b e)))

pub some-between : (s : List ℕ) (start end : ℕ) → start ≤ end → end ≤ length s → (start ≡ end → ⊥) → empty? (between start end s) ≡ false
some-between s start end le inside k = some_of (between start end s) (omega (arith, length-between s start end le inside, apart start end le k))

pub first-between : (s : List ℕ) (start end : ℕ) → start ≤ end → (start ≡ end → ⊥) → get_or (between start end s) 0 0 ≡ get_or s start 0
first-between s start end le k = get_or-take (end - start) (drop start s) 0 0 (omega (arith, apart start end le k)) ∙ get_or-drop start s 0 0 ∙ ap (λ (i : ℕ). get_or s i 0) (add-zero start)
