-- Counts read from octets, one after another.
-- Assumes nothing.
use Prim.Native.Nat.{ℕ, zero, suc, ◌+◌, ◌*◌, ◌<◌}
use native.Mathlib.Omega.{arith}
use native.Mathlib.Numerals.{add-one}
use mathlib.Core.Path.{◌≡◌, refl, sym, ap, ap₂, ◌∙◌}
use mathlib.Core.List.{List, [], ◌∷◌, ◌++◌}
use lib.ListN.{length, take, drop, get_or, set}
use lib.Seq.{take-suc-set, get_or-drop, drop-drop}
use Rattle.counts.specs.Counts.{counted_lengths}
use Rattle.console_script.specs.CountOctets.{numbers_in, rows_in}

-- One more is stored behind those that are read.
stored : {A : Type 0} (f : ℕ → List A) (l : List A) (k : ℕ) (v : A) → k < length l → take k l ≡ f k → f k ++ (v ∷ []) ≡ f (suc k) → take (k + 1) (set l k v) ≡ f (k + 1)
stored f l k v lt e more = ap (λ (n : ℕ). take n (set l k v)) (add-one k) ∙ take-suc-set l k v lt ∙ ap (λ x. x ++ (v ∷ [])) e ∙ more ∙ ap f (sym (add-one k))

numbers_more : (j : ℕ) (s : List ℕ) → numbers_in j s ++ ((get_or s (2 * j) 0 + 256 * get_or s (2 * j + 1) 0) ∷ []) ≡ numbers_in (suc j) s
unfolding numbers_in
numbers_more zero s = refl
numbers_more (suc j) s =
    let low : 2 + 2 * j ≡ 2 * suc j = omega arith in
    let high : 2 + (2 * j + 1) ≡ 2 * suc j + 1 = omega arith in
    ap (λ (l : List ℕ). (get_or s 0 0 + 256 * get_or s 1 0) ∷ l)
    (ap₂ (λ (a b : ℕ). numbers_in j (drop 2 s) ++ ((a + 256 * b) ∷ [])) (ap (λ (k : ℕ). get_or s k 0) (sym low) ∙ sym (get_or-drop 2 s (2 * j) 0)) (ap (λ (k : ℕ). get_or s k 0) (sym high) ∙ sym (get_or-drop 2 s (2 * j + 1) 0))
    ∙ numbers_more j (drop 2 s))

pub number-stored : (octets : List ℕ) (at : ℕ) (row : List ℕ) (j v : ℕ) → j < length row → take j row ≡ numbers_in j (drop at octets) → v ≡ get_or octets (at + 2 * j) 0 + 256 * get_or octets (at + 2 * j + 1) 0
    → take (j + 1) (set row j v) ≡ numbers_in (j + 1) (drop at octets)
number-stored octets at row j v lt e is =
    let high : at + (2 * j + 1) ≡ at + 2 * j + 1 = omega arith in
    stored (λ n. numbers_in n (drop at octets)) row j v lt e
    (ap (λ (x : ℕ). numbers_in j (drop at octets) ++ (x ∷ []))
    (is ∙ ap₂ (λ (a b : ℕ). a + 256 * b) (sym (get_or-drop at octets (2 * j) 0)) (ap (λ (k : ℕ). get_or octets k 0) (sym high) ∙ sym (get_or-drop at octets (2 * j + 1) 0)))
    ∙ numbers_more j (drop at octets))

rows_more : (k : ℕ) (s : List ℕ) → rows_in k s ++ (numbers_in counted_lengths (drop (2 * counted_lengths * k) s) ∷ []) ≡ rows_in (suc k) s
unfolding rows_in
rows_more zero s = refl
rows_more (suc k) s =
    let place : 2 * counted_lengths * suc k ≡ 2 * counted_lengths + 2 * counted_lengths * k = omega arith in
    ap (λ (l : List (List ℕ)). numbers_in counted_lengths s ∷ l)
    (ap (λ (l : List ℕ). rows_in k (drop (2 * counted_lengths) s) ++ (numbers_in counted_lengths l ∷ [])) (ap (λ (n : ℕ). drop n s) place ∙ sym (drop-drop (2 * counted_lengths * k) (2 * counted_lengths) s))
    ∙ rows_more k (drop (2 * counted_lengths) s))

pub row-stored : (octets : List ℕ) (rows : List (List ℕ)) (k : ℕ) (row : List ℕ) → k < length rows → take k rows ≡ rows_in k octets → row ≡ numbers_in counted_lengths (drop (2 * counted_lengths * k) octets)
    → take (k + 1) (set rows k row) ≡ rows_in (k + 1) octets
row-stored octets rows k row lt e is = stored (λ n. rows_in n octets) rows k row lt e (ap (λ (x : List ℕ). rows_in k octets ++ (x ∷ [])) is ∙ rows_more k octets)

pub none_read : (s row : List ℕ) → take 0 row ≡ numbers_in 0 s
unfolding numbers_in
none_read s row = refl

pub no-row-read : (s : List ℕ) (rows : List (List ℕ)) → take 0 rows ≡ rows_in 0 s
unfolding rows_in
no-row-read s rows = refl
