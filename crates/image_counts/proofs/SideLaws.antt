-- Counting on two sides in turn, and their sum.
-- Assumes nothing.
use Prim.Native.Nat.{ℕ, zero, suc, ◌+◌, ◌*◌, ◌≤◌, ◌<◌}
use mathlib.Core.Path.{◌≡◌, refl, sym, ap, ap₂, ◌∙◌}
use mathlib.Core.Logic.{by_cases}
use mathlib.Core.List.{List, [], ◌∷◌}
use native.Mathlib.Decide.{dec_le}
use native.Mathlib.Omega.{arith}
use lib.ListN.{length, get_or, set, replicate, length-set}
use lib.Dec.{eqb}
use Rattle.free_space.specs.Serving.{one?}
use Rattle.counts.proofs.OneLaws.{one-eq, one-lt, one-gt}
use Rattle.image_counts.specs.InnerTally.{open_lengths, zeros, sums_on, both_of}
use Rattle.image_counts.proofs.TallyLaws.{set_at, zero-at}

-- Lists are the same that hold the same at each place.
same_lists : (xs ys : List ℕ) → length xs ≡ length ys → ((j : ℕ) → j < length xs → get_or xs j 0 ≡ get_or ys j 0) → xs ≡ ys
same_lists [] [] e h = refl
same_lists [] (y ∷ ys) e h = absurd (omega (arith, e))
same_lists (x ∷ xs) [] e h = absurd (omega (arith, e))
same_lists (x ∷ xs) (y ∷ ys) e h = ap₂ (λ (z : ℕ) (zs : List ℕ). z ∷ zs) (h 0 (omega arith)) (same_lists xs ys (omega (arith, e)) (λ j lt. h (suc j) (omega arith)))

-- THE SUM

module _ (sides : List ℕ) where
  sums-length : (j k : ℕ) → length (sums_on sides j k) ≡ k
  unfolding sums_on
  sums-length j zero = refl
  sums-length j (suc k) = omega (arith, sums-length (suc j) k)

  sums_at : (j k m : ℕ) → m < k → get_or (sums_on sides j k) m 0 ≡ get_or sides (j + m) 0 + get_or sides (open_lengths + (j + m)) 0
  unfolding sums_on
  sums_at j zero m h = absurd (omega arith)
  sums_at j (suc k) zero h =
      let same : j ≡ j + 0 = omega arith in
      ap (λ (i : ℕ). get_or sides i 0 + get_or sides (open_lengths + i) 0) same
  sums_at j (suc k) (suc m) h =
      let same : suc j + m ≡ j + suc m = omega arith in
      sums_at (suc j) k m (omega arith) ∙ ap (λ (i : ℕ). get_or sides i 0 + get_or sides (open_lengths + i) 0) same

  pub both_at : (j : ℕ) → j < open_lengths → get_or (both_of sides) j 0 ≡ get_or sides j 0 + get_or sides (open_lengths + j) 0
  both_at j h =
      let same : 0 + j ≡ j = omega arith in
      sums_at 0 open_lengths j h ∙ ap (λ (i : ℕ). get_or sides i 0 + get_or sides (open_lengths + i) 0) same

-- ONE MORE

-- A place of one of the sides is one place of the sum.
one_side : (s l j : ℕ) → s < 2 → l < open_lengths → j < open_lengths
    → one? (eqb (open_lengths * s + l) j) + one? (eqb (open_lengths * s + l) (open_lengths + j)) ≡ one? (eqb l j)
one_side zero l j hs hl hj =
    let same : open_lengths * 0 + l ≡ l = omega arith in
    omega (arith, ap (λ (m : ℕ). one? (eqb m j)) same, one-lt (open_lengths * 0 + l) (open_lengths + j) (omega arith))
one_side (suc zero) l j hs hl hj =
    by_cases (dec_le l j)
    (λ a. by_cases (dec_le j l)
    (λ b. omega (arith, one-gt (open_lengths * 1 + l) j (omega arith), one-eq (open_lengths * 1 + l) (open_lengths + j) (omega arith), one-eq l j (omega arith)))
    (λ b. omega (arith, one-gt (open_lengths * 1 + l) j (omega arith), one-lt (open_lengths * 1 + l) (open_lengths + j) (omega arith), one-lt l j (omega arith))))
    (λ a. omega (arith, one-gt (open_lengths * 1 + l) j (omega arith), one-gt (open_lengths * 1 + l) (open_lengths + j) (omega arith), one-gt l j (omega arith)))
one_side (suc (suc s)) l j hs hl hj = absurd (omega arith)

pub side-more : (sides : List ℕ) (s l : ℕ) → s < 2 → l < open_lengths → length sides ≡ 2 * open_lengths
    → both_of (set sides (open_lengths * s + l) (get_or sides (open_lengths * s + l) 0 + 1)) ≡ set (both_of sides) l (get_or (both_of sides) l 0 + 1)
side-more sides s l hs hl size =
    let p : ℕ = open_lengths * s + l in
    let next : List ℕ = set sides p (get_or sides p 0 + 1) in
    let v : ℕ = get_or (both_of sides) l 0 + 1 in
    same_lists (both_of next) (set (both_of sides) l v) (sums-length next 0 open_lengths ∙ sym (length-set (both_of sides) l v ∙ sums-length sides 0 open_lengths))
    (λ j lt.
    let less : j < open_lengths = omega (arith, sums-length next 0 open_lengths) in
    omega (
      arith,
      both_at next j less,
      set_at sides p j (omega arith),
      set_at sides p (open_lengths + j) (omega arith),
      one_side s l j hs hl less,
      both_at sides j less,
      set_at (both_of sides) l j (omega (arith, sums-length sides 0 open_lengths)),
    ))

-- No side holds more than the sum.
pub side-few : (sides : List ℕ) (s l m : ℕ) → s < 2 → l < open_lengths → get_or (both_of sides) l 0 ≤ m → get_or sides (open_lengths * s + l) 0 ≤ m
side-few sides zero l m hs hl h = let same : open_lengths * 0 + l ≡ l = omega arith in omega (arith, both_at sides l hl, ap (λ (i : ℕ). get_or sides i 0) same)
side-few sides (suc zero) l m hs hl h = let same : open_lengths * 1 + l ≡ open_lengths + l = omega arith in omega (arith, both_at sides l hl, ap (λ (i : ℕ). get_or sides i 0) same)
side-few sides (suc (suc s)) l m hs hl h = absurd (omega arith)

-- The first one.
no-sums : both_of (replicate {A = ℕ} (2 * open_lengths) 0) ≡ zeros
unfolding sums_on
no-sums = refl

pub side-first : (l : ℕ) → l < open_lengths → both_of (set (replicate {A = ℕ} (2 * open_lengths) 0) l 1) ≡ set zeros l 1
side-first l h =
    let none : List ℕ = replicate {A = ℕ} (2 * open_lengths) 0 in
    let at : l ≡ open_lengths * 0 + l = omega arith in
    ap₂ (λ (i v : ℕ). both_of (set none i v)) at (sym (ap (λ (m : ℕ). m + 1) (zero-at (2 * open_lengths) (open_lengths * 0 + l))))
    ∙ side-more none 0 l (omega arith) h refl
    ∙ ap₂ (λ (ks : List ℕ) (m : ℕ). set ks l (m + 1)) no-sums (ap (λ (ks : List ℕ). get_or ks l 0) no-sums ∙ zero-at open_lengths l)
