-- What callers need of counts: those that compare as the same are the same, when they stay, and their shape.
-- Assumes nothing.
use Prim.Native.Nat.{ℕ, zero, suc, ◌-◌, ◌≤◌}
use mathlib.Core.Path.{◌≡◌, refl, sym, ap, ap₂, ◌∙◌}
use mathlib.Core.Bool.{Bool, true, ◌&&◌, true≢false}
use mathlib.Core.List.{List, [], ◌∷◌, ◌++◌, map}
use native.Mathlib.Omega.{arith}
use lib.ListN.{length, replicate, length-append, length-map, length-replicate}
use lib.Dec.{eqb}
use borrow.Author.Tests.{eqb-true, eq-eqb}
use Rattle.lists.specs.Lists.{All}
use Rattle.lists.proofs.Tests.{and-to}
use Rattle.lists.proofs.ListLaws.{all_append}
use Rattle.prefix.specs.declared.Prefix.{Prefix}
use Rattle.table.specs.declared.LeaseTable.{LeaseTable}
use Rattle.table.specs.Table.{pool_slots, shortest_pool, prefix_of, pools_of, present}
use Rattle.counts.specs.Counts.{counted_lengths, lengths_from, count_row, counts_of, same_row?, same_counts?}

-- SAME

same-row-to : (a b : List ℕ) → same_row? a b ≡ true → a ≡ b
same-row-to [] [] e = refl
same-row-to [] (y ∷ ys) e = absurd (true≢false (sym e))
same-row-to (x ∷ xs) [] e = absurd (true≢false (sym e))
same-row-to (x ∷ xs) (y ∷ ys) e =
    let t = and-to (eqb x y) (same_row? xs ys) e in
    ap₂ (λ (z : ℕ) (zs : List ℕ). z ∷ zs) (eqb-true x y t.0) (same-row-to xs ys t.1)

same-row-refl : (a : List ℕ) → same_row? a a ≡ true
same-row-refl [] = refl
same-row-refl (x ∷ xs) = ap₂ (λ (s t : Bool). s && t) (eq-eqb x x refl) (same-row-refl xs)

-- Counts that compare as the same are the same, and each are the same as themselves.
pub same-counts-to : (a b : List (List ℕ)) → same_counts? a b ≡ true → a ≡ b
unfolding same_counts?
same-counts-to [] [] e = refl
same-counts-to [] (y ∷ ys) e = absurd (true≢false (sym e))
same-counts-to (x ∷ xs) [] e = absurd (true≢false (sym e))
same-counts-to (x ∷ xs) (y ∷ ys) e =
    let t = and-to (same_row? x y) (same_counts? xs ys) e in
    ap₂ (λ (z : List ℕ) (zs : List (List ℕ)). z ∷ zs) (same-row-to x y t.0) (same-counts-to xs ys t.1)

pub same-counts-refl : (a : List (List ℕ)) → same_counts? a a ≡ true
unfolding same_counts?
same-counts-refl [] = refl
same-counts-refl (x ∷ xs) = ap₂ (λ (s t : Bool). s && t) (same-row-refl x) (same-counts-refl xs)

-- WHEN COUNTS STAY: "Any other accepted call leaves count table and book alone". The pools stay, and the prefixes of the leases that are present.
pub counts-stay : (t u : LeaseTable) → pools_of t ≡ pools_of u → map prefix_of (present t.last t.leases) ≡ map prefix_of (present u.last u.leases) → counts_of t ≡ counts_of u
unfolding counts_of
counts-stay t u pools leases =
    ap₂ (λ (ps ls : List Prefix). map (count_row ls) ps ++ replicate (pool_slots - length ps) (replicate counted_lengths 0)) pools leases

-- THEIR SHAPE: "eight rows of twenty-three"

lengths-many : (l k : ℕ) → length (lengths_from l k) ≡ k
unfolding lengths_from
lengths-many l zero = refl
lengths-many l (suc k) = ap suc (lengths-many (suc l) k)

length-row : (leases : List Prefix) (p : Prefix) → length (count_row leases p) ≡ counted_lengths
unfolding count_row
length-row leases p = length-map (lengths_from shortest_pool counted_lengths) _ ∙ lengths-many shortest_pool counted_lengths

all-rows : (leases ps : List Prefix) → All (λ (row : List ℕ). length row ≡ counted_lengths) (map (count_row leases) ps)
all-rows leases [] = tt
all-rows leases (p ∷ ps) = (length-row leases p, all-rows leases ps)

all_none : (n : ℕ) → All (λ (row : List ℕ). length row ≡ counted_lengths) (replicate n (replicate {A = ℕ} counted_lengths 0))
all_none zero = tt
all_none (suc n) = (length-replicate {A = ℕ} counted_lengths 0, all_none n)

pub counts-shape : (t : LeaseTable) → length (pools_of t) ≤ pool_slots → (length (counts_of t) ≡ pool_slots) × All (λ (row : List ℕ). length row ≡ counted_lengths) (counts_of t)
unfolding counts_of
counts-shape t few =
    let leases : List Prefix = map prefix_of (present t.last t.leases) in
    let unused : List (List ℕ) = replicate (pool_slots - length (pools_of t)) (replicate counted_lengths 0) in (
      omega (
        arith,
        length-append (map (count_row leases) (pools_of t)) unused,
        length-map (pools_of t) (count_row leases),
        length-replicate {A = List ℕ} (pool_slots - length (pools_of t)) (replicate counted_lengths 0),
      ),
      all_append (λ (row : List ℕ). length row ≡ counted_lengths) (map (count_row leases) (pools_of t)) unused (all-rows leases (pools_of t)) (all_none (pool_slots - length (pools_of t))),
    )
