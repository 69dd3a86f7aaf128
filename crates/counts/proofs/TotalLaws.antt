-- All counts of a sound table are as many as its whole free blocks.
-- Assumes nothing.
use Prim.Native.Nat.{ℕ, zero, suc, ◌+◌, ◌-◌, ◌≤◌, ◌<◌}
use mathlib.Core.Path.{◌≡◌, refl}
use mathlib.Core.Bool.{true}
use mathlib.Core.List.{List, [], ◌∷◌, ◌++◌, map}
use mathlib.Core.Logic.{by_cases}
use native.Mathlib.Decide.{dec_le}
use native.Mathlib.Omega.{arith}
use lib.ListN.{length, replicate, length-append}
use lib.Dec.{eqb}
use Rattle.lists.specs.Lists.{All}
use Rattle.lists.proofs.ListLaws.{all_map, all_left, all_right}
use Rattle.prefix.specs.declared.Prefix.{Prefix}
use Rattle.prefix.specs.Prefixes.{longest}
use Rattle.free_space.specs.Grant.{walk, wholes}
use Rattle.free_space.specs.Serving.{one?, number}
use Rattle.free_space.proofs.Rules.{wholes-whole}
use Rattle.table.specs.declared.LeaseTable.{LeaseTable}
use Rattle.table.specs.Table.{pool_slots, shortest_pool, prefix_of, pools_of, present, sound}
use Rattle.counts.specs.Counts.{counted_lengths, lengths_from, count_row, counts_of, row_total, total}
use Rattle.counts.proofs.OneLaws.{one-eq, one-lt, one-gt}
use Rattle.counts.proofs.SumLaws.{pools-good, whole-counted}

-- One length among k from l on.
one-among : (a l k : ℕ) → l ≤ a → a < l + k → row_total (map (λ m. one? (eqb a m)) (lengths_from l k)) ≡ 1
unfolding lengths_from
one-among a l zero h g = absurd (omega arith)
one-among a l (suc k) h g =
    by_cases (dec_le a l)
    (λ e. omega (arith, one-eq a l (omega arith), none-among a (suc l) k (omega arith)))
    (λ e. omega (arith, one-gt a l (omega arith), one-among a (suc l) k (omega arith) (omega arith)))
  where
    none-among : (a l k : ℕ) → a < l → row_total (map (λ m. one? (eqb a m)) (lengths_from l k)) ≡ 0
    none-among a l zero h = refl
    none-among a l (suc k) h = omega (arith, one-lt a l h, none-among a (suc l) k (omega arith))

none_number : (l k : ℕ) → row_total (map (λ m. number m []) (lengths_from l k)) ≡ 0
unfolding lengths_from
none_number l zero = refl
none_number l (suc k) = omega (arith, none_number (suc l) k)

more-number : (w : Prefix) (ws : List Prefix) (l k : ℕ)
    → row_total (map (λ m. number m (w ∷ ws)) (lengths_from l k)) ≡ row_total (map (λ m. one? (eqb w.length m)) (lengths_from l k)) + row_total (map (λ m. number m ws) (lengths_from l k))
unfolding lengths_from
more-number w ws l zero = refl
more-number w ws l (suc k) = omega (arith, more-number w ws (suc l) k)

-- Prefixes of lengths that are counted, by length.
by_length : (ws : List Prefix) → All (λ w. (shortest_pool ≤ w.length) × (w.length ≤ longest)) ws → row_total (map (λ m. number m ws) (lengths_from shortest_pool counted_lengths)) ≡ length ws
by_length [] a = none_number shortest_pool counted_lengths
by_length (w ∷ ws) a =
    omega (
      arith,
      more-number w ws shortest_pool counted_lengths,
      one-among w.length shortest_pool counted_lengths a.0.0 (omega (arith, a.0.1)),
      by_length ws a.1,
    )

none_row : (n : ℕ) → row_total (replicate n 0) ≡ 0
none_row zero = refl
none_row (suc n) = omega (arith, none_row n)

none-total : (m : ℕ) → total (replicate m (replicate counted_lengths 0)) ≡ 0
none-total zero = refl
none-total (suc m) = omega (arith, none_row counted_lengths, none-total m)

rows-total : (leases ps : List Prefix) (m : ℕ) → All (λ w. (shortest_pool ≤ w.length) × (w.length ≤ longest)) (wholes ps leases)
    → total (map (count_row leases) ps ++ replicate m (replicate counted_lengths 0)) ≡ length (wholes ps leases)
unfolding count_row
rows-total leases [] m a = none-total m
rows-total leases (p ∷ ps) m a =
    let here : List Prefix = walk leases (32 - p.length) p in
    omega (
      arith,
      by_length here (all_left (λ w. (shortest_pool ≤ w.length) × (w.length ≤ longest)) here (wholes ps leases) a),
      rows-total leases ps m (all_right (λ w. (shortest_pool ≤ w.length) × (w.length ≤ longest)) here (wholes ps leases) a),
      length-append here (wholes ps leases),
    )

pub total-is-wholes : (t : LeaseTable) → sound t ≡ true → total (counts_of t) ≡ length (wholes (pools_of t) (map prefix_of (present t.last t.leases)))
unfolding counts_of
total-is-wholes t e =
    let leases : List Prefix = map prefix_of (present t.last t.leases) in
    rows-total leases (pools_of t) (pool_slots - length (pools_of t)) (all_map (whole-counted t e) (wholes (pools_of t) leases) (wholes-whole (pools_of t) leases (pools-good t e)))
