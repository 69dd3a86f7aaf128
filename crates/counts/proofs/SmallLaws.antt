-- No count of a sound table is greater than its leases and one, so each fits 16 bits.
-- Assumes nothing.
use Prim.Native.Nat.{ℕ, zero, suc, ◌+◌, ◌-◌, ◌≤◌}
use mathlib.Core.Path.{◌≡◌, refl, ap, subst}
use mathlib.Core.Logic.{by_cases}
use mathlib.Core.Bool.{true}
use mathlib.Core.List.{List, [], ◌∷◌, map}
use native.Mathlib.Decide.{dec_lt}
use native.Mathlib.Omega.{arith}
use lib.ListN.{length, replicate, length-map}
use lib.Dec.{leb, eqb}
use Rattle.lists.specs.Lists.{All}
use Rattle.lists.proofs.ListLaws.{all_map, all_append}
use Rattle.lists.proofs.FilterLaws.{all_replicate}
use Rattle.prefix.specs.declared.Prefix.{Prefix}
use Rattle.prefix.specs.Prefixes.{end}
use Rattle.table.specs.declared.LeaseTable.{LeaseTable}
use Rattle.table.specs.Table.{pool_slots, lease_slots, shortest_pool, prefix_of, pools_of, present, sound}
use Rattle.table.proofs.TableLaws.{sound-fewer}
use Rattle.counts.specs.Counts.{counted_lengths, counts_of}
use Rattle.counts.specs.InnerLevels.{up_to, openings_after, openings, lengths, frees_after, level_row, start_in, start_past, level_rows}
use Rattle.counts.proofs.OneLaws.{one-few}
use Rattle.counts.proofs.LevelRows.{in-first, in-none, in-empty, past_first, past-none, past-empty, counts-by-levels}

up-few : (l : ℕ) (ks : List ℕ) → up_to l ks ≤ length ks
up-few l [] = omega arith
up-few l (k ∷ ks) = omega (arith, one-few (leb k l), up-few l ks)

after-many : (network : ℕ) (xs : List Prefix) → length (openings_after network xs) ≡ length xs
after-many network [] = refl
after-many network (x ∷ xs) = ap suc (after-many x.network xs)

openings-many : (p : Prefix) (xs : List Prefix) → length (openings p xs) ≡ length xs
openings-many p [] = refl
openings-many p (x ∷ xs) = ap suc (after-many x.network xs)

frees-few : (pool : ℕ) (opened closed : List ℕ) (l k : ℕ) → All (λ (n : ℕ). n ≤ length opened + 1) (frees_after pool opened closed l k)
unfolding frees_after
frees-few pool opened closed l zero = tt
frees-few pool opened closed l (suc k) = (omega (arith, one-few (eqb pool (suc l)), up-few l opened), frees-few pool opened closed (suc l) k)

module _ (stop : ℕ) where
  in-fewer : (xs : List Prefix) → length (start_in stop xs) ≤ length xs
  in-fewer [] = omega (arith, ap length (in-empty stop))
  in-fewer (x ∷ xs) =
      by_cases (dec_lt x.network stop)
      (λ h. omega (arith, ap length (in-first stop x xs h), in-fewer xs))
      (λ h. omega (arith, ap length (in-none stop x xs (omega arith))))

  past-fewer : (xs : List Prefix) → length (start_past stop xs) ≤ length xs
  past-fewer [] = omega (arith, ap length (past-empty stop))
  past-fewer (x ∷ xs) =
      by_cases (dec_lt x.network stop)
      (λ h. omega (arith, ap length (past_first stop x xs h), past-fewer xs))
      (λ h. omega (arith, ap length (past-none stop x xs (omega arith))))

module _ (most : ℕ) where
  row-few : (p : Prefix) (us : List Prefix) → length us ≤ most → All (λ (n : ℕ). n ≤ most + 1) (level_row us p)
  row-few p us h =
      all_map (λ n (le : n ≤ length (openings p us) + 1). omega (arith, openings-many p us)) (level_row us p)
      (frees-few p.length (openings p us) (lengths us) (shortest_pool - 1) counted_lengths)

  rows_few : (ps xs : List Prefix) → length xs ≤ most → All (All (λ (n : ℕ). n ≤ most + 1)) (level_rows ps xs)
  unfolding level_rows
  rows_few [] xs h = tt
  rows_few (p ∷ ps) xs h =
      (row-few p (start_in (end p) xs) (omega (arith, in-fewer (end p) xs)), rows_few ps (start_past (end p) xs) (omega (arith, past-fewer (end p) xs)))

pub counts-small : (t : LeaseTable) → sound t ≡ true → All (All (λ (n : ℕ). n ≤ lease_slots + 1)) (counts_of t)
counts-small t e =
    let xs : List Prefix = map prefix_of (present t.last t.leases) in
    let none : List ℕ = replicate counted_lengths 0 in
    subst (All (All (λ (n : ℕ). n ≤ lease_slots + 1))) (counts-by-levels t e)
    (all_append (All (λ (n : ℕ). n ≤ lease_slots + 1)) (level_rows (pools_of t) xs) (replicate (pool_slots - length (pools_of t)) none)
    (rows_few lease_slots (pools_of t) xs (omega (arith, length-map (present t.last t.leases) prefix_of, sound-fewer t e t.last)))
    (all_replicate (All (λ (n : ℕ). n ≤ lease_slots + 1)) (pool_slots - length (pools_of t)) none (all_replicate (λ (n : ℕ). n ≤ lease_slots + 1) counted_lengths 0 (omega arith))))
