-- The pass over the pools: the rows filled so far, and those of the pools and leases that are left, are all.
-- Assumes nothing.
use Prim.Native.Nat.{ℕ, suc, ◌+◌, ◌-◌, ◌*◌, ◌≤◌, ◌<◌}
use mathlib.Core.Path.{◌≡◌, refl, sym, ap, ap₂, subst, ◌∙◌}
use mathlib.Core.List.{List, [], ◌∷◌, ◌++◌, append-nil, append_assoc}
use native.Mathlib.Numerals.{add-one}
use native.Mathlib.Omega.{arith}
use lib.ListN.{length, take, drop, get_or, set, replicate, length-set, length-map, take-append-drop}
use lib.Seq.{take-suc-set, drop-set-lt, drop-drop}
use Rattle.lists.proofs.DropLaws.{drop_at}
use Rattle.prefix.specs.declared.Prefix.{Prefix}
use Rattle.prefix.specs.Prefixes.{end}
use Rattle.table.specs.declared.LeaseTable.{LeaseTable}
use Rattle.table.specs.Table.{pool_slots, lease_slots, pool_prefix, prefixes_of, pools_of}
use Rattle.image.specs.Image.{head_size, pool_size, lease_size, used_pools}
use Rattle.image_check.specs.Inner.{nth_pool}
use Rattle.counts.specs.Counts.{counted_lengths, counts_of}
use Rattle.counts.specs.InnerLevels.{Laid, openings, lengths, frees_after, level_row, level_rows, start_in, start_past}
use Rattle.counts.proofs.BelowLaws.{closed-above, opened-above}
use Rattle.counts.proofs.LevelRows.{laid-lies, laid-ascend, laid-past, counts-by-levels}
use Rattle.image_counts.specs.declared.Tally.{Tally}
use Rattle.image_counts.specs.Standing.{Stands}
use Rattle.image_counts.specs.InnerTally.{no_row, ahead, pools_at, Short, both_of, Tallied, total, frees_on, Ready, Counted}
use Rattle.image_counts.proofs.PlaceLaws.{pools-first, pools-none, leases-of, pools-of}
use Rattle.image_counts.proofs.TallyLaws.{total-up, frees-same, none_end}

-- A POOL

module _ (image : List ℕ) (from n : ℕ) (p : Prefix) (at : ℕ) (ready : Ready image from n p at) where
  abbrev mine : List Prefix
  mine = start_in (end p) (ahead image from n at)

  module _ (t : Tally) (told : Tallied image from n p at t) where
    pub opened-none : total (p.length - 1) t.opened ≡ 0
    opened-none =
        ap (total (p.length - 1)) told.opened ∙ total-up (openings p mine) (p.length - 1) (omega (arith, ready.to-longest))
        ∙ opened-above p (omega (arith, ready.from-shortest)) (omega (arith, ready.to-longest)) ready.aligned mine ready.lie ready.ascend (p.length - 1) (omega (arith, ready.from-shortest))

    pub closed_none : total (p.length - 1) (both_of t.sides) ≡ 0
    closed_none =
        ap (total (p.length - 1)) told.closed ∙ total-up (lengths mine) (p.length - 1) (omega (arith, ready.to-longest))
        ∙ closed-above p (omega (arith, ready.from-shortest)) (omega (arith, ready.to-longest)) ready.aligned mine ready.lie ready.ascend (p.length - 1) (omega (arith, ready.from-shortest))

    pub row_told : (row : List ℕ) → row ≡ frees_on p.length t.opened (both_of t.sides) 7 counted_lengths → Counted image from n p at t.next row
    row_told row e = record {
      within = told.within;
      row_is =
          e
          ∙ ap₂ (λ (a b : List ℕ). frees_on p.length a b 7 counted_lengths) told.opened told.closed
          ∙ frees-same p.length (openings p mine) (lengths mine) 7 counted_lengths (omega arith);
      left = told.left;
    }

  -- A pool in which no lease is left.
  pub row-bare : (mine ≡ []) × (start_past (end p) (ahead image from n at) ≡ ahead image from n at) → (row : List ℕ) → row ≡ frees_after p.length [] [] 7 counted_lengths
      → Counted image from n p at at row
  row-bare none row e = record {
    within = ready.within;
    row_is = e ∙ ap (λ (us : List Prefix). level_row us p) (sym none.0);
    left = sym none.1;
  }

-- ALL POOLS

rows-first : (p : Prefix) (ps xs : List Prefix) → level_rows (p ∷ ps) xs ≡ level_row (start_in (end p) xs) p ∷ level_rows ps (start_past (end p) xs)
unfolding level_rows
rows-first p ps xs = refl

rows_none : (xs : List Prefix) → level_rows [] xs ≡ []
unfolding level_rows
rows_none xs = refl

module _ (image : List ℕ) (pools leases : ℕ) where
  abbrev start : ℕ
  start = head_size + pool_size * pools

  abbrev left-pools : ℕ → List Prefix
  left-pools k = pools_at image k (pools - k)

  -- From which address on the pools and leases that are left lie.
  pub record Passed (k next : ℕ) (rows : List (List ℕ)) : Type 0 where
    pub size : length rows ≡ pool_slots
    pub within : next ≤ leases
    pub some : k ≤ pools
    pub filled : take k rows ++ level_rows (left-pools k) (ahead image start leases next) ≡ level_rows (left-pools 0) (ahead image start leases 0)
    pub empty : drop k rows ≡ replicate (pool_slots - k) no_row
    pub address : ℕ
    pub laid : Laid address (left-pools k) (ahead image start leases next)

  pub passed_none : Laid 0 (left-pools 0) (ahead image start leases 0) → Passed 0 0 (replicate pool_slots no_row)
  passed_none laid = record { size = refl; within = omega arith; some = omega arith; filled = refl; empty = refl; address = 0; laid = laid }

  module _ (k next : ℕ) (rows : List (List ℕ)) (c : Passed k next rows) (lt : k < pools) (p : Prefix) (read : p ≡ nth_pool (drop head_size image) k) where
    here : left-pools k ≡ p ∷ left-pools (k + 1)
    here = pools-first image pools k lt ∙ ap (λ (q : Prefix). q ∷ left-pools (k + 1)) (sym read)

    here-laid : Laid c.address (p ∷ left-pools (k + 1)) (ahead image start leases next)
    here-laid = subst (λ (ps : List Prefix). Laid c.address ps (ahead image start leases next)) here c.laid

    pub passed-ready : leases ≤ lease_slots → start + lease_size * leases ≤ length image → Short image start leases → Ready image start leases p next
    passed-ready few room short = record {
      room = room;
      few = few;
      within = c.within;
      short = short;
      from-shortest = here-laid.lengths.0.0;
      to-longest = here-laid.lengths.0.1;
      aligned = here-laid.aligned.0;
      lie = laid-lies c.address p (left-pools (k + 1)) (ahead image start leases next) here-laid;
      ascend = laid-ascend c.address p (left-pools (k + 1)) (ahead image start leases next) here-laid;
    }

    pub passed-row : pools ≤ pool_slots → get_or rows k [] ≡ no_row
    passed-row few =
        let less : pool_slots - k ≡ suc (pool_slots - (k + 1)) = omega arith in
        ap (λ (l : List (List ℕ)). get_or l 0 []) (sym (drop_at rows k [] (omega (arith, c.size))) ∙ c.empty ∙ ap (λ (m : ℕ). replicate m no_row) less)

    pub passed-pool : pools ≤ pool_slots → (later : ℕ) (row : List ℕ) → Counted image start leases p next later row → Passed (k + 1) later (set rows k row)
    passed-pool few later row told =
        let rest : List Prefix = left-pools (k + 1) in
        let xs : List Prefix = ahead image start leases next in
        let fits : k < length rows = omega (arith, c.size) in
        let less : pool_slots - k ≡ suc (pool_slots - (k + 1)) = omega arith in
        let front : take (k + 1) (set rows k (row)) ≡ take k rows ++ (row ∷ []) = ap (λ (m : ℕ). take m (set rows k (row))) (add-one k) ∙ take-suc-set rows k (row) fits in
        record {
          size = length-set rows k (row) ∙ c.size;
          within = told.within;
          some = omega arith;
          filled =
              ap₂ (λ (f : List (List ℕ)) (qs : List Prefix). f ++ level_rows rest qs) front told.left
              ∙ append_assoc (take k rows) (row ∷ []) (level_rows rest (start_past (end p) xs))
              ∙ ap (λ (q : List ℕ). take k rows ++ (q ∷ level_rows rest (start_past (end p) xs))) told.row_is
              ∙ ap (λ (l : List (List ℕ)). take k rows ++ l) (sym (ap (λ (qs : List Prefix). level_rows qs xs) here ∙ rows-first p rest xs))
              ∙ c.filled;
          empty =
              drop-set-lt (k + 1) rows k (row) (omega arith)
              ∙ sym (drop-drop 1 k rows)
              ∙ ap (drop 1) (c.empty ∙ ap (λ (m : ℕ). replicate m no_row) less);
          address = end p;
          laid = subst (Laid (end p) rest) (sym told.left) (laid-past c.address p rest xs here-laid);
        }

    -- A pool after the last lease.
    pub passed-bare : pools ≤ pool_slots → Ready image start leases p next → leases ≤ next → (row : List ℕ) → row ≡ frees_after p.length [] [] 7 counted_lengths → Passed (k + 1) next (set rows k row)
    passed-bare few ready past row e = passed-pool few next row (row-bare image start leases p next ready (none_end image start leases (end p) next past) row e)

  pub passed-all : (k next : ℕ) (rows : List (List ℕ)) → Passed k next rows → pools ≤ k → (t : LeaseTable) → Stands t image pools leases → rows ≡ counts_of t
  unfolding prefixes_of
  passed-all k next rows c past t s =
      let all : k ≡ length (pools_of t) = omega (arith, c.some, s.pools-are, length-map (used_pools t) pool_prefix) in
      let front : take k rows ≡ level_rows (left-pools 0) (ahead image start leases 0) =
      sym (append-nil (take k rows))
      ∙ ap (λ (l : List (List ℕ)). take k rows ++ l) (sym (ap (λ (qs : List Prefix). level_rows qs (ahead image start leases next)) (pools-none image pools k past) ∙ rows_none (ahead image start leases next)))
      ∙ c.filled in
      sym (take-append-drop k rows)
      ∙ ap₂ (λ (a b : List (List ℕ)). a ++ b)
      (front ∙ ap₂ level_rows (pools-of t image pools leases s) (leases-of t image pools leases s))
      (c.empty ∙ ap (λ (m : ℕ). replicate (pool_slots - m) no_row) all)
      ∙ counts-by-levels t s.sound-table
