-- How far a pass through the pools and the leases of an image has come.
use Rattle.std.specs.Prelude.{ℕ, ◌+◌, ◌≤◌, ◌≡◌, List, ◌++◌, length}
use Rattle.table.specs.declared.Lease.{Lease}
use Rattle.image_records.specs.Records.{Records}
use Rattle.gap_list.specs.declared.Ends.{Ends}
use Rattle.gap_list.specs.Gaps.{pool_gaps}
use Rattle.gap_list.specs.Columns.{held_in}
use Rattle.ask_gaps.specs.declared.Pass.{Pass}
use Rattle.ask_gaps.specs.Ground.{ahead}

-- A pass went through a pool: its gaps are pushed, and it stands at the first present lease past the pool.
pub record Went (image : List ℕ) (from n time network stop : ℕ) (p : Pass) (before : List Ends) (q : Pass) (after : List Ends) : Type 0 where
  pub further : p.leases ≤ q.leases
  pub within : q.leases ≤ n
  pub few : q.gaps + p.leases ≤ p.gaps + q.leases + 1
  pub gaps : (xs : List Lease) → Records image from xs → n ≡ length xs
      → held_in after q.gaps ≡ held_in before p.gaps ++ (pool_gaps network stop (ahead time p.leases xs)).gaps
  pub left : (xs : List Lease) → Records image from xs → n ≡ length xs → ahead time q.leases xs ≡ (pool_gaps network stop (ahead time p.leases xs)).left
