-- What an accepted call leaves: its table, and rows that match it.
-- Assumes nothing.
use Prim.Native.Nat.{ℕ, ◌≤◌}
use mathlib.Core.Path.{◌≡◌}
use mathlib.Core.Bool.{true}
use mathlib.Core.List.{List}
use Rattle.lists.specs.Lists.{All}
use Rattle.table.specs.declared.{Lease.Lease, LeaseTable.LeaseTable}
use Rattle.table.specs.Table.{pools_of, present, sound, store}
use Rattle.table.proofs.TableLaws.{sound-fine, fine-long}
use Rattle.figures.specs.Figures.{matches?}
use Rattle.figures.proofs.RowsFollow.{followed-matches}
use Rattle.figures.proofs.RowsFile.{taken-matches}
use Rattle.ledger.specs.Ledger.{State, left, Call, usable_entries, renew_named, renewed}

-- The table after an accepted take.
abbrev pub renewed_table : State → ℕ → Call → LeaseTable
renewed_table s now c = store s.table now (renew_named now s.table.term c.client (usable_entries s.table c) (present now s.table.leases))

-- The leases of a sound table that are present are no empty slots.
pub present-long : (t : LeaseTable) (now : ℕ) → sound t ≡ true → All (λ x. 1 ≤ x.length) (present now t.leases)
present-long t now so = fine-long (pools_of t) now 0 (present now t.leases) (sound-fine t so now)

module _ (s : State) (now : ℕ) (so : sound s.table ≡ true) (m : matches? s.table.leases s.rows ≡ true) where
  pub left-matches : (xs : List Lease) → matches? (left s now xs).table.leases (left s now xs).rows ≡ true
  unfolding left
  left-matches xs = followed-matches now s.table s.rows (store s.table now xs) m (present-long s.table now so)

  pub renewed-matches : (c : Call) → (c.client ≡ 0 → ⊥) → matches? (renewed s now c).table.leases (renewed s now c).rows ≡ true
  unfolding renewed
  renewed-matches c named = taken-matches now c.client (usable_entries s.table c) s.table s.rows (renewed_table s now c) named m (present-long s.table now so)
