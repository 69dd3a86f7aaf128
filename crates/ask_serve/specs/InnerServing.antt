-- What is kept in columns while the requests of an ask are served, in the ledger's terms.
use Rattle.std.specs.Prelude.{ℕ, ◌+◌, ◌-◌, ◌≤◌, ◌≡◌, ◌⊎◌, List, [], ◌∷◌, ◌++◌, map, length}
use Rattle.std.proofs.Math.Option.{Option, none}
use Rattle.lists.specs.Lists.{All, Any, Pairwise, any?, filter}
use Rattle.prefix.specs.declared.Prefix.{Prefix}
use Rattle.prefix.specs.Prefixes.{Inside, Apart, inside?}
use Rattle.free_space.specs.Serving.{Length, Before, Ordered}
use Rattle.gap_list.specs.declared.Ends.{Ends}
use Rattle.gap_list.specs.Gaps.{gaps_of, solid}
use Rattle.gap_list.specs.Columns.{held_in}
use Rattle.names.specs.declared.Name.{Name}
use Rattle.table.specs.declared.{Lease.Lease, LeaseTable.LeaseTable}
use Rattle.table.specs.Table.{lease_slots, prefix_of, pools_of}
use Rattle.option.specs.Contents.{Request}
use Rattle.option_scan.specs.Scanned.{flag_of}
use Rattle.ledger.specs.Ledger.{asked_length, hold_time, offer, add}
use Rattle.ask_again.specs.Places.{no_place}
use Rattle.ask_serve.specs.declared.Progress.{Progress}
use Rattle.ask_serve.specs.Granting.{offers_in, leases_in}

-- The columns: the gaps, and what is granted.
pub record Columns : Type 0 where
  pub gaps : List Ends
  pub networks : List ℕ
  pub lengths : List ℕ

abbrev pub columns : List Ends → List ℕ → List ℕ → Columns
columns gaps networks lengths = record { gaps = gaps; networks = networks; lengths = lengths }

-- Those of some prefixes that lie in one of these pools.
abbrev pub within : List Prefix → List Prefix → List Prefix
within pools ps = filter (λ p. any? (inside? p) pools) ps

-- The columns hold the gaps of a table's pools and of those leases of ys that lie in them, beside empty ones, and what the first requests, those with the h fs,
-- are offered.
pub record OffersHeld (t : LeaseTable) (time client : ℕ) (name : Name) (ys : List Lease) (fs : List ℕ) (os : List (Option Lease)) (c : Columns) (p : Progress) : Type 0 where
  pub gaps : solid (held_in c.gaps p.gaps) ≡ gaps_of (pools_of t) (within (pools_of t) (map prefix_of ys))
  pub left : p.left ≡ lease_slots - length ys
  pub held : offers_in client (time + hold_time) name c.networks c.lengths fs ≡ os

-- A request on leases in order, each of which lies in a pool of the table or shares no address with any, and the length that it comes to.
pub record Asked (t : LeaseTable) (ys : List Lease) (r : Request) (l : ℕ) : Type 0 where
  pub ordered : Ordered (pools_of t) (within (pools_of t) (map prefix_of ys))
  pub ascend : Pairwise Before (map prefix_of ys)
  pub parted : All (λ p. Any (Inside p) (pools_of t) ⊎ All (Apart p) (pools_of t)) (map prefix_of ys)
  pub asked : asked_length t r ≡ l
  pub block : Length l

-- The request in place j of the columns served, which has this place among the leases that are given again: what it leaves, and that there is room for it.
pub record Served (place l j : ℕ) (c : Columns) (p : Progress) (d : Columns) (q : Progress) : Type 0 where
  pub offered : place ≡ no_place → (t : LeaseTable) (time client : ℕ) (name : Name) (ys : List Lease) (fs : List ℕ) (os : List (Option Lease)) (r : Request) → length fs ≡ j → Asked t ys r l → OffersHeld t time client name ys fs os c p
      → OffersHeld t time client name (add (offer t time client name ys r) ys) (fs ++ (flag_of r.h ∷ [])) (os ++ (offer t time client name ys r ∷ [])) d q
  pub passed : (place ≡ no_place → ⊥) → (t : LeaseTable) (time client : ℕ) (name : Name) (ys : List Lease) (fs : List ℕ) (os : List (Option Lease)) (f : ℕ) → length fs ≡ j → OffersHeld t time client name ys fs os c p
      → OffersHeld t time client name ys (fs ++ (f ∷ [])) (os ++ (none ∷ [])) d q
  pub counted : 1 ≤ l → p.granted ≡ leases_in c.lengths j → q.granted ≡ leases_in d.lengths (j + 1)
  pub room : q.gaps + q.left ≤ p.gaps + p.left
  pub few : q.granted ≤ p.granted + 1
  pub slots : q.granted + q.left ≤ p.granted + p.left
