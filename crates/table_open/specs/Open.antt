-- Open: the table that pools, a term, a default length and a start time make.
use Rattle.std.specs.Prelude.{ℕ, Bool, true, ◌&&◌, List, [], ◌∷◌, length, replicate, leb, ltb, eqb}
use Rattle.lists.specs.Lists.{and, all?, sort_by}
use Rattle.prefix.specs.Prefixes.{apart?}
use Rattle.table.specs.declared.{Pool.Pool, LeaseTable.LeaseTable}
use Rattle.table.specs.Table.{pool_slots, lease_slots, no_lease, pool_prefix, head_ok, pool_ok, padded_pools}

-- The pools that are given as networks and lengths, one of each at each place.
unfoldable pub given : List ℕ → List ℕ → List Pool
given [] lengths = []
given (n ∷ networks) [] = []
given (n ∷ networks) (l ∷ lengths) = record { network = n; length = l } ∷ given networks lengths

-- "shares no address with another root"
abbrev pub apart_from? : Pool → List Pool → Bool
apart_from? p ps = all? (λ q. apart? (pool_prefix p) (pool_prefix q)) ps

unfoldable pub pools_apart? : List Pool → Bool
pools_apart? [] = true
pools_apart? (p ∷ ps) = apart_from? p ps && pools_apart? ps

abbrev pub pool_network : Pool → ℕ
pool_network p = p.network

-- Pools "any order given", ascending by network.
abbrev pub sort_pools : List Pool → List Pool
sort_pools ps = sort_by pool_network ps

-- The pools given keep the rules of pools.
abbrev pub pools_ok : List Pool → Bool
pools_ok ps = all? pool_ok ps && pools_apart? ps

-- Row 12: "roots, term, default length or start time (above 4,292,375,295) outside the rules". "A book holds 1 to 8 roots".
abbrev pub open_rules : List ℕ → List ℕ → ℕ → ℕ → ℕ → List Bool
open_rules networks lengths term default_length start =
    eqb (length networks) (length lengths)
    ∷ ltb 0 (length networks)
    ∷ leb (length networks) pool_slots
    ∷ head_ok term default_length start
    ∷ pools_ok (given networks lengths)
    ∷ []

unfoldable pub open_ok : List ℕ → List ℕ → ℕ → ℕ → ℕ → Bool
open_ok networks lengths term default_length start = and (open_rules networks lengths term default_length start)

-- A table with pools and no lease: "A fresh book has 256 empty lines, all zero", read as 1,024.
abbrev pub with_pools : List Pool → ℕ → ℕ → ℕ → LeaseTable
with_pools ps term default_length start = record {
  pools = padded_pools ps;
  leases = replicate lease_slots no_lease;
  term = term;
  default_length = default_length;
  last = start;
}

-- "roots (any order given), term, default length and a start time make a book"
abbrev pub fresh : List Pool → ℕ → ℕ → ℕ → LeaseTable
fresh ps term default_length start = with_pools (sort_pools ps) term default_length start
