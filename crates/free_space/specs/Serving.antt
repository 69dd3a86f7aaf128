-- Pools and leases in order, and lists of asks on them: what the theorems about whole lists speak of.
use Rattle.std.specs.Prelude.{ℕ, ◌+◌, ◌≤◌, ◌≡◌, Bool, true, false, List, [], ◌∷◌, map, eqb}
use Rattle.std.proofs.Math.Option.{Option, none, some}
use Rattle.lists.specs.Lists.{All, Any, Pairwise}
use Rattle.prefix.specs.declared.Prefix.{Prefix}
use Rattle.prefix.specs.Prefixes.{shortest, longest, end, Aligned, Inside, Apart}
use Rattle.free_space.specs.Space.{Free}
use Rattle.free_space.specs.Grant.{grant}

-- A length that a block may have: "A block length runs from 1 to 30".
abbrev pub Length : ℕ → Type 0
Length l = (shortest ≤ l) × (l ≤ longest)

-- "A root .. is aligned (its network is a multiple of its size), and shares no address with another root."
pub record Pools (pools : List Prefix) : Type 0 where
  pub lengths : All (λ p. Length p.length) pools
  pub aligned : All Aligned pools
  pub disjoint : Pairwise Apart pools

-- a ends before b starts.
abbrev pub Before : Prefix → Prefix → Type 0
Before a b = end a ≤ b.network

-- Pools and leases as a sound table keeps them: a line is "a block inside one root", and "roots and lines each ascend by network without overlap".
pub record Ordered (pools leases : List Prefix) : Type 0 where
  pub good : Pools pools
  pub pools_ascend : Pairwise Before pools
  pub leases_ascend : Pairwise Before leases
  pub pooled : All (λ x. Any (Inside x) pools) leases

-- Prefixes of these lengths, each free, no two sharing an address: the asks can be packed.
pub record Packing (pools leases : List Prefix) (lengths : List ℕ) (chosen : List Prefix) : Type 0 where
  pub asked : map (λ p. p.length) chosen ≡ lengths
  pub free : All (Free pools leases) chosen
  pub disjoint : Pairwise Apart chosen

abbrev pub with_grant : Option Prefix → List Prefix → List Prefix
with_grant none leases = leases
with_grant (some p) leases = p ∷ leases

-- What each ask of a list is granted, in order; a refused ask changes nothing.
abbrev pub serve : List Prefix → List Prefix → List ℕ → List (Option Prefix)
serve pools leases [] = []
serve pools leases (l ∷ ls) = let granted = grant pools leases l in granted ∷ serve pools (with_grant granted leases) ls

-- The leases after a list was served.
abbrev pub after : List Prefix → List Prefix → List ℕ → List Prefix
after pools leases [] = leases
after pools leases (l ∷ ls) = after pools (with_grant (grant pools leases l) leases) ls

-- How many of the prefixes have this length.
abbrev pub one? : Bool → ℕ
one? true = 1
one? false = 0

abbrev pub number : ℕ → List Prefix → ℕ
number length [] = 0
number length (w ∷ ws) = one? (eqb w.length length) + number length ws
