-- Lists of ask calls that name a root by option 118 (document 02, M-106): one whose calls all name the same, and one that shows why nothing is claimed of a
-- list in which some name a root and some name none.
use Rattle.std.specs.Prelude.{ℕ, List, [], ◌∷◌, map, length, replicate, ◌≡◌}
use Rattle.std.proofs.Math.Option.{Option, none, some}
use Rattle.lists.specs.Lists.{Pairwise, filter, concat_map}
use Rattle.prefix.specs.declared.Prefix.{Prefix}
use Rattle.prefix.specs.Prefixes.{prefix, Apart}
use Rattle.free_space.specs.Space.{Free}
use Rattle.table.specs.Table.{pools_of}
use Rattle.ledger.specs.Ledger.{State, Call, call_with, narrowed}
use Rattle.ledger.specs.Demand3.{well_formed, asks_of, in_use, lengths_asked, prefixes_at}
use Rattle.ledger_examples.specs.Examples.{requesting}
use Rattle.ledger_examples.specs.SampleLists.{lease, Sample}
use Rattle.ledger_examples.specs.SelectionExamples.{two_pools, selecting}

-- A call with this option 118, with room for it in the reply.
unfoldable pub call_on : ℕ → List ℕ → Option (List ℕ) → Call
call_on client option selection = call_with client option selection (replicate 263 0)

-- "lists that all name the same root": 10.0.8.0/26, by its first address, one inside it and its last; filled exactly. The other root is larger.
abbrev pub named : List Prefix
named = prefix 0x0a000800 26 ∷ []

unfoldable pub same_root : Sample
same_root = record {
  start = two_pools [];
  now = 1050;
  calls =
      call_on 7 (requesting 28) (some (selecting 8 0))
      ∷ call_on 8 (requesting 27) (some (selecting 8 5))
      ∷ call_on 9 (requesting 28) (some (selecting 8 63))
      ∷ [];
  networks = 0x0a000820 ∷ 0x0a000800 ∷ 0x0a000830 ∷ [];
}

-- One ask of 26 that names no root, and one that names 10.0.8.0/26. They could be packed, the first in the other root; but the first gets the smallest whole
-- free block, which is all of 10.0.8.0/26.
unfoldable pub mixed : Sample
mixed = record {
  start = two_pools [];
  now = 1050;
  calls = call_on 7 (requesting 26) none ∷ call_on 8 (requesting 26) (some (selecting 8 5)) ∷ [];
  networks = 0x0a000000 ∷ 0x0a000800 ∷ [];
}

-- What a list could be said to need where each call may use other ground: for each ask a free block on the ground of its own call, no two sharing an address.
abbrev pub grounds : ℕ → State → List Call → List (List Prefix)
grounds now s cs = concat_map (λ c. map (λ r. pools_of (narrowed s.table c)) (asks_of c)) (filter (well_formed now s) cs)

abbrev pub EachFree : List Prefix → List (List Prefix) → List Prefix → Type 0
EachFree used [] [] = Unit {0}
EachFree used [] (p ∷ ps) = ⊥
EachFree used (g ∷ gs) [] = ⊥
EachFree used (g ∷ gs) (p ∷ ps) = Free g used p × EachFree used gs ps

pub record ChosenEach (now : ℕ) (s : State) (cs : List Call) : Type 0 where
  pub networks : List ℕ
  pub enough : length networks ≡ length (lengths_asked now s cs)
  pub free : EachFree (in_use now s.table) (grounds now s cs) (prefixes_at networks (lengths_asked now s cs))
  pub apart : Pairwise Apart (prefixes_at networks (lengths_asked now s cs))

-- 10.0.0.0/24 is leased as a whole, 10.0.8.0/26 is free; a call that names the first.
unfoldable pub first_full : State
first_full = two_pools (lease 0x0a000000 24 9000 ∷ [])

unfoldable pub names_full : Call
names_full = call_on 7 (requesting 26) (some (selecting 0 5))
