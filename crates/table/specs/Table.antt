-- The lease table (document 01: the book): what is present at a time, when a table is sound, and what an accepted call stores.
use Rattle.std.specs.Prelude.{ℕ, ◌-◌, Bool, true, false, not, cond, ◌&&◌, List, [], ◌∷◌, ◌++◌, map, length, take, replicate, leb, ltb, eqb}
use Rattle.lists.specs.Lists.{and, all?, any?, filter, insert_by}
use Rattle.prefix.specs.declared.Prefix.{Prefix}
use Rattle.prefix.specs.Prefixes.{shortest, longest, prefix, end, aligned?, inside?}
use Rattle.names.specs.Names.{no_name, unnamed?}
use Rattle.table.specs.declared.{Pool.Pool, Lease.Lease, LeaseTable.LeaseTable}

-- The slots of a table, as POOLS and LEASES in the code: "1 to 8 roots", "Raise the limit to 1,024": document 01's 256 lines are read as 1,024.
abbrev pub pool_slots : ℕ
pool_slots = 8

abbrev pub lease_slots : ℕ
lease_slots = 1024

-- As OLDER_LEASES in the code: "Older desks read only 256 lines".
abbrev pub older_slots : ℕ
older_slots = 256

-- "A root has length 8 to 30", as SHORTEST_POOL in the code.
abbrev pub shortest_pool : ℕ
shortest_pool = 8

-- Row 4 and row 12: no time is above 4,292,375,295.
abbrev pub latest : ℕ
latest = 4292375295

-- How many addresses there are: an address has 32 bits.
abbrev pub addresses : ℕ
addresses = 4294967296

-- The prefix of a pool (document 01: a root), and of a lease (document 01: a line).
abbrev pub pool_prefix : Pool → Prefix
pool_prefix p = prefix p.network p.length

abbrev pub prefix_of : Lease → Prefix
prefix_of x = prefix x.network x.length

abbrev pub network_of : Lease → ℕ
network_of x = x.network

-- An unused pool slot, and an empty lease slot (document 01: an empty line): "all zero".
abbrev pub no_pool : Pool
no_pool = record { network = 0; length = 0 }

abbrev pub no_lease : Lease
no_lease = record { network = 0; length = 0; client = 0; leased = false; h = false; d = false; expires = 0; name = no_name }

abbrev pub pool_zeros : Pool → List Bool
pool_zeros p = eqb p.network 0 ∷ eqb p.length 0 ∷ []

unfoldable pub unused? : Pool → Bool
unused? p = and (pool_zeros p)

abbrev pub lease_zeros : Lease → List Bool
lease_zeros x = eqb x.network 0 ∷ eqb x.length 0 ∷ eqb x.client 0 ∷ not x.leased ∷ not x.h ∷ not x.d ∷ eqb x.expires 0 ∷ unnamed? x.name ∷ []

unfoldable pub empty? : Lease → Bool
empty? x = and (lease_zeros x)

-- The pools that are used, as prefixes.
unfoldable pub prefixes_of : List Pool → List Prefix
prefixes_of ps = map pool_prefix (filter (λ p. not (unused? p)) ps)

abbrev pub pools_of : LeaseTable → List Prefix
pools_of t = prefixes_of t.pools

-- The leases present at a time: "lines with end at or before now count as absent, and as empty lines". An empty slot expires at 0, so it is none.
unfoldable pub present : ℕ → List Lease → List Lease
present now xs = filter (λ x. ltb now x.expires) xs

-- Row 12, the head: "a term (60 to 2,592,000 s), a length for asks with prefix 0 (1 to 30)", "start time (above 4,292,375,295)".
abbrev pub head_rules : ℕ → ℕ → ℕ → List Bool
head_rules term default_length last =
    leb 60 term ∷ leb term 2592000 ∷ leb shortest default_length ∷ leb default_length longest ∷ leb last latest ∷ []

unfoldable pub head_ok : ℕ → ℕ → ℕ → Bool
head_ok term default_length last = and (head_rules term default_length last)

-- Row 12, a pool: "A root has length 8 to 30, is aligned (its network is a multiple of its size)". Its addresses have 32 bits.
abbrev pub pool_rules : Pool → List Bool
pool_rules p = leb shortest_pool p.length ∷ leb p.length longest ∷ aligned? (pool_prefix p) ∷ leb (end (pool_prefix p)) addresses ∷ []

unfoldable pub pool_ok : Pool → Bool
pool_ok p = and (pool_rules p)

-- A lease: "A line is a block inside one root, a station (not 0), held or leased, the bits h and d, and an end"; "each line is as just said and
-- aligned"; "every line's end is after the last time"; "A block length runs from 1 to 30".
abbrev pub lease_rules : List Prefix → ℕ → Lease → List Bool
lease_rules pools last x =
    leb shortest x.length
    ∷ leb x.length longest
    ∷ aligned? (prefix_of x)
    ∷ not (eqb x.client 0)
    ∷ ltb last x.expires
    ∷ any? (inside? (prefix_of x)) pools
    ∷ []

unfoldable pub lease_ok : List Prefix → ℕ → Lease → Bool
lease_ok pools last x = and (lease_rules pools last x)

-- From the address `from` on the slots "ascend by network without overlap", each as `ok` says; those that are `none?` follow, and no other after them.
unfoldable pub ascends? : {A : Type 0} → (A → Bool) → (A → Bool) → (A → Prefix) → ℕ → List A → Bool
ascends? none? ok prefix_of from [] = true
ascends? none? ok prefix_of from (x ∷ xs) =
    let rest = ascends? none? ok prefix_of (end (prefix_of x)) xs in
    cond (none? x) (all? none? xs) (leb from (prefix_of x).network && (ok x && rest))

abbrev pub pools_ascend? : List Pool → Bool
pools_ascend? ps = ascends? unused? pool_ok pool_prefix 0 ps

abbrev pub leases_ascend? : List Prefix → ℕ → ℕ → List Lease → Bool
leases_ascend? pools last from xs = ascends? empty? (lease_ok pools last) prefix_of from xs

-- SOUND: "head and roots keep open's rules (row 12), each line is as just said and aligned, roots and lines each ascend by network without overlap,
-- every line's end is after the last time, empty lines and unused roots follow and are all zero". It is measured against the last time, never now.
-- For a desk with so many lease slots; an older desk has fewer.
abbrev pub rules_for : ℕ → LeaseTable → List Bool
rules_for slots t =
    eqb (length t.pools) pool_slots
    ∷ eqb (length t.leases) slots
    ∷ head_ok t.term t.default_length t.last
    ∷ ltb 0 (length (pools_of t))
    ∷ pools_ascend? t.pools
    ∷ leases_ascend? (pools_of t) t.last 0 t.leases
    ∷ []

unfoldable pub sound_for : ℕ → LeaseTable → Bool
sound_for slots t = and (rules_for slots t)

abbrev pub table_rules : LeaseTable → List Bool
table_rules = rules_for lease_slots

unfoldable pub sound : LeaseTable → Bool
sound t = and (table_rules t)

-- Leases in the table's slots, with empty slots behind them; the same for pools.
abbrev pub padded_to : ℕ → List Lease → List Lease
padded_to slots xs = xs ++ replicate (slots - length xs) no_lease

abbrev pub padded : List Lease → List Lease
padded = padded_to lease_slots

abbrev pub padded_pools : List Pool → List Pool
padded_pools ps = ps ++ replicate (pool_slots - length ps) no_pool

-- A table as a desk with so many lease slots has it.
abbrev pub cut : ℕ → LeaseTable → LeaseTable
cut slots t = record { pools = t.pools; leases = take slots t.leases; term = t.term; default_length = t.default_length; last = t.last }

-- The table of all zeros, which is not sound: what a refusal holds in a table's place.
abbrev pub blank : LeaseTable
blank = record { pools = replicate pool_slots no_pool; leases = replicate lease_slots no_lease; term = 0; default_length = 0; last = 0 }

-- The table that an accepted call leaves: these leases, every other slot empty, and the time as the last time.
unfoldable pub store : LeaseTable → ℕ → List Lease → LeaseTable
store t now xs = record { pools = t.pools; leases = padded xs; term = t.term; default_length = t.default_length; last = now }

-- A lease among others, ascending by network.
abbrev pub insert : Lease → List Lease → List Lease
insert x xs = insert_by network_of x xs
