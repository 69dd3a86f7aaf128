-- QUERIES: what the table of a lent image has, in fields, so that nobody reads the image's bytes or the sheet's text. They change nothing and have no time:
-- of what stands in the image some may have ended since.
-- Each goes by its rows. "A refusal returns its number (7 also its place), all counts 0": so every field but the number is 0 then.
use Rattle.std.specs.Prelude.{ℕ, List, [], ◌∷◌, ◌++◌, length, get_or, leb}
use Rattle.names.specs.Names.{name_octets, name_length}
use Rattle.table.specs.declared.{Pool.Pool, Lease.Lease, LeaseTable.LeaseTable}
use Rattle.table.specs.Table.{no_pool, no_lease}
use Rattle.image.specs.Image.{state_byte, bit, used_pools, used_leases}
use Rattle.ledger.specs.declared.Answer.{Answer}
use Rattle.ledger.specs.Ledger.{Row, first_of, or_else, refusal, acceptance, table_rows}
use Rattle.call_spec.specs.ImageCalls.{Lent, table_in, state_in}
use Rattle.call_query.specs.declared.{HeadAnswer.HeadAnswer, PoolAnswer.PoolAnswer, LeaseAnswer.LeaseAnswer}

-- CHECK: row 5 alone.
unfoldable pub check_image : Lent → Answer
check_image h = or_else (first_of (table_rows (state_in h))) (λ number. refusal number 0) (acceptance 0 0)

-- HEAD: "a term (60 to 2,592,000 s), a length for asks with prefix 0 (1 to 30), the last time", and how many pools and leases there are.
abbrev pub head_refusal : ℕ → HeadAnswer
head_refusal number = record { number = number; term = 0; default_length = 0; last_time = 0; pools = 0; leases = 0 }

abbrev pub head_of : LeaseTable → HeadAnswer
head_of t = record {
  number = 0;
  term = t.term;
  default_length = t.default_length;
  last_time = t.last;
  pools = length (used_pools t);
  leases = length (used_leases t);
}

unfoldable pub head_image : Lent → HeadAnswer
head_image h = or_else (first_of (table_rows (state_in h))) head_refusal (head_of (table_in h))

-- ONE OF SO MANY, by its index, which counts from 0: row 5, then row 11, "nothing found", where there is none with that index.
abbrev pub index_rows : Lent → ℕ → ℕ → List Row
index_rows h many index = table_rows (state_in h) ++ ((11, leb many index) ∷ [])

-- A POOL, of those used, in the image's order: "ascending".
abbrev pub pool_answer : ℕ → Pool → PoolAnswer
pool_answer number p = record { number = number; network = p.network; length = p.length }

unfoldable pub pool_image : Lent → ℕ → PoolAnswer
pool_image h index =
    let ps = used_pools (table_in h) in
    or_else (first_of (index_rows h (length ps) index)) (λ number. pool_answer number no_pool) (pool_answer 0 (get_or ps index no_pool))

-- A LEASE, likewise; its state is the image's: "1 held or 2 leased", and its name has zeros after it.
abbrev pub lease_answer : ℕ → ℕ → Lease → LeaseAnswer
lease_answer number state x = record {
  number = number;
  network = x.network;
  length = x.length;
  client = x.client;
  state = state;
  h = bit x.h;
  d = bit x.d;
  expires = x.expires;
  name_bytes = name_length x.name;
  name = name_octets x.name;
}

abbrev pub lease_of : Lease → LeaseAnswer
lease_of x = lease_answer 0 (state_byte x.leased) x

unfoldable pub lease_image : Lent → ℕ → LeaseAnswer
lease_image h index =
    let xs = used_leases (table_in h) in
    or_else (first_of (index_rows h (length xs) index)) (λ number. lease_answer number 0 no_lease) (lease_of (get_or xs index no_lease))
