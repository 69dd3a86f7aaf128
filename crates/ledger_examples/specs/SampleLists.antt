-- Lists of ask calls that meet the premise of demand 3, and asks that are refused: the tables and the calls.
use Rattle.std.specs.Prelude.{ℕ, zero, suc, ◌+◌, Bool, true, false, List, [], ◌∷◌, replicate}
use Rattle.std.proofs.Math.Option.{Option}
use Rattle.prefix.specs.declared.Prefix.{Prefix}
use Rattle.option.specs.Values.{Entry}
use Rattle.names.specs.Names.{no_name}
use Rattle.table.specs.declared.Lease.{Lease}
use Rattle.table.specs.Table.{no_pool, padded}
use Rattle.ledger.specs.Ledger.{State, filled, Call, call}
use Rattle.ledger.specs.Demand3.{Fate, fate, meets}
use Rattle.ledger_examples.specs.Examples.{buffer, requesting}

-- A table with one pool, last written at 1000; nothing was told of its leases.
unfoldable pub table_with : ℕ → ℕ → List Lease → State
table_with network len xs = filled (record {
  pools = record { network = network; length = len } ∷ replicate 7 no_pool;
  leases = padded xs;
  term = 3600;
  default_length = 28;
  last = 1000;
})

-- A lease of client 5, and n of length 30, one after another.
unfoldable pub lease : ℕ → ℕ → ℕ → Lease
lease network len expires = record { network = network; length = len; client = 5; leased = true; h = false; d = false; expires = expires; name = no_name }

unfoldable pub leases_from : ℕ → ℕ → List Lease
leases_from network zero = []
leases_from network (suc n) = lease network 30 9000 ∷ leases_from (network + 4) n

-- A lease that a client holds: offered to it, and not yet taken.
unfoldable pub held : ℕ → ℕ → ℕ → Bool → Bool → ℕ → Lease
held client network len h d expires = record { network = network; length = len; client = client; leased = false; h = h; d = d; expires = expires; name = no_name }

-- A call by a client with these bytes, with room for a reply.
unfoldable pub call_by : ℕ → List ℕ → Call
call_by client option = call client option buffer

-- Two requests, and three, in one option.
abbrev pub two : ℕ → ℕ → List ℕ
two a b = 0xdc ∷ 9 ∷ 0 ∷ 1 ∷ 2 ∷ 0 ∷ a ∷ 1 ∷ 2 ∷ 0 ∷ b ∷ []

abbrev pub three : ℕ → ℕ → ℕ → List ℕ
three a b c = 0xdc ∷ 13 ∷ 0 ∷ 1 ∷ 2 ∷ 0 ∷ a ∷ 1 ∷ 2 ∷ 0 ∷ b ∷ 1 ∷ 2 ∷ 0 ∷ c ∷ []

-- A list with its table, its time, and networks that can be chosen.
pub record Sample : Type 0 where
  pub start : State
  pub now : ℕ
  pub calls : List Call
  pub networks : List ℕ

-- Calls that are not well-formed in between: client 0, a buffer too short, bytes that are no option, a bad suboption, no request.
unfoldable pub malformed_between : Sample
malformed_between = record {
  start = table_with 0x0a000100 24 [];
  now = 1000;
  calls =
      call_by 0 (requesting 24)
      ∷ call_by 7 (requesting 26)
      ∷ call 7 (requesting 24) (replicate 256 0)
      ∷ call_by 7 []
      ∷ call_by 7 (requesting 31)
      ∷ call_by 7 (0xdc ∷ 3 ∷ 0 ∷ 9 ∷ 0 ∷ [])
      ∷ call_by 8 (requesting 25)
      ∷ [];
  networks = 0x0a000100 ∷ 0x0a000180 ∷ [];
}

-- The ground of leases that end at the time of the asks.
unfoldable pub ended_ground : Sample
ended_ground = record {
  start = table_with 0x0a000100 24 (lease 0x0a000100 25 1120 ∷ lease 0x0a000180 25 1120 ∷ []);
  now = 1120;
  calls = call_by 7 (requesting 24) ∷ [];
  networks = 0x0a000100 ∷ [];
}

-- Prefix 0: the default length, 28.
unfoldable pub prefix_zero : Sample
prefix_zero = record { start = table_with 0x0a000100 24 []; now = 1000; calls = call_by 7 (two 0 28) ∷ []; networks = 0x0a000100 ∷ 0x0a000110 ∷ [] }

-- 1,022 leases, and two asks: exactly 1,024 at the end.
unfoldable pub last_slots : Sample
last_slots = record {
  start = table_with 0x0a000000 19 (leases_from 0x0a000000 1022);
  now = 1000;
  calls = call_by 7 (requesting 30) ∷ call_by 8 (requesting 20) ∷ [];
  networks = 0x0a000ff8 ∷ 0x0a001000 ∷ [];
}

-- The ground filled exactly, by two calls.
unfoldable pub filled_exactly : Sample
filled_exactly = record {
  start = table_with 0x0a000100 24 [];
  now = 1000;
  calls = call_by 7 (two 26 25) ∷ call_by 8 (requesting 26) ∷ [];
  networks = 0x0a000100 ∷ 0x0a000180 ∷ 0x0a000140 ∷ [];
}

-- A client with a lease of the length asked for that is leased, and one that it held until the time of the ask: it holds nothing.
unfoldable pub leased_before : Sample
leased_before = record {
  start = table_with 0x0a000100 24 (lease 0x0a000100 26 9000 ∷ held 5 0x0a000140 26 false false 1120 ∷ []);
  now = 1120;
  calls = call_by 5 (requesting 26) ∷ [];
  networks = 0x0a000180 ∷ [];
}

unfoldable pub samples : List Sample
samples = malformed_between ∷ ended_ground ∷ prefix_zero ∷ last_slots ∷ filled_exactly ∷ leased_before ∷ []

-- Lists that break the claim: they meet the premise but for "stations hold nothing at the start", and but for "each station's asks come in one message".
unfoldable pub held_at_start : Sample
held_at_start = record {
  start = table_with 0x0a000100 24 (held 7 0x0a000100 26 false false 1100 ∷ []);
  now = 1050;
  calls = call_by 7 (requesting 26) ∷ [];
  networks = 0x0a000140 ∷ [];
}

unfoldable pub in_two_messages : Sample
in_two_messages = record {
  start = table_with 0x0a000100 24 [];
  now = 1000;
  calls = call_by 7 (requesting 26) ∷ call_by 7 (requesting 26) ∷ [];
  networks = 0x0a000100 ∷ 0x0a000140 ∷ [];
}

-- The fates of a call's asks, each on what it meets.
abbrev pub fates : List Prefix → List (Option Entry) → List Fate
fates used [] = []
fates used (g ∷ gs) = fate used g ∷ fates (meets g used) gs

-- Tables on which asks are refused: for want of ground, and (with 1,024 leases) for want of lines.
unfoldable pub narrow : State
narrow = table_with 0x0a000100 24 []

unfoldable pub crowded : ℕ → State
crowded n = table_with 0x0a000000 19 (leases_from 0x0a000000 n)
