-- What renewing leases in place leaves.
use Rattle.std.specs.Prelude.{ℕ, ◌≡◌, List, map, length, Option}
use Rattle.lists.specs.Put.{put}
use Rattle.option.specs.Values.{Entry}
use Rattle.option.specs.Writing.{entries_bytes}
use Rattle.table.specs.declared.Lease.{Lease}
use Rattle.table.specs.Table.{present}
use Rattle.option_reply.specs.Reply.{entry_of}
use Rattle.ledger.specs.Ledger.{found}
use Rattle.call_entries.specs.EntryLeases.{changed_in}
use Rattle.call_take.specs.InnerPlaces.{PlacesOf}

-- Each present lease that an entry names is leased until `expires`, and stands in the reply, in the order of the entries; `shown` counts them. The
-- places are those of the leases before the call.
pub record Renewed (buffer : List ℕ) (from : ℕ) (xs : List Lease) (now client expires : ℕ) (es : List Entry) (reply after : List ℕ) (places : List (Option ℕ)) (replied : List ℕ) (shown : ℕ) : Type 0 where
  pub counted : shown ≡ length (found client (present now xs) es)
  pub after_is : after ≡ changed_in now client expires es buffer from xs
  pub places-are : PlacesOf now client xs es places
  pub replied-is : replied ≡ put reply 6 (entries_bytes (map entry_of (found client (present now xs) es)))
