-- The page of leases that a list shows.
use Rattle.std.specs.Prelude.{ℕ, ◌≡◌, Bool, ◌&&◌, List, map, length, take, leb, ltb, eqb}
use Rattle.std.proofs.Math.Option.{Option, none, some}
use Rattle.lists.specs.Lists.{filter}
use Rattle.lists.specs.Put.{put}
use Rattle.option.specs.Writing.{entries_bytes}
use Rattle.table.specs.declared.Lease.{Lease}
use Rattle.option_reply.specs.Reply.{most_entries, entry_of}
use Rattle.call_list.specs.declared.Page.{Page}

-- "the station's present leased lines"
abbrev pub shown? : ℕ → ℕ → Lease → Bool
shown? now client x = eqb x.client client && (x.leased && ltb now x.expires)

-- The first of the leases, which ascend, above a position; all of them are meant where there is none.
abbrev pub start_of : Option ℕ → List Lease → ℕ
start_of none xs = 0
start_of (some p) xs = length (filter (λ x. leb x.network p) xs)

-- Of the leases that there are to show "at most 35", their entries from place 6 of the reply on, and whether more remain.
pub record PageOf (ys : List Lease) (before after : List ℕ) (r : Page) : Type 0 where
  pub count : r.count ≡ length (take most_entries ys)
  pub more : r.more ≡ ltb most_entries (length ys)
  pub bytes : after ≡ put before 6 (entries_bytes (map entry_of (take most_entries ys)))
