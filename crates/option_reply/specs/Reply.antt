-- The reply of take and list.
use Rattle.std.specs.Prelude.{ℕ, Bool, List, [], ◌∷◌, map}
pub use Rattle.option.specs.Values.{most_entries}
use Rattle.option.specs.Values.{Entry, information}
use Rattle.option.specs.Writing.{option_bytes}
use Rattle.table.specs.declared.Lease.{Lease}

-- A lease as replies show it: "flags and figures from the book: h, d, no figures".
abbrev pub entry_of : Lease → Entry
entry_of x = record { network = x.network; length = x.length; h = x.h; d = x.d; figures = [] }

-- THE REPLY of take and list: an option with one information, whose entries are these leases.
unfoldable pub reply_bytes : Bool → Bool → List Lease → List ℕ
reply_bytes c s xs = option_bytes (information c s (map entry_of xs) ∷ [])
