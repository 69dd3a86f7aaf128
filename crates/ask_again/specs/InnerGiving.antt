-- The leases that a client holds, in the records of an image, and the place of one given to the first request that waits for it.
use Rattle.std.specs.Prelude.{ℕ, ◌+◌, ◌*◌, ◌≤◌, ◌<◌, ◌≡◌, Bool, true, false, List, [], ◌∷◌, ltb, length, take, drop, get_or, Some, None}
use Rattle.std.specs.Prelude.{Option as Optional}
use Rattle.lists.specs.Lists.{All, and}
use Rattle.table.specs.declared.{Lease.Lease, LeaseTable.LeaseTable}
use Rattle.table.specs.Table.{no_lease}
use Rattle.image.specs.Image.{lease_size}
use Rattle.image.specs.Reading.{lease_in}
use Rattle.option.specs.Contents.{Request}
use Rattle.ledger.specs.Ledger.{held_by?}
use Rattle.ledger.specs.InnerAgain.{give}
use Rattle.ask_again.specs.Places.{no_place, Within, given_in, others_in, Asks}

-- Whether the record here is that of a lease which the client holds, and which is present.
abbrev pub held_at? : List ℕ → ℕ → ℕ → ℕ → Bool
held_at? image at client now = and (held_by? client (lease_in (drop at image)) ∷ ltb now (lease_in (drop at image)).expires ∷ [])

-- The next of n records, from the i-th on, that is one, if there is one.
pub record Past (image : List ℕ) (from client now i r : ℕ) : Type 0 where
  pub on : i ≤ r
  pub past : (k : ℕ) → k < r → i ≤ k → held_at? image (from + lease_size * k) client now ≡ false

abbrev pub NextHeld : List ℕ → ℕ → ℕ → ℕ → ℕ → ℕ → Optional ℕ → Type 0
NextHeld image from client now i n (Some r) = Past image from client now i r × (r < n) × (held_at? image (from + lease_size * r) client now ≡ true)
NextHeld image from client now i n None = Past image from client now i n

-- The next four records are those of other clients' leases.
abbrev pub OthersAt : List ℕ → ℕ → ℕ → Type 0
OthersAt image at client = (m : ℕ) → m < 4 → (lease_in (drop (at + lease_size * m) image)).client ≡ client → ⊥

-- A lease that a client holds, at a place, with this length and h.
pub record HeldAt (client : ℕ) (us : List Lease) (place len : ℕ) (flag : Bool) : Type 0 where
  pub held : held_by? client (get_or us place no_lease) ≡ true
  pub length : (get_or us place no_lease).length ≡ len
  pub h : (get_or us place no_lease).h ≡ flag

-- The column of places before it and after it; r is how many requests get it.
pub record Given (asked_lengths asked_h : List ℕ) (default_length place len : ℕ) (h : Bool) (before after : List ℕ) (r : ℕ) : Type 0 where
  pub count : others_in no_place after (length asked_lengths) ≡ others_in no_place before (length asked_lengths) + r
  pub within : (n : ℕ) → place < n → All (Within n) (take (length asked_lengths) before) → All (Within n) (take (length asked_lengths) after)
  pub given : (t : LeaseTable) (client : ℕ) (us : List Lease) (rs : List Request) → Asks t rs default_length asked_lengths asked_h → HeldAt client us place len h
      → given_in us (take (length asked_lengths) after) ≡ give t client (get_or us place no_lease) rs (given_in us (take (length asked_lengths) before))
