-- The reply of an ask while it is written, from what each request gets.
use Rattle.std.specs.Prelude.{ℕ, ◌+◌, ◌*◌, ◌≡◌, cond, List, [], ◌∷◌, map, eqb, length}
use Rattle.std.proofs.Math.Option.{Option, none, some}
use Rattle.lists.specs.Put.{put}
use Rattle.option.specs.Values.{SuboptionValue}
use Rattle.option.specs.Writing.{suboptions_bytes, option_bytes}
use Rattle.table.specs.declared.Lease.{Lease}
use Rattle.ledger.specs.Ledger.{information_for}
use Rattle.ask_again.specs.Places.{no_place}

-- The informations of these leases are put from place 3 on, up to a place.
pub record Shown (before after : List ℕ) (at : ℕ) (xs : List Lease) : Type 0 where
  pub ends : at ≡ 3 + 10 * length xs
  pub bytes : after ≡ put before 3 (suboptions_bytes (map information_for xs))

-- What a request gets: the lease at its place, if it has one, and otherwise a new lease, of which there is none if its length is 0.
abbrev pub given_or : ℕ → Lease → Lease → Option Lease
given_or place old new = cond (eqb place no_place) (cond (eqb new.length 0) none (some new)) (some old)

-- What each request gets, place for place: what it is given again, or what it is offered.
abbrev pub either_of : Option Lease → Option Lease → Option Lease
either_of (some x) o = some x
either_of none o = o

abbrev pub each_of : List (Option Lease) → List (Option Lease) → List (Option Lease)
each_of [] os = []
each_of (g ∷ gs) [] = []
each_of (g ∷ gs) (o ∷ os) = either_of g o ∷ each_of gs os

-- The option of these suboptions is put at the front of the reply, and has so many bytes.
pub record Replied (before after : List ℕ) (bytes : ℕ) (ss : List SuboptionValue) : Type 0 where
  pub bytes-are : bytes ≡ length (option_bytes ss)
  pub after_is : after ≡ put before 0 (option_bytes ss)
