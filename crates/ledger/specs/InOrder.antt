-- SERVED IN ORDER: "They are served in order, each on the book that the one before left." The ledger's ask gives leases again first and then serves the rest.
-- Here each request is served in its turn, on the leases that the one before left: the claim is that this comes to the same.
use Rattle.std.specs.Prelude.{ℕ, ◌≡◌, List, [], ◌∷◌}
use Rattle.std.proofs.Math.Option.{Option, none, some}
use Rattle.names.specs.declared.Name.{Name}
use Rattle.table.specs.declared.{Lease.Lease, LeaseTable.LeaseTable}
use Rattle.table.specs.Table.{present}
use Rattle.option.specs.Contents.{Request, requests_in}
use Rattle.ledger.specs.Ledger.{offer, add, held_for?, first_that, but_first, hold_again, held_again, Call, ask_name, narrowed, usable_leases, gives_in, leases_in}

-- What a request gets, its lease again or what it is offered, and the leases that it leaves.
abbrev pub again_or : ℕ → Option Lease → Option Lease → Option Lease
again_or now (some x) o = some (hold_again now x)
again_or now none o = o

abbrev pub left_by : ℕ → Option Lease → Option Lease → List Lease → List Lease
left_by now (some x) o xs = held_again now (x ∷ []) xs
left_by now none o xs = add o xs

-- `hs` are those held before the message that are left to be given again, `xs` the leases that the request meets.
unfoldable pub one_by_one : LeaseTable → ℕ → ℕ → Name → List Lease → List Lease → List Request → List (Option Lease)
one_by_one t now client name hs xs [] = []
one_by_one t now client name hs xs (r ∷ rs) =
    let g = first_that (held_for? t client r) hs in
    let o = offer t now client name xs r in
    again_or now g o ∷ one_by_one t now client name (but_first (held_for? t client r) hs) (left_by now g o xs) rs

unfoldable pub left_one_by_one : LeaseTable → ℕ → ℕ → Name → List Lease → List Lease → List Request → List Lease
left_one_by_one t now client name hs xs [] = xs
left_one_by_one t now client name hs xs (r ∷ rs) =
    let g = first_that (held_for? t client r) hs in
    left_one_by_one t now client name (but_first (held_for? t client r) hs) (left_by now g (offer t now client name xs r) xs) rs

-- Of a call on the leases that are present, with its ground and those of them that lie on it.
pub record ServedInOrder (t : LeaseTable) (now : ℕ) (c : Call) : Type 0 where
  pub gives : one_by_one (narrowed t c) now c.client (ask_name c) (usable_leases t c (present now t.leases)) (present now t.leases) (requests_in c.option) ≡ gives_in t now c
  pub leaves : left_one_by_one (narrowed t c) now c.client (ask_name c) (usable_leases t c (present now t.leases)) (present now t.leases) (requests_in c.option) ≡ leases_in t now c
