-- USAGE FIGURES, what document 02 says of them in M-100: rows match leases after every accepted call, and a lease's figures are those that it was told last.
-- "A high water figure must never end up filed as an in_use one": that needs no claim, for high water, in use and unusable are each a type of their own
-- (`HighWater`, `InUse`, `Unusable`), here as in the code, and one in another's place is a type error.
use Rattle.std.specs.Prelude.{ℕ, ◌<◌, ◌≡◌, ◌⊎◌, Bool, true, not, List, [], ◌∷◌, map, get_or, eqb}
use Rattle.lists.specs.Lists.{All, filter}
use Rattle.option.specs.Values.{Entry}
use Rattle.table.specs.declared.Lease.{Lease}
use Rattle.table.specs.Table.{prefix_of, present}
use Rattle.figures.specs.declared.FigureRow.{FigureRow}
use Rattle.figures.specs.Figures.{untold, untold_row, matches?}
use Rattle.ledger.specs.Ledger.{State, Call, Calls, names?, usable_entries, open_table}
use Rattle.ledger.specs.Histories.{Reachable}

-- ROWS OF A STATE

-- "Rows match lines, place for place"
abbrev pub Matched : State → Type 0
Matched s = matches? s.table.leases s.rows ≡ true

-- A lease, and the row at its place.
abbrev pub Beside : List Lease → List FigureRow → Lease → FigureRow → Type 0
Beside [] rs y q = ⊥
Beside (x ∷ xs) [] y q = ⊥
Beside (x ∷ xs) (r ∷ rs) y q = ((x ≡ y) × (r ≡ q)) ⊎ Beside xs rs y q

abbrev pub RowOf : State → Lease → FigureRow → Type 0
RowOf s x r = Beside s.table.leases s.rows x r

-- WHAT A TAKE TELLS

-- The figures at a place (high water 0, in use 1, unusable 2) that a client's entries tell of a lease, "in entry order": "0xffff or a missing figure" tells
-- nothing, and an entry that names another client's lease does not name it.
abbrev pub told : ℕ → List Entry → Lease → ℕ → List ℕ
told client es x place = filter (λ n. not (eqb n untold)) (map (λ e. get_or e.figures place untold) (filter (names? client x) es))

-- The last one told, or "what was told before".
abbrev pub last_of : ℕ → List ℕ → ℕ
last_of before [] = before
last_of before (n ∷ ns) = last_of n ns

-- "a take with figures updates the rows of its lines, in entry order; 0xffff or a missing figure keeps what was told before"
pub record Updated (client : ℕ) (es : List Entry) (x : Lease) (before after : FigureRow) : Type 0 where
  pub high-water : after.high_water.0 ≡ last_of before.high_water.0 (told client es x 0)
  pub in_use : after.in_use.0 ≡ last_of before.in_use.0 (told client es x 1)
  pub unusable : after.unusable.0 ≡ last_of before.unusable.0 (told client es x 2)

-- "nothing else changes a line's figures"
abbrev pub Unchanged : Lease → FigureRow → FigureRow → Type 0
Unchanged x before after = after ≡ before

-- AN ACCEPTED CALL at now, on s, that leaves u; `Change` is what it does to the row of a lease.
pub record FiguresAfter (Change : Lease → FigureRow → FigureRow → Type 0) (now : ℕ) (s u : State) : Type 0 where
  -- "a sheet that doesn't match is refused"
  pub matched-before : Matched s
  -- "Rows match lines, place for place, after every accepted call that has the sheet"
  pub matched-after : Matched u
  -- x was present, and y is the lease of its prefix after the call
  pub kept : (x y : Lease) (r q : FigureRow) → RowOf s x r → now < x.expires → RowOf u y q → prefix_of y ≡ prefix_of x → Change x r q
  -- "A new or loaded line starts with all three untold (0xffff)": one whose prefix no lease had that was present. Of an ended one at the same place nothing
  -- is left: "When a line is struck its row is cleared".
  pub new : (y : Lease) (q : FigureRow) → RowOf u y q → All (λ x. prefix_of x ≡ prefix_of y → ⊥) (present now s.table.leases) → q ≡ untold_row y

-- OF ANY CALLS on what holds a state. "Ask, take, return and mark take the sheet"; a list leaves all as it was.
module _ {S : Type 0} (calls : Calls S) where
  pub record FiguresKept : Type 0 where
    pub asks : (s : S) (now : ℕ) (c : Call) → (calls.asks s now c).answer.number ≡ 0 → FiguresAfter Unchanged now (calls.state_of s) (calls.state_of (calls.asks s now c).state)
    pub takes : (s : S) (now : ℕ) (c : Call) → (calls.takes s now c).answer.number ≡ 0
        → FiguresAfter (Updated c.client (usable_entries (calls.state_of s).table c)) now (calls.state_of s) (calls.state_of (calls.takes s now c).state)
    pub releases : (s : S) (now : ℕ) (c : Call) → (calls.releases s now c).answer.number ≡ 0
        → FiguresAfter Unchanged now (calls.state_of s) (calls.state_of (calls.releases s now c).state)
    pub marks : (s : S) (now network len : ℕ) (d : Bool) → (calls.marks s now network len d).answer.number ≡ 0
        → FiguresAfter Unchanged now (calls.state_of s) (calls.state_of (calls.marks s now network len d).state)

  -- Rows match leases in all that a history can reach: there row 15 applies to no call.
  abbrev pub AlwaysMatched : (S → Type 0) → Type 0
  AlwaysMatched Begins = (s : S) → Reachable calls Begins s → Matched (calls.state_of s)

-- "open and load fill it": rows that match, all untold.
abbrev pub AllUntold : State → Type 0
AllUntold s = Matched s × ((y : Lease) (q : FigureRow) → RowOf s y q → q ≡ untold_row y)

abbrev pub OpensUntold : Type 0
OpensUntold = (networks lengths : List ℕ) (term default_length start : ℕ) → (open_table networks lengths term default_length start).answer.number ≡ 0
    → AllUntold (open_table networks lengths term default_length start).state
