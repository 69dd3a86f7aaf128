-- IN RANGE: of arguments within the sizes of the code's types, results within them. The ledger speaks of all numbers; the code has 32 bits for a network, a
-- client and a time, 16 for a figure, 8 for a length and a byte, and 64 for eight octets of a name.
use Rattle.std.specs.Prelude.{ℕ, ◌+◌, ◌≤◌, ◌<◌, Bool, List}
use Rattle.lists.specs.Lists.{All}
use Rattle.option.specs.Values.{longest_option}
use Rattle.option.specs.Selection.{selection_size}
use Rattle.names.specs.declared.Name.{Name}
use Rattle.table.specs.declared.{Pool.Pool, Lease.Lease, LeaseTable.LeaseTable}
use Rattle.table.specs.Table.{lease_slots}
use Rattle.figures.specs.declared.FigureRow.{FigureRow}
use Rattle.ledger.specs.declared.Answer.{Answer}
use Rattle.ledger.specs.Ledger.{State, Call, Result, Calls, returned as returned_option, open_table}
use Rattle.ledger.specs.Histories.{Event, asked, taken, was_listed, returned, marked, saved, afterwards}
use Rattle.ledger.specs.Sizes.{Byte, Bytes}

-- A number of 32 bits, and one of 16.
abbrev pub Word : ℕ → Type 0
Word n = n < 4294967296

abbrev pub Figure : ℕ → Type 0
Figure n = n < 65536

-- Eight octets of a name.
abbrev pub NameWord : ℕ → Type 0
NameWord n = n < 18446744073709551616

-- The highest number of a refusal: document 01 has numbers up to 14, the change requests (document 02) up to 25.
abbrev pub highest_number : ℕ
highest_number = 25

-- WHAT A CALL IS GIVEN

pub record PoolInRange (p : Pool) : Type 0 where
  pub network : Word p.network
  pub length : Byte p.length

pub record NameInRange (n : Name) : Type 0 where
  pub first : NameWord n.first
  pub second : NameWord n.second
  pub third : NameWord n.third

pub record LeaseInRange (x : Lease) : Type 0 where
  pub network : Word x.network
  pub length : Byte x.length
  pub client : Word x.client
  pub expires : Word x.expires
  pub name : NameInRange x.name

pub record TableInRange (t : LeaseTable) : Type 0 where
  pub pools : All PoolInRange t.pools
  pub leases : All LeaseInRange t.leases
  pub term : Word t.term
  pub default : Byte t.default_length
  pub last : Word t.last

pub record RowInRange (r : FigureRow) : Type 0 where
  pub network : Word r.network
  pub length : Byte r.length
  pub high-water : Figure r.high_water.0
  pub in_use : Figure r.in_use.0
  pub unusable : Figure r.unusable.0

pub record StateInRange (s : State) : Type 0 where
  pub table : TableInRange s.table
  pub rows : All RowInRange s.rows

pub record CallInRange (c : Call) : Type 0 where
  pub client : Word c.client
  pub option : Bytes c.option
  pub selection : Bytes (returned_option c.selection)
  pub reply : Bytes c.reply

-- WHAT IT GIVES

-- A place lies in an option, the bytes written fit the smallest reply buffer, and a count is one of leases.
pub record AnswerInRange (a : Answer) : Type 0 where
  pub number : a.number ≤ highest_number
  pub place : a.place ≤ longest_option
  pub bytes : a.bytes ≤ longest_option + selection_size
  pub count : a.count ≤ lease_slots

-- `Fits`: what goes from call to call is in range.
pub record ResultInRange {S : Type 0} (Fits : S → Type 0) (r : Result S) : Type 0 where
  pub answer : AnswerInRange r.answer
  pub left : Fits r.state
  pub reply : Bytes r.reply

-- OF ANY CALLS. A time may be any number, as may the prefix of a mark: row 4 and row 11 refuse what is out of range.
pub record InRange {S : Type 0} (Fits : S → Type 0) (calls : Calls S) : Type 0 where
  pub asks : (s : S) (now : ℕ) (c : Call) → Fits s → CallInRange c → ResultInRange Fits (calls.asks s now c)
  pub takes : (s : S) (now : ℕ) (c : Call) → Fits s → CallInRange c → ResultInRange Fits (calls.takes s now c)
  pub lists : (s : S) (now : ℕ) (c : Call) → Fits s → CallInRange c → ResultInRange Fits (calls.lists s now c)
  pub releases : (s : S) (now : ℕ) (c : Call) → Fits s → CallInRange c → ResultInRange Fits (calls.releases s now c)
  pub marks : (s : S) (now network len : ℕ) (d : Bool) → Fits s → ResultInRange Fits (calls.marks s now network len d)

-- And of histories of them.
abbrev pub EventInRange : Event → Type 0
EventInRange (asked now c) = CallInRange c
EventInRange (taken now c) = CallInRange c
EventInRange (was_listed now c) = CallInRange c
EventInRange (returned now c) = CallInRange c
EventInRange (marked now network len d) = Unit {0}
EventInRange saved = Unit {0}

abbrev pub StaysInRange : {S : Type 0} → (S → Type 0) → Calls S → Type 0
StaysInRange {S} Fits calls = (es : List Event) (s : S) → Fits s → All EventInRange es → Fits (afterwards calls s es)

-- OPEN, which has no state before it.
pub record OpenInRange (networks lengths : List ℕ) (term default_length start : ℕ) : Type 0 where
  pub networks-are : All Word networks
  pub lengths-are : All Byte lengths
  pub term_is : Word term
  pub default-is : Byte default_length
  pub start_is : Word start

abbrev pub OpensInRange : Type 0
OpensInRange = (networks lengths : List ℕ) (term default_length start : ℕ) → OpenInRange networks lengths term default_length start
    → ResultInRange StateInRange (open_table networks lengths term default_length start)
