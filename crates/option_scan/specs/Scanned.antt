-- What is read of an option's suboptions, in the ledger's terms.
use Rattle.std.specs.Prelude.{ℕ, ◌+◌, ◌≤◌, ◌≡◌, Bool, cond, List, map, length, take, drop, Option as Maybe, Some, None, Result, Ok, Err}
use Rattle.std.proofs.Math.Option.{Option, none, some}
use Rattle.lists.specs.Lists.{filter}
use Rattle.option.specs.Values.{most_requests, most_entries, Entry, SuboptionValue, accepted}
use Rattle.option.specs.Reading.{read_option}
use Rattle.option.specs.Answers.{checked_of}
use Rattle.option.specs.Contents as contents
use Rattle.option.specs.declared.OptionFault.{OptionFault}
use Rattle.option_scan.specs.declared.Contents.{Contents}

-- The lent columns: lengths and h of the requests, networks and lengths of the entries.
pub record Columns : Type 0 where
  pub asked_lengths : List ℕ
  pub asked_h : List ℕ
  pub networks : List ℕ
  pub lengths : List ℕ

abbrev pub columns : List ℕ → List ℕ → List ℕ → List ℕ → Columns
columns asked_lengths asked_h networks lengths = record { asked_lengths = asked_lengths; asked_h = asked_h; networks = networks; lengths = lengths }

-- A flag as a column has it.
abbrev pub flag_of : Bool → ℕ
flag_of b = cond b 1 0

-- The position of a list, as the ledger has it.
abbrev pub asked_position : Maybe ℕ → Option ℕ
asked_position None = none
asked_position (Some x) = some x

abbrev pub position_of : Contents → Option ℕ
position_of r = asked_position r.position

-- What is read, and the columns, hold these requests and entries, and this position of a list. Requests past those that an ask may
-- have are only counted.
pub record Scanned (r : Contents) (c : Columns) (qs : List contents.Request) (es : List Entry) (p : Option ℕ) : Type 0 where
  pub requests : r.requests ≡ length qs
  pub listing : r.listing ≡ length (filter (λ q. q.i) qs)
  pub asked_lengths : r.requests ≤ most_requests → take r.requests c.asked_lengths ≡ map (λ q. q.length) qs
  pub asked_h : r.requests ≤ most_requests → take r.requests c.asked_h ≡ map (λ q. flag_of q.h) qs
  pub entries : r.entries ≡ length es
  pub few : r.entries ≤ most_entries
  pub networks : take r.entries c.networks ≡ map (λ e. e.network) es
  pub lengths : take r.entries c.lengths ≡ map (λ e. e.length) es
  pub position : position_of r ≡ p

-- The same of suboptions.
abbrev pub ScannedOf : Contents → Columns → List SuboptionValue → Type 0
ScannedOf r c subs = Scanned r c (contents.requests subs) (contents.entries subs) (contents.position none subs)

-- A part of an option, from `at` on and n bytes long, is these octets.
pub record Stands (option : List ℕ) (at n : ℕ) (octets : List ℕ) : Type 0 where
  pub within : at + n ≤ length option
  pub part : take n (drop at option) ≡ octets

-- Where the octets of a name stand in the option; of no name, an empty part.
abbrev pub NamedIn : List ℕ → Contents → List ℕ → Type 0
NamedIn option r octets = Stands option r.name r.name_bytes octets

-- The columns have room for the requests of an ask and for the entries of an option.
pub record Long (c : Columns) : Type 0 where
  pub asked_lengths : most_requests ≤ length c.asked_lengths
  pub asked_h : most_requests ≤ length c.asked_h
  pub networks : most_entries ≤ length c.networks
  pub lengths : most_entries ≤ length c.lengths

-- What the answer says of the check.
abbrev pub checked_by : Result Contents OptionFault → Result (Unit {0}) OptionFault
checked_by (Ok contents) = Ok tt
checked_by (Err fault) = Err fault

-- WHAT `read` ANSWERS: rows 6, 7 and 16, or all that the calls look at in an option that is accepted.
pub record Reads (option : List ℕ) (r : Result Contents OptionFault) (c : Columns) : Type 0 where
  pub checked : checked_by r ≡ checked_of (read_option option)
  pub holds : (m : Contents) → r ≡ Ok m → (subs : List SuboptionValue) → read_option option ≡ accepted subs → ScannedOf m c subs
  pub named : (m : Contents) → r ≡ Ok m → (subs : List SuboptionValue) → read_option option ≡ accepted subs → NamedIn option m (contents.first_name subs)
