-- The code's answers, from what the definitions of Reading say, and document 01's number and place for each.
use Rattle.std.specs.Prelude.{ℕ, ◌+◌, ◌≡◌, cond, List, [], map, length, eqb, Option, Some, None, Result, Ok, Err}
use Rattle.std.proofs.Math.Option.{none, get_or}
use Rattle.lists.specs.Put.{put}
use Rattle.lists.specs.Walk.{Turn, more, stop}
pub use Rattle.option_entry.specs.Steps.{figures_of, fields_of, entries_from, entry_step_of}
use Rattle.option.specs.Values.{Entry, SuboptionValue, request, information, name, unknown, Outcome, refused, accepted}
use Rattle.option.specs.Reading.{End, whole, bad_at}
use Rattle.option.specs.declared.Fault.TheVariants.{Framing, Field}
use Rattle.option.specs.Contents.{last_network}
use Rattle.option.specs.Selection as selection
use Rattle.option.specs.declared.{Suboption.Suboption, Cursor.Cursor, BadSuboption.BadSuboption, OptionFault.OptionFault}
use Rattle.option.specs.declared.Suboption.TheVariants.{Request, Information, Name, Unknown}
use Rattle.option.specs.declared.OptionFault.TheVariants as refusal

-- The network of the last entry; 0 if there is none.
abbrev pub last_of : List Entry → ℕ
last_of es = get_or (last_network none es) 0

-- A suboption whose number byte is at `at` and that ends before `end`.
abbrev pub suboption_of : SuboptionValue → ℕ → ℕ → Suboption
suboption_of (request h i length) at end = Request (record { h = h; i = i; length = length; at = at })
suboption_of (information c s entries) at end =
    Information (record { c = c; s = s; at = at; entries = entries_from (at + 3) end; count = length entries; last = last_of entries })
suboption_of (name octets) at end = Name (record { at = at; start = at + 2; end = end })
suboption_of unknown at end = Unknown (record { at = at; end = end })

abbrev pub cursor_at : ℕ → Cursor
cursor_at at = record { at = at }

abbrev pub step_of : ℕ → Turn SuboptionValue End → Result (Option (Suboption × Cursor)) BadSuboption
step_of at (more x next) = Ok (Some (suboption_of x at next, cursor_at next))
step_of at (stop whole) = Ok None
step_of at (stop (bad_at fault place)) = Err (record { fault = fault; place = place })

-- Networks and lengths of entries, stored in two columns from a place on.
abbrev pub InColumns : List Entry → ℕ → List ℕ → List ℕ → List ℕ → List ℕ → Type 0
InColumns es from ns ls ns' ls' = (ns' ≡ put ns from (map (λ e. e.network) es)) × (ls' ≡ put ls from (map (λ e. e.length) es))

abbrev pub entries_of : SuboptionValue → List Entry
entries_of (request h i length) = []
entries_of (information c s entries) = entries
entries_of (name octets) = []
entries_of unknown = []

-- What a step leaves of lent columns: at the end they are as they were; of a bad suboption nothing is said.
pub record Stores (t : Turn SuboptionValue End) (from : ℕ) (ns ls ns' ls' : List ℕ) : Type 0 where
  pub stored : (x : SuboptionValue) (next : ℕ) → t ≡ more x next → InColumns (entries_of x) from ns ls ns' ls'
  pub kept : t ≡ stop whole → (ns' ≡ ns) × (ls' ≡ ls)

-- The check's answer goes by how the reading ends alone.
abbrev pub checked_end : End → Result (Unit {0}) BadSuboption
checked_end whole = Ok tt
checked_end (bad_at fault place) = Err (record { fault = fault; place = place })

abbrev pub fault_of : ℕ → ℕ → OptionFault
fault_of number place = cond (eqb number 6) refusal.NotTheOption (refusal.BadSuboption (record { fault = cond (eqb number 7) Framing Field; place = place }))

abbrev pub checked_of : Outcome → Result (Unit {0}) OptionFault
checked_of (accepted subs) = Ok tt
checked_of (refused number place) = Err (fault_of number place)

abbrev pub place_of : OptionFault → ℕ
place_of refusal.NotTheOption = 0
place_of (refusal.BadSuboption bad) = bad.place

-- The same of option 118: what the paper says for each answer.
abbrev pub selected_by : Option ℕ → selection.Selected
selected_by (Some a) = selection.address a
selected_by None = selection.refused 6
