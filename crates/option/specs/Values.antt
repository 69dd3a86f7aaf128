-- What an option 220 says: its suboptions as values.
use Rattle.std.specs.Prelude.{ℕ, Bool, List}
pub use Rattle.option_entry.specs.Entries.{Entry}

-- Len is a byte, and leaves out Code and Len: no option is longer.
abbrev pub longest_option : ℕ
longest_option = 257

-- "the option has 1 to 25 requests"
abbrev pub most_requests : ℕ
most_requests = 25

-- No option has more entries, and no reply shows more: "at most 35".
abbrev pub most_entries : ℕ
most_entries = 35

-- "Each suboption read is a request, an information, a name or an unknown one"
pub data SuboptionValue : Type 0 where
  -- h, i and the length asked for, 0 if none is suggested
  request : Bool → Bool → ℕ → SuboptionValue
  -- c, s and the entries
  information : Bool → Bool → List Entry → SuboptionValue
  -- the octets
  name : List ℕ → SuboptionValue
  unknown : SuboptionValue

-- What reading answers: a refusal with its number and its place, which is 0 for all numbers but 7 and 16; or the suboptions, in order.
pub data Outcome : Type 0 where
  refused : ℕ → ℕ → Outcome
  accepted : List SuboptionValue → Outcome
