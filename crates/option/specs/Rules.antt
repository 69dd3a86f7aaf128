-- The rules of a suboption's fields, which the reader and the writer share. (How its bytes are framed is in Reading.)
use Rattle.std.specs.Prelude.{ℕ, ◌-◌, Bool, true, not, List, length, get_or, eqb, leb}
use Rattle.lists.specs.Lists.{all?}
use Rattle.prefix.specs.Prefixes.{checked, longest}
pub use Rattle.prefix.specs.Prefixes.{block?}
use Rattle.option.specs.Values.{Entry, SuboptionValue, request, information, name, unknown}

-- Rule 4: "An entry's prefix is 1 to 30, and network bits past the prefix are 0": it is a block, as Prefix::new decides.
unfoldable pub entry_fields? : Entry → Bool
entry_fields? e = block? (checked e.network e.length)

-- The octet that a name ends with.
abbrev pub final : List ℕ → ℕ
final octets = get_or octets (length octets - 1) 0

-- Rule 3: "prefix length 0 to 30". Rule 4: each entry. Rule 5: "not ended by a zero byte".
unfoldable pub fields? : SuboptionValue → Bool
fields? (request h i length) = leb length longest
fields? (information c s entries) = all? entry_fields? entries
fields? (name octets) = not (eqb (final octets) 0)
fields? unknown = true
