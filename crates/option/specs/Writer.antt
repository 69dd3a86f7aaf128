-- What the writer of option 220 answers: rows 13 and 14.
use Rattle.std.specs.Prelude.{ℕ, ◌+◌, List, Bool, false, cond, ◌&&◌, length, leb}
use Rattle.lists.specs.Lists.{all?}
use Rattle.option.specs.Values.{Entry, SuboptionValue, request, information, name, unknown}
use Rattle.option.specs.Rules.{entry_fields?, fields?}
use Rattle.option.specs.Writing.{Writing, option_bytes, refused_with, suboptions_bytes, written}

-- What can be written: a suboption that keeps the rules of Rules and has one or more entries, with at most three figures each, or one or more
-- octets.
unfoldable pub entry_writable? : Entry → Bool
entry_writable? e = leb (length e.figures) 3 && entry_fields? e

unfoldable pub writable? : SuboptionValue → Bool
writable? (request h i length) = fields? (request h i length)
writable? (information c s entries) = leb 1 (length entries) && all? entry_writable? entries
writable? (name octets) = leb 1 (length octets) && fields? (name octets)
writable? unknown = false

-- Row 13: "a suboption outside the rules above, or none at all". Row 14: "more than the buffer holds, or Len above 255".
unfoldable pub write_option : ℕ → List SuboptionValue → Writing
write_option capacity subs =
    cond (leb 1 (length subs) && all? writable? subs)
    (cond (leb (length (option_bytes subs)) capacity && leb (1 + length (suboptions_bytes subs)) 255) (written (option_bytes subs)) (refused_with 14))
    (refused_with 13)
