-- Option 220 (RFC 6656) as bytes: what a list of bytes reads as. The rules are those of document 01, "Option 220 as bytes".
-- Each suboption has a framing test, of its Len and what that must hold, and the field test of Rules.
use Rattle.std.specs.Prelude.{ℕ, suc, ◌+◌, ◌-◌, List, Bool, false, cond, ◌&&◌, length, get_or, take, drop, eqb, leb, ltb}
use Rattle.lists.specs.Walk.{Turn, more, stop, walk}
pub use Rattle.option_entry.specs.Entries.{two, four, bit1, bit2, entry_end}
unfoldable pub use Rattle.option_entry.specs.Entries.{figures_at, entry_at, entry_framed?, read_entry}
use Rattle.option.specs.Values.{Entry, SuboptionValue, request, information, name, unknown, Outcome, refused, accepted}
use Rattle.option.specs.Rules.{fields?}
use Rattle.option.specs.declared.Fault.{Fault}
use Rattle.option.specs.declared.Fault.TheVariants.{Framing, Field}

-- Rule 1 (RFC 6656, section 3): "Code 220, Len, option flags, then suboptions. .. The input must be the option exactly: its length is Len + 2."
-- Row 6: "under 2 bytes, other code, Len wrong, or (220) Len 0 or 1".
unfoldable pub option? : List ℕ → Bool
option? s =
    leb 2 (length s)
    && (eqb (get_or s 0 0) 220
    && (eqb (get_or s 1 0 + 2) (length s)
    && leb 2 (get_or s 1 0)))

-- Rule 2 (sections 3.1 to 3.4): "Each suboption is a number, a Len without those two bytes, and a body."
-- The place after the suboption whose number byte is at `at`, and that it lies in the option with its Len byte.
abbrev pub sub_end : List ℕ → ℕ → ℕ
sub_end s at = at + 2 + get_or s (at + 1) 0

unfoldable pub sub_inside? : List ℕ → ℕ → Bool
sub_inside? s at = leb (at + 2) (length s) && leb (sub_end s at) (length s)

-- Row 7 is "for framing (no Len byte, Len past the end, a Len that the suboption can't have, an entry cut short, a figure length odd or past the end)",
-- row 16 "for a field outside the rules (prefix, network bits past it, a name's final zero)".
abbrev pub fault_number : Fault → ℕ
fault_number Framing = 7
fault_number Field = 16

-- How a reading of suboptions ends: at the end of the option, or at a bad one, with its fault and the place of its number byte.
pub data End : Type 0 where
  whole : End
  bad_at : Fault → ℕ → End

-- A suboption from `at` to `end`: "Within one suboption framing is checked first, over the whole of it".
unfoldable pub when_good : Bool → SuboptionValue → ℕ → ℕ → Turn SuboptionValue End
when_good framed x at end = cond framed (cond (fields? x) (more x end) (stop (bad_at Field at))) (stop (bad_at Framing at))

-- Rule 3 (section 3.1): "Request (1): Len 2, flags (h is bit value 1, i is 2), prefix length".
unfoldable pub read_request : List ℕ → ℕ → ℕ → Turn SuboptionValue End
read_request s at end =
    when_good (eqb end (at + 4))
    (request (bit1 (get_or s (at + 2) 0)) (bit2 (get_or s (at + 2) 0)) (get_or s (at + 3) 0))
    at end

-- The entries from `at` to the information's end, and whether they are all framed.
unfoldable pub read_entries : List ℕ → ℕ → ℕ → List Entry × Bool
read_entries s end at = walk (read_entry s end) false (suc end) at

-- (section 3.2): "Information (2): flags with c and s in the two low bits, then one or more entries".
unfoldable pub read_information : List ℕ → ℕ → ℕ → Turn SuboptionValue End
read_information s at end =
    when_good (ltb (at + 3) end && (read_entries s end (at + 3)).1)
    (information (bit2 (get_or s (at + 2) 0)) (bit1 (get_or s (at + 2) 0)) (read_entries s end (at + 3)).0)
    at end

-- Rule 5 (section 3.3): "Name (3): Len at least 1".
unfoldable pub read_name : List ℕ → ℕ → ℕ → Turn SuboptionValue End
read_name s at end = when_good (ltb (at + 2) end) (name (take (end - (at + 2)) (drop (at + 2) s))) at end

-- Rule 2: "unknown ones are stepped over".
unfoldable pub read_body : ℕ → List ℕ → ℕ → ℕ → Turn SuboptionValue End
read_body number s at end =
    cond (eqb number 1) (read_request s at end)
    (cond (eqb number 2) (read_information s at end)
    (cond (eqb number 3) (read_name s at end)
    (more unknown end)))

-- What stands at a place of the option: its end, or a suboption.
unfoldable pub read_suboption : List ℕ → ℕ → Turn SuboptionValue End
read_suboption s at =
    cond (leb (length s) at) (stop whole)
    (cond (sub_inside? s at) (read_body (get_or s at 0) s at (sub_end s at)) (stop (bad_at Framing at)))

-- Rule 7: "Repeated suboptions are never joined": each is a value of its own, in order.
unfoldable pub read_suboptions : List ℕ → ℕ → List SuboptionValue × End
read_suboptions s at = walk (read_suboption s) whole (suc (length s)) at

-- Row 7: "bad suboption; with the place of the first one's number byte, the code byte being place 0". Row 16: "in 7's row, with the same place";
-- "between suboptions the first still wins".
abbrev pub ended : List SuboptionValue → End → Outcome
ended subs whole = accepted subs
ended subs (bad_at fault place) = refused (fault_number fault) place

-- The whole option: row 6, then rows 7 and 16. The suboptions begin at place 3.
unfoldable pub read_option : List ℕ → Outcome
read_option s = cond (option? s) (ended (read_suboptions s 3).0 (read_suboptions s 3).1) (refused 6 0)
