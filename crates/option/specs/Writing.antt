-- Option 220 (RFC 6656) as bytes: what a list of suboptions is written as. The rules are those of document 01, "Option 220 as bytes".
use Rattle.std.specs.Prelude.{ℕ, ◌+◌, ◌*◌, ◌/◌, ◌%◌, List, [], ◌∷◌, ◌++◌, Bool, true, false, length}
use Rattle.lists.specs.Lists.{concat_map}
use Rattle.option.specs.Values.{Entry, SuboptionValue, request, information, name, unknown}

-- "high byte first": the bytes of a number of 16 and of 32 bits.
unfoldable pub two_bytes : ℕ → List ℕ
two_bytes n = n / 256 ∷ n % 256 ∷ []

unfoldable pub four_bytes : ℕ → List ℕ
four_bytes n = n / 16777216 ∷ n / 65536 % 256 ∷ n / 256 % 256 ∷ n % 256 ∷ []

abbrev pub bit : Bool → ℕ
bit true = 1
bit false = 0

-- A flags byte, from the bit of value 2 and the bit of value 1. Rule 6: undefined bits are "written as 0".
abbrev pub flags : Bool → Bool → ℕ
flags b a = bit b * 2 + bit a

-- Rule 3: a request.
unfoldable pub request_bytes : Bool → Bool → ℕ → List ℕ
request_bytes h i length = 1 ∷ 2 ∷ flags i h ∷ length ∷ []

-- Rule 4: an entry, its seven bytes and then its figures; an information, its three bytes and then its entries.
unfoldable pub entry_head : ℕ → ℕ → Bool → Bool → ℕ → List ℕ
entry_head network length h d stat = four_bytes network ++ length ∷ flags h d ∷ stat ∷ []

unfoldable pub entry_bytes : Entry → List ℕ
entry_bytes e = entry_head e.network e.length e.h e.d (2 * length e.figures) ++ concat_map two_bytes e.figures

unfoldable pub entries_bytes : List Entry → List ℕ
entries_bytes es = concat_map entry_bytes es

unfoldable pub information_head : ℕ → Bool → Bool → List ℕ
information_head len c s = 2 ∷ len ∷ flags c s ∷ []

-- Rules 3, 4 and 5. An information's Len counts its flags and its entries. An unknown suboption is never written.
unfoldable pub suboption_bytes : SuboptionValue → List ℕ
suboption_bytes (request h i length) = request_bytes h i length
suboption_bytes (information c s entries) = information_head (1 + length (entries_bytes entries)) c s ++ entries_bytes entries
suboption_bytes (name octets) = 3 ∷ length octets ∷ octets
suboption_bytes unknown = []

-- Rule 7: each suboption by itself, in order.
unfoldable pub suboptions_bytes : List SuboptionValue → List ℕ
suboptions_bytes subs = concat_map suboption_bytes subs

-- Rule 1: Code, Len, which counts the flags and the suboptions, and the option's flags. Rule 6: these are 0.
unfoldable pub option_head : ℕ → List ℕ
option_head len = 220 ∷ len ∷ 0 ∷ []

unfoldable pub option_bytes : List SuboptionValue → List ℕ
option_bytes subs = option_head (1 + length (suboptions_bytes subs)) ++ suboptions_bytes subs

-- What writing answers: a refusal with its number, or the bytes.
pub data Writing : Type 0 where
  refused_with : ℕ → Writing
  written : List ℕ → Writing
