-- Where the suboptions and entries of an option stand, and which options are written back as the same bytes.
use Rattle.std.specs.Prelude.{ℕ, suc, ◌+◌, ◌%◌, ◌≤◌, ◌<◌, ◌≡◌, List, false, length, get_or}
use Rattle.lists.specs.Lists.{All}
use Rattle.lists.specs.Walk.{walk}
use Rattle.lists.specs.Properties.{Placed, placed}
use Rattle.option.specs.Values.{Entry, SuboptionValue, request, information, name, unknown}
use Rattle.option.specs.Reading.{whole, read_entry, read_suboption}

-- The elements of a list are bytes.
abbrev pub Bytes : List ℕ → Type 0
Bytes s = (k : ℕ) → get_or s k 0 < 256

-- The suboptions of an option, and the entries from `at` on of an information that ends at `end`, each with its place and the place after it.
unfoldable pub placed_suboptions : List ℕ → List (Placed SuboptionValue)
placed_suboptions s = (walk (λ at. placed at (read_suboption s at)) whole (suc (length s)) 3).0

unfoldable pub placed_entries : List ℕ → ℕ → ℕ → List (Placed Entry)
placed_entries s end at = (walk (λ at. placed at (read_entry s end at)) false (suc end) at).0

-- "no unknown suboption, no ignored bit set and no figure past the third": of an entry, of a suboption, and of the option, whose own flags are
-- all ignored.
pub record PlainEntry (s : List ℕ) (p : Placed Entry) : Type 0 where
  pub bits : get_or s (p.at + 5) 0 < 4
  pub few : get_or s (p.at + 6) 0 ≤ 6

abbrev pub PlainAs : List ℕ → ℕ → ℕ → SuboptionValue → Type 0
PlainAs s at next (request h i length) = get_or s (at + 2) 0 < 4
PlainAs s at next (information c t entries) = (get_or s (at + 2) 0 < 4) × All (PlainEntry s) (placed_entries s next (at + 3))
PlainAs s at next (name octets) = Unit {0}
PlainAs s at next unknown = ⊥

abbrev pub PlainSuboption : List ℕ → Placed SuboptionValue → Type 0
PlainSuboption s p = PlainAs s p.at p.next p.piece

pub record PlainOption (s : List ℕ) : Type 0 where
  pub bits : get_or s 2 0 ≡ 0
  pub suboptions : All (PlainSuboption s) (placed_suboptions s)

-- Rule 6: "Undefined flag bits are ignored on reading .., also in the option's own flags". Two options that differ at most in such bits: the bytes
-- of each suboption of the first are those of the second, but for flags, of which the two low bits are the same; nothing is said of the option's
-- own flags and of the body of an unknown suboption.
abbrev pub SameByte : List ℕ → List ℕ → ℕ → Type 0
SameByte s t k = get_or s k 0 ≡ get_or t k 0

abbrev pub SameBits : List ℕ → List ℕ → ℕ → Type 0
SameBits s t k = get_or s k 0 % 4 ≡ get_or t k 0 % 4

abbrev pub SameFrom : List ℕ → List ℕ → ℕ → ℕ → Type 0
SameFrom s t at end = (k : ℕ) → at ≤ k → k < end → SameByte s t k

pub record SameEntry (s t : List ℕ) (p : Placed Entry) : Type 0 where
  pub prefix : SameFrom s t p.at (p.at + 5)
  pub flags : SameBits s t (p.at + 5)
  pub figures : SameFrom s t (p.at + 6) p.next

abbrev pub SameBody : List ℕ → List ℕ → ℕ → ℕ → SuboptionValue → Type 0
SameBody s t at next (request h i length) = SameBits s t (at + 2) × SameByte s t (at + 3)
SameBody s t at next (information c f entries) = SameBits s t (at + 2) × All (SameEntry s t) (placed_entries s next (at + 3))
SameBody s t at next (name octets) = SameFrom s t (at + 2) next
SameBody s t at next unknown = Unit {0}

pub record SameSuboption (s t : List ℕ) (p : Placed SuboptionValue) : Type 0 where
  pub number : SameByte s t p.at
  pub len : SameByte s t (p.at + 1)
  pub body : SameBody s t p.at p.next p.piece

pub record SameButIgnored (s t : List ℕ) : Type 0 where
  pub size : length s ≡ length t
  pub code : SameByte s t 0
  pub len : SameByte s t 1
  pub suboptions : All (SameSuboption s t) (placed_suboptions s)
