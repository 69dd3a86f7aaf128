-- An entry of an information of option 220 as bytes (document 01, "Option 220 as bytes", rule 4), and as the code holds it.
use Rattle.std.specs.Prelude.{ℕ, ◌+◌, ◌*◌, ◌/◌, ◌%◌, List, ◌∷◌, [], Bool, true, false, cond, ◌&&◌, length, get_or, take, eqb, leb}
use Rattle.lists.specs.Walk.{Turn, more, stop}
use Rattle.option_entry.specs.declared.Figures.{Figures}

-- An entry of an information (RFC 6656, section 3.2.1: a Subnet Prefix Information block). Its figures are, in this order,
-- high water, in use, unusable; the list ends where the figures that are given end.
pub record Entry : Type 0 where
  pub network : ℕ
  pub length : ℕ
  pub h : Bool
  pub d : Bool
  pub figures : List ℕ

-- At most three figures as the code holds them: how many there are, and 0 for those that are not there.
abbrev pub figures_of : List ℕ → Figures
figures_of l = record { count = length l; high_water = record { 0 = get_or l 0 0 }; in_use = record { 0 = get_or l 1 0 }; unusable = record { 0 = get_or l 2 0 } }

-- "high byte first": numbers of two and of four bytes.
abbrev pub two : List ℕ → ℕ → ℕ
two s at = get_or s at 0 * 256 + get_or s (at + 1) 0

abbrev pub four : List ℕ → ℕ → ℕ
four s at = ((get_or s at 0 * 256 + get_or s (at + 1) 0) * 256 + get_or s (at + 2) 0) * 256 + get_or s (at + 3) 0

-- The bits of value 1 and 2 of a flags byte. Rule 6: "Undefined flag bits are ignored on reading": no other bit is looked at,
-- and nothing of the option's own flags.
abbrev pub bit1 : ℕ → Bool
bit1 flags = eqb (flags % 2) 1

abbrev pub bit2 : ℕ → Bool
bit2 flags = eqb (flags / 2 % 2) 1

-- Rule 4 (section 3.2.1): "network (4 bytes, high byte first), prefix, flags with h and d in the two low bits, stat-len, that many bytes of
-- figures." "Figures are 16-bit, high byte first: high water, in use, unusable; those past the third are stepped over."
-- The figures in n bytes from `at` on.
unfoldable pub figures_at : List ℕ → ℕ → ℕ → List ℕ
figures_at s at n = take (n / 2) (two s at ∷ two s (at + 2) ∷ two s (at + 4) ∷ [])

unfoldable pub entry_at : List ℕ → ℕ → Entry
entry_at s at = record {
  network = four s at;
  length = get_or s (at + 4) 0;
  h = bit2 (get_or s (at + 5) 0);
  d = bit1 (get_or s (at + 5) 0);
  figures = figures_at s (at + 7) (get_or s (at + 6) 0);
}

abbrev pub entry_end : List ℕ → ℕ → ℕ
entry_end s at = at + 7 + get_or s (at + 6) 0

-- "Stat-len is even and within the suboption": the framing of an entry in an information that ends at `end`, which lies in the option.
unfoldable pub entry_framed? : List ℕ → ℕ → ℕ → Bool
entry_framed? s end at =
    leb end (length s)
    && (leb (at + 7) end
    && (eqb (get_or s (at + 6) 0 % 2) 0
    && leb (entry_end s at) end))

unfoldable pub read_entry : List ℕ → ℕ → ℕ → Turn Entry Bool
read_entry s end at = cond (leb end at) (stop true) (cond (entry_framed? s end at) (more (entry_at s at) (entry_end s at)) (stop false))
