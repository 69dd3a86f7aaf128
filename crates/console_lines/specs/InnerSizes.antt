-- How much text the parts of what the reader finds make at most, and that their places stand within their option.
use Rattle.std.specs.Prelude.{ℕ, ◌+◌, ◌-◌, ◌*◌, ◌≤◌, List, length}
use Rattle.counts.specs.Counts.{counted_lengths}
use Rattle.option.specs.declared.Suboption.{Suboption}
use Rattle.option.specs.declared.Suboption.TheVariants.{Request, Information, Name, Unknown}

-- An entry up to its figures, its figures, and both; a request; an address. A number takes at most nine bytes more than the `%` of its pattern.
abbrev pub head_most : ℕ
head_most = 95

abbrev pub figures_most : ℕ
figures_most = 33

abbrev pub entry_most : ℕ
entry_most = 190

abbrev pub request_most : ℕ
request_most = 52

abbrev pub address_most : ℕ
address_most = 95

-- A prefix.
abbrev pub prefix_most : ℕ
prefix_most = 54

-- A row of the figures sheet up to its figures; the name of a figure, and a figure with its name.
abbrev pub row_head_most : ℕ
row_head_most = prefix_most + 8

abbrev pub figure_name_most : ℕ
figure_name_most = 12

abbrev pub figure_most : ℕ
figure_most = figure_name_most + 10

-- A length and its count; a row of them.
abbrev pub count_most : ℕ
count_most = 22

abbrev pub row_counts_most : ℕ
row_counts_most = count_most * counted_lengths

-- 28 bytes for each byte of an option hold its text.
abbrev pub most : Suboption → ℕ
most (Request r) = request_most
most (Information f) = 38 + 28 * (f.entries.end - f.entries.at)
most (Name n) = 6 + 2 * (n.end - n.start)
most (Unknown u) = 8

abbrev pub Within : List ℕ → Suboption → Type 0
Within s (Request r) = Unit {0}
Within s (Information f) = Unit {0}
Within s (Name n) = (n.start ≤ n.end) × (n.end ≤ length s)
Within s (Unknown u) = Unit {0}
