-- How long a sheet can be, as the sizes in the code.
use Rattle.std.specs.Prelude.{ℕ, ◌+◌, ◌-◌, ◌*◌, ◌++◌, length}
use Rattle.text.specs.Ascii.{ascii}
use Rattle.prefix.specs.Prefixes.{longest}
use Rattle.names.specs.Names.{longest_name}
use Rattle.table.specs.Table.{pool_slots, lease_slots}

-- The longest prefix, and the longest number of 32 bits.
abbrev pub prefix_most : ℕ
prefix_most = length (ascii "255.255.255.252/30")

abbrev pub number_most : ℕ
number_most = length (ascii "4294967295")

-- The marks of a prefix, and the words of each row.
abbrev pub prefix_marks : ℕ
prefix_marks = length (ascii ".../")

abbrev pub used_words : ℕ
used_words = length (ascii "used " ++ ascii " station " ++ ascii " until " ++ ascii "\n")

abbrev pub free_words : ℕ
free_words = length (ascii "free " ++ ascii "\n")

abbrev pub head_words : ℕ
head_words = length (ascii "sheet lines=" ++ ascii " free=" ++ ascii "\n")

-- A name, with its word.
abbrev pub name_most : ℕ
name_most = length (ascii " name ") + longest_name

abbrev pub used_most : ℕ
used_most = used_words + prefix_most + 2 * number_most + name_most

abbrev pub free_most : ℕ
free_most = free_words + prefix_most

-- A pool has a length of 8 or more, a lease one of 30 or less: 22 free rows for each lease, and one for each pool.
abbrev pub halvings : ℕ
halvings = longest - 8

abbrev pub most_free : ℕ
most_free = halvings * lease_slots + pool_slots

-- How many digits the numbers of leases and of free rows have.
abbrev pub lease_digits : ℕ
lease_digits = 4

abbrev pub free_digits : ℕ
free_digits = 5

abbrev pub head_most : ℕ
head_most = head_words + lease_digits + free_digits

-- A buffer of this many bytes holds the sheet of every sound table.
abbrev pub sheet_size : ℕ
sheet_size = head_most + used_most * lease_slots + free_most * most_free
