-- Document 01's example of a sheet, and the sheet of document 02, M-105, by computation.
-- Assumes nothing.
use Prim.Native.Nat.{ℕ, ◌-◌}
use mathlib.Core.Path.{◌≡◌, refl}
use mathlib.Core.List.{List, [], ◌∷◌, ◌++◌}
use lib.ListN.{length, replicate}
use Rattle.names.specs.Names.{unnamed?, octets, spells, name_octets, name_in, without_zeros}
use Rattle.table.specs.Table.{unused?, empty?, prefixes_of, head_ok, pool_ok, lease_ok, ascends?, sound}
use Rattle.image.specs.Fields.{number16, number32, records}
use Rattle.image.specs.Reading.{head_at_in, pool_at, lease_at_in, load_in}
use Rattle.std.specs.Prelude.{Ok, Err}
use Rattle.sheet_text.specs.declared.SheetFault.TheVariants.{NotSound, TooSmall}
use Rattle.text.specs.Ascii.{ascii}
use Rattle.text.specs.Decimal.{digits, decimal}
use Rattle.sheet_text.specs.Sheet.{rows_in, rows, prefix_text, name_row, row_text, head_text, sheet_text}
use Rattle.sheet_text.specs.Answers.{sheet_of, sheet_of_image}

-- `0b00 0100 100e0000 1c e8030000 / 0700 0200 0001000a 18 / 1100 0300 0001000a 1a 01 00 07000000 60040000`
bytes : List ℕ
bytes =
    11 ∷ 0 ∷ 1 ∷ 0 ∷ 16 ∷ 14 ∷ 0 ∷ 0 ∷ 28 ∷ 232 ∷ 3 ∷ 0 ∷ 0
    ∷ 7 ∷ 0 ∷ 2 ∷ 0 ∷ 0 ∷ 1 ∷ 0 ∷ 10 ∷ 24
    ∷ 17 ∷ 0 ∷ 3 ∷ 0 ∷ 0 ∷ 1 ∷ 0 ∷ 10 ∷ 26 ∷ 1 ∷ 0 ∷ 7 ∷ 0 ∷ 0 ∷ 0 ∷ 96 ∷ 4 ∷ 0 ∷ 0 ∷ []

-- The same table in the second form, its lease with this name.
bytes_named : List ℕ → List ℕ
bytes_named name =
    11 ∷ 0 ∷ 5 ∷ 0 ∷ 16 ∷ 14 ∷ 0 ∷ 0 ∷ 28 ∷ 232 ∷ 3 ∷ 0 ∷ 0
    ∷ 7 ∷ 0 ∷ 2 ∷ 0 ∷ 0 ∷ 1 ∷ 0 ∷ 10 ∷ 24
    ∷ 42 ∷ 0 ∷ 4 ∷ 0 ∷ 0 ∷ 1 ∷ 0 ∷ 10 ∷ 26 ∷ 1 ∷ 0 ∷ 7 ∷ 0 ∷ 0 ∷ 0 ∷ 96 ∷ 4 ∷ 0 ∷ 0
    ∷ length name ∷ (name ++ replicate (24 - length name) 0)

-- The sheet, with this at the end of the used row.
text_named : List ℕ → List ℕ
text_named named = ascii "sheet lines=1 free=2\nused 10.0.1.0/26 station 7 until 1120" ++ named ++ ascii "\nfree 10.0.1.64/26\nfree 10.0.1.128/25\n"

-- Into a buffer with four bytes more, which keep their content.
example-sheet : sheet_of_image bytes (replicate 100 9) ≡ (Ok 96, text_named [] ++ replicate 4 9)
unfolding bytes text_named sheet_of_image sheet_of sheet_text head_text row_text name_row rows rows_in prefix_text digits load_in head_at_in pool_at lease_at_in records number16 number32 unused? empty? sound head_ok ascends? pool_ok prefixes_of lease_ok unnamed?
example-sheet = refl

-- "The sheet reads both": in the second form, with no name.
example-second : sheet_of_image (bytes_named []) (replicate 100 9) ≡ (Ok 96, text_named [] ++ replicate 4 9)
unfolding bytes_named text_named sheet_of_image sheet_of sheet_text head_text row_text name_row rows rows_in prefix_text digits load_in head_at_in pool_at lease_at_in records number16 number32 unused? empty? sound head_ok ascends? pool_ok prefixes_of lease_ok unnamed? octets spells name_octets name_in without_zeros
example-second = refl

-- "Night staff want to read "west hall" beside a subnet"
example-named : sheet_of_image (bytes_named (ascii "west hall")) (replicate 115 9) ≡ (Ok 111, text_named (ascii " name west hall") ++ replicate 4 9)
unfolding bytes_named text_named sheet_of_image sheet_of sheet_text head_text row_text name_row rows rows_in prefix_text digits load_in head_at_in pool_at lease_at_in records number16 number32 unused? empty? sound head_ok ascends? pool_ok prefixes_of lease_ok unnamed? octets spells name_octets name_in without_zeros
example-named = refl

-- "those outside 0x20 to 0x7E as `?`": the octets on both sides of these ends, and 0x00 and 0xFF.
example-shown : sheet_of_image (bytes_named (31 ∷ 32 ∷ 126 ∷ 127 ∷ 0 ∷ 255 ∷ [])) (replicate 108 9) ≡ (Ok 108, text_named (ascii " name ? ~???"))
unfolding bytes_named text_named sheet_of_image sheet_of sheet_text head_text row_text name_row rows rows_in prefix_text digits load_in head_at_in pool_at lease_at_in records number16 number32 unused? empty? sound head_ok ascends? pool_ok prefixes_of lease_ok unnamed? octets spells name_octets name_in without_zeros
example-shown = refl

-- A byte too few, and a byte more in the input.
example-too-small : sheet_of_image bytes (replicate 95 9) ≡ (Err TooSmall, replicate 95 9)
unfolding bytes sheet_of_image sheet_of sheet_text head_text row_text name_row rows rows_in prefix_text digits load_in head_at_in pool_at lease_at_in records number16 number32 unused? empty? sound head_ok ascends? pool_ok prefixes_of lease_ok unnamed?
example-too-small = refl

example-refused : sheet_of_image (bytes ++ (0 ∷ [])) (replicate 100 9) ≡ (Err NotSound, replicate 100 9)
unfolding bytes sheet_of_image load_in head_at_in pool_at lease_at_in records number16 number32 unused? empty? sound head_ok ascends? pool_ok prefixes_of lease_ok
example-refused = refl

-- The smallest and the largest number of 32 bits.
example-decimal : decimal 0 ++ ascii " " ++ decimal 4294967295 ++ ascii " " ++ decimal 1000 ≡ ascii "0 4294967295 1000"
unfolding digits
example-decimal = refl
