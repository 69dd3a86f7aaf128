-- Document 01's example of a saved book, by computation: 41 bytes, one pool and one lease; the same in the second form, with a name and without; and
-- what is in neither form.
-- Assumes nothing.
use Prim.Native.Nat.{ℕ}
use mathlib.Core.Path.{◌≡◌, refl}
use mathlib.Core.Bool.{true, false}
use mathlib.Core.List.{List, [], ◌∷◌, ◌++◌, map}
use mathlib.Core.Option.{none, some}
use lib.ListN.{length, replicate}
use Rattle.names.specs.declared.Name.{Name}
use Rattle.names.specs.Names.{octets, spells, no_name, unnamed?, name_octets, name_in, name_of, without_zeros}
use Rattle.table.specs.declared.LeaseTable.{LeaseTable}
use Rattle.table.specs.Table.{unused?, empty?, prefixes_of, head_ok, pool_ok, lease_ok, ascends?, sound}
use Rattle.image.specs.declared.Form.TheVariants.{First, Second}
use Rattle.image.specs.Fields.{number16, number32, records}
use Rattle.image.specs.Image.{le16, le32, head_record_in, pool_record, lease_record_in, image_as, fits_form}
use Rattle.image.specs.Reading.{head_at_in, pool_at, lease_at_in, table_with, load_in, load_saved}

-- `0b00 KIND00 100e0000 1c e8030000 / 0700 0200 0001000a 18 /`, and after the length and the kind `0001000a 1a 01 00 07000000 60040000`
abbrev up_to : ℕ → List ℕ
up_to kind = 11 ∷ 0 ∷ kind ∷ 0 ∷ 16 ∷ 14 ∷ 0 ∷ 0 ∷ 28 ∷ 232 ∷ 3 ∷ 0 ∷ 0 ∷ 7 ∷ 0 ∷ 2 ∷ 0 ∷ 0 ∷ 1 ∷ 0 ∷ 10 ∷ 24 ∷ []

abbrev line : List ℕ
line = 0 ∷ 1 ∷ 0 ∷ 10 ∷ 26 ∷ 1 ∷ 0 ∷ 7 ∷ 0 ∷ 0 ∷ 0 ∷ 96 ∷ 4 ∷ 0 ∷ 0 ∷ []

-- A line with the head's kind, and its own length and kind.
abbrev book : ℕ → ℕ → ℕ → List ℕ
book head size kind = up_to head ++ (size ∷ 0 ∷ kind ∷ 0 ∷ line)

bytes : List ℕ
bytes = book 1 17 3

-- "west hall"
abbrev west_hall : List ℕ
west_hall = 119 ∷ 101 ∷ 115 ∷ 116 ∷ 32 ∷ 104 ∷ 97 ∷ 108 ∷ 108 ∷ []

abbrev second : ℕ → List ℕ → List ℕ
second n xs = book 5 42 4 ++ (n ∷ xs)

unnamed_bytes : List ℕ
unnamed_bytes = second 0 (replicate 24 0)

named_bytes : List ℕ
named_bytes = second 9 (west_hall ++ replicate 15 0)

-- Term 3600, default length 28, last time 1000; 10.0.1.0/24; 10.0.1.0/26 offered to client 7 until 1120.
abbrev named : Name → LeaseTable
named n =
    table_with (record { term = 3600; default_length = 28; last = 1000 }) (record { network = 167772416; length = 24 } ∷ [])
    (record { network = 167772416; length = 26; client = 7; leased = false; h = false; d = false; expires = 1120; name = n } ∷ [])

example-length : map length (bytes ∷ unnamed_bytes ∷ named_bytes ∷ []) ≡ 41 ∷ 66 ∷ 66 ∷ []
unfolding bytes unnamed_bytes named_bytes
example-length = refl

example-sound : map sound (named no_name ∷ named (name_of west_hall) ∷ []) ≡ true ∷ true ∷ []
unfolding sound head_ok ascends? unused? pool_ok prefixes_of empty? unnamed? name_in spells lease_ok
example-sound = refl

example-saves : image_as First (named no_name) ∷ image_as Second (named no_name) ∷ image_as Second (named (name_of west_hall)) ∷ [] ≡ bytes ∷ unnamed_bytes ∷ named_bytes ∷ []
unfolding bytes unnamed_bytes named_bytes image_as head_record_in pool_record lease_record_in le16 le32 unused? empty? unnamed? name_in spells name_octets octets without_zeros
example-saves = refl

example-loads : map load_saved (bytes ∷ unnamed_bytes ∷ named_bytes ∷ []) ≡ some (named no_name) ∷ some (named no_name) ∷ some (named (name_of west_hall)) ∷ []
unfolding bytes unnamed_bytes named_bytes load_in head_at_in pool_at lease_at_in records number16 number32 unused? empty? unnamed? name_in spells name_octets octets without_zeros sound head_ok ascends? pool_ok prefixes_of lease_ok
example-loads = refl

-- "going back is refused exactly if a line has a name"
example-back : map (fits_form First) (named no_name ∷ named (name_of west_hall) ∷ []) ≡ true ∷ false ∷ []
unfolding unnamed? name_in spells
example-back = refl

-- A byte more; a head of the second form with a line of the first, and the reverse; a name of 25 octets; one that ends in zero; an octet after the name.
abbrev refused : List (List ℕ)
refused =
    (bytes ++ (0 ∷ []))
    ∷ (named_bytes ++ (0 ∷ []))
    ∷ book 5 17 3
    ∷ (book 1 42 4 ++ (0 ∷ replicate 24 0))
    ∷ second 25 (replicate 24 65)
    ∷ second 10 (west_hall ++ replicate 15 0)
    ∷ second 9 (west_hall ++ (0 ∷ 33 ∷ replicate 13 0))
    ∷ []

example-refused : map load_saved refused ≡ replicate 7 none
unfolding bytes named_bytes load_in head_at_in pool_at lease_at_in records number16 number32 unused? empty? unnamed? name_in spells name_octets octets without_zeros sound head_ok ascends? pool_ok prefixes_of lease_ok
example-refused = refl
