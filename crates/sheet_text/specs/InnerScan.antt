-- The rows as the code finds them: one walk over the bytes of an image, with a cursor into its ascending leases. Nobody who reads the contract of
-- `sheet_of_image` needs this file; the laws say that on the image of a sound table it finds the rows of `Sheet`.
use Rattle.std.specs.Prelude.{ℕ, zero, suc, ◌+◌, ◌-◌, ◌*◌, ◌/◌, ◌%◌, ◌≤◌, ◌<◌, ◌≡◌, ◌⊎◌, Bool, true, false, cond, List, [], ◌∷◌, ◌++◌, length, drop, leb, ltb}
use Rattle.std.proofs.Math.Option.{some}
use Rattle.lists.specs.Lists.{concat_map}
use Rattle.lists.specs.Put.{put}
use Rattle.text.specs.Decimal.{decimal}
use Rattle.prefix.specs.declared.Prefix.{Prefix}
use Rattle.prefix.specs.Prefixes.{longest, end, lower, upper}
use Rattle.table.specs.declared.LeaseTable.{LeaseTable}
use Rattle.table.specs.Table.{addresses, pool_slots, lease_slots, pool_prefix, sound}
use Rattle.image.specs.declared.Form.{Form}
use Rattle.image.specs.declared.Form.TheVariants.{Second}
use Rattle.image.specs.Image.{head_size, pool_size, lease_size, lease_size_in, used_pools, used_leases, image_as, fits_form}
use Rattle.image.specs.Reading.{pool_in, lease_in, load_in}
use Rattle.sheet_text.specs.declared.Used.{Used}
use Rattle.sheet_text.specs.declared.Row.{Row as CodeRow}
use Rattle.sheet_text.specs.declared.Row.TheVariants.{Lease, Free}
use Rattle.sheet_text.specs.SheetSizes.{prefix_marks, used_words, free_words, head_words}
use Rattle.sheet_text.specs.Sheet.{used_by, prefix_used, Row, used_row, free_row, name_row, row_text}

-- A row, as the code has it.
abbrev pub row_of : CodeRow → Row
row_of (Lease x) = used_row x
row_of (Free p) = free_row p

-- HOW LONG ROWS ARE

abbrev pub prefix_size : Prefix → ℕ
prefix_size p =
    length (decimal (p.network / 16777216)) + length (decimal (p.network / 65536 % 256)) + length (decimal (p.network / 256 % 256)) + length (decimal (p.network % 256)) + length (decimal p.length) + prefix_marks

abbrev pub used_size : Used → ℕ
used_size x = prefix_size (prefix_used x) + length (decimal x.client) + length (decimal x.expires) + length (name_row x.name) + used_words

abbrev pub free_size : Prefix → ℕ
free_size p = prefix_size p + free_words

abbrev pub head_text_size : ℕ → ℕ → ℕ
head_text_size leases free = length (decimal leases) + length (decimal free) + head_words

-- A buffer has room for a text; or it is empty: then nothing is written, and the place after the text is told all the same.
pub record Fits (out : List ℕ) (at : ℕ) (text : List ℕ) : Type 0 where
  pub small : at + length text ≤ 4294967296
  pub fits : (length out ≡ 0) ⊎ (at + length text ≤ length out)

-- IN PLACE

-- What an image shows of its i-th lease; they stand from `base` on.
unfoldable pub lease_shown : List ℕ → ℕ → ℕ → Used
lease_shown image base i = used_by (lease_in (drop (base + lease_size * i) image))

abbrev pub pool_shown : List ℕ → ℕ → Prefix
pool_shown image j = pool_prefix (pool_in (drop (head_size + pool_size * j) image))

-- Its first pools.
unfoldable pub pools_shown : List ℕ → ℕ → List Prefix
pools_shown image zero = []
pools_shown image (suc k) = pools_shown image k ++ (pool_shown image k ∷ [])

-- The bytes are the image, in a form, of a sound table that has k pools and n leases.
pub record SoundSaved (form : Form) (image : List ℕ) (k n : ℕ) : Type 0 where
  pub table : LeaseTable
  pub loads : load_in form image ≡ some table
  pub sound : sound table ≡ true
  pub fitting : fits_form form table ≡ true
  pub bytes : image_as form table ≡ image
  pub pools : k ≡ length (used_pools table)
  pub leases : n ≡ length (used_leases table)
  pub few-pools : k ≤ pool_slots
  pub few-leases : n ≤ lease_slots
  pub size : length image ≡ head_size + pool_size * k + lease_size_in form * n

-- What holds of the table whose image they are.
abbrev pub OfSaved : Form → List ℕ → (LeaseTable → Type 0) → Type 0
OfSaved form image P = (t : LeaseTable) → load_in form image ≡ some t → P t

-- In the second form, in which the rows are found.
abbrev pub SoundImage : List ℕ → ℕ → ℕ → Type 0
SoundImage = SoundSaved Second

abbrev pub OfTable : List ℕ → (LeaseTable → Type 0) → Type 0
OfTable = OfSaved Second

-- ROWS

-- Rows, and the first lease after them.
pub record Scan : Type 0 where
  pub rows : List Row
  pub next : ℕ

-- None of the n leases is left, or the next one, at this network, starts at or after an end.
abbrev pub clear? : ℕ → ℕ → ℕ → ℕ → Bool
clear? n stop i network = cond (ltb i n) (leb stop network) true

abbrev pub both : Scan → Scan → Scan
both a b = record { rows = a.rows ++ b.rows; next = b.next }

abbrev pub free_scan : Prefix → ℕ → Scan
free_scan p i = record { rows = free_row p ∷ []; next = i }

abbrev pub used_scan : Used → ℕ → Scan
used_scan x i = record { rows = used_row x ∷ []; next = i + 1 }

-- `clear`: p is free. `here`: the next lease is p.
abbrev pub choose_scan : Bool → Bool → Prefix → Used → ℕ → Scan → Scan
choose_scan true here p x i halves = free_scan p i
choose_scan false true p x i halves = used_scan x i
choose_scan false false p x i halves = halves

unfoldable pub scan : (ℕ → Used) → ℕ → ℕ → Prefix → ℕ → Scan
scan leases n zero p i =
    choose_scan (clear? n (end p) i (leases i).network) (leb (leases i).length p.length) p (leases i) i (record { rows = []; next = i })
scan leases n (suc left) p i =
    let low = scan leases n left (lower p) i in
    let high = scan leases n left (upper p) low.next in
    choose_scan (clear? n (end p) i (leases i).network) (leb (leases i).length p.length) p (leases i) i (both low high)

abbrev pub scan_of : (ℕ → Used) → ℕ → Prefix → ℕ → Scan
scan_of leases n p i = scan leases n (longest - p.length) p i

-- The halves of a prefix, the lower first.
abbrev pub scan_halves : (ℕ → Used) → ℕ → Prefix → ℕ → Scan
scan_halves leases n p i =
    let low = scan_of leases n (lower p) i in
    both low (scan_of leases n (upper p) low.next)

-- All pools.
unfoldable pub scan_all : (ℕ → Used) → ℕ → List Prefix → ℕ → Scan
scan_all leases n [] i = record { rows = []; next = i }
scan_all leases n (p ∷ ps) i =
    let first = scan_of leases n p i in
    let later = scan_all leases n ps first.next in
    both first later

-- Rows as text.
abbrev pub scan_text : Scan → List ℕ
scan_text s = concat_map row_text s.rows

-- Rows put into a buffer, the place after them, and the next lease.
pub record Showed (old : List ℕ) (at : ℕ) (s : Scan) (new : List ℕ) (to next : ℕ) : Type 0 where
  pub bytes : new ≡ put old at (scan_text s)
  pub place : to ≡ at + length (scan_text s)
  pub cursor : next ≡ s.next

-- What showing a prefix asks for: the leases of the image, and room for the rows.
pub record ScanReady (image : List ℕ) (base n : ℕ) (out : List ℕ) (at : ℕ) (p : Prefix) (s : Scan) : Type 0 where
  pub long : p.length ≤ longest
  pub within : end p ≤ addresses
  pub slots : base + lease_size * n ≤ length image
  pub lengths : (i : ℕ) → i < n → (lease_shown image base i).length ≤ longest
  pub room : Fits out at (scan_text s)

-- The same for the first k pools.
pub record ReadyAll (image : List ℕ) (base n k : ℕ) (out : List ℕ) (at : ℕ) : Type 0 where
  pub slots : base + lease_size * n ≤ length image
  pub lengths : (i : ℕ) → i < n → (lease_shown image base i).length ≤ longest
  pub pools : head_size + pool_size * k ≤ length image
  pub long : (j : ℕ) → j < k → (pool_shown image j).length ≤ longest
  pub within : (j : ℕ) → j < k → end (pool_shown image j) ≤ addresses
  pub room : Fits out at (scan_text (scan_all (lease_shown image base) n (pools_shown image k) 0))
