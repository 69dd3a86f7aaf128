-- The sheet of a lease table (document 01: of a saved book): which rows, in which order, every character.
use Rattle.std.specs.Prelude.{ℕ, zero, suc, ◌-◌, ◌/◌, ◌%◌, Bool, true, false, cond, ◌&&◌, List, [], ◌∷◌, ◌++◌, map, length, leb, eqb}
use Rattle.std.proofs.Math.Option.{Option, none, some}
use Rattle.lists.specs.Lists.{concat_map}
use Rattle.text.specs.Ascii.{ascii}
use Rattle.text.specs.Decimal.{decimal}
use Rattle.prefix.specs.declared.Prefix.{Prefix}
use Rattle.prefix.specs.Prefixes.{longest, prefix, lower, upper}
use Rattle.free_space.specs.Space.{unused?}
use Rattle.names.specs.declared.Name.{Name}
use Rattle.names.specs.Names.{unnamed?, name_text}
use Rattle.table.specs.declared.{Lease.Lease, LeaseTable.LeaseTable}
use Rattle.table.specs.Table.{pools_of}
use Rattle.image.specs.Image.{used_leases}
use Rattle.sheet_text.specs.declared.Used.{Used}

-- What a row shows of a lease.
abbrev pub used_by : Lease → Used
used_by x = record { network = x.network; length = x.length; client = x.client; expires = x.expires; name = x.name }

abbrev pub prefix_used : Used → Prefix
prefix_used x = prefix x.network x.length

-- A row: "a line prints `used`, held or leased", a free prefix `free`.
pub data Row : Type 0 where
  used_row : Used → Row
  free_row : Prefix → Row

-- The lease that is this prefix.
abbrev pub used_at : Prefix → List Used → Option Used
used_at p [] = none
used_at p (x ∷ xs) =
    let later = used_at p xs in
    cond (eqb x.network p.network && eqb x.length p.length) (some x) later

-- `unused`: no lease shares an address with p. `found`: the lease that is p.
abbrev pub choose : Bool → Option Used → Prefix → List Row → List Row
choose true found p halves = free_row p ∷ []
choose false (some x) p halves = used_row x ∷ []
choose false none p halves = halves

-- The rows of p; `left` is 30 less its length. "a block that is partly taken is shown as its two halves, the lower first"
unfoldable pub rows_in : List Used → ℕ → Prefix → List Row
rows_in leases zero p = choose (unused? (map prefix_used leases) p) (used_at p leases) p []
rows_in leases (suc left) p =
    let halves = rows_in leases left (lower p) ++ rows_in leases left (upper p) in
    choose (unused? (map prefix_used leases) p) (used_at p leases) p halves

abbrev pub leases_shown : LeaseTable → List Used
leases_shown t = map used_by (used_leases t)

-- "Walking each root in ascending order"
unfoldable pub rows : LeaseTable → List Row
rows t = concat_map (λ p. rows_in (leases_shown t) (longest - p.length) p) (pools_of t)

-- The leases of the used rows, and the prefixes of the free rows.
abbrev pub used_in : List Row → List Used
used_in [] = []
used_in (used_row x ∷ rs) = x ∷ used_in rs
used_in (free_row p ∷ rs) = used_in rs

abbrev pub free_in : List Row → List Prefix
free_in [] = []
free_in (used_row x ∷ rs) = free_in rs
free_in (free_row p ∷ rs) = p ∷ free_in rs

-- A network as four numbers, the high byte first.
abbrev pub address_text : ℕ → List ℕ
address_text n = decimal (n / 16777216) ++ ascii "." ++ decimal (n / 65536 % 256) ++ ascii "." ++ decimal (n / 256 % 256) ++ ascii "." ++ decimal (n % 256)

-- A.B.C.D/L
unfoldable pub prefix_text : Prefix → List ℕ
prefix_text p = address_text p.network ++ ascii "/" ++ decimal p.length

-- "a named line's row ends with ` name ` and its octets, those outside 0x20 to 0x7E as `?`"
abbrev pub shown : ℕ → ℕ
shown octet = cond (leb 32 octet && leb octet 126) octet 63

unfoldable pub name_row : Name → List ℕ
name_row n = cond (unnamed? n) [] (ascii " name " ++ map shown (name_text n))

-- A row as text; every row ends with one newline.
unfoldable pub row_text : Row → List ℕ
row_text (used_row x) =
    ascii "used " ++ prefix_text (prefix_used x) ++ ascii " station " ++ decimal x.client ++ ascii " until " ++ decimal x.expires ++ name_row x.name ++ ascii "\n"
row_text (free_row p) = ascii "free " ++ prefix_text p ++ ascii "\n"

-- The first row: "`free=` counts the free rows".
unfoldable pub head_text : ℕ → ℕ → List ℕ
head_text leases free_rows = ascii "sheet lines=" ++ decimal leases ++ ascii " free=" ++ decimal free_rows ++ ascii "\n"

unfoldable pub sheet_text : LeaseTable → List ℕ
sheet_text t = head_text (length (used_leases t)) (length (free_in (rows t))) ++ concat_map row_text (rows t)
