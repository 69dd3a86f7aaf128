-- The image of a lease table (document 01: the saved book) in its two forms: what save writes and what load reads. The calls work on the second form
-- (document 02, M-105); the first has no names, and is loaded and saved only.
use Rattle.std.specs.Prelude.{ℕ, ◌+◌, ◌-◌, ◌*◌, ◌/◌, ◌%◌, Bool, true, not, cond, List, [], ◌∷◌, ◌++◌, eqb}
use Rattle.std.proofs.Math.Option.{Option, none, some}
use Rattle.lists.specs.Lists.{all?, filter, concat_map}
use Rattle.names.specs.declared.Name.{Name}
use Rattle.names.specs.Names.{unnamed?, name_octets, name_length}
use Rattle.table.specs.declared.{Pool.Pool, Lease.Lease, LeaseTable.LeaseTable}
use Rattle.table.specs.Table.{pool_slots, lease_slots, unused?, empty?, blank}
use Rattle.image.specs.declared.{Head.Head, Form.Form}
use Rattle.image.specs.declared.Form.TheVariants.{First, Second}

-- "all little-endian"
unfoldable pub le16 : ℕ → List ℕ
le16 n = n % 256 ∷ n / 256 ∷ []

unfoldable pub le32 : ℕ → List ℕ
le32 n = n % 256 ∷ n / 256 % 256 ∷ n / 65536 % 256 ∷ n / 16777216 ∷ []

-- SIZES, as HEAD, POOL, LEASE, FIRST_LEASE, FULL_IMAGE and FULL_FIRST in the code.

abbrev pub head_size : ℕ
head_size = 13

abbrev pub pool_size : ℕ
pool_size = 9

-- The record of a lease: with a name, and in the first form.
abbrev pub lease_size : ℕ
lease_size = 44

abbrev pub first_lease_size : ℕ
first_lease_size = 19

abbrev pub lease_size_in : Form → ℕ
lease_size_in First = first_lease_size
lease_size_in Second = lease_size

-- "Full books are 19,541 bytes in the first form and 45,141 in the second."
abbrev pub full_image_in : Form → ℕ
full_image_in form = head_size + pool_size * pool_slots + lease_size_in form * lease_slots

abbrev pub full_image : ℕ
full_image = full_image_in Second

-- WHAT IS WRITTEN. "Records: a 2-byte length counting kind and body, a 2-byte kind, the body": the length is the size less its own 2 bytes.

-- "Kind 1, head, once and first: term (4), default length (1), last time (4)." "The second saved form has head kind 5 (body as kind 1)".
abbrev pub head_kind : Form → ℕ
head_kind First = 1
head_kind Second = 5

unfoldable pub head_record_in : Form → Head → List ℕ
head_record_in form x = le16 (head_size - 2) ++ le16 (head_kind form) ++ le32 x.term ++ (x.default_length ∷ []) ++ le32 x.last

-- "Kind 2, root: network (4), length (1)."; "kind 2 is unchanged".
unfoldable pub pool_record : Pool → List ℕ
pool_record p = le16 (pool_size - 2) ++ le16 2 ++ le32 p.network ++ (p.length ∷ [])

-- "1 held or 2 leased (1), flags h 1 + d 2 (1)"
abbrev pub state_byte : Bool → ℕ
state_byte leased = cond leased 2 1

abbrev pub bit : Bool → ℕ
bit b = cond b 1 0

abbrev pub flags_byte : Bool → Bool → ℕ
flags_byte h d = bit h + 2 * bit d

-- "Kind 3, line: network (4), length (1), 1 held or 2 leased (1), flags h 1 + d 2 (1), station (4), end (4)." "line kind 4: kind 3's body, a name length (1),
-- 24 octets, zero after the name".
abbrev pub lease_kind : Form → ℕ
lease_kind First = 3
lease_kind Second = 4

abbrev pub name_record : Form → Name → List ℕ
name_record First n = []
name_record Second n = name_length n ∷ name_octets n

unfoldable pub lease_record_in : Form → Lease → List ℕ
lease_record_in form x =
    le16 (lease_size_in form - 2)
    ++ le16 (lease_kind form)
    ++ le32 x.network
    ++ (x.length ∷ state_byte x.leased ∷ flags_byte x.h x.d ∷ [])
    ++ le32 x.client
    ++ le32 x.expires
    ++ name_record form x.name

-- As the calls have them.
abbrev pub head_record : Head → List ℕ
head_record = head_record_in Second

abbrev pub lease_record : Lease → List ℕ
lease_record = lease_record_in Second

-- The slots that are used.
abbrev pub used_pools : LeaseTable → List Pool
used_pools t = filter (λ p. not (unused? p)) t.pools

abbrev pub used_leases : LeaseTable → List Lease
used_leases t = filter (λ x. not (empty? x)) t.leases

abbrev pub head_of : LeaseTable → Head
head_of t = record { term = t.term; default_length = t.default_length; last = t.last }

-- The image: "Roots then lines, ascending, nothing after."
unfoldable pub image_as : Form → LeaseTable → List ℕ
image_as form t = head_record_in form (head_of t) ++ (concat_map pool_record (used_pools t) ++ concat_map (lease_record_in form) (used_leases t))

abbrev pub image_of : LeaseTable → List ℕ
image_of = image_as Second

-- The form with a number: 1 is the first, and every other number the second.
abbrev pub form_numbered : ℕ → Form
form_numbered n = cond (eqb n 1) First Second

-- "going back is refused exactly if a line has a name": the first form has no place for one.
abbrev pub fits_form : Form → LeaseTable → Bool
fits_form First t = all? (λ x. unnamed? x.name) t.leases
fits_form Second t = true

-- WHAT IS READ. A record is read where the bytes have its length and its kind, and its fields are in range.

-- The table that was read. Bytes that are no image of a sound table stand for the table of all zeros, which is not sound.
abbrev pub loaded_table : Option LeaseTable → LeaseTable
loaded_table none = blank
loaded_table (some t) = t
