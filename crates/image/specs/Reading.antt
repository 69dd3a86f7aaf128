-- What load reads: a record is read where the bytes have its length and its kind, and its fields are in range. Nobody has to believe it: what loads is
-- exactly the image of a sound table in a form that fits it (`loads⇔image`, `loads⇔saved`).
use Rattle.std.specs.Prelude.{ℕ, ◌+◌, ◌-◌, ◌*◌, ◌/◌, ◌%◌, Bool, true, not, cond, List, [], ◌∷◌, length, drop, get_or, leb, eqb}
use Rattle.std.proofs.Math.Option.{Option, none, some}
use Rattle.lists.specs.Lists.{and}
use Rattle.names.specs.declared.Name.{Name}
use Rattle.names.specs.Names.{no_name, name_in, name_length}
use Rattle.table.specs.declared.{Pool.Pool, Lease.Lease, LeaseTable.LeaseTable}
use Rattle.table.specs.Table.{pool_slots, lease_slots, unused?, empty?, sound_for, sound, padded_to, padded_pools}
use Rattle.image.specs.declared.{Head.Head, Form.Form}
use Rattle.image.specs.declared.Form.TheVariants.{First, Second}
use Rattle.image.specs.Fields.{number16, number32, Run, records}
use Rattle.image.specs.Image.{head_size, head_kind, lease_size_in, lease_kind, pool_size}

-- The first four bytes of a record as a number: its length, which counts what follows it, and its kind.
abbrev pub start_of : ℕ → ℕ → ℕ
start_of size kind = size - 2 + 65536 * kind

-- Where the last time stands in a head, and the end in a lease's record: calls write these alone.
abbrev pub last_at : ℕ
last_at = 9

abbrev pub expires_at : ℕ
expires_at = 15

abbrev pub head_in : List ℕ → Head
head_in s = record { term = number32 s 4; default_length = get_or s 8 0; last = number32 s last_at }

abbrev pub head_tests_in : Form → List ℕ → List Bool
head_tests_in form s = leb head_size (length s) ∷ eqb (number16 s 0) (head_size - 2) ∷ eqb (number16 s 2) (head_kind form) ∷ []

unfoldable pub head_at_in : Form → List ℕ → Option Head
head_at_in form s = cond (and (head_tests_in form s)) (some (head_in s)) none

-- The fields of a lease's record, at their places. A pool's record begins as a lease's does.
abbrev pub network_in : List ℕ → ℕ
network_in s = number32 s 4

abbrev pub length_in : List ℕ → ℕ
length_in s = get_or s 8 0

abbrev pub state_byte_in : List ℕ → ℕ
state_byte_in s = get_or s 9 0

abbrev pub flags_byte_in : List ℕ → ℕ
flags_byte_in s = get_or s 10 0

abbrev pub client_in : List ℕ → ℕ
client_in s = number32 s 11

abbrev pub expires_in : List ℕ → ℕ
expires_in s = number32 s expires_at

abbrev pub pool_in : List ℕ → Pool
pool_in s = record { network = network_in s; length = length_in s }

-- An unused slot has no record.
abbrev pub pool_tests : List ℕ → List Bool
pool_tests s = leb pool_size (length s) ∷ eqb (number16 s 0) (pool_size - 2) ∷ eqb (number16 s 2) 2 ∷ not (unused? (pool_in s)) ∷ []

unfoldable pub pool_at : List ℕ → Option Pool
pool_at s = cond (and (pool_tests s)) (some (pool_in s)) none

-- Where the length of a name stands in a record of the second form, and the name.
abbrev pub name_length_at : ℕ
name_length_at = 19

abbrev pub name_at : ℕ
name_at = 20

abbrev pub name_field_in : Form → List ℕ → Name
name_field_in First s = no_name
name_field_in Second s = name_in (drop name_at s)

-- A name has the length that it is said to have, so it is not above 24, does not end in zero, and zeros follow it.
abbrev pub name_test : Form → List ℕ → Bool
name_test First s = true
name_test Second s = eqb (get_or s name_length_at 0) (name_length (name_in (drop name_at s)))

abbrev pub lease_fields_in : Form → List ℕ → Lease
lease_fields_in form s = record {
  network = network_in s;
  length = length_in s;
  client = client_in s;
  leased = eqb (state_byte_in s) 2;
  h = eqb (flags_byte_in s % 2) 1;
  d = eqb (flags_byte_in s / 2 % 2) 1;
  expires = expires_in s;
  name = name_field_in form s;
}

-- Nor has an empty slot.
abbrev pub lease_tests_in : Form → List ℕ → List Bool
lease_tests_in form s =
    leb (lease_size_in form) (length s)
    ∷ eqb (number16 s 0) (lease_size_in form - 2)
    ∷ eqb (number16 s 2) (lease_kind form)
    ∷ leb 1 (state_byte_in s)
    ∷ leb (state_byte_in s) 2
    ∷ leb (flags_byte_in s) 3
    ∷ name_test form s
    ∷ not (empty? (lease_fields_in form s))
    ∷ []

unfoldable pub lease_at_in : Form → List ℕ → Option Lease
lease_at_in form s = cond (and (lease_tests_in form s)) (some (lease_fields_in form s)) none

abbrev pub pools_at : List ℕ → Run Pool
pools_at s = records pool_at pool_size pool_slots s

-- As a desk with so many lease slots reads them.
abbrev pub leases_within : ℕ → Form → List ℕ → Run Lease
leases_within slots form s = records (lease_at_in form) (lease_size_in form) slots s

abbrev pub leases_at_in : Form → List ℕ → Run Lease
leases_at_in form s = leases_within lease_slots form s

-- The table with a head, pools and leases, every other slot unused or empty.
abbrev pub table_for : ℕ → Head → List Pool → List Lease → LeaseTable
table_for slots x ps xs = record {
  pools = padded_pools ps;
  leases = padded_to slots xs;
  term = x.term;
  default_length = x.default_length;
  last = x.last;
}

abbrev pub table_with : Head → List Pool → List Lease → LeaseTable
table_with x ps xs = table_for lease_slots x ps xs

-- The table that was read, if nothing follows and it is sound.
abbrev pub whole : LeaseTable → List ℕ → Option LeaseTable
whole t rest = cond (and (eqb (length rest) 0 ∷ sound t ∷ [])) (some t) none

abbrev pub after_head_in : Form → Option Head → List ℕ → Option LeaseTable
after_head_in form none s = none
after_head_in form (some x) s =
    let ps = pools_at s in
    let xs = leases_at_in form ps.rest in
    whole (table_with x ps.items xs.items) xs.rest

unfoldable pub load_in : Form → List ℕ → Option LeaseTable
load_in form s = after_head_in form (head_at_in form s) (drop head_size s)

-- The same for a desk with so many lease slots; with ours it is the above (`load-ours`).
abbrev pub whole_for : ℕ → LeaseTable → List ℕ → Option LeaseTable
whole_for slots t rest = cond (and (eqb (length rest) 0 ∷ sound_for slots t ∷ [])) (some t) none

abbrev pub after_head_for : ℕ → Form → Option Head → List ℕ → Option LeaseTable
after_head_for slots form none s = none
after_head_for slots form (some x) s =
    let ps = pools_at s in
    let xs = leases_within slots form ps.rest in
    whole_for slots (table_for slots x ps.items xs.items) xs.rest

unfoldable pub load_for : ℕ → Form → List ℕ → Option LeaseTable
load_for slots form s = after_head_for slots form (head_at_in form s) (drop head_size s)

-- The form of bytes, told by the head's kind: "Load accepts both forms, never a mixture".
abbrev pub form_of : List ℕ → Form
form_of s = cond (and (head_tests_in First s)) First Second

abbrev pub load_saved : List ℕ → Option LeaseTable
load_saved s = load_in (form_of s) s

abbrev pub load_saved_for : ℕ → List ℕ → Option LeaseTable
load_saved_for slots s = load_for slots (form_of s) s

-- As the calls have them, in the second form.
abbrev pub head_tests : List ℕ → List Bool
head_tests = head_tests_in Second

abbrev pub head_at : List ℕ → Option Head
head_at = head_at_in Second

abbrev pub lease_in : List ℕ → Lease
lease_in = lease_fields_in Second

abbrev pub lease_tests : List ℕ → List Bool
lease_tests = lease_tests_in Second

abbrev pub lease_at : List ℕ → Option Lease
lease_at = lease_at_in Second

abbrev pub leases_at : List ℕ → Run Lease
leases_at = leases_at_in Second

abbrev pub after_head : Option Head → List ℕ → Option LeaseTable
after_head = after_head_in Second

abbrev pub load_image : List ℕ → Option LeaseTable
load_image = load_in Second
