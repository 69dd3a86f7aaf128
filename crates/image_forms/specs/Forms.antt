-- What the private functions promise each other when an image goes from one form to the other. Nothing here stands in the promise of a public one.
use Rattle.std.specs.Prelude.{ℕ, ◌≤◌, ◌≡◌, List, ◌++◌, length, take, drop}
use Rattle.lists.specs.Lists.{All, concat_map}
use Rattle.lists.specs.Put.{put}
use Rattle.names.specs.Names.{no_name}
use Rattle.table.specs.declared.Lease.{Lease}
use Rattle.image.specs.declared.Form.{Form}
use Rattle.image.specs.Image.{le32, head_size, head_kind, lease_size_in, lease_kind, name_record, lease_record_in}
use Rattle.image.specs.Reading.{start_of}

-- Where the fields of a record begin, and how many bytes those have that a lease has in both forms.
abbrev pub body_at : ℕ
body_at = 4

abbrev pub body_size : ℕ
body_size = 15

-- What is moved: these and the byte before them, as BODY_AT and BODY in the code.
abbrev pub moved_at : ℕ
moved_at = 3

abbrev pub moved_size : ℕ
moved_size = 16

-- The record at the front of some bytes as a record of this form, with no name.
unfoldable pub lease_as : Form → List ℕ → List ℕ
lease_as form s = le32 (start_of (lease_size_in form) (lease_kind form)) ++ (take body_size (drop body_at s) ++ name_record form no_name)

-- The first n bytes of an image, its head as one of this form.
unfoldable pub front_as : Form → ℕ → List ℕ → List ℕ
front_as form n s = le32 (start_of head_size (head_kind form)) ++ drop body_at (take n s)

-- The first n of the leases that stand in s from `at` on in one form have been put into l from `place` on in the other, if they have no names.
unfoldable pub Moved : Form → Form → List ℕ → ℕ → ℕ → List ℕ → ℕ → List ℕ → Type 0
Moved from to s at n l place l₁ =
    (xs : List Lease) (q : List ℕ) → drop at s ≡ concat_map (lease_record_in from) xs ++ q → n ≤ length xs → All (λ x. x.name ≡ no_name) xs
    → l₁ ≡ put l place (concat_map (lease_record_in to) (take n xs))
