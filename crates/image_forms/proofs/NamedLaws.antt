-- Laws of looking for a name among leases that stand as records.
-- Assumes nothing.
use Prim.Native.Nat.{ℕ}
use mathlib.Core.Path.{◌≡◌, refl, sym, ap, ap₂, ◌∙◌}
use mathlib.Core.Bool.{Bool, not, ◌||◌}
use mathlib.Core.List.{List, [], ◌∷◌, ◌++◌, map, append-nil}
use lib.ListN.{get_or}
use lib.Dec.{eqb}
use Rattle.std.specs.List.{list_any}
use Rattle.lists.specs.Lists.{any?}
use Rattle.names.specs.Names.{unnamed?, name_length}
use Rattle.names.proofs.NameLaws.{unnamed-length}
use Rattle.table.specs.declared.Lease.{Lease}
use Rattle.image.specs.Image.{le16, le32, lease_record_in, lease_record}
use Rattle.image.specs.Reading.{name_length_at}

abbrev pub named? : Lease → Bool
named? x = not (unnamed? x.name)

-- Whether the lease of a record has a name.
abbrev pub record_named : List ℕ → Bool
record_named s = not (eqb (get_or s name_length_at 0) 0)

length-there : (x : Lease) (q : List ℕ) → get_or (lease_record x ++ q) name_length_at 0 ≡ name_length x.name
unfolding lease_record_in le16 le32
length-there x q = refl

told : (x : Lease) → record_named (lease_record x) ≡ named? x
told x =
    ap (λ (n : ℕ). not (eqb n 0)) (ap (λ (s : List ℕ). get_or s name_length_at 0) (sym (append-nil (lease_record x))) ∙ length-there x [])
    ∙ ap not (sym (unnamed-length x.name))

pub records-named : (xs : List Lease) → list_any record_named (map lease_record xs) ≡ any? named? xs
records-named [] = refl
records-named (x ∷ xs) = ap₂ (λ (a b : Bool). a || b) (told x) (records-named xs)
