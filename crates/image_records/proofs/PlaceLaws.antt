-- Laws of ascending leases: the place after which a network belongs, which the search finds among the records.
-- Assumes nothing.
use Prim.Native.Nat.{ℕ, zero, suc, ◌+◌, ◌*◌, ◌/◌, ◌≤◌, ◌<◌}
use native.Mathlib.Omega.{arith}
use mathlib.Core.Path.{◌≡◌, refl, sym, ap, ap₂, ◌∙◌}
use mathlib.Core.Logic.{⊎_elim}
use mathlib.Core.Bool.{Bool, true, false}
use mathlib.Core.List.{List, [], ◌∷◌, ◌++◌, map, append_assoc, append-nil}
use lib.ListN.{length, get_or, take, drop}
use lib.Seq.{length-take-le, take_at, drop_at}
use Rattle.std.proofs.lemmas.List.{length-map}
use lib.Dec.{leb}
use borrow.Author.Tests.{le-leb, leb-true, leb-false}
use Rattle.std.specs.Simd.{first_chunks}
use Rattle.std.specs.List.Sorted.{IsPartitionedBy, IsPartitionPoint}
use Rattle.lists.specs.Lists.{filter, concat_map}
use Rattle.lists.proofs.Tests.{bool_cases}
use Rattle.lists.proofs.FilterLaws.{filter-yes, filter-no}
use Rattle.lists.proofs.IndexLaws.{all-at}
use Rattle.table.specs.declared.Lease.{Lease}
use Rattle.table.specs.Table.{no_lease}
use Rattle.image.specs.Image.{lease_size, lease_record}
use Rattle.image.specs.Reading.{lease_in}
use Rattle.image_records.specs.Records.{Records, Ascending}
use Rattle.image.proofs.ImageLaws.{length-lease}
use Rattle.image_records.proofs.RecordLaws.{length-leases, lease-read}

-- A later one is larger.
pub ascending-at : (xs : List Lease) → Ascending xs → (i j : ℕ) → i < j → j < length xs → (get_or xs i no_lease).network < (get_or xs j no_lease).network
unfolding Ascending
ascending-at [] a i j lt h = absurd (omega arith)
ascending-at (x ∷ xs) a i zero lt h = absurd (omega arith)
ascending-at (x ∷ xs) a zero (suc j) lt h = all-at (λ y. x.network < y.network) xs a.0 j no_lease (omega arith)
ascending-at (x ∷ xs) a (suc i) (suc j) lt h = ascending-at xs a.1 i j (omega arith) (omega arith)

-- Where the first m pass a test and no other does, they are those that pass it.
pub filter-first : {A : Type 0} (f : A → Bool) (d : A) (xs : List A) (m : ℕ) → m ≤ length xs → ((k : ℕ) → k < m → f (get_or xs k d) ≡ true)
    → ((k : ℕ) → m ≤ k → k < length xs → f (get_or xs k d) ≡ false) → filter f xs ≡ take m xs
filter-first f d [] zero h pass rest = refl
filter-first f d [] (suc m) h pass rest = absurd (omega arith)
filter-first f d (x ∷ xs) zero h pass rest =
    filter-no f x xs (rest 0 (omega arith) (omega arith)) ∙ filter-first f d xs 0 (omega arith) (λ k l. absurd (omega arith)) (λ k a b. rest (suc k) (omega arith) (omega arith))
filter-first {A} f d (x ∷ xs) (suc m) h pass rest =
    filter-yes f x xs (pass 0 (omega arith))
    ∙ ap (λ (l : List A). x ∷ l) (filter-first f d xs m (omega arith) (λ k l. pass (suc k) (omega arith)) (λ k a b. rest (suc k) (omega arith) (omega arith)))

-- THE SEARCH

-- The records as arrays.
records-chunks : (xs : List Lease) (q : List ℕ) → first_chunks lease_size (length xs) (concat_map lease_record xs ++ q) ≡ map lease_record xs
records-chunks [] q = refl
records-chunks (x ∷ xs) q =
    let rest : List ℕ = concat_map lease_record xs ++ q in
    let whole : concat_map lease_record (x ∷ xs) ++ q ≡ lease_record x ++ rest = append_assoc (lease_record x) (concat_map lease_record xs) q in
    ap (first_chunks lease_size (suc (length xs))) whole
    ∙ ap₂ (λ (r : List ℕ) (l : List ℕ). r ∷ first_chunks lease_size (length xs) l) (take_at (lease_record x) rest lease_size (length-lease x)) (drop_at (lease_record x) rest lease_size (length-lease x))
    ∙ ap (λ (rs : List (List ℕ)). lease_record x ∷ rs) (records-chunks xs q)

pub chunks-are : (l : List ℕ) (from n m : ℕ) (xs : List Lease) → Records l from xs → n ≡ length xs → m ≡ lease_size * n
    → first_chunks lease_size (length (take m (drop from l)) / lease_size) (take m (drop from l)) ≡ map lease_record xs
unfolding Records
chunks-are l from n m xs r e f =
    let all : List ℕ = concat_map lease_record xs in
    let size : length all ≡ m = omega (arith, length-leases xs) in
    let part : take m (drop from l) ≡ all = ap (take m) r ∙ take_at all (drop (from + lease_size * length xs) l) m size in
    let count : length all / lease_size ≡ length xs = omega (arith, length-leases xs) in
    ap (λ (b : List ℕ). first_chunks lease_size (length b / lease_size) b) part
    ∙ ap₂ (λ (k : ℕ) (b : List ℕ). first_chunks lease_size k b) count (sym (append-nil all))
    ∙ records-chunks xs []

-- Whether the lease of a record has a network up to this one.
abbrev pub record_up_to : ℕ → List ℕ → Bool
record_up_to network s = leb (lease_in s).network network

module _ (network : ℕ) where
  told : (xs : List Lease) (k : ℕ) (d : List ℕ) → k < length xs → record_up_to network (get_or (map lease_record xs) k d) ≡ leb (get_or xs k no_lease).network network
  told [] k d h = absurd (omega arith)
  told (x ∷ xs) zero d h = ap (λ (y : Lease). leb y.network network) (ap lease_in (sym (append-nil (lease_record x))) ∙ lease-read x [])
  told (x ∷ xs) (suc k) d h = told xs k d (omega arith)

  pub records-parted : (xs : List Lease) → Ascending xs → IsPartitionedBy (record_up_to network) (map lease_record xs)
  records-parted xs a i j d le lt up =
      let within : j < length xs = omega (arith, length-map xs lease_record) in
      let last : (get_or xs j no_lease).network ≤ network = leb-true (get_or xs j no_lease).network network (sym (told xs j d within) ∙ up) in
      told xs i d (omega arith)
      ∙ le-leb (get_or xs i no_lease).network network
      (⊎_elim
      (λ (b : leb j i ≡ true).
      let same : i ≡ j = omega (arith, leb-true j i b) in
      omega (arith, ap (λ (m : ℕ). (get_or xs m no_lease).network) same))
      (λ (b : leb j i ≡ false). omega (arith, ascending-at xs a i j (leb-false j i b) within))
      (bool_cases (leb j i)))

  pub point-counts : (xs : List Lease) (m : ℕ) → m ≤ length xs
      → IsPartitionPoint (λ r. record_up_to network r ≡ true) (λ r. record_up_to network r ≡ false) (map lease_record xs) m
      → m ≡ length (filter (λ x. leb x.network network) xs)
  point-counts xs m h point =
      let f : Lease → Bool = λ x. leb x.network network in
      sym (ap length (filter-first f no_lease xs m h
      (λ k j. sym (told xs k [] (omega arith)) ∙ point.0 k [] (omega arith) j)
      (λ k j i. sym (told xs k [] i) ∙ point.1 k [] j (omega (arith, length-map xs lease_record))))
      ∙ length-take-le m xs h)
