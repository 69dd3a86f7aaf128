-- Laws of inserting a lease in place: the later records move up, and its own is put before them.
-- Assumes nothing.
use Prim.Native.Nat.{ℕ, zero, suc, ◌+◌, ◌-◌, ◌*◌, ◌≤◌, ◌<◌}
use native.Mathlib.Omega.{arith}
use mathlib.Core.Path.{◌≡◌, refl, ap, ap₂, ◌∙◌}
use mathlib.Core.Logic.{⊎_elim}
use mathlib.Core.Bool.{Bool, true, false}
use mathlib.Core.List.{List, [], ◌∷◌, ◌++◌}
use lib.ListN.{length, take, drop, length-drop}
use lib.Seq.{take_at}
use lib.Dec.{leb, ltb}
use borrow.Author.Tests.{le-leb, lt-leb, ltb-true, ltb-false}
use Rattle.lists.specs.Lists.{All, filter, concat_map, insert_by}
use Rattle.lists.specs.Put.{put}
use Rattle.lists.proofs.Tests.{bool_cases}
use Rattle.lists.proofs.ListLaws.{all_map}
use Rattle.lists.proofs.FilterLaws.{filter-yes, filter_none, filter-fewer}
use Rattle.lists.proofs.SortingLaws.{insert_by-before, insert_by-after}
use Rattle.lists.proofs.PutLaws.{put-before}
use Rattle.table.specs.declared.Lease.{Lease}
use Rattle.table.specs.Table.{network_of, insert}
use Rattle.image.specs.Image.{lease_size, lease_record}
use Rattle.image.proofs.ImageLaws.{length-lease}
use Rattle.image_records.specs.Records.{Records, Ascending}
use Rattle.image_records.proofs.RecordLaws.{length-leases, records-drop}

-- PUT BETWEEN

abbrev up_to : ℕ → Lease → Bool
up_to network x = leb x.network network

larger-none : (network : ℕ) (xs : List Lease) → All (λ y. network < y.network) xs → filter (up_to network) xs ≡ []
larger-none network xs a = filter_none (up_to network) xs (all_map (λ y (h : network < y.network). lt-leb y.network network h) xs a)

-- Among leases that ascend it is inserted behind those with a network up to its own.
pub insert-at : (x : Lease) (xs : List Lease) → Ascending xs → (r : ℕ) → r ≡ length (filter (λ y. leb y.network x.network) xs)
    → insert x xs ≡ take r xs ++ (x ∷ drop r xs)
unfolding Ascending insert_by
insert-at x [] a zero e = refl
insert-at x [] a (suc r) e = absurd (omega arith)
insert-at x (y ∷ ys) a r e =
    ⊎_elim
    (λ (h : ltb x.network y.network ≡ true).
    let below = ltb-true x.network y.network h in
    let nothing : filter (up_to x.network) (y ∷ ys) ≡ [] =
    larger-none x.network (y ∷ ys) (below, all_map (λ z (g : y.network < z.network). omega arith) ys a.0) in
    let z : 0 ≡ r = omega (arith, ap length nothing) in
    insert_by-before network_of x y ys h ∙ ap (λ (k : ℕ). take k (y ∷ ys) ++ (x ∷ drop k (y ∷ ys))) z)
    (λ (h : ltb x.network y.network ≡ false).
    let first = filter-yes (up_to x.network) y ys (le-leb y.network x.network (ltb-false x.network y.network h)) in
    let s : suc (r - 1) ≡ r = omega (arith, ap length first) in
    insert_by-after network_of x y ys h
    ∙ ap (λ (l : List Lease). y ∷ l) (insert-at x ys a.1 (r - 1) (omega (arith, ap length first)))
    ∙ ap (λ (k : ℕ). take k (y ∷ ys) ++ (x ∷ drop k (y ∷ ys))) s)
    (bool_cases (ltb x.network y.network))

-- The later ones raised by `room` records, and its own put right before them.
module _ (l : List ℕ) (from n room : ℕ) (x : Lease) (r : ℕ) where
  pub inserted : 1 ≤ room → (l₁ l₂ : List ℕ) → l₁ ≡ put l (from + lease_size * (r + room)) (take (lease_size * (n - r)) (drop (from + lease_size * r) l)) → l₂ ≡ put l₁ (from + lease_size * (r + room - 1)) (lease_record x)
      → (xs : List Lease) → Records l from xs → n ≡ length xs → Ascending xs → r ≡ length (filter (λ y. leb y.network x.network) xs)
      → (insert x xs ≡ take r xs ++ (x ∷ drop r xs)) × (l₂ ≡ put l (from + lease_size * (r + room - 1)) (concat_map lease_record (x ∷ drop r xs)))
  unfolding Records
  inserted p l₁ l₂ e₁ e₂ xs s e a c =
      let at : ℕ = from + lease_size * r in
      let to : ℕ = from + lease_size * (r + room - 1) in
      let few : r ≤ length xs = omega (arith, filter-fewer (up_to x.network) xs) in
      let high : List ℕ = concat_map lease_record (drop r xs) in
      let rest : List ℕ = drop (at + lease_size * length (drop r xs)) l in
      let sized : length high ≡ lease_size * (n - r) = omega (arith, length-leases (drop r xs), length-drop r xs) in
      let moved : take (lease_size * (n - r)) (drop at l) ≡ high =
      ap (take (lease_size * (n - r))) (records-drop l from xs s r few) ∙ take_at high rest (lease_size * (n - r)) sized in
      let after : from + lease_size * (r + room) ≡ to + length (lease_record x) = omega (arith, length-lease x) in (
        insert-at x xs a r c,
        e₂
            ∙ ap (λ (b : List ℕ). put b to (lease_record x)) (e₁ ∙ ap₂ (put l) after moved)
            ∙ put-before (lease_record x) l to high,
      )
