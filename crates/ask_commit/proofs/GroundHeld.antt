-- Laws of the leases on the ground of a call among all leases of the table: those given again are held anew among all, and written among all.
-- Assumes nothing.
use Prim.Native.Nat.{ℕ, ◌+◌, ◌*◌, ◌≤◌, ◌<◌}
use native.Mathlib.Omega.{arith}
use mathlib.Core.Path.{◌≡◌, refl, sym, ap, ap₂, subst, ◌∙◌}
use mathlib.Core.Bool.{Bool, false, ◌||◌}
use mathlib.Core.List.{List, [], ◌∷◌, ◌++◌, map-append}
use lib.ListN.{length, take, drop, length-drop}
use lib.Seq.{length-take-le}
use lib.Dec.{ltb, eqb}
use borrow.Author.Tests.{ne_eqb}
use Rattle.lists.specs.Lists.{All, Pairwise, any?, concat_map, cat_maybes}
use Rattle.lists.specs.Put.{put}
use Rattle.lists.proofs.Tests.{cond-false}
use Rattle.lists.proofs.ListLaws.{all_map, all-map₂, all_left, all_right, all-every}
use Rattle.lists.proofs.FilterLaws.{filter-all, filter-append}
use Rattle.lists.proofs.ConcatMapLaws.{concat_map-append}
use Rattle.lists.proofs.PutLaws.{put-nothing, put-append}
use Rattle.table.specs.declared.{Lease.Lease, LeaseTable.LeaseTable}
use Rattle.table.specs.Table.{present}
use Rattle.option.specs.Contents.{Request}
use Rattle.image.specs.Image.{lease_size, lease_record}
use Rattle.image_records.specs.Records.{Records, Ascending}
use Rattle.image_records.proofs.PutForms.{drop-put, put_same}
use Rattle.image_records.proofs.RecordLaws.{length-leases, records-drop, put-after-first, first-stay}
use Rattle.ledger.specs.Ledger.{again, hold_again, held_again}
use Rattle.ledger.proofs.AgainLaws.{again-all, held}
use Rattle.call_ground.proofs.GroundsLaws.{split}

-- THE PRESENT LEASES: those before the n from the place f on, these, and those after them.

present-append : (now : ℕ) (xs ys : List Lease) → present now (xs ++ ys) ≡ present now xs ++ present now ys
unfolding present
present-append now xs ys = filter-append (λ x. ltb now x.expires) xs ys

present-all : (now : ℕ) (P : Lease → Type 0) (xs : List Lease) → All P xs → All P (present now xs)
unfolding present
present-all now P xs a = filter-all (λ x. ltb now x.expires) P xs a

present-parts : (now f n : ℕ) (xs : List Lease) → present now xs ≡ present now (take f xs) ++ (present now (take n (drop f xs)) ++ present now (drop (f + n) xs))
present-parts now f n xs =
    let ms : List Lease = take n (drop f xs) in
    ap (present now) (split f n xs)
    ∙ present-append now (take f xs) (ms ++ drop (f + n) xs)
    ∙ ap (λ (ys : List Lease). present now (take f xs) ++ ys) (present-append now ms (drop (f + n) xs))

-- What holds of all of them holds of these.
pub present-inner : (now f n : ℕ) (P : Lease → Type 0) (xs : List Lease) → All P (present now xs) → All P (present now (take n (drop f xs)))
present-inner now f n P xs a =
    let ms : List Lease = present now (take n (drop f xs)) in
    let bs : List Lease = present now (drop (f + n) xs) in
    all_left P ms bs (all_right P (present now (take f xs)) (ms ++ bs) (subst (All P) (present-parts now f n xs) a))

-- HELD ANEW

-- No lease of these has its network.
abbrev NotIn : List Lease → Lease → Type 0
NotIn xs y = All (λ z. y.network ≡ z.network → ⊥) xs

none-given : (z : Lease) (given : List Lease) → All (λ y. y.network ≡ z.network → ⊥) given → any? (λ y. eqb y.network z.network) given ≡ false
none-given z [] a = refl
none-given z (y ∷ ys) a = ap₂ (λ (b d : Bool). b || d) (ne_eqb y.network z.network a.0) (none-given z ys a.1)

pub held-others : (now : ℕ) (given xs : List Lease) → All (NotIn xs) given → held_again now given xs ≡ xs
held-others now given [] a = refl
held-others now given (x ∷ xs) a =
    ap₂ (λ (y : Lease) (ys : List Lease). y ∷ ys)
    (cond-false (any? (λ y. eqb y.network x.network) given) (hold_again now x) x (none-given x given (all_map {P = NotIn (x ∷ xs)} {Q = λ y. y.network ≡ x.network → ⊥} (λ y k. k.0) given a)))
    (held-others now given xs (all_map {P = NotIn (x ∷ xs)} {Q = NotIn xs} (λ y k. k.1) given a))

pub held-parts : (now f n : ℕ) (given us : List Lease) → All (λ y. NotIn (take f us) y × NotIn (drop (f + n) us) y) given
    → held_again now given us ≡ take f us ++ (held_again now given (take n (drop f us)) ++ drop (f + n) us)
held-parts now f n given us a =
    let cs : List Lease = take f us in
    let ms : List Lease = take n (drop f us) in
    let bs : List Lease = drop (f + n) us in
    ap (held_again now given) (split f n us)
    ∙ map-append (held now given) cs (ms ++ bs)
    ∙ ap₂ (λ (xs ys : List Lease). xs ++ ys) (held-others now given cs (all_map {P = λ y. NotIn cs y × NotIn bs y} {Q = NotIn cs} (λ y k. k.0) given a))
    (map-append (held now given) ms bs
    ∙ ap (λ (xs : List Lease). held_again now given ms ++ xs) (held-others now given bs (all_map {P = λ y. NotIn cs y × NotIn bs y} {Q = NotIn bs} (λ y k. k.1) given a)))

-- Networks tell leases apart: one of the n has that of none beside them.
module _ (R : Lease → Lease → Type 0) where
  cross : (xs ys : List Lease) → Pairwise R (xs ++ ys) → All (λ x. All (R x) ys) xs
  cross [] ys p = tt
  cross (x ∷ xs) ys p = (all_right (R x) xs ys p.0, cross xs ys p.1)

  behind : (xs ys : List Lease) → Pairwise R (xs ++ ys) → Pairwise R ys
  behind [] ys p = p
  behind (x ∷ xs) ys p = behind xs ys p.1

  turned : (xs ys : List Lease) → All (λ x. All (R x) ys) xs → All (λ y. All (λ x. R x y) xs) ys
  turned [] ys a = all-every (λ y. tt) ys
  turned (x ∷ xs) ys a = all-map₂ {P = R x} {Q = λ y. All (λ z. R z y) xs} (λ y p q. (p, q)) ys a.0 (turned xs ys a.1)

abbrev Lower : Lease → Lease → Type 0
Lower x y = x.network < y.network

inner-alone : (f n : ℕ) (us : List Lease) → Ascending us → All (λ y. NotIn (take f us) y × NotIn (drop (f + n) us) y) (take n (drop f us))
unfolding Ascending
inner-alone f n us up =
    let cs : List Lease = take f us in
    let ms : List Lease = take n (drop f us) in
    let bs : List Lease = drop (f + n) us in
    let all : Pairwise Lower (cs ++ (ms ++ bs)) = subst (Pairwise Lower) (split f n us) up in
    let after : All (λ y. All (Lower y) bs) ms = cross Lower ms bs (behind Lower cs (ms ++ bs) all) in
    let before : All (λ y. All (λ x. Lower x y) cs) ms = all_left (λ y. All (λ x. Lower x y) cs) ms bs (turned Lower cs (ms ++ bs) (cross Lower cs (ms ++ bs) all)) in
    all-map₂ {P = λ y. All (λ x. Lower x y) cs} {Q = λ y. All (Lower y) bs} {R = λ y. NotIn cs y × NotIn bs y} (λ y p q. (
      all_map {P = λ z. Lower z y} {Q = λ z. y.network ≡ z.network → ⊥} (λ z (l : z.network < y.network) e. omega arith) cs p,
      all_map {P = λ z. Lower y z} {Q = λ z. y.network ≡ z.network → ⊥} (λ z (l : y.network < z.network) e. omega arith) bs q,
    )) ms before after

-- So has what is given again of those present.
pub given-inner : (t : LeaseTable) (client now f n : ℕ) (rs : List Request) (us : List Lease) → Ascending us
    → All (λ y. NotIn (take f us) y × NotIn (drop (f + n) us) y) (cat_maybes (again t client (present now (take n (drop f us))) rs))
given-inner t client now f n rs us up =
    let ms : List Lease = take n (drop f us) in
    all_map (λ x k. k.1) (cat_maybes (again t client (present now ms) rs))
    (again-all t client (λ y. NotIn (take f us) y × NotIn (drop (f + n) us) y) rs (present now ms)
    (present-all now (λ y. NotIn (take f us) y × NotIn (drop (f + n) us) y) ms (inner-alone f n us up)))

-- THE RECORDS

module _ (l : List ℕ) (from : ℕ) (us : List Lease) (r : Records l from us) (f n : ℕ) (few : f + n ≤ length us) where
  pub inner-length : n ≡ length (take n (drop f us))
  inner-length = sym (length-take-le n (drop f us) (omega (arith, length-drop f us)))

  pub inner-records : from + lease_size * f ≤ length l → Records l (from + lease_size * f) (take n (drop f us))
  inner-records room =
      let at : ℕ = from + lease_size * f in
      subst (λ (m : List ℕ). Records m at (take n (drop f us))) (put-nothing l (at + lease_size * n))
      (first-stay l at (drop f us) (records-drop l from us r f (omega arith)) n (omega (arith, length-drop f us)) room (at + lease_size * n) [] (omega arith))

  -- As many written there are written among all.
  pub inner-put : (ys : List Lease) → length ys ≡ n → put l (from + lease_size * f) (concat_map lease_record ys) ≡ put l from (concat_map lease_record (take f us ++ (ys ++ drop (f + n) us)))
  unfolding Records
  inner-put ys many =
      let at : ℕ = from + lease_size * f in
      let new : List ℕ = concat_map lease_record ys in
      let bs : List Lease = drop (f + n) us in
      let old : List ℕ = concat_map lease_record bs in
      let l₁ : List ℕ = put l at new in
      let end : ℕ = at + length new in
      let end_is : end ≡ from + lease_size * (f + n) = omega (arith, length-leases ys, many) in
      let rest : List ℕ = drop (from + lease_size * (f + n) + lease_size * length bs) l in
      let stays : drop end l₁ ≡ old ++ rest =
      drop-put new l at end (omega arith) ∙ ap (λ (k : ℕ). drop k l) end_is ∙ records-drop l from us r (f + n) few in
      sym (put_same old l₁ end rest stays)
      ∙ put-append new l at old
      ∙ put-after-first l from us r f (omega arith) (new ++ old)
      ∙ ap (put l from)
      (ap (λ (b : List ℕ). concat_map lease_record (take f us) ++ b) (sym (concat_map-append lease_record ys bs)) ∙ sym (concat_map-append lease_record (take f us) (ys ++ bs)))
