-- Laws of the leases that have their network in a pool.
-- Assumes nothing.
use Prim.Native.Nat.{ℕ, zero, suc, ◌+◌, ◌-◌, ◌*◌, ◌≤◌, ◌<◌}
use native.Mathlib.Omega.{arith}
use mathlib.Core.Path.{◌≡◌, refl, sym, ap, subst, ◌∙◌}
use mathlib.Core.Bool.{Bool, true, false, ◌&&◌}
use mathlib.Core.List.{List, [], ◌∷◌}
use lib.ListN.{length, get_or, drop}
use lib.Dec.{leb, ltb}
use borrow.Author.Tests.{lt-leb, le-leb, lt-ltb, le-ltb}
use Rattle.lists.specs.Lists.{filter}
use Rattle.lists.proofs.FilterLaws.{filter-no}
use Rattle.prefix.specs.declared.Prefix.{Prefix}
use Rattle.prefix.specs.Prefixes.{end}
use Rattle.table.specs.declared.Lease.{Lease}
use Rattle.table.specs.Table.{no_lease}
use Rattle.image.specs.Image.{lease_size}
use Rattle.image_records.specs.Records.{Records, Ascending}
use Rattle.image_records.proofs.RecordLaws.{records-drop}
use Rattle.image_records.proofs.PlaceLaws.{filter-first}
use Rattle.image_records.proofs.FindLaws.{place-splits}
use Rattle.call_ground.specs.declared.LeaseRange.{LeaseRange}
use Rattle.call_ground.specs.Ground.{Before, starts_in?, LeasesIn}

-- BEFORE A NETWORK

pub before-none : (network : ℕ) (xs : List Lease) → network ≡ 0 → Before network xs 0
before-none network xs e = ((λ k h. absurd (omega arith)), (λ k h j. omega arith))

pub before-some : (network : ℕ) (xs : List Lease) (r : ℕ) → (network ≡ 0 → ⊥) → Ascending xs → r ≡ length (filter (λ x. leb x.network (network - 1)) xs) → Before network xs r
before-some network xs r k a e =
    let positive : 1 ≤ network = some-network network k in
    let s = place-splits (network - 1) xs a in
    ((λ j h. omega (arith, s.0 j (omega arith))), (λ j h l. omega (arith, s.1 j (omega arith) l)))
  where
    some-network : (n : ℕ) → (n ≡ 0 → ⊥) → 1 ≤ n
    some-network zero k = absurd (k refl)
    some-network (suc n) k = omega arith

-- THOSE IN THE POOL

pub ascending-drop : (i : ℕ) (xs : List Lease) → Ascending xs → Ascending (drop i xs)
unfolding Ascending
ascending-drop zero xs a = a
ascending-drop (suc i) [] a = tt
ascending-drop (suc i) (x ∷ xs) a = ascending-drop i xs a.1

-- The first ones that fail a test may go.
filter-after : (f : Lease → Bool) (i : ℕ) (xs : List Lease) → i ≤ length xs → ((k : ℕ) → k < i → f (get_or xs k no_lease) ≡ false) → filter f xs ≡ filter f (drop i xs)
filter-after f zero xs h fails = refl
filter-after f (suc i) [] h fails = refl
filter-after f (suc i) (x ∷ xs) h fails = filter-no f x xs (fails 0 (omega arith)) ∙ filter-after f i xs (omega arith) (λ k l. fails (suc k) (omega arith))

get_drop : (i k : ℕ) (xs : List Lease) → get_or (drop i xs) k no_lease ≡ get_or xs (i + k) no_lease
get_drop zero k xs = let same : k ≡ 0 + k = omega arith in ap (λ (j : ℕ). get_or xs j no_lease) same
get_drop (suc i) zero [] = refl
get_drop (suc i) (suc k) [] = refl
get_drop (suc i) k (x ∷ xs) = let same : suc (i + k) ≡ suc i + k = omega arith in get_drop i k xs ∙ ap (λ (j : ℕ). get_or (x ∷ xs) j no_lease) same

length-drop : (i : ℕ) (xs : List Lease) → i ≤ length xs → length (drop i xs) ≡ length xs - i
length-drop zero xs h = omega arith
length-drop (suc i) [] h = absurd (omega arith)
length-drop (suc i) (x ∷ xs) h = length-drop i xs (omega arith) ∙ omega arith

low : (p : Prefix) (x : Lease) → x.network < p.network → starts_in? p x ≡ false
low p x h = ap (λ (b : Bool). b && (ltb x.network (end p) && true)) (lt-leb p.network x.network h)

high : (p : Prefix) (x : Lease) → p.network ≤ x.network → end p ≤ x.network → starts_in? p x ≡ false
high p x g h =
    ap (λ (b : Bool). b && (ltb x.network (end p) && true)) (le-leb p.network x.network g)
    ∙ ap (λ (b : Bool). b && true) (le-ltb x.network (end p) h)

within : (p : Prefix) (x : Lease) → p.network ≤ x.network → x.network < end p → starts_in? p x ≡ true
within p x g h =
    ap (λ (b : Bool). b && (ltb x.network (end p) && true)) (le-leb p.network x.network g)
    ∙ ap (λ (b : Bool). b && true) (lt-ltb x.network (end p) h)

-- What the second search finds in what is left.
module _ (image : List ℕ) (from n : ℕ) (p : Prefix) (r : LeaseRange) (last : ℕ) (last-is : last + 1 ≡ end p) (few : r.first ≤ n) (fewer : r.count ≤ n - r.first)
    (first-is : (xs : List Lease) → Records image from xs → n ≡ length xs → Ascending xs → Before p.network xs r.first)
    (count-is : (ys : List Lease) → Records image (from + lease_size * r.first) ys → n - r.first ≡ length ys → Ascending ys → r.count ≡ length (filter (λ x. leb x.network last) ys)) where
  pub leases-in : (xs : List Lease) → Records image from xs → n ≡ length xs → Ascending xs → LeasesIn p xs r
  leases-in xs records many a =
      let f : ℕ = r.first in
      let ys : List Lease = drop f xs in
      let b = first-is xs records many a in
      let up = ascending-drop f xs a in
      let left : length ys ≡ length xs - f = length-drop f xs (omega (arith, many)) in
      let c = count-is ys (records-drop image from xs records f (omega (arith, many))) (omega (arith, many, left)) up in
      let s = place-splits last ys up in
      let above : (k : ℕ) → k < length ys → p.network ≤ (get_or ys k no_lease).network =
      λ k h. subst (λ (x : Lease). p.network ≤ x.network) (sym (get_drop f k xs)) (b.1 (f + k) (omega arith) (omega (arith, left))) in
      sym
      (filter-after (starts_in? p) f xs (omega (arith, many)) (λ k h. low p (get_or xs k no_lease) (b.0 k h))
      ∙ filter-first (starts_in? p) no_lease ys r.count (omega (arith, left, many))
      (λ k h. within p (get_or ys k no_lease) (above k (omega (arith, left, many))) (omega (arith, last-is, s.0 k (omega (arith, c)))))
      (λ k h l. high p (get_or ys k no_lease) (above k l) (omega (arith, last-is, s.1 k (omega (arith, c)) l))))
