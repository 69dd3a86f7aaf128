-- Laws of finding a lease by its network among leases that ascend. With r of them up to the network, only the r-th can have it.
-- Assumes nothing.
use Prim.Native.Nat.{ℕ, zero, suc, ◌-◌, ◌≤◌, ◌<◌}
use native.Mathlib.Omega.{arith}
use mathlib.Core.Path.{◌≡◌, refl, sym, ap, ap₂, subst, ◌∙◌}
use mathlib.Core.Logic.{⊎_elim}
use mathlib.Core.Bool.{Bool, true, false, cond, ◌||◌}
use mathlib.Core.List.{List, [], ◌∷◌, map}
use lib.ListN.{length, get_or, set}
use lib.Dec.{leb, eqb}
use borrow.Author.Tests.{leb-true, leb-false, lt-leb, eqb-true, eqb-false}
use Rattle.lists.specs.Lists.{All, any?, filter}
use Rattle.lists.proofs.Tests.{bool_cases, cond-true, cond-false, not-true⇒false, or_left, or_right}
use Rattle.lists.proofs.ListLaws.{all_map}
use Rattle.lists.proofs.IndexLaws.{all-at}
use Rattle.lists.proofs.FilterLaws.{filter-yes, filter-no, filter_none, filter-fewer}
use Rattle.table.specs.declared.Lease.{Lease}
use Rattle.table.specs.Table.{no_lease}
use Rattle.image_records.specs.Records.{Ascending}
use Rattle.image_records.proofs.PlaceLaws.{ascending-at}

-- A TEST THAT AT MOST ONE ELEMENT PASSES

all-places : {A : Type 0} (P : A → Type 0) (d : A) (xs : List A) → ((k : ℕ) → k < length xs → P (get_or xs k d)) → All P xs
all-places P d [] p = tt
all-places P d (x ∷ xs) p = (p 0 (omega arith), all-places P d xs (λ k h. p (suc k) (omega arith)))

module _ {A : Type 0} (g : A → Bool) where
  pub none_any : (xs : List A) → All (λ x. g x ≡ false) xs → any? g xs ≡ false
  none_any [] a = refl
  none_any (x ∷ xs) a = ap (λ (b : Bool). b || any? g xs) a.0 ∙ none_any xs a.1

  pub none-map : (f : A → A) (xs : List A) → All (λ x. g x ≡ false) xs → map (λ x. cond (g x) (f x) x) xs ≡ xs
  none-map f [] a = refl
  none-map f (x ∷ xs) a = ap₂ (λ (y : A) (l : List A). y ∷ l) (cond-false (g x) (f x) x a.0) (none-map f xs a.1)

  -- Only the i-th passes.
  abbrev Only : A → List A → ℕ → Type 0
  Only d xs i = (k : ℕ) → k < length xs → (k ≡ i → ⊥) → g (get_or xs k d) ≡ false

  only-rest : (d x : A) (xs : List A) → Only d (x ∷ xs) 0 → All (λ y. g y ≡ false) xs
  only-rest d x xs o = all-places (λ y. g y ≡ false) d xs (λ k h. o (suc k) (omega arith) (λ e. omega arith))

  only-later : (d x : A) (xs : List A) (i : ℕ) → Only d (x ∷ xs) (suc i) → Only d xs i
  only-later d x xs i o k h apart = o (suc k) (omega arith) (λ e. apart (omega arith))

  only-filter : (d : A) (xs : List A) (i : ℕ) → i < length xs → Only d xs i → g (get_or xs i d) ≡ true → filter g xs ≡ get_or xs i d ∷ []
  only-filter d [] i h o e = absurd (omega arith)
  only-filter d (x ∷ xs) zero h o e = filter-yes g x xs e ∙ ap (λ (l : List A). x ∷ l) (filter_none g xs (only-rest d x xs o))
  only-filter d (x ∷ xs) (suc i) h o e =
      filter-no g x xs (o 0 (omega arith) (λ z. omega arith)) ∙ only-filter d xs i (omega arith) (only-later d x xs i o) e

  only-any : (d : A) (xs : List A) (i : ℕ) → i < length xs → g (get_or xs i d) ≡ true → any? g xs ≡ true
  only-any d [] i h e = absurd (omega arith)
  only-any d (x ∷ xs) zero h e = or_left (g x) (any? g xs) e
  only-any d (x ∷ xs) (suc i) h e = or_right (g x) (any? g xs) (only-any d xs i (omega arith) e)

  only-map : (f : A → A) (d : A) (xs : List A) (i : ℕ) → i < length xs → Only d xs i → g (get_or xs i d) ≡ true
      → map (λ x. cond (g x) (f x) x) xs ≡ set xs i (f (get_or xs i d))
  only-map f d [] i h o e = absurd (omega arith)
  only-map f d (x ∷ xs) zero h o e =
      ap₂ (λ (y : A) (l : List A). y ∷ l) (cond-true (g x) (f x) x e) (none-map f xs (only-rest d x xs o))
  only-map f d (x ∷ xs) (suc i) h o e =
      ap₂ (λ (y : A) (l : List A). y ∷ l) (cond-false (g x) (f x) x (o 0 (omega arith) (λ z. omega arith)))
      (only-map f d xs i (omega arith) (only-later d x xs i o) e)

-- THE PLACE AFTER A NETWORK

-- Those before the place are up to the network, and the others above it.
abbrev up_to : ℕ → Lease → Bool
up_to network x = leb x.network network

abbrev Split : ℕ → List Lease → ℕ → Type 0
Split network xs r =
    ((k : ℕ) → k < r → (get_or xs k no_lease).network ≤ network) × ((k : ℕ) → r ≤ k → k < length xs → network < (get_or xs k no_lease).network)

split-first : (network : ℕ) (x : Lease) (xs : List Lease) (r : ℕ) → x.network ≤ network → Split network xs r → Split network (x ∷ xs) (suc r)
split-first network x xs r here s = (low, high)
  where
    low : (k : ℕ) → k < suc r → (get_or (x ∷ xs) k no_lease).network ≤ network
    low zero h = here
    low (suc k) h = s.0 k (omega arith)

    high : (k : ℕ) → suc r ≤ k → k < length (x ∷ xs) → network < (get_or (x ∷ xs) k no_lease).network
    high zero h j = absurd (omega arith)
    high (suc k) h j = s.1 k (omega arith) (omega arith)

-- Where the first is above the network, all are.
pub all_above : (network : ℕ) (x : Lease) (xs : List Lease) → Ascending (x ∷ xs) → network < x.network → All (λ y. network < y.network) (x ∷ xs)
unfolding Ascending
all_above network x xs a h = (h, all_map (λ y (lt : x.network < y.network). omega arith) xs a.0)

pub place-splits : (network : ℕ) (xs : List Lease) → Ascending xs → Split network xs (length (filter (up_to network) xs))
unfolding Ascending
place-splits network [] a = ((λ k h. absurd (omega arith)), (λ k h j. absurd (omega arith)))
place-splits network (x ∷ xs) a =
    ⊎_elim
    (λ (t : up_to network x ≡ true).
    subst (Split network (x ∷ xs)) (sym (ap length (filter-yes (up_to network) x xs t)))
    (split-first network x xs (length (filter (up_to network) xs)) (leb-true x.network network t) (place-splits network xs a.1)))
    (λ (t : up_to network x ≡ false).
    let above = all_above network x xs a (leb-false x.network network t) in
    let nothing = filter_none (up_to network) (x ∷ xs) (all_map (λ y (h : network < y.network). lt-leb y.network network h) (x ∷ xs) above) in
    subst (Split network (x ∷ xs)) (sym (ap length nothing))
    ((λ k h. absurd (omega arith)), (λ k h j. all-at (λ y. network < y.network) (x ∷ xs) above k no_lease j)))
    (bool_cases (up_to network x))

-- THE LEASE WITH A NETWORK, as a test that only a lease with this network passes tells it.
module _ (network : ℕ) (xs : List Lease) (a : Ascending xs) (r : ℕ) (c : r ≡ length (filter (λ x. leb x.network network) xs)) where
  pub found_within : 0 < r → r - 1 < length xs
  found_within h = omega (arith, filter-fewer (up_to network) xs)

  module _ (g : Lease → Bool) (only : (x : Lease) → g x ≡ true → x.network ≡ network) where
    only-place : Only g no_lease xs (r - 1)
    only-place k h apart =
        let s = subst (Split network xs) (sym c) (place-splits network xs a) in
        not-true⇒false (g (get_or xs k no_lease)) (λ t.
        let same = only (get_or xs k no_lease) t in
        ⊎_elim
        (λ (b : leb r k ≡ true). omega (arith, s.1 k (leb-true r k b) h))
        (λ (b : leb r k ≡ false).
        let below = leb-false r k b in
        let before : k < r - 1 = omega arith in
        omega (arith, ascending-at xs a k (r - 1) before (found_within (omega arith)), s.0 (r - 1) (omega arith)))
        (bool_cases (leb r k)))

    -- None has it where none is up to it,
    pub found_none : r ≡ 0 → All (λ x. g x ≡ false) xs
    found_none z =
        let s = subst (Split network xs) (sym c) (place-splits network xs a) in
        all-places (λ x. g x ≡ false) no_lease xs (λ k h.
        not-true⇒false (g (get_or xs k no_lease)) (λ t. omega (arith, only (get_or xs k no_lease) t, s.1 k (omega arith) h)))

    -- or where the last of those up to it does not pass;
    pub found-other : g (get_or xs (r - 1) no_lease) ≡ false → All (λ x. g x ≡ false) xs
    found-other e =
        all-places (λ x. g x ≡ false) no_lease xs (λ k h.
        ⊎_elim
        (λ (b : eqb k (r - 1) ≡ true). ap (λ (i : ℕ). g (get_or xs i no_lease)) (eqb-true k (r - 1) b) ∙ e)
        (λ (b : eqb k (r - 1) ≡ false). only-place k h (eqb-false k (r - 1) b))
        (bool_cases (eqb k (r - 1))))

    -- where it passes, it alone does.
    module _ (some : 0 < r) (e : g (get_or xs (r - 1) no_lease) ≡ true) where
      pub found-filter : filter g xs ≡ get_or xs (r - 1) no_lease ∷ []
      found-filter = only-filter g no_lease xs (r - 1) (found_within some) only-place e

      pub found-any : any? g xs ≡ true
      found-any = only-any g no_lease xs (r - 1) (found_within some) e

      pub found_map : (f : Lease → Lease) → map (λ x. cond (g x) (f x) x) xs ≡ set xs (r - 1) (f (get_or xs (r - 1) no_lease))
      found_map f = only-map g f no_lease xs (r - 1) (found_within some) only-place e
