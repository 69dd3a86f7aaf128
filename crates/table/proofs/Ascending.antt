-- Slots that ascend: what the test decides, for any kind of slot.
-- Assumes nothing.
use Prim.Native.Nat.{ℕ, zero, suc, ◌-◌, ◌≤◌, ◌<◌}
use mathlib.Core.Path.{◌≡◌, refl, sym, ap, ap₂, subst, ◌∙◌}
use mathlib.Core.Logic.{inl, inr, ⊎_elim}
use mathlib.Core.Bool.{Bool, true, false, not, ◌&&◌}
use mathlib.Core.List.{List, [], ◌∷◌, ◌++◌, map}
use native.Mathlib.Omega.{arith}
use lib.ListN.{length, replicate}
use lib.Dec.{leb, ltb}
use borrow.Author.Tests.{leb-true, le-leb, ltb-true, ltb-false}
use Rattle.lists.specs.Lists.{All, Pairwise, all?, filter, insert_by, sort_by}
use Rattle.lists.proofs.Tests.{bool_cases, and-to, and-of, cond-true, cond-false, not-of, not-to}
use Rattle.lists.proofs.ListLaws.{all_map}
use Rattle.lists.proofs.FilterLaws.{filter-yes, filter-no}
use Rattle.lists.proofs.SortingLaws.{insert_by-before, insert_by-after, sort_by-all}
use Rattle.prefix.specs.declared.Prefix.{Prefix}
use Rattle.prefix.specs.Prefixes.{end, Apart}
use Rattle.prefix.proofs.PrefixLaws.{size-positive}
use Rattle.table.specs.Table.{ascends?}

-- "ascend by network without overlap", from an address on.
abbrev pub Ascending : {A : Type 0} → (A → Prefix) → ℕ → List A → Type 0
Ascending pre from [] = Unit {0}
Ascending pre from (x ∷ xs) = (from ≤ (pre x).network) × Ascending pre (end (pre x)) xs

-- The slots that are used.
abbrev pub used : {A : Type 0} → (A → Bool) → List A → List A
used none? xs = filter (λ x. not (none? x)) xs

module _ {A : Type 0} (pre : A → Prefix) where
  pub ascending-weaken : (from to : ℕ) (xs : List A) → from ≤ to → Ascending pre to xs → Ascending pre from xs
  ascending-weaken from to [] h s = tt
  ascending-weaken from to (x ∷ xs) h s = (omega arith, s.1)

  -- Leaving some out keeps the rest ascending.
  pub ascending-filter : (f : A → Bool) (from : ℕ) (xs : List A) → Ascending pre from xs → Ascending pre from (filter f xs)
  ascending-filter f from [] s = tt
  ascending-filter f from (x ∷ xs) s =
      let rest = ascending-filter f (end (pre x)) xs s.1 in
      ⊎_elim
      (λ (e : f x ≡ true). subst (Ascending pre from) (sym (filter-yes f x xs e)) (s.0, rest))
      (λ (e : f x ≡ false). subst (Ascending pre from) (sym (filter-no f x xs e)) (ascending-weaken from (end (pre x)) (filter f xs) (omega arith) rest))
      (bool_cases (f x))

  pub ascending-low : (from : ℕ) (xs : List A) → Ascending pre from xs → All (λ x. from ≤ (pre x).network) xs
  ascending-low from [] s = tt
  ascending-low from (x ∷ xs) s = (s.0, all_map (λ y (h : end (pre x) ≤ (pre y).network). omega arith) xs (ascending-low (end (pre x)) xs s.1))

  -- No two share an address.
  pub ascending-apart : (from : ℕ) (xs : List A) → Ascending pre from xs → Pairwise (λ x y. Apart (pre x) (pre y)) xs
  ascending-apart from [] s = tt
  ascending-apart from (x ∷ xs) s = (all_map (λ y h. inl h) xs (ascending-low (end (pre x)) xs s.1), ascending-apart (end (pre x)) xs s.1)

  pub ascending-image : (from : ℕ) (xs : List A) → Ascending pre from xs → Ascending (λ p. p) from (map pre xs)
  ascending-image from [] s = tt
  ascending-image from (x ∷ xs) s = (s.0, ascending-image (end (pre x)) xs s.1)

  -- Changing them without changing their prefixes.
  pub ascending-map : (f : A → A) → ((x : A) → pre (f x) ≡ pre x) → (from : ℕ) (xs : List A) → Ascending pre from xs → Ascending pre from (map f xs)
  ascending-map f same from [] s = tt
  ascending-map f same from (x ∷ xs) s = (
    subst (λ (p : Prefix). from ≤ p.network) (sym (same x)) s.0,
    subst (λ (p : Prefix). Ascending pre (end p) (map f xs)) (sym (same x)) (ascending-map f same (end (pre x)) xs s.1),
  )

  apart_below : (p q : Prefix) → Apart p q → p.network < q.network → end p ≤ q.network
  apart_below p q (inl a) h = a
  apart_below p q (inr a) h = absurd (omega (arith, size-positive q.length))

  apart_above : (p q : Prefix) → Apart p q → q.network ≤ p.network → end q ≤ p.network
  apart_above p q (inl a) h = absurd (omega (arith, size-positive p.length))
  apart_above p q (inr a) h = a

  -- Inserted by its network among others, with which it shares no address.
  pub ascending-insert : (from : ℕ) (x : A) (ys : List A) → from ≤ (pre x).network → All (λ y. Apart (pre x) (pre y)) ys → Ascending pre from ys
      → Ascending pre from (insert_by (λ y. (pre y).network) x ys)
  unfolding insert_by
  ascending-insert from x [] l a s = (l, tt)
  ascending-insert from x (y ∷ ys) l a s =
      let key : A → ℕ = λ z. (pre z).network in
      ⊎_elim
      (λ (h : ltb (key x) (key y) ≡ true).
      subst (Ascending pre from) (sym (insert_by-before key x y ys h)) (l, (apart_below (pre x) (pre y) a.0 (ltb-true (key x) (key y) h), s.1)))
      (λ (h : ltb (key x) (key y) ≡ false).
      subst (Ascending pre from) (sym (insert_by-after key x y ys h))
      (s.0, ascending-insert (end (pre y)) x ys (apart_above (pre x) (pre y) a.0 (ltb-false (key x) (key y) h)) a.1 s.1))
      (bool_cases (ltb (key x) (key y)))

  -- Sorted by network, where no two share an address.
  pub ascending-sort : (xs : List A) → Pairwise (λ x y. Apart (pre x) (pre y)) xs → Ascending pre 0 (sort_by (λ y. (pre y).network) xs)
  unfolding sort_by
  ascending-sort [] a = tt
  ascending-sort (x ∷ xs) a =
      let key : A → ℕ = λ z. (pre z).network in
      ascending-insert 0 x (sort_by key xs) (omega arith) (sort_by-all key (λ y. Apart (pre x) (pre y)) xs a.0) (ascending-sort xs a.1)

-- What the test says of the slots: those that are used pass `ok` and ascend, and nothing but empty slots is behind them.
pub record Slots {A : Type 0} (none? ok : A → Bool) (pre : A → Prefix) (blank : A) (from : ℕ) (xs : List A) : Type 0 where
  pub good : All (λ x. ok x ≡ true) (used none? xs)
  pub ascending : Ascending pre from (used none? xs)
  pub whole : xs ≡ used none? xs ++ replicate (length xs - length (used none? xs)) blank

module _ {A : Type 0} (none? ok : A → Bool) (pre : A → Prefix) (blank : A) where
  nones : ((x : A) → none? x ≡ true → x ≡ blank) → (xs : List A) → all? none? xs ≡ true → (used none? xs ≡ []) × (xs ≡ replicate (length xs) blank)
  nones only [] e = (refl, refl)
  nones only (x ∷ xs) e =
      let t = and-to (none? x) (all? none? xs) e in
      let r = nones only xs t.1 in
      (filter-no (λ y. not (none? y)) x xs (not-to (none? x) t.0) ∙ r.0, ap₂ (λ (y : A) (l : List A). y ∷ l) (only x t.0) r.1)

  slots-none : ((x : A) → none? x ≡ true → x ≡ blank) → (from : ℕ) (xs : List A) → all? none? xs ≡ true → Slots none? ok pre blank from xs
  slots-none only from xs e =
      let r = nones only xs e in
      let n : length xs - length (used none? xs) ≡ length xs = omega (arith, ap length r.0) in
      record {
        good = subst (All (λ x. ok x ≡ true)) (sym r.0) tt;
        ascending = subst (Ascending pre from) (sym r.0) tt;
        whole = r.1 ∙ ap₂ (λ (l : List A) (k : ℕ). l ++ replicate k blank) (sym r.0) (sym n);
      }

  slots-step : (from : ℕ) (x : A) (xs : List A) → none? x ≡ false → from ≤ (pre x).network → ok x ≡ true → Slots none? ok pre blank (end (pre x)) xs
      → Slots none? ok pre blank from (x ∷ xs)
  slots-step from x xs n l o r =
      let e = filter-yes (λ y. not (none? y)) x xs (not-of (none? x) n) in
      let k : length (x ∷ xs) - length (used none? (x ∷ xs)) ≡ length xs - length (used none? xs) = omega (arith, ap length e) in
      record {
        good = subst (All (λ x. ok x ≡ true)) (sym e) (o, r.good);
        ascending = subst (Ascending pre from) (sym e) (l, r.ascending);
        whole =
            ap (λ (l : List A). x ∷ l) r.whole
            ∙ ap₂ (λ (l : List A) (k : ℕ). l ++ replicate k blank) (sym e) (sym k);
      }

  pub ascends-to : ((x : A) → none? x ≡ true → x ≡ blank) → (from : ℕ) (xs : List A) → ascends? none? ok pre from xs ≡ true → Slots none? ok pre blank from xs
  unfolding ascends?
  ascends-to only from [] e = record { good = tt; ascending = tt; whole = refl }
  ascends-to only from (x ∷ xs) e =
      let rest : Bool = ascends? none? ok pre (end (pre x)) xs in
      let tests : Bool = leb from (pre x).network && (ok x && rest) in
      ⊎_elim
      (λ (n : none? x ≡ true).
      slots-none only from (x ∷ xs) (and-of (none? x) (all? none? xs) n (sym (cond-true (none? x) (all? none? xs) tests n) ∙ e)))
      (λ (n : none? x ≡ false).
      let f = and-to (leb from (pre x).network) (ok x && rest) (sym (cond-false (none? x) (all? none? xs) tests n) ∙ e) in
      let g = and-to (ok x) rest f.1 in
      slots-step from x xs n (leb-true from (pre x).network f.0) g.0 (ascends-to only (end (pre x)) xs g.1))
      (bool_cases (none? x))

  pub blanks : none? blank ≡ true → (k : ℕ) → all? none? (replicate k blank) ≡ true
  blanks b zero = refl
  blanks b (suc k) = and-of (none? blank) (all? none? (replicate k blank)) b (blanks b k)

  pub ascends-of : none? blank ≡ true → (from k : ℕ) (xs : List A) → All (λ x. none? x ≡ false) xs → All (λ x. ok x ≡ true) xs → Ascending pre from xs
      → ascends? none? ok pre from (xs ++ replicate k blank) ≡ true
  unfolding ascends?
  ascends-of b from zero [] n o s = refl
  ascends-of b from (suc k) [] n o s = cond-true (none? blank) _ _ b ∙ blanks b k
  ascends-of b from k (x ∷ xs) n o s =
      cond-false (none? x) _ _ n.0
      ∙ and-of _ _ (le-leb from (pre x).network s.0) (and-of _ _ o.0 (ascends-of b (end (pre x)) k xs n.1 o.1 s.1))
