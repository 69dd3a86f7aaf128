-- Laws of a change by several entries: one more entry, and what the ledger's calls make of the leases.
-- Assumes nothing.
use Prim.Native.Nat.{ℕ, ◌+◌, ◌≤◌, ◌<◌}
use native.Mathlib.Omega.{arith}
use mathlib.Core.Path.{◌≡◌, refl, sym, ap, ◌∙◌}
use mathlib.Core.Bool.{Bool, true, false, not, cond, ◌&&◌, ◌||◌, and-false}
use mathlib.Core.List.{List, [], ◌∷◌, ◌++◌, map}
use lib.ListN.{length, length-append}
use borrow.Author.Tests.{lt-ltb, le-ltb}
use Rattle.lists.specs.Lists.{All, filter, concat_map}
use Rattle.lists.proofs.ListLaws.{all-map₂, all-every}
use Rattle.lists.proofs.FilterLaws.{filter-yes, filter-no, count-first}
pub use Rattle.lists.proofs.FilterLaws.{none_of}
use Rattle.lists.proofs.MapLaws.{filter_map, filter-filter, any-more, map_same, map-map}
use Rattle.lists.proofs.ConcatMapLaws.{concat_map-append, concat_map-one}
use Rattle.option.specs.Values.{Entry}
use Rattle.table.specs.declared.Lease.{Lease}
use Rattle.table.specs.Table.{present}
use Rattle.table.proofs.TableLaws.{present?}
use Rattle.image_records.proofs.FindLaws.{none-map}
use Rattle.option_reply.specs.Reply.{entry_of}
use Rattle.ledger.specs.Ledger.{names?, named_by?, found}
use Rattle.call_entries.specs.EntryLeases.{named?, leased_until, changed_if, changed_by}

-- A test of a lease by several entries.
abbrev pub named_by_present? : ℕ → ℕ → List Entry → Lease → Bool
named_by_present? now client es x = present? now x && named_by? client es x

-- ONE ENTRY MORE

module _ (expires : ℕ) (x : Lease) (g : Lease → Bool) where
  settled : (b : Bool) → cond b (leased_until expires x) (leased_until expires x) ≡ leased_until expires x
  settled true = refl
  settled false = refl

  more_of : (p q s : Bool) → g x ≡ p && s
      → changed_if g expires (cond (p && q) (leased_until expires x) x) ≡ cond (p && (q || s)) (leased_until expires x) x
  more_of true true s e = settled (g (leased_until expires x))
  more_of true false s e = ap (λ (b : Bool). cond b (leased_until expires x) x) e
  more_of false q s e = ap (λ (b : Bool). cond b (leased_until expires x) x) e

  -- A lease that is ended is not counted again.
  counts_of : (p q s : Bool) → g x ≡ p && s → g (leased_until expires x) ≡ false
      → cond (p && (q || s)) 1 0 ≡ cond (p && q) 1 0 + cond (g (cond (p && q) (leased_until expires x) x)) 1 0
  counts_of true true s e ended = ap (λ (b : Bool). 1 + cond {A = ℕ} b 1 0) (sym ended)
  counts_of true false s e ended = omega (arith, ap (λ (b : Bool). cond {A = ℕ} b 1 0) e)
  counts_of false q s e ended = omega (arith, ap (λ (b : Bool). cond {A = ℕ} b 1 0) e)

  -- A lease that is renewed is still the one that an entry names.
  keeps-of : (p q : Bool) → (p ≡ true → g (leased_until expires x) ≡ g x) → g (cond (p && q) (leased_until expires x) x) ≡ g x
  keeps-of true true k = k refl
  keeps-of true false k = refl
  keeps-of false q k = refl

module _ (now client expires : ℕ) (es : List Entry) (e : Entry) where
  one_more : (x : Lease) → changed_if (named? now client e.network e.length) expires (changed_by now client expires es x) ≡ changed_by now client expires (es ++ (e ∷ [])) x
  one_more x =
      more_of expires x (named? now client e.network e.length) (present? now x) (named_by? client es x) (names? client x e) refl
      ∙ ap (λ (b : Bool). cond (present? now x && b) (leased_until expires x) x) (sym (any-more (names? client x) es e))

  pub changed-more : (xs : List Lease)
      → map (changed_if (named? now client e.network e.length) expires) (map (changed_by now client expires es) xs) ≡ map (changed_by now client expires (es ++ (e ∷ []))) xs
  changed-more xs =
      map-map (changed_by now client expires es) (changed_if (named? now client e.network e.length) expires) xs
      ∙ map_same _ (changed_by now client expires (es ++ (e ∷ []))) one_more xs

pub changed-none : (now client expires : ℕ) (xs : List Lease) → map (changed_by now client expires []) xs ≡ xs
changed-none now client expires xs =
    none-map (named_by_present? now client []) (leased_until expires) xs (all-every (λ x. and-false (present? now x)) xs)

-- HOW MANY: those that an entry names, where the time that the lease gets has passed.

module _ {A : Type 0} (a b k : A → Bool) (f : A → A) (each : (x : A) → cond (a x) 1 0 ≡ cond (b x) 1 0 + cond (k (f x)) 1 0) where
  count-both : (xs : List A) → length (filter a xs) ≡ length (filter b xs) + length (filter k (map f xs))
  count-both [] = refl
  count-both (x ∷ xs) =
      omega (arith, each x, count-both xs, count-first a x xs, count-first b x xs, count-first k (f x) (map f xs))

module _ (now client expires : ℕ) (passed : expires ≤ now) (es : List Entry) where
  pub struck-more : (e : Entry) (xs : List Lease)
      → length (filter (named_by_present? now client (es ++ (e ∷ []))) xs)
      ≡ length (filter (named_by_present? now client es) xs) + length (filter (named? now client e.network e.length) (map (changed_by now client expires es) xs))
  struck-more e xs =
      count-both (named_by_present? now client (es ++ (e ∷ []))) (named_by_present? now client es) (named? now client e.network e.length) (changed_by now client expires es)
      (λ x.
      ap (λ (b : Bool). cond (present? now x && b) 1 0) (any-more (names? client x) es e)
      ∙ counts_of expires x (named? now client e.network e.length) (present? now x) (named_by? client es x) (names? client x e) refl
      (ap (λ (b : Bool). b && names? client x e) (le-ltb now expires passed)))
      xs

  -- The ledger's.
  pub struck-all : (xs : List Lease) → filter (named_by_present? now client es) xs ≡ filter (named_by? client es) (present now xs)
  unfolding present
  struck-all xs = sym (filter-filter (present? now) (named_by? client es) xs)

  pub struck-left : (xs : List Lease) → present now (map (changed_by now client expires es) xs) ≡ filter (λ x. not (named_by? client es x)) (present now xs)
  unfolding present
  struck-left xs = left xs ∙ sym (filter-filter (present? now) (λ (x : Lease). not (named_by? client es x)) xs)
    where
      one : (x : Lease) (p q : Bool) (ys zs : List Lease) → present? now x ≡ p → ys ≡ zs
          → filter (present? now) (cond (p && q) (leased_until expires x) x ∷ ys) ≡ cond (p && not q) (x ∷ filter (present? now) zs) (filter (present? now) zs)
      one x true true ys zs e same = filter-no (present? now) (leased_until expires x) ys (le-ltb now expires passed) ∙ ap (filter (present? now)) same
      one x true false ys zs e same = filter-yes (present? now) x ys e ∙ ap (λ (l : List Lease). x ∷ filter (present? now) l) same
      one x false q ys zs e same = filter-no (present? now) x ys e ∙ ap (filter (present? now)) same

      left : (ys : List Lease) → filter (present? now) (map (changed_by now client expires es) ys) ≡ filter (λ x. present? now x && not (named_by? client es x)) ys
      left [] = refl
      left (y ∷ ys) =
          one y (present? now y) (named_by? client es y) (map (changed_by now client expires es) ys) (map (changed_by now client expires es) ys) refl refl
          ∙ ap (λ (l : List Lease). cond (present? now y && not (named_by? client es y)) (y ∷ l) l) (left ys)

-- WHAT TAKE MAKES OF THEM, where the time that the lease gets has not passed.

module _ (now client expires : ℕ) (later : now < expires) (es : List Entry) where
  -- An entry names what it named before.
  pub named-same : (e : Entry) (x : Lease) → named? now client e.network e.length (changed_by now client expires es x) ≡ named? now client e.network e.length x
  named-same e x =
      keeps-of expires x (named? now client e.network e.length) (present? now x) (named_by? client es x)
      (λ (t : present? now x ≡ true). ap (λ (b : Bool). b && names? client x e) (lt-ltb now expires later ∙ sym t))

  still : (x : Lease) → present? now (changed_by now client expires es x) ≡ present? now x
  still x = keeps-of expires x (present? now) (present? now x) (named_by? client es x) (λ e. lt-ltb now expires later ∙ sym e)

  module _ (xs : List Lease) where
    pub renewed-present : present now (map (changed_by now client expires es) xs) ≡ map (λ x. cond (named_by? client es x) (leased_until expires x) x) (present now xs)
    unfolding present
    renewed-present =
        filter_map (present? now) (changed_by now client expires es) (λ x. cond (named_by? client es x) (leased_until expires x) x) still
        (λ x (e : present? now x ≡ true). ap (λ (b : Bool). cond (b && named_by? client es x) (leased_until expires x) x) e)
        xs

    -- Where all were present all still are.
    pub renewed-all : present now xs ≡ xs → present now (map (changed_by now client expires es) xs) ≡ map (changed_by now client expires es) xs
    unfolding present
    renewed-all all =
        filter_map (present? now) (changed_by now client expires es) (changed_by now client expires es) still (λ x e. refl) xs ∙ ap (map (changed_by now client expires es)) all

    -- A renewed lease shows as it did before.
    pub shown-same : (e : Entry) → map entry_of (filter (named? now client e.network e.length) (map (changed_by now client expires es) xs)) ≡ map entry_of (filter (named? now client e.network e.length) xs)
    shown-same e =
        let g : Lease → Bool = named? now client e.network e.length in
        let f : Lease → Lease = changed_by now client expires es in
        ap (map entry_of)
        (filter_map g f f (named-same e) (λ x t. refl) xs)
        ∙ map-map f entry_of (filter g xs)
        ∙ map_same (λ x. entry_of (f x)) entry_of (λ x. same-entry x (named_by_present? now client es x)) (filter g xs)
      where
        same-entry : (x : Lease) (b : Bool) → entry_of (cond b (leased_until expires x) x) ≡ entry_of x
        same-entry x true = refl
        same-entry x false = refl

-- The leases that entries name, in order.
module _ (now client : ℕ) (xs : List Lease) where
  one_entry : (e : Entry) → filter (λ x. names? client x e) (present now xs) ≡ filter (named? now client e.network e.length) xs
  unfolding present
  one_entry e = filter-filter (present? now) (λ (x : Lease). names? client x e) xs

  pub found-more : (es : List Entry) (e : Entry) → found client (present now xs) (es ++ (e ∷ [])) ≡ found client (present now xs) es ++ filter (named? now client e.network e.length) xs
  found-more es e =
      let f : Entry → List Lease = λ a. filter (λ x. names? client x a) (present now xs) in
      concat_map-append f es (e ∷ []) ∙ ap (λ (l : List Lease). concat_map f es ++ l) (concat_map-one f e ∙ one_entry e)

  -- Where they name none, none is named.
  pub found_nothing : (es : List Entry) → length (found client (present now xs) es) ≡ 0 → All (λ x. named_by_present? now client es x ≡ false) xs
  found_nothing [] z = all-every (λ x. and-false (present? now x)) xs
  found_nothing (e ∷ es) z =
      let both = length-append (filter (λ x. names? client x e) (present now xs)) (found client (present now xs) es) in
      all-map₂ (λ x (a : named? now client e.network e.length x ≡ false) (b : named_by_present? now client es x ≡ false). neither (present? now x) (names? client x e) (named_by? client es x) a b) xs
      (none_of (named? now client e.network e.length) xs (sym (ap length (one_entry e)) ∙ omega (arith, both, z)))
      (found_nothing es (omega (arith, both, z)))
    where
      neither : (p s q : Bool) → (p && s) ≡ false → (p && q) ≡ false → (p && (s || q)) ≡ false
      neither true true q a b = a
      neither true false q a b = b
      neither false s q a b = refl
