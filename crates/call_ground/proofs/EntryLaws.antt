-- Laws of entries and the ground: what entries on the ground name of all leases is what all entries name of the leases on the ground.
-- Assumes nothing.
use Prim.Native.Nat.{ℕ}
use mathlib.Core.Path.{◌≡◌, refl, sym, ap, ap₂, ◌∙◌}
use mathlib.Core.Logic.{⊎_elim}
use mathlib.Core.Bool.{Bool, true, false, ◌&&◌, ◌||◌, true≢false}
use mathlib.Core.List.{List, [], ◌∷◌, ◌++◌}
use mathlib.Core.Option.{Option, none, some}
use lib.Dec.{eqb}
use borrow.Author.Tests.{eqb-true}
use Rattle.lists.specs.Lists.{any?, filter}
use Rattle.lists.proofs.Tests.{bool_cases, and-to}
use Rattle.lists.proofs.ListLaws.{all-every}
use Rattle.lists.proofs.FilterLaws.{filter-yes, filter-no, filter_none, filter_same}
use Rattle.lists.proofs.MapLaws.{filter-filter}
use Rattle.prefix.specs.Prefixes.{prefix, inside?}
use Rattle.option.specs.Values.{Entry}
use Rattle.option.specs.Contents.{entries_in}
use Rattle.table.specs.declared.Lease.{Lease}
use Rattle.table.specs.declared.LeaseTable.{LeaseTable}
use Rattle.table.specs.Table.{prefix_of, pools_of}
use Rattle.ledger.specs.Ledger.{Call, narrowed_to, on_ground, usable_leases, usable_entries, names?, named_by?, found}

-- A test of a network and a length.
module _ (q : ℕ → ℕ → Bool) (client : ℕ) where
  abbrev of_lease : Lease → Bool
  of_lease x = q x.network x.length

  abbrev of_entry : Entry → Bool
  of_entry e = q e.network e.length

  -- A lease that an entry names passes it exactly if the entry does.
  both : (e : Entry) (x : Lease) → (of_lease x && names? client x e) ≡ (of_entry e && names? client x e)
  both e x =
      ⊎_elim
      (λ (y : names? client x e ≡ true).
      let u = (and-to (eqb x.client client) _ y).1 in
      let v = and-to (eqb x.network e.network) _ u in
      let w = and-to (eqb x.length e.length) true v.1 in
      ap (λ (b : Bool). b && names? client x e) (ap₂ q (eqb-true x.network e.network v.0) (eqb-true x.length e.length w.0)))
      (λ (y : names? client x e ≡ false).
      ap (λ (b : Bool). of_lease x && b) y ∙ neither (of_lease x) ∙ sym (neither (of_entry e)) ∙ sym (ap (λ (b : Bool). of_entry e && b) y))
      (bool_cases (names? client x e))
    where
      neither : (b : Bool) → (b && false) ≡ false
      neither true = refl
      neither false = refl

  one : (e : Entry) (xs : List Lease) → filter (λ x. names? client x e) (filter of_lease xs) ≡ filter (λ x. of_entry e && names? client x e) xs
  one e xs = filter-filter of_lease (λ x. names? client x e) xs ∙ filter_same (λ x. of_lease x && names? client x e) (λ x. of_entry e && names? client x e) (both e) xs

  found-passing : (xs : List Lease) (es : List Entry) → found client (filter of_lease xs) es ≡ found client xs (filter of_entry es)
  found-passing xs [] = refl
  found-passing xs (e ∷ es) =
      ⊎_elim
      (λ (y : of_entry e ≡ true).
      ap₂ (λ (l m : List Lease). l ++ m) (one e xs ∙ ap (λ (b : Bool). filter (λ (x : Lease). b && names? client x e) xs) y) (found-passing xs es)
      ∙ sym (ap (found client xs) (filter-yes of_entry e es y)))
      (λ (y : of_entry e ≡ false).
      ap₂ (λ (l m : List Lease). l ++ m)
      (one e xs ∙ ap (λ (b : Bool). filter (λ (x : Lease). b && names? client x e) xs) y ∙ filter_none (λ (x : Lease). false) xs (all-every (λ x. refl) xs)) (found-passing xs es)
      ∙ sym (ap (found client xs) (filter-no of_entry e es y)))
      (bool_cases (of_entry e))

  named-passing : (x : Lease) (es : List Entry) → named_by? client (filter of_entry es) x ≡ (of_lease x && named_by? client es x)
  named-passing x [] = sym (neither (of_lease x))
    where
      neither : (b : Bool) → (b && false) ≡ false
      neither true = refl
      neither false = refl
  named-passing x (e ∷ es) =
      ⊎_elim
      (λ (y : of_entry e ≡ true).
      ap (λ (l : List Entry). named_by? client l x) (filter-yes of_entry e es y)
      ∙ ap (λ (b : Bool). names? client x e || b) (named-passing x es)
      ∙ spread (of_lease x) (names? client x e) (named_by? client es x) (both e x ∙ ap (λ (b : Bool). b && names? client x e) y))
      (λ (y : of_entry e ≡ false).
      ap (λ (l : List Entry). named_by? client l x) (filter-no of_entry e es y)
      ∙ named-passing x es
      ∙ skip (of_lease x) (names? client x e) (named_by? client es x) (both e x ∙ ap (λ (b : Bool). b && names? client x e) y))
      (bool_cases (of_entry e))
    where
      spread : (a n m : Bool) → (a && n) ≡ n → (n || (a && m)) ≡ (a && (n || m))
      spread true n m h = refl
      spread false true m h = sym h
      spread false false m h = refl

      skip : (a n m : Bool) → (a && n) ≡ false → (a && m) ≡ (a && (n || m))
      skip true true m h = absurd (true≢false h)
      skip true false m h = refl
      skip false n m h = refl

-- WHAT A TAKE FINDS: its entries that lie on its ground name the leases that all of its entries name there.

pub ground-found : (t : LeaseTable) (c : Call) (xs : List Lease) → found c.client (usable_leases t c xs) (entries_in c.option) ≡ found c.client xs (usable_entries t c)
unfolding usable_leases usable_entries
ground-found t c xs = go c.selection
  where
    go : (o : Option (List ℕ)) → found c.client (on_ground o t prefix_of xs) (entries_in c.option) ≡ found c.client xs (on_ground o t (λ e. prefix e.network e.length) (entries_in c.option))
    go none = refl
    go (some s) = found-passing (λ n l. any? (inside? (prefix n l)) (pools_of (narrowed_to (some s) t))) c.client xs (entries_in c.option)

-- And a lease is named by those if it lies there and is named at all.
pub ground-named : (t : LeaseTable) (c : Call) (s : List ℕ) → c.selection ≡ some s → (x : Lease)
    → named_by? c.client (usable_entries t c) x ≡ (any? (inside? (prefix_of x)) (pools_of (narrowed_to (some s) t)) && named_by? c.client (entries_in c.option) x)
unfolding usable_entries
ground-named t c s e x =
    ap (λ (o : Option (List ℕ)). named_by? c.client (on_ground o t (λ (y : Entry). prefix y.network y.length) (entries_in c.option)) x) e
    ∙ named-passing (λ n l. any? (inside? (prefix n l)) (pools_of (narrowed_to (some s) t))) c.client x (entries_in c.option)
