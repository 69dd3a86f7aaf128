-- Laws of the place of a lease that passes a test, or that an entry names.
-- Assumes nothing.
use Prim.Native.Nat.{ℕ, zero, suc, ◌+◌, ◌*◌, ◌≤◌, ◌<◌}
use native.Mathlib.Omega.{arith}
use mathlib.Core.Path.{◌≡◌, refl, sym, ap, subst, ◌∙◌}
use mathlib.Core.Bool.{Bool, true, false}
use mathlib.Core.List.{List, [], ◌∷◌, ◌++◌, map}
use lib.ListN.{length, get_or, length-map}
use Rattle.std.specs.Prelude.{Option, Some, None}
use Rattle.std.proofs.lemmas.List.{get_or-map}
use Rattle.lists.specs.Lists.{All}
use Rattle.lists.proofs.FilterLaws.{filter-pass}
use Rattle.lists.proofs.ListLaws.{all_map}
use Rattle.option.specs.Values.{Entry}
use Rattle.table.specs.declared.Lease.{Lease}
use Rattle.table.specs.Table.{no_lease}
use Rattle.image_figures.specs.Sheets.{row_size}
use Rattle.call_entries.specs.EntryLeases.{named?, FoundAt}
use Rattle.call_entries.proofs.EntriesLaws.{no_entry}
use Rattle.call_take.specs.InnerPlaces.{PlaceOf, PlacesOf, PlaceBelow, RowWithin}

module _ (g : Lease → Bool) where
  pub found-place : (xs : List Lease) (r : Option ℕ) → FoundAt g xs r → PlaceOf g xs r
  found-place xs None f = f
  found-place xs (Some i) f = (f.within, (subst (All (λ x. g x ≡ true)) f.one (filter-pass g xs)).0)

  -- Leases changed so that the test says the same.
  pub place_same : (f : Lease → Lease) → ((x : Lease) → g (f x) ≡ g x) → (xs : List Lease) (r : Option ℕ) → PlaceOf g (map f xs) r → PlaceOf g xs r
  place_same f same xs None a = none_same xs a
    where
      none_same : (xs : List Lease) → All (λ x. g x ≡ false) (map f xs) → All (λ x. g x ≡ false) xs
      none_same [] a = tt
      none_same (x ∷ xs) a = (sym (same x) ∙ a.0, none_same xs a.1)
  place_same f same xs (Some i) p =
      let within : i < length xs = omega (arith, p.0, length-map xs f) in
      (within, sym (same (get_or xs i no_lease)) ∙ ap g (sym (get_or-map f xs i no_lease no_lease within)) ∙ p.1)

module _ (now client : ℕ) (xs : List Lease) where
  pub places-more : (es : List Entry) (rs : List (Option ℕ)) (e : Entry) (r : Option ℕ) → PlacesOf now client xs es rs → PlaceOf (named? now client e.network e.length) xs r
      → PlacesOf now client xs (es ++ (e ∷ [])) (rs ++ (r ∷ []))
  places-more [] [] e r p q = (q, tt)
  places-more [] (s ∷ rs) e r p q = absurd p
  places-more (a ∷ es) [] e r p q = absurd p
  places-more (a ∷ es) (s ∷ rs) e r p q = (p.0, places-more es rs e r p.1 q)

  -- The place of the lease that one of the entries names.
  pub places-at : (es : List Entry) (rs : List (Option ℕ)) (k : ℕ) → k < length rs → PlacesOf now client xs es rs
      → PlaceOf (named? now client (get_or es k no_entry).network (get_or es k no_entry).length) xs (get_or rs k None)
  places-at es [] k h p = absurd (omega arith)
  places-at [] (r ∷ rs) k h p = absurd p
  places-at (e ∷ es) (r ∷ rs) zero h p = p.0
  places-at (e ∷ es) (r ∷ rs) (suc k) h p = places-at es rs k (omega arith) p.1

  pub places-many : (es : List Entry) (rs : List (Option ℕ)) → PlacesOf now client xs es rs → length rs ≡ length es
  places-many [] [] p = refl
  places-many [] (r ∷ rs) p = absurd p
  places-many (e ∷ es) [] p = absurd p
  places-many (e ∷ es) (r ∷ rs) p = ap suc (places-many es rs p.1)

-- Rows of leases on the ground lie in the sheet.
pub rows-within : (first n bytes : ℕ) → row_size * (first + n) ≤ bytes → (rs : List (Option ℕ)) → All (PlaceBelow n) rs → All (RowWithin first bytes) rs
rows-within first n bytes room rs a = all_map one rs a
  where
    one : (r : Option ℕ) → PlaceBelow n r → RowWithin first bytes r
    one None p = tt
    one (Some i) p = omega (arith, room, p)
