-- Calls that only strike: the leases that are left keep their places, so the rows that are left are theirs.
-- Assumes nothing.
use Prim.Native.Nat.{ℕ, suc, ◌<◌}
use native.Mathlib.Omega.{arith}
use mathlib.Core.Path.{◌≡◌, refl, sym, ap, ap₂, ◌∙◌}
use mathlib.Core.Logic.{⊎_elim}
use mathlib.Core.Bool.{Bool, true, false, ◌&&◌}
use mathlib.Core.List.{List, [], ◌∷◌, map}
use mathlib.Core.Option.{Option, some}
use lib.ListN.{length, drop}
use lib.Dec.{ltb, eqb}
use Rattle.lists.specs.Lists.{All, Pairwise, and}
use Rattle.lists.proofs.Tests.{bool_cases, cond-true, cond-false, and-to}
use Rattle.lists.proofs.ListLaws.{all_map, all-image}
use Rattle.lists.proofs.FilterLaws.{filter-yes, filter-no, filter-all}
use Rattle.table.specs.declared.Lease.{Lease}
use Rattle.table.specs.Table.{present}
use Rattle.figures.specs.declared.FigureRow.{FigureRow}
use Rattle.figures.specs.Figures.{of_lease?, found, or_untold, row_for, kept_rows}
use Rattle.figures.specs.Inner.{leases_match?, with_each}
use Rattle.figures.proofs.FoundLaws.{lease-network, lease-other, row-own}
use Rattle.figures.proofs.KeptLaws.{kept-yes, kept-no}

module _ (g : Lease → FigureRow → FigureRow) where
  -- A row of none of some leases is not looked at.
  passed_over : (r : FigureRow) (rs : List FigureRow) (ys : List Lease) → All (λ y. of_lease? y r ≡ false) ys
      → map (λ y. g y (row_for (r ∷ rs) y)) ys ≡ map (λ y. g y (row_for rs y)) ys
  unfolding row_for
  passed_over r rs [] a = refl
  passed_over r rs (y ∷ ys) a =
      ap₂ (λ (q : FigureRow) (l : List FigureRow). q ∷ l)
      (ap (λ (o : Option FigureRow). g y (or_untold y o)) (cond-false (of_lease? y r) (some r) (found rs y) a.0))
      (passed_over r rs ys a.1)

-- Leases xs are changed by f, each where it stands, and some of them end; h is what becomes of a row, g the same by the lease as it is then.
module _ (now : ℕ) (f : Lease → Lease) (same : (x : Lease) → ((f x).network ≡ x.network) × ((f x).length ≡ x.length))
    (fewer : (x : Lease) → ltb now (f x).expires ≡ true → ltb now x.expires ≡ true)
    (h g : Lease → FigureRow → FigureRow) (agree : (x : Lease) (r : FigureRow) → ltb now (f x).expires ≡ true → g (f x) r ≡ h x r) where
  own : (x : Lease) (r : FigureRow) → of_lease? x r ≡ true → of_lease? (f x) r ≡ true
  unfolding of_lease?
  own x r e = rw ((same x).0, (same x).1) e

  others : (x : Lease) (xs : List Lease) (r : FigureRow) → All (λ z. x.network < z.network) xs → of_lease? x r ≡ true → All (λ z. of_lease? z r ≡ false) (present now (map f xs))
  unfolding present
  others x xs r a e =
      filter-all (λ (y : Lease). ltb now y.expires) (λ z. of_lease? z r ≡ false) (map f xs)
      (all-image f (λ z. of_lease? z r ≡ false) xs
      (all_map (λ z (lt : x.network < z.network). lease-other (f z) r (λ at. omega (arith, lt, at, lease-network x r e, (same z).0))) xs a))

  pub stays : (xs : List Lease) (rows : List FigureRow) → Pairwise (λ x y. x.network < y.network) xs → leases_match? xs rows ≡ true
      → map (λ y. g y (row_for (kept_rows now xs rows) y)) (present now (map f xs)) ≡ kept_rows now (map f xs) (with_each h xs rows)
  unfolding present
  stays [] rows a m = refl
  stays (x ∷ xs) [] a m = let z : ◌≡◌ {A = ℕ} 0 1 = cc in absurd (omega arith)
  stays (x ∷ xs) (r ∷ rows) a m =
      let t = and-to (of_lease? x r) (leases_match? xs rows) m in
      let kept : List FigureRow = kept_rows now xs rows in
      let ys : List Lease = present now (map f xs) in
      let skip = passed_over g r kept ys (others x xs r a.0 t.0) in
      let rest = stays xs rows a.1 t.1 in
      ⊎_elim
      (λ (p : ltb now (f x).expires ≡ true).
      ap₂ (λ (zs : List Lease) (k : List FigureRow). map (λ y. g y (row_for k y)) zs) (filter-yes (λ (y : Lease). ltb now y.expires) (f x) (map f xs) p) (kept-yes now x xs r rows (fewer x p))
      ∙ ap₂ (λ (q : FigureRow) (l : List FigureRow). q ∷ l)
      (ap (g (f x)) (row-own (r ∷ kept) (f x) r (cond-true (of_lease? (f x) r) (some r) (found kept (f x)) (own x r t.0))) ∙ agree x r p)
      (skip ∙ rest)
      ∙ sym (kept-yes now (f x) (map f xs) (h x r) (with_each h xs rows) p))
      (λ (p : ltb now (f x).expires ≡ false).
      ap (map (λ y. g y (row_for (kept_rows now (x ∷ xs) (r ∷ rows)) y))) (filter-no (λ (y : Lease). ltb now y.expires) (f x) (map f xs) p)
      ∙ ⊎_elim
      (λ (q : ltb now x.expires ≡ true). ap (λ (k : List FigureRow). map (λ y. g y (row_for k y)) ys) (kept-yes now x xs r rows q) ∙ skip)
      (λ (q : ltb now x.expires ≡ false). ap (λ (k : List FigureRow). map (λ y. g y (row_for k y)) ys) (kept-no now x xs r rows q))
      (bool_cases (ltb now x.expires))
      ∙ rest
      ∙ sym (kept-no now (f x) (map f xs) (h x r) (with_each h xs rows) p))
      (bool_cases (ltb now (f x).expires))

-- Each row as it is.
pub each_same : (xs : List Lease) (rows : List FigureRow) → with_each (λ x r. r) xs rows ≡ rows
each_same [] rows = refl
each_same (x ∷ xs) [] = refl
each_same (x ∷ xs) (r ∷ rows) = ap (λ (l : List FigureRow). r ∷ l) (each_same xs rows)

-- A change of leases that the rows' change does not see.
pub each_map : (h : Lease → FigureRow → FigureRow) (f : Lease → Lease) → ((x : Lease) (r : FigureRow) → h (f x) r ≡ h x r) → (xs : List Lease) (rows : List FigureRow)
    → with_each h (map f xs) rows ≡ with_each h xs rows
each_map h f e [] rows = refl
each_map h f e (x ∷ xs) [] = refl
each_map h f e (x ∷ xs) (r ∷ rows) = ap₂ (λ (q : FigureRow) (l : List FigureRow). q ∷ l) (e x r) (each_map h f e xs rows)

-- The rows behind the leases stay, and so does how many rows there are.
pub each-behind : (h : Lease → FigureRow → FigureRow) (xs : List Lease) (rows : List FigureRow) → drop (length xs) (with_each h xs rows) ≡ drop (length xs) rows
each-behind h [] rows = refl
each-behind h (x ∷ xs) [] = refl
each-behind h (x ∷ xs) (r ∷ rows) = each-behind h xs rows

pub each-length : (h : Lease → FigureRow → FigureRow) (xs : List Lease) (rows : List FigureRow) → length (with_each h xs rows) ≡ length rows
each-length h [] rows = refl
each-length h (x ∷ xs) [] = refl
each-length h (x ∷ xs) (r ∷ rows) = ap suc (each-length h xs rows)

-- A change that leaves network and length of a row, and one that leaves those of the leases: the rows match as before.
pub each-matches : (h : Lease → FigureRow → FigureRow) → ((x : Lease) (r : FigureRow) → of_lease? x (h x r) ≡ of_lease? x r) → (xs : List Lease) (rows : List FigureRow)
    → leases_match? xs (with_each h xs rows) ≡ leases_match? xs rows
each-matches h e [] rows = refl
each-matches h e (x ∷ xs) [] = refl
each-matches h e (x ∷ xs) (r ∷ rows) = ap₂ (λ (a b : Bool). a && b) (e x r) (each-matches h e xs rows)

pub map-matches : (f : Lease → Lease) → ((x : Lease) → ((f x).network ≡ x.network) × ((f x).length ≡ x.length)) → (xs : List Lease) (rows : List FigureRow)
    → leases_match? (map f xs) rows ≡ leases_match? xs rows
unfolding of_lease?
map-matches f same [] rows = refl
map-matches f same (x ∷ xs) [] = refl
map-matches f same (x ∷ xs) (r ∷ rows) =
    ap₂ (λ (a b : Bool). a && b) (ap₂ (λ (n l : ℕ). and (eqb r.network n ∷ eqb r.length l ∷ [])) (same x).0 (same x).1) (map-matches f same xs rows)
