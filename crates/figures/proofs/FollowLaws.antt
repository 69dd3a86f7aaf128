-- Rows that follow leases: when the rows of old leases are among the new ones in order, and that rows match leases again after each change.
-- Assumes nothing.
use Prim.Native.Nat.{ℕ, ◌<◌}
use native.Mathlib.Omega.{arith}
use mathlib.Core.Path.{◌≡◌, refl, sym, ap, ap₂, subst, ◌∙◌}
use mathlib.Core.Logic.{inl, inr, ⊎_elim}
use mathlib.Core.Bool.{true, false, ◌&&◌}
use mathlib.Core.List.{List, [], ◌∷◌, ◌++◌, map}
use mathlib.Core.Option.{Option, none, some}
use lib.ListN.{length}
use lib.Dec.{ltb, eqb}
use borrow.Author.Tests.{eq-eqb}
use Rattle.lists.specs.Lists.{All, Any, Pairwise, cat_maybes, insert_by}
use Rattle.lists.proofs.Tests.{bool_cases, cond-true, cond-false, and-to, and-of}
use Rattle.lists.proofs.ListLaws.{all_map, any-all}
use Rattle.lists.proofs.PartLaws.{cat_maybes-some}
use Rattle.lists.proofs.SortingLaws.{insert_by-before, insert_by-after}
use Rattle.lists.proofs.FilterLaws.{filter-yes, filter-no}
use Rattle.table.specs.declared.Lease.{Lease}
use Rattle.table.specs.Table.{network_of, present, insert}
use Rattle.figures.specs.declared.FigureRow.{FigureRow}
use Rattle.figures.specs.Figures.{untold_row, of_lease?, found, row_for, kept_rows}
use Rattle.figures.specs.Inner.{leases_match?}
use Rattle.figures.proofs.FoundLaws.{option_cases, lease-network, lease-other, found-yes, row-own, row_new}

-- OLD LEASES AMONG NEW ONES

-- A row of none of some leases is not looked at.
not-looked : (r : FigureRow) (rs : List FigureRow) (ys : List Lease) → All (λ y. of_lease? y r ≡ false) ys → map (found (r ∷ rs)) ys ≡ map (found rs) ys
not-looked r rs [] a = refl
not-looked r rs (y ∷ ys) a =
    ap₂ (λ (o : Option FigureRow) (os : List (Option FigureRow)). o ∷ os) (cond-false (of_lease? y r) (some r) (found rs y) a.0) (not-looked r rs ys a.1)

-- Rows that match ascending leases are found by them, in order.
pub own-rows : (ys : List Lease) (rs : List FigureRow) → Pairwise (λ x y. x.network < y.network) ys → length rs ≡ length ys → leases_match? ys rs ≡ true → map (found rs) ys ≡ map some rs
own-rows [] [] a e m = refl
own-rows [] (r ∷ rs) a e m = absurd (omega arith)
own-rows (y ∷ ys) [] a e m = absurd (omega arith)
own-rows (y ∷ ys) (r ∷ rs) a e m =
    let t = and-to (of_lease? y r) (leases_match? ys rs) m in
    let at = lease-network y r t.0 in
    let others : All (λ z. of_lease? z r ≡ false) ys = all_map (λ z (h : y.network < z.network). lease-other z r (λ same. omega arith)) ys a.0 in
    ap₂ (λ (o : Option FigureRow) (os : List (Option FigureRow)). o ∷ os) (cond-true (of_lease? y r) (some r) (found rs y) t.0)
    (not-looked r rs ys others ∙ own-rows ys rs a.1 (omega arith) t.1)

-- So `spread` may be called on them, before a lease is added;
pub spread_none : (ys : List Lease) (rs : List FigureRow) → Pairwise (λ x y. x.network < y.network) ys → length rs ≡ length ys → leases_match? ys rs ≡ true → cat_maybes (map (found rs) ys) ≡ rs
spread_none ys rs a e m = ap cat_maybes (own-rows ys rs a e m) ∙ cat_maybes-some rs

-- a lease that has no row changes nothing in this, wherever it is put;
pub spread-new : (rs : List FigureRow) (x : Lease) (ys : List Lease) → found rs x ≡ none → cat_maybes (map (found rs) (insert x ys)) ≡ cat_maybes (map (found rs) ys)
unfolding insert_by
spread-new rs x [] f = ap (λ (o : Option FigureRow). cat_maybes (o ∷ [])) f
spread-new rs x (y ∷ ys) f =
    ⊎_elim
    (λ (t : ltb x.network y.network ≡ true).
    ap (λ (l : List Lease). cat_maybes (map (found rs) l)) (insert_by-before network_of x y ys t) ∙ ap (λ (o : Option FigureRow). cat_maybes (o ∷ map (found rs) (y ∷ ys))) f)
    (λ (t : ltb x.network y.network ≡ false).
    ap (λ (l : List Lease). cat_maybes (map (found rs) l)) (insert_by-after network_of x y ys t) ∙ later (found rs y) (spread-new rs x ys f))
    (bool_cases (ltb x.network y.network))
  where
    later : (o : Option FigureRow) → cat_maybes (map (found rs) (insert x ys)) ≡ cat_maybes (map (found rs) ys) → cat_maybes (o ∷ map (found rs) (insert x ys)) ≡ cat_maybes (o ∷ map (found rs) ys)
    later none e = e
    later (some r) e = ap (λ (l : List FigureRow). r ∷ l) e

-- and a lease has none if its network is that of none of the leases whose rows these are.
row-of-one : (rs : List FigureRow) (zs : List Lease) → All (λ r. Any (λ z. r.network ≡ z.network) zs) (cat_maybes (map (found rs) zs))
row-of-one rs [] = tt
row-of-one rs (z ∷ zs) =
    let later : All (λ r. Any (λ y. r.network ≡ y.network) (z ∷ zs)) (cat_maybes (map (found rs) zs)) =
    all_map (λ r (a : Any (λ y. r.network ≡ y.network) zs). inr a) (cat_maybes (map (found rs) zs)) (row-of-one rs zs) in
    ⊎_elim
    (λ (n : found rs z ≡ none).
    subst (All (λ r. Any (λ y. r.network ≡ y.network) (z ∷ zs))) (sym (ap (λ (o : Option FigureRow). cat_maybes (o ∷ map (found rs) zs)) n)) later)
    (λ (s : (r : FigureRow) × (found rs z ≡ some r)).
    subst (All (λ r. Any (λ y. r.network ≡ y.network) (z ∷ zs))) (sym (ap (λ (o : Option FigureRow). cat_maybes (o ∷ map (found rs) zs)) s.1))
    (inl (lease-network z s.0 (found-yes rs z s.0 s.1)), later))
    (option_cases (found rs z))

no_row : (x : Lease) (rs : List FigureRow) → All (λ r. r.network ≡ x.network → ⊥) rs → found rs x ≡ none
no_row x [] a = refl
no_row x (r ∷ rs) a = cond-false (of_lease? x r) (some r) (found rs x) (lease-other x r a.0) ∙ no_row x rs a.1

pub new_row : (rs : List FigureRow) (x : Lease) (zs : List Lease) → cat_maybes (map (found rs) zs) ≡ rs → All (λ z. z.network ≡ x.network → ⊥) zs → found rs x ≡ none
new_row rs x zs e a =
    no_row x rs
    (all_map (λ r (one : Any (λ z. r.network ≡ z.network) zs). λ at. let w = any-all zs one a in w.2 (sym w.1 ∙ at)) rs
    (subst (All (λ r. Any (λ z. r.network ≡ z.network) zs)) e (row-of-one rs zs)))

-- So an ask may put one lease after another among those that were present.
pub spread-insert : (rs : List FigureRow) (x : Lease) (zs : List Lease) → All (λ z. z.network ≡ x.network → ⊥) zs → cat_maybes (map (found rs) zs) ≡ rs
    → cat_maybes (map (found rs) (insert x zs)) ≡ rs
spread-insert rs x zs a e = spread-new rs x zs (new_row rs x zs e a) ∙ e

-- ROWS MATCH LEASES, PLACE FOR PLACE

pub untold-fits : (x : Lease) → of_lease? x (untold_row x) ≡ true
unfolding of_lease?
untold-fits x = and-of (eqb x.network x.network) (eqb x.length x.length && true) (eq-eqb x.network x.network refl) (and-of (eqb x.length x.length) true (eq-eqb x.length x.length refl) refl)

-- A lease's row is of it, whether it had one or not;
pub row_fits : (rs : List FigureRow) (x : Lease) → of_lease? x (row_for rs x) ≡ true
row_fits rs x =
    ⊎_elim
    (λ (n : found rs x ≡ none). ap (of_lease? x) (row_new rs x n) ∙ untold-fits x)
    (λ (s : (r : FigureRow) × (found rs x ≡ some r)). ap (of_lease? x) (row-own rs x s.0 s.1) ∙ found-yes rs x s.0 s.1)
    (option_cases (found rs x))

-- and the rows that are left when ended leases are struck are those of the leases that are left.
pub strike-matches : (time : ℕ) (xs : List Lease) (rows q : List FigureRow) → leases_match? xs rows ≡ true → leases_match? (present time xs) (kept_rows time xs rows ++ q) ≡ true
unfolding present
strike-matches time [] rows q m = refl
strike-matches time (x ∷ xs) [] q m = let z : ◌≡◌ {A = ℕ} 0 1 = cc in absurd (omega arith)
strike-matches time (x ∷ xs) (r ∷ rows) q m =
    let t = and-to (of_lease? x r) (leases_match? xs rows) m in
    let later : List FigureRow = kept_rows time xs rows in
    let rest = strike-matches time xs rows q t.1 in
    ⊎_elim
    (λ (p : ltb time x.expires ≡ true).
    ap₂ (λ (ys : List Lease) (s : List FigureRow). leases_match? ys (s ++ q)) (filter-yes (λ (y : Lease). ltb time y.expires) x xs p) (cond-true (ltb time x.expires) (r ∷ later) later p)
    ∙ and-of (of_lease? x r) (leases_match? (present time xs) (later ++ q)) t.0 rest)
    (λ (p : ltb time x.expires ≡ false).
    ap₂ (λ (ys : List Lease) (s : List FigureRow). leases_match? ys (s ++ q)) (filter-no (λ (y : Lease). ltb time y.expires) x xs p) (cond-false (ltb time x.expires) (r ∷ later) later p)
    ∙ rest)
    (bool_cases (ltb time x.expires))
