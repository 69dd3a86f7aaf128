-- Laws of a lease's row among rows.
-- Assumes nothing.
use Prim.Native.Nat.{ℕ, zero, suc, ◌<◌}
use native.Mathlib.Omega.{arith}
use mathlib.Core.Path.{◌≡◌, refl, sym, ap, subst, ◌∙◌}
use mathlib.Core.Logic.{◌⊎◌, inl, inr, ⊎_elim}
use mathlib.Core.Bool.{Bool, true, false, ◌&&◌}
use mathlib.Core.List.{List, [], ◌∷◌, map}
use mathlib.Core.Option.{Option, none, some}
use lib.ListN.{length, get_or, length-map}
use lib.Dec.{eqb}
use borrow.Author.Tests.{eqb-true, ne_eqb}
use Rattle.lists.specs.Lists.{cat_maybes}
use Rattle.lists.proofs.Tests.{bool_cases, cond-true, cond-false, and-list-to}
use Rattle.lists.proofs.PartLaws.{cat_maybes-few}
use Rattle.table.specs.declared.Lease.{Lease}
use Rattle.figures.specs.declared.FigureRow.{FigureRow}
use Rattle.figures.specs.Figures.{empty_row, untold_row, of_lease?, found, or_untold, row_for}

pub lease-network : (x : Lease) (r : FigureRow) → of_lease? x r ≡ true → r.network ≡ x.network
unfolding of_lease?
lease-network x r e = eqb-true r.network x.network (and-list-to (eqb r.network x.network ∷ eqb r.length x.length ∷ []) e).0

pub lease-length : (x : Lease) (r : FigureRow) → of_lease? x r ≡ true → r.length ≡ x.length
unfolding of_lease?
lease-length x r e = eqb-true r.length x.length (and-list-to (eqb r.network x.network ∷ eqb r.length x.length ∷ []) e).1.0

pub lease-other : (x : Lease) (r : FigureRow) → (r.network ≡ x.network → ⊥) → of_lease? x r ≡ false
unfolding of_lease?
lease-other x r h = ap (λ (b : Bool). b && (eqb r.length x.length && true)) (ne_eqb r.network x.network h)

pub option_cases : {A : Type 0} (o : Option A) → (o ≡ none) ⊎ ((r : A) × (o ≡ some r))
option_cases none = inl refl
option_cases (some r) = inr (r, refl)

pub found-yes : (rs : List FigureRow) (x : Lease) (r : FigureRow) → found rs x ≡ some r → of_lease? x r ≡ true
found-yes [] x r e = let z : ◌≡◌ {A = ℕ} 0 1 = cc in absurd (omega arith)
found-yes (q ∷ rs) x r e =
    ⊎_elim
    (λ (t : of_lease? x q ≡ true).
    let s : some q ≡ some r = sym (cond-true (of_lease? x q) (some q) (found rs x) t) ∙ e in
    let same : q ≡ r = cc in
    subst (λ (y : FigureRow). of_lease? x y ≡ true) same t)
    (λ (t : of_lease? x q ≡ false). found-yes rs x r (sym (cond-false (of_lease? x q) (some q) (found rs x) t) ∙ e))
    (bool_cases (of_lease? x q))

first-no : (q : FigureRow) (rs : List FigureRow) (x : Lease) → found (q ∷ rs) x ≡ none → (of_lease? x q ≡ false) × (found rs x ≡ none)
first-no q rs x e =
    ⊎_elim
    (λ (t : of_lease? x q ≡ true).
    let s : some q ≡ none = sym (cond-true (of_lease? x q) (some q) (found rs x) t) ∙ e in
    let z : ◌≡◌ {A = ℕ} 0 1 = cc in absurd (omega arith))
    (λ (t : of_lease? x q ≡ false). (t, sym (cond-false (of_lease? x q) (some q) (found rs x) t) ∙ e))
    (bool_cases (of_lease? x q))

pub found-no : (rs : List FigureRow) (x : Lease) → found rs x ≡ none → (i : ℕ) → i < length rs → of_lease? x (get_or rs i empty_row) ≡ false
found-no [] x e i h = absurd (omega arith)
found-no (q ∷ rs) x e zero h = (first-no q rs x e).0
found-no (q ∷ rs) x e (suc i) h = found-no rs x (first-no q rs x e).1 i (omega arith)

module _ (rs : List FigureRow) where
  pub row-own : (x : Lease) (r : FigureRow) → found rs x ≡ some r → row_for rs x ≡ r
  unfolding row_for
  row-own x r e = ap (or_untold x) e

  pub row_new : (x : Lease) → found rs x ≡ none → row_for rs x ≡ untold_row x
  unfolding row_for
  row_new x e = ap (or_untold x) e

  -- Where each of some leases has a row, their rows are these.
  pub all_found : (ys : List Lease) → length (cat_maybes (map (found rs) ys)) ≡ length ys → map (row_for rs) ys ≡ cat_maybes (map (found rs) ys)
  all_found [] e = refl
  all_found (y ∷ ys) e =
      ⊎_elim
      (λ (n : found rs y ≡ none).
      let short : length (cat_maybes (map (found rs) ys)) ≡ suc (length ys) = sym (ap (λ (o : Option FigureRow). length (cat_maybes (o ∷ map (found rs) ys))) n) ∙ e in
      absurd (omega (arith, short, cat_maybes-few (map (found rs) ys), length-map ys (found rs))))
      (λ (s : (r : FigureRow) × (found rs y ≡ some r)).
      let r : FigureRow = s.0 in
      let heads = ap (λ (o : Option FigureRow). cat_maybes (o ∷ map (found rs) ys)) s.1 in
      let rest = all_found ys (omega (arith, ap length heads, e)) in
      ap (λ (q : FigureRow). q ∷ map (row_for rs) ys) (row-own y r s.1) ∙ ap (λ (l : List FigureRow). r ∷ l) rest ∙ sym heads)
      (option_cases (found rs y))
