-- Figures that are filed: what an entry's figures do to a row, that the row stays its lease's, and that what a take leaves matches.
-- Assumes nothing.
use Prim.Native.Nat.{ℕ, zero, suc, ◌≤◌, ◌<◌}
use native.Mathlib.Omega.{arith}
use mathlib.Core.Path.{◌≡◌, refl, sym, ap, ◌∙◌}
use mathlib.Core.Logic.{⊎_elim}
use mathlib.Core.Bool.{Bool, true, false, cond}
use mathlib.Core.List.{List, [], ◌∷◌}
use mathlib.Core.Option.{none}
use lib.ListN.{length, get_or, get_or-eq_default}
use lib.Dec.{ltb, eqb}
use borrow.Author.Tests.{ltb-true, ltb-false, ne_eqb}
use Rattle.lists.specs.Lists.{All}
use Rattle.lists.proofs.Tests.{bool_cases, cond-true, cond-false}
use Rattle.option_entry.specs.declared.{HighWater.HighWater, InUse.InUse, Unusable.Unusable}
use Rattle.option_entry.specs.Entries.{Entry}
use Rattle.option_entry.specs.Steps.{figures_of}
use Rattle.table.specs.declared.{Lease.Lease, LeaseTable.LeaseTable}
use Rattle.table.specs.Table.{no_lease, empty?, present}
use Rattle.table.proofs.TableLaws.{empty-to}
use Rattle.figures.specs.declared.FigureRow.{FigureRow}
use Rattle.figures.specs.Figures.{untold, of_lease?, untold?, fits?, matches?, kept_rows, found, row_for, high_water_of, in_use_of, unusable_of, newer_high_water, newer_in_use, newer_unusable, filed, names?, filed_by, taken}
use Rattle.figures.proofs.RowsMatch.{untold-is, fits-of, image-matches}
use Rattle.figures.proofs.RowsFollow.{kept-matches, row-of-lease, empty-found, empty-row}

-- ONE ENTRY

-- A figure of an entry, by its place: a missing one is untold.
abbrev pub figure_at : ℕ → Entry → ℕ
figure_at k e = get_or e.figures k untold

-- "0xffff or a missing figure keeps what was told before"
abbrev pub newest : ℕ → ℕ → ℕ
newest old new = cond (eqb new untold) old new

same_in : (l : List ℕ) (i : ℕ) → i < length l → get_or l i 0 ≡ get_or l i untold
same_in [] i h = absurd (omega arith)
same_in (x ∷ l) zero h = refl
same_in (x ∷ l) (suc i) h = same_in l i (omega arith)

push : {A : Type 0} (f : A → ℕ) (b : Bool) (x y : A) → f (cond b x y) ≡ cond b (f x) (f y)
push f true x y = refl
push f false x y = refl

told_is : (l : List ℕ) (i : ℕ) → cond (ltb i (length l)) (get_or l i 0) untold ≡ get_or l i untold
told_is l i =
    ⊎_elim
    (λ (t : ltb i (length l) ≡ true). cond-true (ltb i (length l)) (get_or l i 0) untold t ∙ same_in l i (ltb-true i (length l) t))
    (λ (t : ltb i (length l) ≡ false). cond-false (ltb i (length l)) (get_or l i 0) untold t ∙ sym (get_or-eq_default l untold (ltb-false i (length l) t)))
    (bool_cases (ltb i (length l)))

module _ (e : Entry) (r : FigureRow) where
  pub filed-high-water : (filed (figures_of e.figures) r).high_water.0 ≡ newest r.high_water.0 (figure_at 0 e)
  unfolding filed newer_high_water high_water_of
  filed-high-water =
      let new : HighWater = high_water_of (figures_of e.figures) in
      push (λ (h : HighWater). h.0) (eqb new.0 untold) r.high_water new
      ∙ ap (newest r.high_water.0) (push (λ (h : HighWater). h.0) (ltb 0 (length e.figures)) _ _ ∙ told_is e.figures 0)

  pub filed-in-use : (filed (figures_of e.figures) r).in_use.0 ≡ newest r.in_use.0 (figure_at 1 e)
  unfolding filed newer_in_use in_use_of
  filed-in-use =
      let new : InUse = in_use_of (figures_of e.figures) in
      push (λ (h : InUse). h.0) (eqb new.0 untold) r.in_use new
      ∙ ap (newest r.in_use.0) (push (λ (h : InUse). h.0) (ltb 1 (length e.figures)) _ _ ∙ told_is e.figures 1)

  pub filed-unusable : (filed (figures_of e.figures) r).unusable.0 ≡ newest r.unusable.0 (figure_at 2 e)
  unfolding filed newer_unusable unusable_of
  filed-unusable =
      let new : Unusable = unusable_of (figures_of e.figures) in
      push (λ (h : Unusable). h.0) (eqb new.0 untold) r.unusable new
      ∙ ap (newest r.unusable.0) (push (λ (h : Unusable). h.0) (ltb 2 (length e.figures)) _ _ ∙ told_is e.figures 2)

  -- The row stays its lease's.
  pub filed-of-lease : (x : Lease) → of_lease? x (filed (figures_of e.figures) r) ≡ of_lease? x r
  unfolding filed of_lease?
  filed-of-lease x = refl

-- ALL ENTRIES, in order

-- What each entry keeps, all do.
pub filed-by : (P : FigureRow → Type 0) (es : List Entry) → All (λ e. (r : FigureRow) → P r → P (filed (figures_of e.figures) r)) es → (r : FigureRow) → P r → P (filed_by es r)
filed-by P [] a r p = p
filed-by P (e ∷ es) a r p = filed-by P es a.1 _ (go (names? r e))
  where
    go : (b : Bool) → P (cond b (filed (figures_of e.figures) r) r)
    go true = a.0 r p
    go false = p

pub filed-by-of-lease : (x : Lease) (es : List Entry) (r : FigureRow) → of_lease? x r ≡ true → of_lease? x (filed_by es r) ≡ true
filed-by-of-lease x es r p = filed-by (λ q. of_lease? x q ≡ true) es (each es) r p
  where
    each : (ds : List Entry) → All (λ e. (q : FigureRow) → of_lease? x q ≡ true → of_lease? x (filed (figures_of e.figures) q) ≡ true) ds
    each [] = tt
    each (e ∷ ds) = ((λ q z. filed-of-lease e q x ∙ z), each ds)

-- WHAT AN ACCEPTED TAKE LEAVES MATCHES

abbrev taken_row : ℕ → List Entry → List FigureRow → Lease → FigureRow
taken_row client es rs x = cond (eqb x.client client) (filed_by es (row_for rs x)) (row_for rs x)

taken-fits : (client : ℕ) (es : List Entry) (rs : List FigureRow) → (client ≡ 0 → ⊥) → found rs no_lease ≡ none → (x : Lease) → fits? x (taken_row client es rs x) ≡ true
taken-fits client es rs named e x = fits-of x (taken_row client es rs x) (own (eqb x.client client)) empty
  where
    own : (b : Bool) → of_lease? x (cond b (filed_by es (row_for rs x)) (row_for rs x)) ≡ true
    own true = filed-by-of-lease x es (row_for rs x) (row-of-lease rs x)
    own false = row-of-lease rs x

    -- An empty slot is no client's.
    empty : empty? x ≡ true → untold? (taken_row client es rs x) ≡ true
    empty z =
        let other : eqb x.client client ≡ false = ne_eqb x.client client (λ same. named (sym same ∙ ap (λ (y : Lease). y.client) (empty-to x z))) in
        ap untold? (cond-false (eqb x.client client) (filed_by es (row_for rs x)) (row_for rs x) other ∙ empty-row rs x e z) ∙ untold-is x

pub taken-matches : (now client : ℕ) (es : List Entry) (t : LeaseTable) (rows : List FigureRow) (u : LeaseTable) → (client ≡ 0 → ⊥) → matches? t.leases rows ≡ true
    → All (λ x. 1 ≤ x.length) (present now t.leases) → matches? u.leases (taken now client es t rows u) ≡ true
unfolding taken
taken-matches now client es t rows u named m a =
    let rs : List FigureRow = kept_rows now t.leases rows in
    image-matches (taken_row client es rs) (taken-fits client es rs named (empty-found (present now t.leases) rs (kept-matches now t.leases rows m) a)) u.leases
