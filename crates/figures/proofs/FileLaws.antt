-- What filing does, by the figures of an entry: "0xffff or a missing figure keeps what was told before".
-- Assumes nothing.
use Prim.Native.Nat.{ℕ, zero, suc, ◌<◌}
use native.Mathlib.Omega.{arith}
use mathlib.Core.Path.{◌≡◌, refl, sym, ap, ◌∙◌}
use mathlib.Core.Logic.{⊎_elim}
use mathlib.Core.Bool.{Bool, true, false, cond}
use mathlib.Core.List.{List, [], ◌∷◌, ◌++◌}
use lib.ListN.{length, get_or, get_or-eq_default}
use lib.Dec.{ltb, eqb}
use borrow.Author.Tests.{ltb-true, ltb-false}
use Rattle.lists.proofs.Tests.{bool_cases, cond-true, cond-false}
use Rattle.table.specs.declared.Lease.{Lease}
use Rattle.option_entry.specs.declared.{HighWater.HighWater, InUse.InUse, Unusable.Unusable}
use Rattle.option_entry.specs.Entries.{Entry}
use Rattle.option_entry.specs.Steps.{figures_of}
use Rattle.figures.specs.declared.FigureRow.{FigureRow}
use Rattle.figures.specs.Figures.{untold, of_lease?, high_water_of, in_use_of, unusable_of, newer_high_water, newer_in_use, newer_unusable, filed, names?, filed_by}

same_in : (l : List ℕ) (i : ℕ) → i < length l → get_or l i 0 ≡ get_or l i untold
same_in [] i h = absurd (omega arith)
same_in (x ∷ l) zero h = refl
same_in (x ∷ l) (suc i) h = same_in l i (omega arith)

heard : (l : List ℕ) (i : ℕ) → cond (ltb i (length l)) (get_or l i 0) untold ≡ get_or l i untold
heard l i =
    ⊎_elim
    (λ (t : ltb i (length l) ≡ true). cond-true (ltb i (length l)) (get_or l i 0) untold t ∙ same_in l i (ltb-true i (length l) t))
    (λ (t : ltb i (length l) ≡ false). cond-false (ltb i (length l)) (get_or l i 0) untold t ∙ sym (get_or-eq_default l untold (ltb-false i (length l) t)))
    (bool_cases (ltb i (length l)))

-- What stays or is told.
abbrev pub tell : ℕ → ℕ → ℕ
tell old new = cond (eqb new untold) old new

push : {A B : Type 0} (f : A → B) (b : Bool) (x y : A) → f (cond b x y) ≡ cond b (f x) (f y)
push f true x y = refl
push f false x y = refl

module _ (e : Entry) (r : FigureRow) where
  pub filed-high : (filed (figures_of e.figures) r).high_water.0 ≡ tell r.high_water.0 (get_or e.figures 0 untold)
  unfolding filed newer_high_water high_water_of
  filed-high =
      let new : HighWater = high_water_of (figures_of e.figures) in
      push (λ (h : HighWater). h.0) (eqb new.0 untold) r.high_water new
      ∙ ap (tell r.high_water.0)
      (push (λ (h : HighWater). h.0) (ltb 0 (length e.figures)) (record { 0 = get_or e.figures 0 0 }) (record { 0 = untold }) ∙ heard e.figures 0)

  pub filed-use : (filed (figures_of e.figures) r).in_use.0 ≡ tell r.in_use.0 (get_or e.figures 1 untold)
  unfolding filed newer_in_use in_use_of
  filed-use =
      let new : InUse = in_use_of (figures_of e.figures) in
      push (λ (h : InUse). h.0) (eqb new.0 untold) r.in_use new
      ∙ ap (tell r.in_use.0)
      (push (λ (h : InUse). h.0) (ltb 1 (length e.figures)) (record { 0 = get_or e.figures 1 0 }) (record { 0 = untold }) ∙ heard e.figures 1)

  pub filed-unusable : (filed (figures_of e.figures) r).unusable.0 ≡ tell r.unusable.0 (get_or e.figures 2 untold)
  unfolding filed newer_unusable unusable_of
  filed-unusable =
      let new : Unusable = unusable_of (figures_of e.figures) in
      push (λ (h : Unusable). h.0) (eqb new.0 untold) r.unusable new
      ∙ ap (tell r.unusable.0)
      (push (λ (h : Unusable). h.0) (ltb 2 (length e.figures)) (record { 0 = get_or e.figures 2 0 }) (record { 0 = untold }) ∙ heard e.figures 2)

  -- The row stays its lease's, and is named by the same entries.
  pub filed-lease : (x : Lease) → of_lease? x (filed (figures_of e.figures) r) ≡ of_lease? x r
  unfolding filed of_lease?
  filed-lease x = refl

  pub filed-named : (d : Entry) → names? (filed (figures_of e.figures) r) d ≡ names? r d
  unfolding filed
  filed-named d = refl

pub filed-by-named : (es : List Entry) (r : FigureRow) (d : Entry) → names? (filed_by es r) d ≡ names? r d
filed-by-named [] r d = refl
filed-by-named (e ∷ es) r d =
    filed-by-named es (cond (names? r e) (filed (figures_of e.figures) r) r) d ∙ either (names? r e)
  where
    either : (b : Bool) → names? (cond b (filed (figures_of e.figures) r) r) d ≡ names? r d
    either true = filed-named e r d
    either false = refl

pub filed-by-lease : (es : List Entry) (r : FigureRow) (x : Lease) → of_lease? x (filed_by es r) ≡ of_lease? x r
filed-by-lease [] r x = refl
filed-by-lease (e ∷ es) r x = filed-by-lease es (cond (names? r e) (filed (figures_of e.figures) r) r) x ∙ either (names? r e)
  where
    either : (b : Bool) → of_lease? x (cond b (filed (figures_of e.figures) r) r) ≡ of_lease? x r
    either true = filed-lease e r x
    either false = refl

-- One entry more.
pub filed-by-more : (es : List Entry) (e : Entry) (r : FigureRow) → filed_by (es ++ (e ∷ [])) r ≡ cond (names? r e) (filed (figures_of e.figures) (filed_by es r)) (filed_by es r)
filed-by-more es e r =
    split es r ∙ ap (λ (b : Bool). cond b (filed (figures_of e.figures) (filed_by es r)) (filed_by es r)) (filed-by-named es r e)
  where
    split : (ds : List Entry) (q : FigureRow) → filed_by (ds ++ (e ∷ [])) q ≡ cond (names? (filed_by ds q) e) (filed (figures_of e.figures) (filed_by ds q)) (filed_by ds q)
    split [] q = refl
    split (d ∷ ds) q = split ds (cond (names? q d) (filed (figures_of d.figures) q) q)
