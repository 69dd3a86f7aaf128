-- Strike and then spread leave the rows that the definition says: for each lease after the call its own row among those of the leases that were present, with
-- rows of empty slots behind.
-- Assumes nothing.
use Prim.Native.Nat.{ℕ, zero, suc, ◌+◌, ◌-◌, ◌≤◌, ◌<◌}
use native.Mathlib.Omega.{arith}
use mathlib.Core.Path.{◌≡◌, refl, sym, ap, ap₂, subst, ◌∙◌}
use mathlib.Core.Logic.{⊎_elim}
use mathlib.Core.Bool.{Bool, true, false, ◌&&◌}
use mathlib.Core.List.{List, [], ◌∷◌, ◌++◌, map}
use mathlib.Core.Option.{none, some}
use lib.ListN.{length, get_or, take, drop, replicate, take-append-drop, replicate-append-replicate}
use lib.Seq.{take_all, take_at, drop-append-add}
use lib.Dec.{ltb, eqb}
use borrow.Author.Tests.{ne_eqb, ltb-true}
use Rattle.lists.specs.Lists.{All}
use Rattle.lists.proofs.Tests.{bool_cases, cond-false, and-to}
use Rattle.lists.proofs.FilterLaws.{filter-pass}
use Rattle.lists.proofs.IndexLaws.{all-at}
use Rattle.lists.proofs.MapLaws.{map-append}
use Rattle.table.specs.declared.Lease.{Lease}
use Rattle.table.specs.Table.{no_lease, present}
use Rattle.table.proofs.TableLaws.{present-fewer, present?}
use Rattle.figures.specs.declared.FigureRow.{FigureRow}
use Rattle.figures.specs.Figures.{empty_row, of_lease?, found, row_for, kept_rows}
use Rattle.figures.specs.Inner.{leases_match?, struck_rows}
use Rattle.figures.proofs.FoundLaws.{lease-length, row_new}
use Rattle.figures.proofs.KeptLaws.{kept-yes, kept-no, kept-first, kept-count}
use Rattle.figures.proofs.MatchLaws.{Matched}

drop-empties : (k m : ℕ) → drop k (replicate m empty_row) ≡ replicate (m - k) empty_row
drop-empties zero m = let e : m ≡ m - 0 = omega arith in ap (λ (j : ℕ). replicate j empty_row) e
drop-empties (suc k) zero = let e : 0 ≡ 0 - suc k = omega arith in ap (λ (j : ℕ). replicate j empty_row) e
drop-empties (suc k) (suc m) = let e : m - k ≡ suc m - suc k = omega arith in drop-empties k m ∙ ap (λ (j : ℕ). replicate j empty_row) e

pub empty-slots : (rs : List FigureRow) (m : ℕ) → found rs no_lease ≡ none → map (row_for rs) (replicate m no_lease) ≡ replicate m empty_row
empty-slots rs zero f = refl
empty-slots rs (suc m) f = ap₂ (λ (r : FigureRow) (l : List FigureRow). r ∷ l) (row_new rs no_lease f) (empty-slots rs m f)

and-false : (b : Bool) → (b && false) ≡ false
and-false true = refl
and-false false = refl

-- No lease's row is that of an empty slot.
other_row : (x : Lease) (r : FigureRow) → 1 ≤ x.length → of_lease? x r ≡ true → of_lease? no_lease r ≡ false
unfolding of_lease?
other_row x r long m = no_length r.network r.length (omega (arith, lease-length x r m))
  where
    no_length : (n l : ℕ) → 1 ≤ l → (eqb n 0 && (eqb l 0 && true)) ≡ false
    no_length n l h = ap (λ (b : Bool). eqb n 0 && (b && true)) (ne_eqb l 0 (λ z. omega arith)) ∙ and-false (eqb n 0)

pub no-empty : (now : ℕ) (xs : List Lease) (rows : List FigureRow) → All (λ x. 1 ≤ x.length) xs → leases_match? xs rows ≡ true → found (kept_rows now xs rows) no_lease ≡ none
no-empty now [] rows a m = refl
no-empty now (x ∷ xs) [] a m = refl
no-empty now (x ∷ xs) (r ∷ rows) a m =
    let t = and-to (of_lease? x r) (leases_match? xs rows) m in
    let rest = no-empty now xs rows a.1 t.1 in
    ⊎_elim
    (λ (p : ltb now x.expires ≡ true).
    ap (λ (l : List FigureRow). found l no_lease) (kept-yes now x xs r rows p)
    ∙ cond-false (of_lease? no_lease r) (some r) (found (kept_rows now xs rows) no_lease) (other_row x r a.0 t.0)
    ∙ rest)
    (λ (p : ltb now x.expires ≡ false). ap (λ (l : List FigureRow). found l no_lease) (kept-no now x xs r rows p) ∙ rest)
    (bool_cases (ltb now x.expires))

all_there : (now : ℕ) (xs : List Lease) → present now xs ≡ xs → (k : ℕ) → k < length xs → now < (get_or xs k no_lease).expires
unfolding present
all_there now xs all k lt =
    ltb-true now (get_or xs k no_lease).expires (all-at (λ x. present? now x ≡ true) xs (subst (All (λ x. present? now x ≡ true)) all (filter-pass (present? now) xs)) k no_lease lt)

module _ (slots now : ℕ) (xs : List Lease) (rows : List FigureRow) (few : length xs ≤ slots) (m : Matched xs (slots - length xs) rows) where
  count : length (kept_rows now xs rows) ≡ length (present now xs)
  count = kept-count now xs rows (omega (arith, m.size))

  -- What strike leaves;
  pub struck-is : (n r : ℕ) → n ≡ length xs → r ≡ length (present now xs) → kept_rows now xs rows ++ (replicate (n - r) empty_row ++ drop n rows) ≡ struck_rows slots now xs rows
  struck-is n r e left =
      let behind : drop n rows ≡ replicate (slots - n) empty_row =
      ap (λ (k : ℕ). drop k rows) e ∙ m.behind ∙ ap (λ (k : ℕ). replicate (slots - k) empty_row) (sym e) in
      let both : n - r + (slots - n) ≡ slots - length (present now xs) = omega (arith, present-fewer now xs) in
      ap (λ (l : List FigureRow). kept_rows now xs rows ++ l)
      (ap (λ (l : List FigureRow). replicate (n - r) empty_row ++ l) behind ∙ replicate-append-replicate (n - r) (slots - n) empty_row ∙ ap (λ (k : ℕ). replicate k empty_row) both)

  -- where all leases are present there is nothing to strike.
  pub struck-none : present now xs ≡ xs → rows ≡ struck_rows slots now xs rows
  struck-none all =
      let whole : take (length xs) xs ≡ xs = take_all (length xs) xs (omega arith) in
      let first : kept_rows now xs rows ≡ take (length xs) rows =
      sym (ap (λ (ys : List Lease). kept_rows now ys rows) whole)
      ∙ kept-first now (length xs) xs rows (omega arith) (omega (arith, m.size)) (λ k lt. all_there now xs all k lt) in
      sym (take-append-drop (length xs) rows)
      ∙ ap₂ (λ (a b : List FigureRow). a ++ b) (sym first) m.behind
      ∙ ap (λ (ys : List Lease). kept_rows now xs rows ++ replicate (slots - length ys) empty_row) (sym all)

  -- The first rows are then those of the leases that were present: `spread` is called on them,
  pub struck-first : (r : ℕ) → r ≡ length (present now xs) → take r (struck_rows slots now xs rows) ≡ kept_rows now xs rows
  struck-first r e = take_at (kept_rows now xs rows) (replicate (slots - length (present now xs)) empty_row) r (count ∙ sym e)

  -- and this is what it leaves for the leases ys.
  pub spread-is : (ys : List Lease) → length (present now xs) ≤ length ys → length ys ≤ slots → found (kept_rows now xs rows) no_lease ≡ none
      → map (row_for (kept_rows now xs rows)) ys ++ drop (length ys) (struck_rows slots now xs rows) ≡ map (row_for (kept_rows now xs rows)) (ys ++ replicate (slots - length ys) no_lease)
  spread-is ys more within none-empty =
      let kept : List FigureRow = kept_rows now xs rows in
      let r : ℕ = length (present now xs) in
      let past : length ys ≡ length kept + (length ys - r) = omega (arith, count) in
      let rest : slots - r - (length ys - r) ≡ slots - length ys = omega arith in
      ap (λ (k : ℕ). map (row_for kept) ys ++ drop k (kept ++ replicate (slots - r) empty_row)) past
      ∙ ap (λ (l : List FigureRow). map (row_for kept) ys ++ l)
      (drop-append-add kept (replicate (slots - r) empty_row) (length ys - r) ∙ drop-empties (length ys - r) (slots - r) ∙ ap (λ (k : ℕ). replicate k empty_row) rest
      ∙ sym (empty-slots kept (slots - length ys) none-empty))
      ∙ sym (map-append (row_for kept) ys (replicate (slots - length ys) no_lease))
