-- Laws of the loop that files the figures of entries in the rows of the leases that they name: what it has left after k entries.
-- Assumes nothing.
use Prim.Native.Nat.{ℕ, ◌+◌, ◌≤◌, ◌<◌}
use native.Mathlib.Omega.{arith}
use mathlib.Core.Path.{◌≡◌, refl, sym, ap, subst, ◌∙◌}
use mathlib.Core.Bool.{Bool}
use mathlib.Core.List.{List, ◌∷◌, ◌++◌}
use lib.ListN.{length, get_or, set, take, drop}
use lib.Seq.{get_or-append-add, set-get_or, take_all}
use Rattle.std.specs.Prelude.{Option, Some, None}
use Rattle.lists.proofs.DropLaws.{drop_at}
use Rattle.option_entry.specs.declared.{EntryCursor.EntryCursor, Figures.Figures}
use Rattle.option_entry.specs.Steps.{figures_of}
use Rattle.option.specs.Values.{Entry}
use Rattle.table.specs.declared.Lease.{Lease}
use Rattle.figures.specs.declared.FigureRow.{FigureRow}
use Rattle.figures.specs.Figures.{empty_row, high_water_of, in_use_of, unusable_of, newer_high_water, newer_in_use, newer_unusable, filed}
use Rattle.figures.specs.Inner.{with_each, filing}
use Rattle.figures.proofs.FilingLaws.{file-nothing, file-none, file-one}
use Rattle.image_records.specs.Records.{Ascending}
use Rattle.image_records.proofs.PutForms.{set-behind}
use Rattle.image_figures.specs.Sheets.{sheet_of}
use Rattle.call_entries.specs.EntryLeases.{named?}
use Rattle.call_entries.specs.EntryFigures.{first_entries, LeftAt}
use Rattle.call_entries.proofs.EntriesLaws.{no_entry, next-entry}
use Rattle.call_take.specs.InnerPlaces.{PlaceOf, filed_at, ToFile}
use Rattle.call_take.proofs.PlaceLaws.{places-at, places-many}

-- FIGURES AT A PLACE

-- No figures change nothing.
told-nothing : (f : Figures) → f.count ≡ 0 → (r : FigureRow) → filed f r ≡ r
unfolding filed high_water_of in_use_of unusable_of newer_high_water newer_in_use newer_unusable
told-nothing f z r = rw z refl

pub filed-at-nothing : (first : ℕ) (place : Option ℕ) (f : Figures) (rows : List FigureRow) → f.count ≡ 0 → filed_at first place f rows ≡ rows
filed-at-nothing first None f rows z = refl
filed-at-nothing first (Some i) f rows z = ap (set rows (first + i)) (told-nothing f z (get_or rows (first + i) empty_row)) ∙ set-get_or rows (first + i) empty_row

-- Rows that stand before stay.
filed-at-behind : (before : List FigureRow) (first i : ℕ) (f : Figures) (rows : List FigureRow) → first ≡ length before
    → filed_at first (Some i) f (before ++ rows) ≡ before ++ set rows i (filed f (get_or rows i empty_row))
filed-at-behind before first i f rows e =
    let at : first + i ≡ length before + i = omega (arith, e) in
    ap (λ (k : ℕ). set (before ++ rows) k (filed f (get_or (before ++ rows) k empty_row))) at
    ∙ ap (λ (r : FigureRow). set (before ++ rows) (length before + i) (filed f r)) (get_or-append-add before rows i empty_row)
    ∙ set-behind before rows i (filed f (get_or rows i empty_row))

-- ENTRY BY ENTRY

-- The rows after k entries; those after them are left to read.
pub FiledTo : List ℕ → List (Option ℕ) → List ℕ → ℕ → List ℕ → EntryCursor → ℕ → Type 0
FiledTo option places sheet first figures cursor k =
    (now client : ℕ) (xs : List Lease) (es : List Entry) (before rs : List FigureRow) → ToFile option places sheet first now client xs es before rs
    → (figures ≡ sheet_of (before ++ with_each (filing now client (take k es)) xs rs)) × LeftAt option cursor (drop k es)

module _ (option : List ℕ) (places : List (Option ℕ)) (sheet : List ℕ) (first : ℕ) where
  pub filed-none : (c : EntryCursor) → c ≡ first_entries → FiledTo option places sheet first sheet c 0
  unfolding FiledTo
  filed-none c start now client xs es before rs f =
      (f.sheet-is ∙ ap (λ (l : List FigureRow). sheet_of (before ++ l)) (sym (file-nothing now client xs rs)), subst (λ (c : EntryCursor). LeftAt option c es) (sym start) f.left)

  module _ (figures : List ℕ) (cursor : EntryCursor) (k : ℕ) (s : FiledTo option places sheet first figures cursor k) (lt : k < length places) (told : Figures) (next : EntryCursor)
      (read : (e : Entry) (es : List Entry) → LeftAt option cursor (e ∷ es) → (told ≡ figures_of e.figures) × LeftAt option next es) where
    module _ (now client : ℕ) (xs : List Lease) (es : List Entry) (before rs : List FigureRow) (f : ToFile option places sheet first now client xs es before rs) where
      -- The next entry, and its test.
      entry : Entry
      entry = get_or es k no_entry

      test : Lease → Bool
      test = named? now client (get_or es k no_entry).network (get_or es k no_entry).length

      within : k < length es
      within = omega (arith, places-many now client xs es places f.places-are)

      place_is : PlaceOf test xs (get_or places k None)
      unfolding test
      place_is = places-at now client xs es places k lt f.places-are

      so_far : List FigureRow
      so_far = with_each (filing now client (take k es)) xs rs

      -- The rows after it, where it names none, and where it names one.
      rows-filed : (p : Option ℕ) → PlaceOf test xs p → before ++ with_each (filing now client (take (k + 1) es)) xs rs ≡ filed_at first p (figures_of entry.figures) (before ++ so_far)
      unfolding test entry so_far Ascending
      rows-filed None none =
          ap (λ (a : List Entry). before ++ with_each (filing now client a) xs rs) (next-entry es k within)
          ∙ ap (λ (l : List FigureRow). before ++ l) (file-none now client (get_or es k no_entry) (take k es) xs rs f.matched none)
      rows-filed (Some i) there =
          ap (λ (a : List Entry). before ++ with_each (filing now client a) xs rs) (next-entry es k within)
          ∙ ap (λ (l : List FigureRow). before ++ l) (file-one now client (get_or es k no_entry) (take k es) xs rs i f.ascending f.matched there.0 there.1)
          ∙ sym (filed-at-behind before first i (figures_of (get_or es k no_entry).figures) (with_each (filing now client (take k es)) xs rs) f.behind)

      -- Its figures, and the entries after it.
      figures-read : (told ≡ figures_of entry.figures) × LeftAt option next (drop (k + 1) es)
      unfolding FiledTo entry
      figures-read = read (get_or es k no_entry) (drop (k + 1) es) (subst (LeftAt option cursor) (drop_at es k no_entry within) (s now client xs es before rs f).1)

    pub filed-more : (figures₁ : List ℕ) → ((rows : List FigureRow) → figures ≡ sheet_of rows → figures₁ ≡ sheet_of (filed_at first (get_or places k None) told rows))
        → FiledTo option places sheet first figures₁ next (k + 1)
    unfolding FiledTo so_far
    filed-more figures₁ file now client xs es before rs f =
        let p : Option ℕ = get_or places k None in (
          file (before ++ with_each (filing now client (take k es)) xs rs) (s now client xs es before rs f).0
              ∙ ap (λ (g : Figures). sheet_of (filed_at first p g (before ++ with_each (filing now client (take k es)) xs rs))) (figures-read now client xs es before rs f).0
              ∙ ap sheet_of (sym (rows-filed now client xs es before rs f p (place_is now client xs es before rs f))),
          (figures-read now client xs es before rs f).1,
        )

  pub filed-all : (figures : List ℕ) (cursor : EntryCursor) (k : ℕ) → FiledTo option places sheet first figures cursor k → length places ≤ k
      → (now client : ℕ) (xs : List Lease) (es : List Entry) (before rs : List FigureRow) → ToFile option places sheet first now client xs es before rs
      → figures ≡ sheet_of (before ++ with_each (filing now client es) xs rs)
  unfolding FiledTo
  filed-all figures cursor k s past now client xs es before rs f =
      (s now client xs es before rs f).0
      ∙ ap (λ (a : List Entry). sheet_of (before ++ with_each (filing now client a) xs rs))
      (take_all k es (omega (arith, past, places-many now client xs es places f.places-are)))
