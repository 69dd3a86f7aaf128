-- Laws of the table that an image is of: where it is sound, the buffer holds a full book, and the image is within it and is the table's; and where the rows of
-- the sheet match it, the sheet is that of the rows.
-- Assumes nothing.
use Prim.Native.Nat.{ℕ, ◌+◌, ◌-◌, ◌≤◌}
use mathlib.Core.Path.{◌≡◌, refl, sym, ap, ◌∙◌}
use mathlib.Core.Logic.{⊎_elim}
use mathlib.Core.Bool.{true, false, cond, true≢false}
use mathlib.Core.List.{List, [], ◌++◌, append-nil}
use mathlib.Core.Option.{Option, none, some, some-ne-none}
use native.Mathlib.Omega.{arith}
use lib.ListN.{length, take, drop, replicate, take-append-drop}
use lib.Seq.{length-take-le}
use lib.Dec.{leb, eqb}
use borrow.Author.Tests.{leb-true, le-leb, eqb-true, eqb-false}
use Rattle.lists.proofs.Tests.{bool_cases, cond-true, cond-false, and-to, and-of}
use Rattle.table.specs.declared.LeaseTable.{LeaseTable}
use Rattle.table.specs.Table.{head_ok, sound, blank}
use Rattle.table.proofs.TableLaws.{sound-slots}
use Rattle.figures.proofs.RowsMatch.{matches-length}
use Rattle.image.specs.Image.{full_image, image_of, loaded_table}
use Rattle.image.specs.Reading.{head_at_in, load_in, load_image}
use Rattle.image.proofs.FieldLaws.{bytes_of}
pub use Rattle.image.proofs.FieldLaws.{bytes-all}
use Rattle.image.proofs.ImageLaws.{image-loaded}
use Rattle.image_figures.specs.Sheets.{figures_size, sheet_of, sheet_rows}
use Rattle.image_figures.proofs.SheetLaws.{sheet-none, bytes-read-back}
use Rattle.ledger.specs.Sizes.{Byte, Bytes}
use Rattle.ledger.specs.FiguresKept.{Matched}
use Rattle.ledger.proofs.Counts.{up_to-all}
use Rattle.call_spec.specs.ImageCalls.{Lent, holds?, image_in, table_in, state_in, over, stored}

-- THE TWO WAYS OF A BUFFER

module _ (h : Lent) where
  pub holds_of : full_image ≤ length h.image → h.bytes ≤ length h.image → holds? h ≡ true
  holds_of room within = and-of (leb full_image (length h.image)) (leb h.bytes (length h.image)) (le-leb full_image (length h.image) room) (le-leb h.bytes (length h.image) within)

  pub its-table : full_image ≤ length h.image → h.bytes ≤ length h.image → loaded_table (load_image (take h.bytes h.image)) ≡ table_in h
  unfolding table_in
  its-table room within = ap (λ (n : ℕ). loaded_table (load_image (take n h.image))) (sym (cond-true (holds? h) h.bytes 0 (holds_of room within)))

-- A SOUND TABLE IS THAT OF THE IMAGE

pub blank-unsound : sound blank ≡ false
unfolding sound head_ok
blank-unsound = refl

pub nothing-loads : load_image [] ≡ none
unfolding load_in head_at_in
nothing-loads = refl

is-loaded : (o : Option LeaseTable) → sound (loaded_table o) ≡ true → o ≡ some (loaded_table o)
is-loaded none e = absurd (true≢false (sym e ∙ blank-unsound))
is-loaded (some t) e = refl

module _ (h : Lent) (s : sound (table_in h) ≡ true) where
  pub held-loads : load_image (image_in h) ≡ some (table_in h)
  unfolding table_in
  held-loads = is-loaded (load_image (image_in h)) s

  held-holds : holds? h ≡ true
  held-holds =
      ⊎_elim
      (λ (e : holds? h ≡ true). e)
      (λ (e : holds? h ≡ false).
      let nothing : image_in h ≡ [] = ap (λ (n : ℕ). take n h.image) (cond-false (holds? h) h.bytes 0 e) in
      absurd (some-ne-none (table_in h) (sym held-loads ∙ ap load_image nothing ∙ nothing-loads)))
      (bool_cases (holds? h))

  pub held-room : full_image ≤ length h.image
  held-room = leb-true full_image (length h.image) (and-to (leb full_image (length h.image)) (leb h.bytes (length h.image)) held-holds).0

  pub held-within : h.bytes ≤ length h.image
  held-within = leb-true h.bytes (length h.image) (and-to (leb full_image (length h.image)) (leb h.bytes (length h.image)) held-holds).1

  module _ (b : Bytes h.image) where
    pub held-image : image_of (table_in h) ≡ take h.bytes h.image
    held-image =
        (image-loaded (image_in h) (table_in h) (up_to-all Byte (cond (holds? h) h.bytes 0) h.image b) held-loads).1
        ∙ ap (λ (n : ℕ). take n h.image) (cond-true (holds? h) h.bytes 0 held-holds)

    pub held-length : length (image_of (table_in h)) ≡ h.bytes
    held-length = ap length held-image ∙ length-take-le h.bytes h.image held-within

    -- Stored in its own place, the image changes nothing.
    pub held_stays : stored (table_in h) h.bytes h.image ≡ h.image
    unfolding stored
    held_stays =
        let xs : List ℕ = image_of (table_in h) in
        let z : h.bytes - length xs ≡ 0 = omega (arith, held-length) in
        let same : over xs h.bytes ≡ take h.bytes h.image = ap (λ (n : ℕ). xs ++ replicate n 0) z ∙ append-nil xs ∙ held-image in
        ap (λ (l : List ℕ). l ++ drop (length l) h.image) same
        ∙ ap (λ (n : ℕ). take h.bytes h.image ++ drop n h.image) (length-take-le h.bytes h.image held-within)
        ∙ take-append-drop h.bytes h.image

-- A SHEET THAT MATCHES has its size, and is the sheet of its rows.

module _ (h : Lent) (s : sound (table_in h) ≡ true) (m : Matched (state_in h)) where
  pub held-size : length h.figures ≡ figures_size
  held-size =
      ⊎_elim
      (λ (e : eqb (length h.figures) figures_size ≡ true). eqb-true (length h.figures) figures_size e)
      (λ (e : eqb (length h.figures) figures_size ≡ false).
      let none-there : length (sheet_rows h.figures) ≡ 0 = ap length (sheet-none h.figures (eqb-false (length h.figures) figures_size e)) in
      absurd (omega (arith, none-there, matches-length (table_in h).leases (sheet_rows h.figures) m, sound-slots (table_in h) s)))
      (bool_cases (eqb (length h.figures) figures_size))

  pub held-sheet : Bytes h.figures → h.figures ≡ sheet_of (sheet_rows h.figures)
  held-sheet b = bytes-read-back h.figures (bytes_of h.figures b) held-size
