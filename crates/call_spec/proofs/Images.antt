-- What an accepted call leaves: the next call finds the table and the rows that it left, and the bytes by which the old image was longer are zeros.
-- Assumes nothing.
use Prim.Native.Nat.{ℕ, ◌+◌, ◌-◌, ◌≤◌, ◌<◌}
use mathlib.Core.Path.{◌≡◌, refl, sym, ap, ap₂, ◌∙◌}
use mathlib.Core.Bool.{true}
use mathlib.Core.List.{List, ◌++◌, append_assoc}
use native.Mathlib.Omega.{arith}
use lib.ListN.{length, drop, get_or, replicate, length-append, length-replicate, get_or-replicate, get_or-append}
use lib.ListN.{take as up_to}
use lib.Seq.{take_at, get_or-append-add}
use Rattle.table.specs.declared.LeaseTable.{LeaseTable}
use Rattle.table.specs.Table.{sound}
use Rattle.table.proofs.TableLaws.{sound-slots}
use Rattle.figures.proofs.RowsMatch.{matches-length}
use Rattle.image.specs.Image.{full_image, image_of, loaded_table}
use Rattle.image.specs.Reading.{load_image}
use Rattle.image.proofs.ImageLaws.{load-image}
use Rattle.image_figures.proofs.SheetLaws.{rows-read-back}
use Rattle.ledger.specs.Ledger.{State, state}
use Rattle.ledger.specs.FiguresKept.{Matched}
use Rattle.call_spec.specs.ImageCalls.{Lent, table_in, state_in, over, stored, stored_in}
use Rattle.call_spec.proofs.StoreLaws.{stored-room}
use Rattle.call_spec.proofs.TableLaws.{its-table}

-- The image of a sound table and the sheet of its rows, in the place of an image of `old` bytes.
module _ (s : State) (so : sound s.table ≡ true) (old : ℕ) (h : Lent) where
  abbrev t : LeaseTable
  t = s.table

  front : stored t old h.image ≡ image_of t ++ (replicate (old - length (image_of t)) 0 ++ drop (length (over (image_of t) old)) h.image)
  unfolding stored
  front = append_assoc (image_of t) (replicate (old - length (image_of t)) 0) (drop (length (over (image_of t) old)) h.image)

  table-again : full_image ≤ length h.image → table_in (stored_in s old h) ≡ t
  table-again room =
      let xs : List ℕ = image_of t in
      let rest : List ℕ = replicate (old - length xs) 0 ++ drop (length (over xs old)) h.image in
      let within : length xs ≤ length (stored t old h.image) = omega (arith, ap length front, length-append xs rest) in
      sym (its-table (stored_in s old h) (stored-room t old h.image full_image room) within)
      ∙ ap (λ (l : List ℕ). loaded_table (load_image (up_to (length xs) l))) front
      ∙ ap (λ (l : List ℕ). loaded_table (load_image l)) (take_at xs rest (length xs) refl)
      ∙ ap loaded_table (load-image t so)

  -- What is lent then holds the table and the rows, for the next call to find. So a history of calls on what is lent is the ledger's history.
  pub found-again : full_image ≤ length h.image → Matched s → state_in (stored_in s old h) ≡ s
  found-again room m = ap₂ state (table-again room) (rows-read-back s.rows (matches-length t.leases s.rows m ∙ sound-slots t so))

  -- "so that a removed lease leaves nothing behind"
  pub nothing-behind : (i : ℕ) → length (image_of t) ≤ i → i < old → get_or (stored_in s old h).image i 0 ≡ 0
  nothing-behind i a b =
      let xs : List ℕ = image_of t in
      let zs : List ℕ = replicate (old - length xs) 0 in
      let rest : List ℕ = drop (length (over xs old)) h.image in
      let size : length zs ≡ old - length xs = length-replicate (old - length xs) 0 in
      let place : i ≡ length xs + (i - length xs) = omega arith in
      ap (λ (l : List ℕ). get_or l i 0) front
      ∙ ap (λ (k : ℕ). get_or (xs ++ (zs ++ rest)) k 0) place
      ∙ get_or-append-add xs (zs ++ rest) (i - length xs) 0
      ∙ get_or-append zs rest 0 (i - length xs) (omega arith)
      ∙ get_or-replicate (old - length xs) (i - length xs) 0 0 (omega arith)
