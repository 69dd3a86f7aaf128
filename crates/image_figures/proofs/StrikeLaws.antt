-- Laws of striking the rows of leases that have expired.
-- Assumes nothing.
use Prim.Native.Nat.{ℕ, suc, ◌+◌, ◌-◌, ◌*◌, ◌≤◌, ◌<◌}
use native.Mathlib.Omega.{arith}
use mathlib.Core.Path.{◌≡◌, refl, sym, ap, ap₂, ◌∙◌}
use mathlib.Core.Logic.{⊎_elim}
use mathlib.Core.Bool.{true, false}
use mathlib.Core.List.{List, [], ◌∷◌, ◌++◌, append_assoc}
use lib.ListN.{length, set, get_or, take, drop, replicate, length-append, length-set, length-replicate, length-drop}
use lib.Seq.{take-set-le, take-suc-set, drop-set-lt, drop-drop, get_or-drop, length-take-le}
use lib.Dec.{ltb}
use borrow.Author.Tests.{ltb-true, ltb-false}
use Rattle.lists.specs.Put.{put}
use Rattle.lists.proofs.Tests.{bool_cases}
use Rattle.lists.proofs.PutLaws.{put-fits, length-put}
use Rattle.table.specs.declared.Lease.{Lease}
use Rattle.table.specs.Table.{no_lease, present}
use Rattle.image.specs.Image.{lease_size}
use Rattle.image.specs.Reading.{expires_in}
use Rattle.image_records.specs.Records.{Records, ExpiredIn}
use Rattle.image_records.proofs.PutForms.{take-put-at, drop-put}
use Rattle.image_records.proofs.RecordLaws.{lease-in-place}
use Rattle.image_records.proofs.RemoveLaws.{outside-stays}
use Rattle.figures.specs.declared.FigureRow.{FigureRow}
use Rattle.figures.specs.Figures.{empty_row, kept_rows}
use Rattle.figures.proofs.KeptLaws.{kept_more, kept-skip, kept-first, kept_from, kept-count}
use Rattle.image_figures.specs.Sheets.{row_size, sheet_of}
use Rattle.image_figures.specs.Inner.{Closing}
use Rattle.image_figures.proofs.RowLaws.{sheet-length, bytes-in-place, part-in-place, row-edited, rows-edited}

module _ (l image : List ℕ) (from first last n time : ℕ) (below : first ≤ last) (within : last ≤ n) (room : row_size * n ≤ length l) where
  rows-room : (rows : List FigureRow) → l ≡ sheet_of rows → n ≤ length rows
  rows-room rows s = omega (arith, sheet-length l rows s)

  pub closing-first : Closing l image from first last n time l first first
  unfolding Closing
  closing-first rows xs s r e ex =
      let m = rows-room rows s in
      let same = kept-first time first xs rows (omega arith) (omega arith) (λ k lt. outside-stays time first last xs ex k (omega arith) (λ h j. omega arith)) in
      (omega (arith, ap length same, length-take-le first rows (omega arith)), (rows, s, sym same, refl, refl))

  module _ (sheet : List ℕ) (kept i : ℕ) (le : kept ≤ i) (lt : i < last) (before : Closing l image from first last n time sheet kept i) (expires : ℕ)
      (read : expires ≡ expires_in (drop (from + lease_size * i) image)) (bytes : List ℕ) (copied : bytes ≡ take row_size (drop (row_size * i) sheet)) (sheet₁ : List ℕ)
      (written : sheet₁ ≡ put sheet (row_size * kept) bytes) where
    pub closing-more : (one : ℕ) → (time < expires → one ≡ 1) → (expires ≤ time → one ≡ 0) → Closing l image from first last n time sheet₁ (kept + one) (i + 1)
    unfolding Closing
    closing-more one present-is expired-is rows xs s r e ex =
        let b = before rows xs s r e ex in
        let after : List FigureRow = b.1.0 in
        let sh : sheet ≡ sheet_of after = b.1.1 in
        let size : length after ≡ length rows = b.1.4 in
        let m = rows-room rows s in
        let y : FigureRow = get_or after i empty_row in
        let zero_more : i + 0 ≡ i = omega arith in
        let there : (l : List FigureRow) → get_or (drop i l) 0 empty_row ≡ get_or l i empty_row = λ l. get_or-drop i l 0 empty_row ∙ ap (λ (k : ℕ). get_or l k empty_row) zero_more in
        let y-is : y ≡ get_or rows i empty_row = sym (there after) ∙ ap (λ (l : List FigureRow). get_or l 0 empty_row) b.1.3 ∙ there rows in
        let x-is : expires ≡ (get_or xs i no_lease).expires = read ∙ ap (λ (z : Lease). z.expires) (lease-in-place image from xs r i (omega arith)) in
        let next : List FigureRow = set after kept y in
        let stands : sheet₁ ≡ sheet_of next =
        row-edited sheet after sh sheet₁ kept y (omega arith) (written ∙ ap (put sheet (row_size * kept)) (copied ∙ bytes-in-place sheet after sh i (omega arith))) in
        let behind : drop (i + 1) next ≡ drop (i + 1) rows =
        drop-set-lt (i + 1) after kept y (omega arith) ∙ sym (drop-drop 1 i after) ∙ ap (drop 1) b.1.3 ∙ drop-drop 1 i rows in
        let size₁ : length next ≡ length rows = length-set after kept y ∙ size in
        ⊎_elim
        (λ (t : ltb time expires ≡ true).
        let here : time < expires = omega (arith, ltb-true time expires t) in
        let more = kept_more time xs rows i (omega arith) (omega arith) (omega (arith, here, x-is)) in
        let single = present-is here in
        let up : kept + one ≡ suc kept = omega arith in (
          omega (arith, b.0, ap length more, length-append (kept_rows time (take i xs) rows) (get_or rows i empty_row ∷ [])),
          (
            next,
            stands,
            ap (λ (k : ℕ). take k next) up ∙ take-suc-set after kept y (omega arith) ∙ ap₂ (λ (l : List FigureRow) (v : FigureRow). l ++ (v ∷ [])) b.1.2 y-is ∙ sym more,
            behind,
            size₁,
          ),
        ))
        (λ (t : ltb time expires ≡ false).
        let gone : expires ≤ time = omega (arith, ltb-false time expires t) in
        let skip = kept-skip time xs rows i (omega arith) (omega arith) (omega (arith, gone, x-is)) in
        let nothing = expired-is gone in
        let up : kept + one ≡ kept = omega arith in (
          omega (arith, b.0, ap length skip),
          (next, stands, ap (λ (k : ℕ). take k next) up ∙ take-set-le kept after kept y (omega arith) ∙ b.1.2 ∙ sym skip, behind, size₁),
        ))
        (bool_cases (ltb time expires))

  -- The rows from `last` on are lowered to those that are left, and the rows behind them are cleared.
  pub struck : (sheet : List ℕ) (kept : ℕ) → kept ≤ last → Closing l image from first last n time sheet kept last → (sheet₁ sheet₂ : List ℕ) (left : ℕ)
      → sheet₁ ≡ put sheet (row_size * kept) (take (row_size * (n - last)) (drop (row_size * last) sheet)) → left ≡ kept + (n - last)
      → sheet₂ ≡ put sheet₁ (row_size * left) (sheet_of (replicate (n - left) empty_row))
      → (rows : List FigureRow) (xs : List Lease) → l ≡ sheet_of rows → Records image from xs → n ≡ length xs → ExpiredIn time first last xs
      → (left ≡ length (present time xs)) × (sheet₂ ≡ sheet_of (kept_rows time xs rows ++ (replicate (n - left) empty_row ++ drop n rows)))
  unfolding Closing
  struck sheet kept le before sheet₁ sheet₂ left lowered left_is cleared rows xs s r e ex =
      let b = before rows xs s r e ex in
      let after : List FigureRow = b.1.0 in
      let sh : sheet ≡ sheet_of after = b.1.1 in
      let size : length after ≡ length rows = b.1.4 in
      let m = rows-room rows s in
      let tail : List FigureRow = take (n - last) (drop last rows) in
      let long : length tail ≡ n - last = length-take-le (n - last) (drop last rows) (omega (arith, length-drop last rows)) in
      let moved : take (row_size * (n - last)) (drop (row_size * last) sheet) ≡ sheet_of tail =
      part-in-place sheet after sh last (n - last) (omega arith) ∙ ap (λ (k : List FigureRow). sheet_of (take (n - last) k)) b.1.3 in
      let next : List FigureRow = put after kept tail in
      let stands : sheet₁ ≡ sheet_of next =
      rows-edited sheet after sh sheet₁ kept tail (omega (arith, long)) (lowered ∙ ap (put sheet (row_size * kept)) moved) in
      let all : kept_rows time xs rows ≡ kept_rows time (take last xs) rows ++ tail =
      kept_from time last n xs rows e (omega arith) (omega arith) (λ k h j. outside-stays time first last xs ex k (omega arith) (λ p q. omega arith)) in
      let size₁ : length next ≡ length rows = length-put tail after kept ∙ size in
      let many : length (replicate (n - left) empty_row) ≡ n - left = length-replicate (n - left) empty_row in
      let up : left ≡ kept + length tail = omega (arith, long) in
      let front : take left next ≡ kept_rows time xs rows =
      ap (λ (k : ℕ). take k next) up ∙ take-put-at tail after kept (omega (arith, long)) ∙ ap (λ (k : List FigureRow). k ++ tail) b.1.2 ∙ sym all in
      let past : left + length (replicate (n - left) empty_row) ≡ n = omega (arith, many) in
      let split : last + (n - last) ≡ n = omega arith in
      let later : (k : List FigureRow) → drop (n - last) (drop last k) ≡ drop n k = λ k. drop-drop (n - last) last k ∙ ap (λ (j : ℕ). drop j k) split in
      let behind : drop n next ≡ drop n rows = drop-put tail after kept n (omega (arith, long)) ∙ sym (later after) ∙ ap (drop (n - last)) b.1.3 ∙ later rows in
      let fit : put next left (replicate (n - left) empty_row) ≡ kept_rows time xs rows ++ (replicate (n - left) empty_row ++ drop n rows) =
      put-fits (replicate (n - left) empty_row) next left (omega (arith, many, size₁))
      ∙ append_assoc (take left next) (replicate (n - left) empty_row) (drop (left + length (replicate (n - left) empty_row)) next)
      ∙ ap₂ (λ (a : List FigureRow) (k : ℕ). a ++ (replicate (n - left) empty_row ++ drop k next)) front past
      ∙ ap (λ (d : List FigureRow). kept_rows time xs rows ++ (replicate (n - left) empty_row ++ d)) behind in (
        omega (arith, ap length all, length-append (kept_rows time (take last xs) rows) tail, long, b.0, kept-count time xs rows (omega arith)),
        rows-edited sheet₁ next stands sheet₂ left (replicate (n - left) empty_row) (omega (arith, many, size₁)) cleared ∙ ap sheet_of fit,
      )
