-- Laws of matching a sheet: the loops over its rows, and the rows of a whole table.
-- Assumes nothing.
use Prim.Native.Nat.{ℕ, zero, suc, ◌+◌, ◌-◌, ◌*◌, ◌≤◌, ◌<◌}
use native.Mathlib.Omega.{arith}
use mathlib.Core.Path.{◌≡◌, refl, sym, ap, ap₂, ◌∙◌}
use mathlib.Core.Bool.{Bool, true, false, ◌&&◌, and-true, and_assoc}
use mathlib.Core.List.{List, [], ◌∷◌, ◌++◌, append-nil}
use lib.ListN.{length, drop, replicate, length-drop, length-replicate}
use lib.Seq.{drop-drop}
use Rattle.lists.specs.Lists.{All, all?}
use Rattle.lists.proofs.Tests.{bool-ext, all?-to, all?-of}
use Rattle.lists.proofs.DropLaws.{drop_at, drop-end, all_drop}
use Rattle.table.specs.declared.Lease.{Lease}
use Rattle.table.specs.Table.{lease_slots, no_lease, empty?, padded}
use Rattle.image.specs.Image.{lease_size}
use Rattle.image.specs.Reading.{lease_in}
use Rattle.image_records.specs.Records.{Records}
use Rattle.image_records.proofs.RecordLaws.{lease-in-place}
use Rattle.figures.specs.declared.FigureRow.{FigureRow}
use Rattle.figures.specs.Figures.{empty_row, of_lease?, matches?}
use Rattle.figures.specs.Inner.{leases_match?, empty_row?}
use Rattle.image.proofs.FieldLaws.{Bytes, bytes_drop}
use Rattle.std.specs.Bool.{Decides}
use Rattle.figures.proofs.MatchLaws.{padded-match, all-empty}
use Rattle.image_figures.proofs.EmptyBytes.{empty_bytes}
use Rattle.image_figures.specs.Sheets.{row_size, figures_size, sheet_of, row_in, rows_in, sheet_rows}
use Rattle.image_figures.proofs.SheetLaws.{length-rows-in, rows-in-at, rows-in-two, rows-in-from, rows-front, bytes-front, sheet-rows, sheet-none}

-- ONE BY ONE

module _ (l image : List ℕ) (from n slots : ℕ) (few : n ≤ slots) where
  -- The answer for all leases is that for those from the i-th on.
  pub Matching : ℕ → Type 0
  Matching i = (xs : List Lease) → Records image from xs → n ≡ length xs → leases_match? xs (rows_in slots l) ≡ leases_match? (drop i xs) (drop i (rows_in slots l))

  pub matching-none : Matching 0
  unfolding Matching
  matching-none xs r e = refl

  module _ (i : ℕ) (lt : i < n) (before : Matching i) (b : Bool) (told : b ≡ of_lease? (lease_in (drop (from + lease_size * i) image)) (row_in (drop (row_size * i) l))) where
    one : (xs : List Lease) → Records image from xs → n ≡ length xs → leases_match? xs (rows_in slots l) ≡ (b && leases_match? (drop (i + 1) xs) (drop (i + 1) (rows_in slots l)))
    unfolding Matching
    one xs r e =
        let rows : List FigureRow = rows_in slots l in
        before xs r e
        ∙ ap₂ leases_match?
        (drop_at xs i no_lease (omega arith) ∙ ap (λ (z : Lease). z ∷ drop (i + 1) xs) (sym (lease-in-place image from xs r i (omega arith))))
        (drop_at rows i empty_row (omega (arith, length-rows-in slots l)) ∙ ap (λ (z : FigureRow). z ∷ drop (i + 1) rows) (rows-in-at slots l i (omega arith)))
        ∙ ap (λ (c : Bool). c && leases_match? (drop (i + 1) xs) (drop (i + 1) rows)) (sym told)

    pub matching-more : b ≡ true → Matching (i + 1)
    unfolding Matching
    matching-more t xs r e = one xs r e ∙ ap (λ (c : Bool). c && leases_match? (drop (i + 1) xs) (drop (i + 1) (rows_in slots l))) t

    pub matching-not : b ≡ false → (xs : List Lease) → Records image from xs → n ≡ length xs → false ≡ leases_match? xs (rows_in slots l)
    matching-not t xs r e = sym (one xs r e ∙ ap (λ (c : Bool). c && leases_match? (drop (i + 1) xs) (drop (i + 1) (rows_in slots l))) t)

  pub matching-all : (i : ℕ) → n ≤ i → Matching i → (xs : List Lease) → Records image from xs → n ≡ length xs → true ≡ leases_match? xs (rows_in slots l)
  unfolding Matching
  matching-all i h before xs r e = sym (before xs r e ∙ ap (λ (ys : List Lease). leases_match? ys (drop i (rows_in slots l))) (drop-end xs i (omega arith)))

-- MANY ROWS AT ONCE

pub all?-append : {A : Type 0} (f : A → Bool) (xs ys : List A) → all? f (xs ++ ys) ≡ (all? f xs && all? f ys)
all?-append f [] ys = refl
all?-append f (x ∷ xs) ys = ap (λ (b : Bool). f x && b) (all?-append f xs ys) ∙ sym (and_assoc (f x) (all? f xs) (all? f ys))

-- What holds of all from a place on holds of all from a later one on.
all?-later : {A : Type 0} (f : A → Bool) (i j : ℕ) (xs : List A) → i ≤ j → all? f (drop i xs) ≡ true → all? f (drop j xs) ≡ true
all?-later {A} f i j xs h e =
    let there : i + (j - i) ≡ j = omega arith in
    ap (all? f) (ap (λ (k : ℕ). drop k xs) (sym there) ∙ sym (drop-drop (j - i) i xs))
    ∙ all?-of f (λ x t. t) (drop (j - i) (drop i xs)) (all_drop (λ (x : A). f x ≡ true) (j - i) (drop i xs) (all?-to f (λ x t. t) (drop i xs) e))

pub empty-all : (l : List ℕ) (slots i : ℕ) → slots ≤ i → (all : Bool) → all ≡ all? empty_row? (drop i (rows_in slots l)) → true ≡ all
empty-all l slots i h all e = sym (e ∙ ap (all? empty_row?) (drop-end (rows_in slots l) i (omega (arith, length-rows-in slots l))))

-- The answer for the rows from the i-th on: that for the next m, and that for the rest.
module _ (l : List ℕ) (slots i m : ℕ) (inside : i + m ≤ slots) (b : Bool) (told : b ≡ all? empty_row? (rows_in m (drop (row_size * i) l))) where
  abbrev rest : ℕ → Bool
  rest k = all? empty_row? (drop k (rows_in slots l))

  empty-part : rest i ≡ (b && rest (i + m))
  empty-part =
      let from : List ℕ = drop (row_size * i) l in
      let left : slots - i ≡ m + (slots - (i + m)) = omega arith in
      let there : row_size * i + row_size * m ≡ row_size * (i + m) = omega arith in
      let behind : rows_in (slots - (i + m)) (drop (row_size * m) from) ≡ drop (i + m) (rows_in slots l) =
      ap (rows_in (slots - (i + m))) (drop-drop (row_size * m) (row_size * i) l ∙ ap (λ (k : ℕ). drop k l) there) ∙ sym (rows-in-from slots l (i + m) inside) in
      ap (all? empty_row?) (rows-in-from slots l i (omega arith) ∙ ap (λ (k : ℕ). rows_in k from) left ∙ rows-in-two m (slots - (i + m)) from)
      ∙ all?-append empty_row? (rows_in m from) (rows_in (slots - (i + m)) (drop (row_size * m) from))
      ∙ ap₂ (λ (c d : Bool). c && d) (sym told) (ap (all? empty_row?) behind)

  pub empty-more : (all : Bool) → all ≡ rest i → b ≡ true → all ≡ rest (i + m)
  empty-more all e t = e ∙ empty-part ∙ ap (λ (c : Bool). c && rest (i + m)) t

  pub empty-not : (all : Bool) → all ≡ rest i → b ≡ false → false ≡ all
  empty-not all e t = sym (e ∙ empty-part ∙ ap (λ (c : Bool). c && rest (i + m)) t)

  -- The last m of them, some of which were looked at before.
  pub empty-last : slots ≤ i + m → (n j : ℕ) → n ≤ i → i ≤ j → rest n ≡ rest j → b ≡ rest n
  empty-last end n j h k e =
      let rows : List FigureRow = rows_in slots l in
      let last : b ≡ rest i = sym (empty-part ∙ ap (λ (c : Bool). b && c) (sym (empty-all l slots (i + m) end (rest (i + m)) refl)) ∙ and-true b) in
      last ∙ bool-ext (rest i) (rest n) (λ t. e ∙ all?-later empty_row? i j rows k t) (λ t. all?-later empty_row? n i rows h t)

-- THE REST AT ONCE

pub empties-pass : (n : ℕ) → all? empty_row? (replicate n empty_row) ≡ true
unfolding empty_row?
empties-pass zero = refl
empties-pass (suc n) = empties-pass n

-- The rows from place n on are empty exactly where their bytes are those of so many empty rows.
pub rest-told : (slots : ℕ) (l : List ℕ) → Bytes l → length l ≡ row_size * slots → (n : ℕ) → n ≤ slots → (told : Bool) → Decides told (drop (row_size * n) l ≡ empty_bytes (slots - n))
    → told ≡ all? empty_row? (drop n (rows_in slots l))
rest-told slots l b size n h told decides =
    let m : ℕ = slots - n in
    let t : List ℕ = drop (row_size * n) l in
    let rest : drop n (rows_in slots l) ≡ rows_in m t = rows-in-from slots l n h in
    let empty : List FigureRow = replicate m empty_row in
    let long : length t ≡ row_size * m = omega (arith, length-drop (row_size * n) l) in
    bool-ext told (all? empty_row? (drop n (rows_in slots l)))
    (λ e.
    let same : t ≡ sheet_of empty ++ [] = decides.0 e ∙ sym (append-nil (sheet_of empty)) in
    let rows : rows_in m t ≡ empty = ap (λ (k : ℕ). rows_in k t) (sym (length-replicate m empty_row)) ∙ rows-front empty t [] same in
    ap (all? empty_row?) (rest ∙ rows) ∙ empties-pass m)
    (λ e.
    let rows : rows_in m t ≡ empty = all-empty (rows_in m t) (ap (all? empty_row?) (sym rest) ∙ e) ∙ ap (λ (k : ℕ). replicate k empty_row) (length-rows-in m t) in
    decides.1
    (bytes-front m t (bytes_drop (row_size * n) l b) (omega (arith, long))
    ∙ ap (λ (d : List ℕ). sheet_of (rows_in m t) ++ d) (drop-end t (row_size * m) (omega (arith, long)))
    ∙ append-nil (sheet_of (rows_in m t))
    ∙ ap sheet_of rows))

-- A WHOLE TABLE

matches-nothing : (xs : List Lease) (m : ℕ) → 0 < length xs + m → matches? (xs ++ replicate m no_lease) [] ≡ false
matches-nothing [] (suc m) h = refl
matches-nothing [] zero h = absurd (omega arith)
matches-nothing (x ∷ xs) m h = refl

pub other-size : (l : List ℕ) (xs : List Lease) → (length l ≡ figures_size → ⊥) → false ≡ matches? (padded xs) (sheet_rows l)
other-size l xs h = sym (ap (matches? (padded xs)) (sheet-none l h) ∙ matches-nothing xs (lease_slots - length xs) (omega arith))

module _ (l : List ℕ) (n : ℕ) (xs : List Lease) (size : length l ≡ figures_size) (few : n ≤ lease_slots) (e : n ≡ length xs) (used : All (λ x. empty? x ≡ false) xs) where
  parts : matches? (padded xs) (sheet_rows l) ≡ (leases_match? xs (rows_in lease_slots l) && all? empty_row? (drop n (rows_in lease_slots l)))
  parts =
      ap (matches? (padded xs)) (sheet-rows l size)
      ∙ padded-match xs (lease_slots - length xs) (rows_in lease_slots l) used (omega (arith, length-rows-in lease_slots l))
      ∙ ap (λ (k : ℕ). leases_match? xs (rows_in lease_slots l) && all? empty_row? (drop k (rows_in lease_slots l))) (sym e)

  pub other-lease : false ≡ leases_match? xs (rows_in lease_slots l) → false ≡ matches? (padded xs) (sheet_rows l)
  other-lease f = sym (parts ∙ ap (λ (b : Bool). b && all? empty_row? (drop n (rows_in lease_slots l))) (sym f))

  pub by-the-rest : (b : Bool) → true ≡ leases_match? xs (rows_in lease_slots l) → b ≡ all? empty_row? (drop n (rows_in lease_slots l)) → b ≡ matches? (padded xs) (sheet_rows l)
  by-the-rest b t f = f ∙ sym (parts ∙ ap (λ (c : Bool). c && all? empty_row? (drop n (rows_in lease_slots l))) (sym t))
