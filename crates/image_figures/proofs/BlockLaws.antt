-- Thirty-two rows compared at once: both halves stand there as the same bytes, those of rows of empty slots.
-- Assumes nothing.
use Prim.Native.Nat.{ℕ, ◌+◌, ◌*◌, ◌≤◌, ◌<◌}
use native.Mathlib.Omega.{arith}
use mathlib.Core.Path.{◌≡◌, refl, sym, ap, subst, ◌∙◌}
use mathlib.Core.Logic.{⊎_elim}
use mathlib.Core.Bool.{true, false, ◌&&◌}
use mathlib.Core.List.{List, ◌++◌}
use lib.ListN.{length, get_or, take, drop, replicate, length-drop, length-replicate, take-append-drop, get_or-append}
use lib.Seq.{drop-drop, get_or-take, length-take-le, ext_get_or}
use lib.Bits.{bit_or, bit_xor, or_add_and, xor_add_and, and_le_l, and_le_r}
use lib.Dec.{eqb}
use borrow.Author.Tests.{eqb-true, eqb-false, eq-eqb}
use Rattle.lists.specs.Lists.{all?}
use Rattle.lists.proofs.Tests.{bool_cases, bool-ext, and-to, and-of}
use Rattle.image.proofs.FieldLaws.{Bytes, byte-from, bytes_drop}
use Rattle.figures.specs.declared.FigureRow.{FigureRow}
use Rattle.figures.specs.Figures.{empty_row}
use Rattle.figures.specs.Inner.{empty_row?}
use Rattle.figures.proofs.MatchLaws.{all-empty}
use Rattle.image_figures.specs.Sheets.{row_size, sheet_of, rows_in}
use Rattle.image_figures.proofs.SheetLaws.{length-rows-in, rows-in-two, rows-front, bytes-front}
use Rattle.image_figures.proofs.MatchLaws.{all?-append, empties-pass}
use Rattle.image_figures.proofs.EmptyBytes.{empty_bytes, length-empty}

-- TWO BYTES

pub or-none : (a b : ℕ) → bit_or a b ≡ 0 → (a ≡ 0) × (b ≡ 0)
or-none a b e = (omega (arith, e, or_add_and a b, and_le_l a b, and_le_r a b), omega (arith, e, or_add_and a b, and_le_l a b, and_le_r a b))

pub xor-none : (a b : ℕ) → bit_xor a b ≡ 0 → a ≡ b
xor-none a b e = omega (arith, e, xor_add_and a b, and_le_l a b, and_le_r a b)

-- BYTES OF EMPTY ROWS

-- From a place on stand the first k of them.
pub Stand : List ℕ → ℕ → ℕ → ℕ → Type 0
Stand s at n k = (j : ℕ) → j < k → get_or s (at + j) 0 ≡ get_or (empty_bytes n) j 0

-- All of them stand there exactly where the rows are empty.
module _ (s : List ℕ) (at n : ℕ) (room : at + row_size * n ≤ length s) where
  pub rows_of : Stand s at n (row_size * n) → all? empty_row? (rows_in n (drop at s)) ≡ true
  unfolding Stand
  rows_of stand =
      let t : List ℕ = drop at s in
      let size : length (take (row_size * n) t) ≡ row_size * n = length-take-le (row_size * n) t (omega (arith, length-drop at s)) in
      let front : take (row_size * n) t ≡ empty_bytes n =
      ext_get_or 0 (take (row_size * n) t) (empty_bytes n) (omega (arith, size, length-empty n))
      (λ j h. get_or-take (row_size * n) t j 0 (omega (arith, size)) ∙ sym (byte-from s at j) ∙ stand j (omega (arith, size))) in
      let rows : rows_in n t ≡ replicate n empty_row =
      ap (λ (k : ℕ). rows_in k t) (sym (length-replicate n empty_row))
      ∙ rows-front (replicate n empty_row) t (drop (row_size * n) t) (sym (take-append-drop (row_size * n) t) ∙ ap (λ (l : List ℕ). l ++ drop (row_size * n) t) front) in
      ap (all? empty_row?) rows ∙ empties-pass n

  pub rows-to : Bytes s → all? empty_row? (rows_in n (drop at s)) ≡ true → Stand s at n (row_size * n)
  unfolding Stand
  rows-to b e j h =
      let t : List ℕ = drop at s in
      let rows : rows_in n t ≡ replicate n empty_row = all-empty (rows_in n t) e ∙ ap (λ (k : ℕ). replicate k empty_row) (length-rows-in n t) in
      let here : t ≡ empty_bytes n ++ drop (row_size * n) t =
      bytes-front n t (bytes_drop at s b) (omega (arith, length-drop at s)) ∙ ap (λ (rs : List FigureRow). sheet_of rs ++ drop (row_size * n) t) rows in
      byte-from s at j ∙ ap (λ (l : List ℕ). get_or l j 0) here ∙ get_or-append (empty_bytes n) (drop (row_size * n) t) 0 j (omega (arith, length-empty n))

-- HALVES

-- 0 exactly where the first k bytes of both halves are those of empty rows.
pub Agree : List ℕ → ℕ → ℕ → ℕ → ℕ → Type 0
Agree s at n other k =
    (other ≡ 0 → Stand s at n k × Stand s (at + row_size * n) n k)
    × (Stand s at n k → Stand s (at + row_size * n) n k → other ≡ 0)

module _ (s : List ℕ) (at n : ℕ) where
  stand-more : (from k : ℕ) → Stand s from n k → get_or s (from + k) 0 ≡ get_or (empty_bytes n) k 0 → Stand s from n (k + 1)
  unfolding Stand
  stand-more from k before e j h =
      ⊎_elim
      (λ (t : eqb j k ≡ true). let same = eqb-true j k t in ap (λ (i : ℕ). get_or s (from + i) 0) same ∙ e ∙ ap (λ (i : ℕ). get_or (empty_bytes n) i 0) (sym same))
      (λ (t : eqb j k ≡ false). let other = eqb-false j k t in before j (omega arith))
      (bool_cases (eqb j k))

  stand-less : (from k : ℕ) → Stand s from n (k + 1) → Stand s from n k × (get_or s (from + k) 0 ≡ get_or (empty_bytes n) k 0)
  unfolding Stand
  stand-less from k all = (λ j h. all j (omega arith), all k (omega arith))

  pub agree-none : Agree s at n 0 0
  unfolding Agree Stand
  agree-none = (λ e. (λ j h. absurd (omega arith), λ j h. absurd (omega arith)), λ a b. refl)

  pub agree-more : (other o₁ o₂ k x : ℕ) → Agree s at n other k → x ≡ get_or (empty_bytes n) k 0
      → (o₁ ≡ 0 → (other ≡ 0) × (get_or s (at + k) 0 ≡ x)) × (other ≡ 0 → get_or s (at + k) 0 ≡ x → o₁ ≡ 0)
      → (o₂ ≡ 0 → (o₁ ≡ 0) × (get_or s (at + row_size * n + k) 0 ≡ x)) × (o₁ ≡ 0 → get_or s (at + row_size * n + k) 0 ≡ x → o₂ ≡ 0)
      → Agree s at n o₂ (k + 1)
  unfolding Agree
  agree-more other o₁ o₂ k x before x-is first second = (
    λ e.
        let b = second.0 e in
        let a = first.0 b.0 in
        let both = before.0 a.0 in
        (stand-more at k both.0 (a.1 ∙ x-is), stand-more (at + row_size * n) k both.1 (b.1 ∙ x-is)),
    λ l r.
        let a = stand-less at k l in
        let b = stand-less (at + row_size * n) k r in
        second.1 (first.1 (before.1 a.0 b.0) (a.1 ∙ sym x-is)) (b.1 ∙ sym x-is),
  )

  halves : all? empty_row? (rows_in (n + n) (drop at s)) ≡ (all? empty_row? (rows_in n (drop at s)) && all? empty_row? (rows_in n (drop (at + row_size * n) s)))
  halves =
      ap (all? empty_row?) (rows-in-two n n (drop at s) ∙ ap (λ (t : List ℕ). rows_in n (drop at s) ++ rows_in n t) (drop-drop (row_size * n) at s))
      ∙ all?-append empty_row? (rows_in n (drop at s)) (rows_in n (drop (at + row_size * n) s))

  pub agree-all : (other k : ℕ) → Bytes s → at + row_size * (n + n) ≤ length s → k ≡ row_size * n → Agree s at n other k → eqb other 0 ≡ all? empty_row? (rows_in (n + n) (drop at s))
  unfolding Agree
  agree-all other k b room e before =
      let there : ℕ = at + row_size * n in
      let told : Agree s at n other (row_size * n) = subst (Agree s at n other) e before in
      bool-ext (eqb other 0) (all? empty_row? (rows_in (n + n) (drop at s)))
      (λ t.
      let both = told.0 (eqb-true other 0 t) in
      halves
      ∙ and-of (all? empty_row? (rows_in n (drop at s))) (all? empty_row? (rows_in n (drop there s))) (rows_of s at n (omega arith) both.0) (rows_of s there n (omega arith) both.1))
      (λ t.
      let both = and-to (all? empty_row? (rows_in n (drop at s))) (all? empty_row? (rows_in n (drop there s))) (sym halves ∙ t) in
      eq-eqb other 0 (told.1 (rows-to s at n (omega arith) b both.0) (rows-to s there n (omega arith) b both.1)))
