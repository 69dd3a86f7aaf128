-- The bytes of rows of empty slots, and a constant that is those bytes, each bit turned.
-- Assumes nothing.
use Prim.Native.Nat.{ℕ, zero, suc, ◌+◌, ◌-◌, ◌*◌, ◌<◌}
use native.Mathlib.Omega.{arith}
use mathlib.Core.Path.{◌≡◌, refl, sym, ap, ◌∙◌}
use mathlib.Core.List.{List, [], ◌∷◌, ◌++◌, map}
use lib.ListN.{length, get_or, replicate, length-replicate, replicate-append-replicate, get_or-map}
use Rattle.lists.proofs.ConcatMapLaws.{concat_map-append}
use Rattle.std.specs.List.{flat_map}
use Rattle.image.specs.Image.{le16, le32}
use Rattle.figures.specs.Figures.{empty_row}
use Rattle.image_figures.specs.Sheets.{row_size, row_bytes, sheet_of}
use Rattle.image_figures.proofs.RowLaws.{length-rows}

abbrev pub empty_bytes : ℕ → List ℕ
empty_bytes n = sheet_of (replicate n empty_row)

pub length-empty : (n : ℕ) → length (empty_bytes n) ≡ row_size * n
length-empty n = length-rows (replicate n empty_row) ∙ ap (λ (k : ℕ). row_size * k) (length-replicate n empty_row)

pub empty-append : (m n : ℕ) → empty_bytes (m + n) ≡ empty_bytes m ++ empty_bytes n
empty-append m n = ap sheet_of (sym (replicate-append-replicate m n empty_row)) ∙ concat_map-append row_bytes (replicate m empty_row) (replicate n empty_row)

-- The rows as they stand in the code, joined.
pub empty-flat : (n : ℕ) → flat_map (λ l. l) (replicate n (0 ∷ 0 ∷ 0 ∷ 0 ∷ 0 ∷ 255 ∷ 255 ∷ 255 ∷ 255 ∷ 255 ∷ 255 ∷ [])) ≡ empty_bytes n
unfolding row_bytes le16 le32
empty-flat zero = refl
empty-flat (suc n) = ap (λ (l : List ℕ). (0 ∷ 0 ∷ 0 ∷ 0 ∷ 0 ∷ 255 ∷ 255 ∷ 255 ∷ 255 ∷ 255 ∷ 255 ∷ []) ++ l) (empty-flat n)

-- TURNED

unfoldable pub Turned : List ℕ → ℕ → Type 0
Turned turned n = map (λ x. 255 - x) turned ≡ empty_bytes n

-- A byte that is there does not depend on what would stand for one that is not.
other-default : (l : List ℕ) (k d e : ℕ) → k < length l → get_or l k d ≡ get_or l k e
other-default [] k d e h = absurd (omega arith)
other-default (x ∷ l) zero d e h = refl
other-default (x ∷ l) (suc k) d e h = other-default l k d e (omega arith)

pub turned-byte : (turned : List ℕ) (n : ℕ) → Turned turned n → (k : ℕ) → k < row_size * n → 255 - get_or turned k 0 ≡ get_or (empty_bytes n) k 0
unfolding Turned
turned-byte turned n e k h =
    sym (get_or-map (λ x. 255 - x) turned k 0) ∙ ap (λ (l : List ℕ). get_or l k 255) e ∙ other-default (empty_bytes n) k 255 0 (omega (arith, length-empty n))
