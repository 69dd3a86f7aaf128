-- The lines of the counts, from the pieces that are written.
-- Assumes nothing.
use Prim.Native.Nat.{ℕ, zero, suc, ◌+◌, ◌*◌, ◌≤◌, ◌<◌}
use native.Mathlib.Omega.{arith}
use native.Mathlib.Numerals.{add-one}
use mathlib.Core.Path.{◌≡◌, refl, sym, ap, ap₂, ◌∙◌}
use mathlib.Core.Bool.{Bool, true, false, ◌&&◌}
use mathlib.Core.List.{List, [], ◌∷◌, ◌++◌, append-nil, append_assoc}
use lib.ListN.{length, take, drop, get_or, replicate}
use lib.Seq.{drop-drop, take_all}
use lib.Dec.{eqb}
use borrow.Author.Tests.{eq-eqb, ne_eqb}
use Rattle.lists.proofs.Tests.{cond-true, cond-false}
use Rattle.lists.proofs.PutLaws.{put-nothing}
use Rattle.text.specs.Ascii.{ascii}
use Rattle.text.specs.Wrote.{Wrote}
use Rattle.table.specs.declared.Pool.{Pool}
use Rattle.table.specs.Table.{pool_slots, no_pool}
use Rattle.image.specs.Image.{pool_size}
use Rattle.image.specs.Reading.{pool_in}
use Rattle.console_lines.specs.Lines.{decimal, ok_line}
use Rattle.console_lines.specs.CountLines.{count_text, row_counts, pool_line, none_in?, pool_text, pool_texts, counts_text, pools_at}
use lib.Pointwise.{pointwise}
use Rattle.console_lines.proofs.TextLaws.{filled, then-wrote, wrote_as}

pub nothing-wrote : (old : List ℕ) (at : ℕ) → Wrote old at [] old at
nothing-wrote old at = record { bytes = sym (put-nothing old at); place = omega arith }

-- ONE COUNT

pub count-hidden : (len n : ℕ) → n ≡ 0 → [] ≡ count_text len n
count-hidden len n e = sym (cond-true (eqb n 0) [] (ascii " " ++ (decimal len ++ (ascii "=" ++ decimal n))) (eq-eqb n 0 e))

pub count-shown : (len n : ℕ) → (n ≡ 0 → ⊥) → filled (ascii " %=%") (len ∷ n ∷ []) ≡ count_text len n
count-shown len n k =
    ap (λ (l : List ℕ). ascii " " ++ (decimal len ++ (ascii "=" ++ l))) (append-nil (decimal n))
    ∙ sym (cond-false (eqb n 0) [] (ascii " " ++ (decimal len ++ (ascii "=" ++ decimal n))) (ne_eqb n 0 k))

-- A ROW

pub none-zeros : (row : List ℕ) → pointwise eqb row (replicate (length row) 0) ≡ none_in? row
none-zeros [] = refl
none-zeros (n ∷ row) = ap (λ (b : Bool). eqb n 0 && b) (none-zeros row)

row_more : (len : ℕ) (row : List ℕ) (j : ℕ) → j < length row → row_counts len (take j row) ++ count_text (j + len) (get_or row j 0) ≡ row_counts len (take (suc j) row)
unfolding row_counts
row_more len [] j lt = absurd (omega arith)
row_more len (n ∷ ns) zero lt = let z : 0 + len ≡ len = omega arith in ap (λ (k : ℕ). count_text k n) z ∙ sym (append-nil (count_text len n))
row_more len (n ∷ ns) (suc j) lt =
    let same : suc j + len ≡ j + suc len = omega arith in
    append_assoc (count_text len n) (row_counts (suc len) (take j ns)) (count_text (suc j + len) (get_or ns j 0))
    ∙ ap (λ (l : List ℕ). count_text len n ++ l) (ap (λ (k : ℕ). row_counts (suc len) (take j ns) ++ count_text k (get_or ns j 0)) same ∙ row_more (suc len) ns j (omega arith))

pub row_wrote : (len : ℕ) (row : List ℕ) (j : ℕ) (old mid new : List ℕ) (at p r : ℕ) → j < length row → Wrote old at (row_counts len (take j row)) mid p → Wrote mid p (count_text (j + len) (get_or row j 0)) new r
    → Wrote old at (row_counts len (take (j + 1) row)) new r
row_wrote len row j old mid new at p r lt a b =
    wrote_as _ _ _ _ _ _ (row_more len row j lt ∙ ap (λ (k : ℕ). row_counts len (take k row)) (sym (add-one j))) (then-wrote old mid new _ _ at p r a b)

pub row-none : (len : ℕ) (row old : List ℕ) (at : ℕ) → Wrote old at (row_counts len (take 0 row)) old at
unfolding row_counts
row-none len row old at = nothing-wrote old at

-- A POOL

module _ (p : Pool) (row : List ℕ) where
  pub pool-hidden : (old : List ℕ) (at : ℕ) → none_in? row ≡ true → Wrote old at (pool_text p row) old at
  unfolding pool_text
  pool-hidden old at e = rw e (nothing-wrote old at)

  pub pool-shown : none_in? row ≡ false → pool_line p row ≡ pool_text p row
  unfolding pool_text
  pool-shown e = sym (cond-false (none_in? row) [] (pool_line p row) e)

-- ALL POOLS

pools-more : (k : ℕ) (s : List ℕ) (rows : List (List ℕ)) → k < length rows
    → pool_texts (pools_at k s) (take k rows) ++ pool_text (pool_in (drop (pool_size * k) s)) (get_or rows k []) ≡ pool_texts (pools_at (suc k) s) (take (suc k) rows)
unfolding pool_texts pools_at
pools-more k s [] lt = absurd (omega arith)
pools-more zero s (row ∷ rows) lt = sym (append-nil (pool_text (pool_in s) row))
pools-more (suc k) s (row ∷ rows) lt =
    let place : pool_size * suc k ≡ pool_size + pool_size * k = omega arith in
    append_assoc (pool_text (pool_in s) row) (pool_texts (pools_at k (drop pool_size s)) (take k rows)) (pool_text (pool_in (drop (pool_size * suc k) s)) (get_or rows k []))
    ∙ ap (λ (l : List ℕ). pool_text (pool_in s) row ++ l)
    (ap (λ (l : List ℕ). pool_texts (pools_at k (drop pool_size s)) (take k rows) ++ pool_text (pool_in l) (get_or rows k [])) (ap (λ (n : ℕ). drop n s) place ∙ sym (drop-drop (pool_size * k) pool_size s))
    ∙ pools-more k (drop pool_size s) rows (omega arith))

pub pools-wrote : (k : ℕ) (s : List ℕ) (rows : List (List ℕ)) (old mid new : List ℕ) (at p r : ℕ) → k < length rows → Wrote old at (pool_texts (pools_at k s) (take k rows)) mid p
    → Wrote mid p (pool_text (pool_in (drop (pool_size * k) s)) (get_or rows k [])) new r → Wrote old at (pool_texts (pools_at (k + 1) s) (take (k + 1) rows)) new r
pools-wrote k s rows old mid new at p r lt a b =
    wrote_as _ _ _ _ _ _ (pools-more k s rows lt ∙ ap (λ (n : ℕ). pool_texts (pools_at n s) (take n rows)) (sym (add-one k))) (then-wrote old mid new _ _ at p r a b)

pub pools-none : (s : List ℕ) (rows : List (List ℕ)) (old : List ℕ) (at : ℕ) → Wrote old at (pool_texts (pools_at 0 s) (take 0 rows)) old at
unfolding pool_texts pools_at
pools-none s rows old at = nothing-wrote old at

pub counts-written : (s : List ℕ) (rows : List (List ℕ)) (k : ℕ) → k ≡ pool_slots → length rows ≡ pool_slots → pool_texts (pools_at k s) (take k rows) ++ ok_line ≡ counts_text (pools_at pool_slots s) rows
counts-written s rows k e size =
    ap (λ (l : List ℕ). l ++ ok_line)
    (ap (λ (n : ℕ). pool_texts (pools_at n s) (take n rows)) e ∙ ap (pool_texts (pools_at pool_slots s)) (take_all pool_slots rows (omega arith)))

-- THE POOLS OF A TABLE, where a row stands for each of them, and the others are all 0.

row-of-zeros : (n : ℕ) → none_in? (replicate n 0) ≡ true
row-of-zeros zero = refl
row-of-zeros (suc n) = row-of-zeros n

none-further : (n m k : ℕ) (s : List ℕ) → pool_texts (pools_at n s) (replicate m (replicate k 0)) ≡ []
unfolding pool_texts pools_at pool_text
none-further zero m k s = refl
none-further (suc n) zero k s = refl
none-further (suc n) (suc m) k s =
    ap₂ (λ (x y : List ℕ). x ++ y) (cond-true (none_in? (replicate k 0)) [] (pool_line (pool_in s) (replicate k 0)) (row-of-zeros k)) (none-further n m k (drop pool_size s))

pub of-table : (ps : List Pool) (rows : List (List ℕ)) (n m k : ℕ) (s : List ℕ) → length rows ≡ length ps → length ps ≤ n
    → ((i : ℕ) → i < length ps → pool_in (drop (pool_size * i) s) ≡ get_or ps i no_pool)
    → pool_texts (pools_at n s) (rows ++ replicate m (replicate k 0)) ≡ pool_texts ps (rows ++ replicate m (replicate k 0))
unfolding pool_texts pools_at
of-table [] [] n m k s e le at = none-further n m k s
of-table [] (row ∷ rows) n m k s e le at = absurd (omega arith)
of-table (p ∷ ps) [] n m k s e le at = absurd (omega arith)
of-table (p ∷ ps) (row ∷ rows) zero m k s e le at = absurd (omega arith)
of-table (p ∷ ps) (row ∷ rows) (suc n) m k s e le at =
    ap₂ (λ (x : Pool) (l : List ℕ). pool_text x row ++ l) (at 0 (omega arith))
    (of-table ps rows n m k (drop pool_size s) (omega arith) (omega arith) (λ i h.
    let place : pool_size + pool_size * i ≡ pool_size * suc i = omega arith in
    ap pool_in (drop-drop (pool_size * i) pool_size s ∙ ap (λ (j : ℕ). drop j s) place) ∙ at (suc i) (omega arith)))
