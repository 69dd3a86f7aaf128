-- The counts of whole free blocks as lines of the output.
use Rattle.std.specs.Prelude.{ℕ, zero, suc, Bool, cond, List, [], ◌∷◌, ◌++◌, drop, eqb}
use Rattle.lists.specs.Lists.{all?}
use Rattle.text.specs.Ascii.{ascii}
use Rattle.table.specs.declared.Pool.{Pool}
use Rattle.table.specs.Table.{shortest_pool}
use Rattle.image.specs.Image.{pool_size}
use Rattle.image.specs.Reading.{pool_in}
use Rattle.console_lines.specs.Lines.{decimal, ok_line}
use Rattle.console_lines.specs.FigureLines.{prefix_text}

-- "25=1", behind a blank: a length and how many whole free blocks it has. "those that are 0 left out"
abbrev pub count_text : ℕ → ℕ → List ℕ
count_text len n = cond (eqb n 0) [] (ascii " " ++ (decimal len ++ (ascii "=" ++ decimal n)))

-- "the lengths ascending": a row from this length on.
unfoldable pub row_counts : ℕ → List ℕ → List ℕ
row_counts len [] = []
row_counts len (n ∷ ns) = count_text len n ++ row_counts (suc len) ns

-- "counts 10.0.1.0/24 25=1 26=1"
unfoldable pub pool_line : Pool → List ℕ → List ℕ
pool_line p row = ascii "counts " ++ (prefix_text p.network p.length ++ (row_counts shortest_pool row ++ ascii "\n"))

-- A row of a pool that has no whole free block.
abbrev pub none_in? : List ℕ → Bool
none_in? row = all? (λ n. eqb n 0) row

-- "a line for each root that has a whole free block"
unfoldable pub pool_text : Pool → List ℕ → List ℕ
pool_text p row = cond (none_in? row) [] (pool_line p row)

-- "in order": the pools of a table, each with its row.
unfoldable pub pool_texts : List Pool → List (List ℕ) → List ℕ
pool_texts [] rows = []
pool_texts (p ∷ ps) [] = []
pool_texts (p ∷ ps) (row ∷ rows) = pool_text p row ++ pool_texts ps rows

-- "then `ok`"
abbrev pub counts_text : List Pool → List (List ℕ) → List ℕ
counts_text ps counts = pool_texts ps counts ++ ok_line

-- So many pools, as their records stand in an image.
unfoldable pub pools_at : ℕ → List ℕ → List Pool
pools_at zero s = []
pools_at (suc n) s = pool_in s ∷ pools_at n (drop pool_size s)
