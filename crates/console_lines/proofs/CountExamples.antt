-- Counts and their text: a pool with two lengths, one with none, a whole one.
-- Assumes nothing.
use Prim.Native.Nat.{ℕ}
use mathlib.Core.Path.{◌≡◌, refl}
use mathlib.Core.List.{[], ◌∷◌, ◌++◌}
use lib.ListN.{replicate}
use Rattle.text.specs.Ascii.{ascii}
use Rattle.text.specs.Decimal.{digits}
use Rattle.table.specs.declared.Pool.{Pool}
use Rattle.console_lines.specs.CountLines.{row_counts, pool_line, pool_text, pool_texts, counts_text}

pool : ℕ → ℕ → Pool
pool network len = record { network = network; length = len }

counts-shown :
    counts_text (pool 167772416 24 ∷ pool 167772672 24 ∷ pool 167837696 16 ∷ [])
    ((replicate 17 0 ++ (1 ∷ 1 ∷ 0 ∷ 0 ∷ 0 ∷ 0 ∷ [])) ∷ replicate 23 0 ∷ (replicate 8 0 ++ (12 ∷ replicate 14 0)) ∷ [])
    ≡ ascii "counts 10.0.1.0/24 25=1 26=1\ncounts 10.1.0.0/16 16=12\nok\n"
unfolding pool row_counts pool_line pool_text pool_texts digits
counts-shown = refl
