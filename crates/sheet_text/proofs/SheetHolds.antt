-- What is proved of the sheet beside its equation: its used rows are the leases, its free rows the whole free prefixes, and it fits a buffer of SHEET bytes.
-- Assumes nothing.
use Prim.Native.Nat.{ℕ, ◌+◌, ◌*◌, ◌≤◌}
use mathlib.Core.Path.{◌≡◌, refl, sym, ap, subst, ◌∙◌}
use mathlib.Core.Logic.{◌↔◌}
use mathlib.Core.Bool.{true}
use mathlib.Core.List.{List, [], ◌∷◌, map}
use native.Mathlib.Omega.{arith}
use lib.ListN.{length, drop, length-append, length-map}
use Rattle.lists.specs.Lists.{All, Any, concat_map}
use Rattle.lists.proofs.ListLaws.{all_map, all-image, pairwise_image, any-all}
use Rattle.prefix.specs.declared.Prefix.{Prefix}
use Rattle.prefix.specs.Prefixes.{Aligned, Apart}
use Rattle.prefix.proofs.PrefixLaws.{size-positive}
use Rattle.free_space.specs.Space.{Whole}
use Rattle.free_space.specs.Grant.{wholes}
use Rattle.free_space.specs.Serving.{Length, Pools}
use Rattle.free_space.proofs.GrantLaws.{ChosenWhole, wholes-found}
use Rattle.free_space.proofs.Rules.{wholes-exactly}
use Rattle.table.specs.declared.Lease.{Lease}
use Rattle.table.specs.declared.LeaseTable.{LeaseTable}
use Rattle.table.specs.Table.{pool_prefix, prefix_of, prefixes_of, pools_of, present, sound}
use Rattle.table.proofs.Ascending.{ascending-apart}
use Rattle.table.proofs.TableLaws.{GoodPool, Good, sound-pools, sound-used, sound-fine}
use Rattle.image.specs.Image.{used_pools, used_leases}
use Rattle.std.specs.Prelude.{Result, Ok, Err}
use Rattle.sheet_text.specs.declared.SheetFault.{SheetFault}
use Rattle.sheet_text.specs.declared.SheetFault.TheVariants.{TooSmall}
use Rattle.sheet_text.specs.Sheet.{used_by, prefix_used, Row, used_row, free_row, used_in, free_in, rows, row_text, head_text, sheet_text}
use Rattle.sheet_text.specs.Answers.{sheet_of_image}
use Rattle.sheet_text.specs.SheetSizes.{used_most, free_most, head_most, most_free, sheet_size}
use Rattle.sheet_text.proofs.RowTexts.{Short, used-most, free-most, head-most}
use Rattle.sheet_text.proofs.SheetLaws.{pools-within, pools-number, leases-number, all_found, rows-found, answer-cases}

-- HOW LONG A ROW IS

rows-size : (rs : List Row) → All Short (free_in rs) → All (λ x. Short (prefix_used x)) (used_in rs) → length (concat_map row_text rs) ≤ free_most * length (free_in rs) + used_most * length (used_in rs)
rows-size [] f u = omega arith
rows-size (used_row x ∷ rs) f u = omega (arith, length-append (row_text (used_row x)) (concat_map row_text rs), used-most x u.0, rows-size rs f u.1)
rows-size (free_row p ∷ rs) f u = omega (arith, length-append (row_text (free_row p)) (concat_map row_text rs), free-most p f.0, rows-size rs f.1 u)

same-prefixes : (xs : List Lease) → map prefix_used (map used_by xs) ≡ map prefix_of xs
same-prefixes [] = refl
same-prefixes (x ∷ xs) = ap (λ (ps : List Prefix). prefix_of x ∷ ps) (same-prefixes xs)

module _ (t : LeaseTable) (e : sound t ≡ true) where
  -- "a line prints `used`": the used rows are the leases of the table, in order.
  pub used-rows : used_in (rows t) ≡ map used_by (present t.last t.leases)
  used-rows = ap used_in (sym (rows-found t e)) ∙ sym (all_found t e).used ∙ ap (map used_by) (sound-used t e)

  -- The free rows are the whole free prefixes at the last time, in ascending order.
  pub free-rows : free_in (rows t) ≡ wholes (pools_of t) (map prefix_of (present t.last t.leases))
  free-rows =
      ap free_in (sym (rows-found t e))
      ∙ (all_found t e).free
      ∙ ap (wholes (pools_of t)) (same-prefixes (used_leases t) ∙ ap (map prefix_of) (sound-used t e))

  good-pools : Pools (pools_of t)
  unfolding prefixes_of
  good-pools =
      let g = sound-pools t e in
      record {
        lengths = all-image pool_prefix (λ p. Length p.length) (used_pools t) (all_map (λ p (h : GoodPool p). (omega (arith, h.short), h.long)) (used_pools t) g.good);
        aligned = all-image pool_prefix Aligned (used_pools t) (all_map (λ p (h : GoodPool p). h.aligned) (used_pools t) g.good);
        disjoint = pairwise_image pool_prefix Apart (used_pools t) (ascending-apart pool_prefix 0 (used_pools t) g.ascending);
      }

  -- Exactly these: a prefix has a free row if and only if document 01 calls it a whole free block.
  pub free-rows-whole : (p : Prefix) → Any (λ q. q ≡ p) (free_in (rows t)) ↔ Whole (pools_of t) (map prefix_of (present t.last t.leases)) p
  free-rows-whole p =
      subst (λ (ps : List Prefix). Any (λ q. q ≡ p) ps ↔ Whole (pools_of t) (map prefix_of (present t.last t.leases)) p) (sym free-rows)
      (wholes-exactly (pools_of t) good-pools (map prefix_of (present t.last t.leases)) p)

  -- THE LARGEST SHEET

  free-short : All Short (free_in (rows t))
  free-short =
      subst (All Short) (sym free-rows)
      (all_map
      (λ w (f : ChosenWhole (pools_of t) (map prefix_of (present t.last t.leases)) w).
      let h = any-all (pools_of t) f.free.pooled (pools-within t e) in
      (omega (arith, h.1.1, h.2, size-positive w.length), omega (arith, f.length)))
      (wholes (pools_of t) (map prefix_of (present t.last t.leases)))
      (wholes-found (pools_of t) (map prefix_of (present t.last t.leases)) good-pools.lengths good-pools.aligned))

  used-short : All (λ x. Short (prefix_used x)) (used_in (rows t))
  used-short =
      subst (All (λ x. Short (prefix_used x))) (sym used-rows)
      (all-image used_by (λ x. Short (prefix_used x)) (present t.last t.leases)
      (all_map
      (λ x (g : Good (pools_of t) t.last x).
      let h = any-all (pools_of t) g.pooled (pools-within t e) in
      (omega (arith, h.1.1, h.2, size-positive x.length), omega (arith, g.long)))
      (present t.last t.leases) (sound-fine t e t.last).0))

  used-leases : length (used_in (rows t)) ≡ length (used_leases t)
  used-leases = omega (arith, ap length used-rows, length-map (present t.last t.leases) used_by, ap length (sound-used t e))

  -- "22 free rows for each lease, and one for each pool"
  pub free-number : length (free_in (rows t)) ≤ most_free
  free-number =
      omega (
        arith,
        ap (λ (rs : List Row). length (free_in rs)) (rows-found t e),
        ap (λ (rs : List Row). length (used_in rs)) (rows-found t e),
        (all_found t e).few,
        pools-number t e,
        used-leases,
        leases-number t e,
      )

  -- Each row as long as rows get.
  pub sheet-bound : length (sheet_text t) ≤ head_most + used_most * length (used_leases t) + free_most * length (free_in (rows t))
  unfolding sheet_text
  sheet-bound =
      omega (
        arith,
        length-append (head_text (length (used_leases t)) (length (free_in (rows t)))) (concat_map row_text (rows t)),
        head-most (length (used_leases t)) (length (free_in (rows t))) (omega (arith, leases-number t e)) (omega (arith, free-number)),
        rows-size (rows t) free-short used-short,
        used-leases,
      )

  -- The sheet of a sound table fits a buffer of SHEET bytes.
  pub sheet-fits : length (sheet_text t) ≤ sheet_size
  sheet-fits = omega (arith, sheet-bound, leases-number t e, free-number)

-- WHAT IS ANSWERED
module _ (bytes l : List ℕ) where
  -- With such a buffer the answer is never that it is too small: it is the sheet, or the refusal of the bytes.
  pub never-too-small : sheet_size ≤ length l → (sheet_of_image bytes l).0 ≡ Err TooSmall → ⊥
  never-too-small h =
      answer-cases bytes l (λ r. r.0 ≡ Err TooSmall → ⊥) (λ e. let z : ◌≡◌ {A = ℕ} 0 1 = cc in omega arith)
      (λ t e lt f. omega (arith, sheet-fits t e)) (λ t e le f. let z : ◌≡◌ {A = ℕ} 0 1 = cc in omega arith)

  -- Where the sheet is written, no more bytes than every sheet has, and they lie in the buffer.
  pub written_small : (n : ℕ) → (sheet_of_image bytes l).0 ≡ Ok n → (n ≤ sheet_size) × (n ≤ length (sheet_of_image bytes l).1)
  written_small n =
      answer-cases bytes l (λ r. r.0 ≡ Ok n → (n ≤ sheet_size) × (n ≤ length r.1)) (λ f. let z : ◌≡◌ {A = ℕ} 0 1 = cc in absurd (omega arith))
      (λ t e lt f. let z : ◌≡◌ {A = ℕ} 0 1 = cc in absurd (omega arith))
      (λ t e le f.
      let m : n ≡ length (sheet_text t) = cc in
      (omega (arith, m, sheet-fits t e), omega (arith, m, length-append (sheet_text t) (drop (length (sheet_text t)) l))))

  -- What a caller has in hand.
  pub written-within : {l' : List ℕ} {r : Result ℕ SheetFault} {n : ℕ} → (r, l') ≡ sheet_of_image bytes l → r ≡ Ok n → (n ≤ sheet_size) × (n ≤ length l')
  written-within {l'} {r} {n} e f =
      subst (λ (q : Result ℕ SheetFault × List ℕ). q.0 ≡ Ok n → (n ≤ sheet_size) × (n ≤ length q.1)) (sym e) (written_small n) f
