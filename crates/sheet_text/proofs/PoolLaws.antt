-- The walk over all pools: its rows are those of the definition, its used rows the leases, its free rows the whole free prefixes.
-- Assumes nothing.
use Prim.Native.Nat.{ℕ, suc, ◌+◌, ◌-◌, ◌*◌, ◌≤◌, ◌<◌}
use mathlib.Core.Path.{◌≡◌, refl, sym, ap, ap₂, ◌∙◌}
use mathlib.Core.Logic.{◌⊎◌, inl, inr, ⊎_elim, by_cases}
use mathlib.Core.List.{List, [], ◌∷◌, ◌++◌, map}
use native.Mathlib.Nat.{mul-le-mul_right}
use native.Mathlib.Decide.{dec_le}
use native.Mathlib.Omega.{arith}
use lib.ListN.{length, drop, get_or, drop_of_length-le}
use Rattle.lists.specs.Lists.{All, Any, concat_map}
use Rattle.lists.proofs.ListLaws.{any-all}
use Rattle.prefix.specs.declared.Prefix.{Prefix}
use Rattle.prefix.specs.Prefixes.{longest, end, Aligned, Inside}
use Rattle.prefix.proofs.PrefixLaws.{size-positive}
use Rattle.free_space.specs.Grant.{walk, wholes}
use Rattle.table.proofs.Ascending.{Ascending, ascending-low}
use Rattle.sheet_text.specs.declared.Used.{Used}
use Rattle.sheet_text.specs.Sheet.{Row, used_in, free_in, prefix_used, rows_in}
use Rattle.sheet_text.specs.SheetSizes.{halvings}
use Rattle.sheet_text.specs.InnerScan.{Scan, scan_of, scan_all}
use Rattle.sheet_text.proofs.ShowLaws.{used-append, free-append, length-used, length-free}
use Rattle.sheet_text.proofs.RowLaws.{Blocks, Cursor, Tidy, Scanned, scanned}

module _ (xs : List Used) (d : Used) (blocks : Blocks xs d) where
  abbrev lease : ℕ → Used
  lease k = get_or xs k d

  -- A lease ends up to c, or lies in one of the pools that are left.
  abbrev pub Pooled : ℕ → List Prefix → Type 0
  Pooled c ps = (k : ℕ) → k < length xs → (end (prefix_used (lease k)) ≤ c) ⊎ Any (Inside (prefix_used (lease k))) ps

  pub record ScannedAll (ps : List Prefix) (i : ℕ) (s : Scan) : Type 0 where
    pub rows : s.rows ≡ concat_map (λ p. rows_in xs (longest - p.length) p) ps
    pub used : drop i xs ≡ used_in s.rows
    pub free : free_in s.rows ≡ wholes ps (map prefix_used xs)
    pub few : length (free_in s.rows) ≤ halvings * length (used_in s.rows) + length ps

  -- Past the last pool no lease is left.
  none_left : (i c : ℕ) → Cursor xs d blocks i c → Pooled c [] → drop i xs ≡ []
  none_left i c cursor pooled =
      by_cases (dec_le (length xs) i) (λ h. drop_of_length-le xs h)
      (λ h. ⊎_elim
      (λ (e : end (prefix_used (lease i)) ≤ c). absurd (omega (arith, e, cursor.later i (omega arith) (omega arith), size-positive (lease i).length)))
      (λ e. absurd e) (pooled i (omega arith)))

  module _ (p : Prefix) (ps : List Prefix) (i c : ℕ) (starts : c ≤ p.network) (after : All (λ q. end p ≤ q.network) ps) (cursor : Cursor xs d blocks i c) (pooled : Pooled c (p ∷ ps)) where
    -- Before the pool, in it, or after it.
    place : (k : ℕ) → k < length xs → (end (prefix_used (lease k)) ≤ c) ⊎ (Inside (prefix_used (lease k)) p ⊎ (end p ≤ (lease k).network))
    place k h =
        ⊎_elim inl
        (λ a. inr (⊎_elim inl (λ b. let t = any-all ps b after in inr (omega (arith, t.1.0, t.2))) a))
        (pooled k h)

    pool-tidy : Tidy xs d blocks p
    pool-tidy k h =
        ⊎_elim (λ (e : end (prefix_used (lease k)) ≤ c). inl (inr (omega (arith, e, starts))))
        (λ a. ⊎_elim inr (λ (e : end p ≤ (lease k).network). inl (inl e)) a) (place k h)

    pool-cursor : Cursor xs d blocks i p.network
    pool-cursor = record {
      bound = cursor.bound;
      before = λ k h. omega (arith, cursor.before k h, starts);
      later = λ k h l.
          ⊎_elim (λ (e : end (prefix_used (lease k)) ≤ c). absurd (omega (arith, e, cursor.later k h l, size-positive (lease k).length)))
          (λ a. ⊎_elim (λ (b : Inside (prefix_used (lease k)) p). b.0) (λ (e : end p ≤ (lease k).network). omega (arith, e)) a) (place k l);
    }

    pool-pooled : Pooled (end p) ps
    pool-pooled k h =
        ⊎_elim (λ (e : end (prefix_used (lease k)) ≤ c). inl (omega (arith, e, starts)))
        (λ a. ⊎_elim (λ (b : Inside (prefix_used (lease k)) p). inl b.1) inr a) (pooled k h)

  few-more : (left a b x y m : ℕ) → left ≤ halvings → x ≤ left * a + 1 → y ≤ halvings * b + m → x + y ≤ halvings * (a + b) + suc m
  few-more left a b x y m h i j = omega (arith, mul-le-mul_right a h)

  pub scanned-all : (ps : List Prefix) (i c : ℕ) → All (λ p. (8 ≤ p.length) × (p.length ≤ longest)) ps → All Aligned ps → Ascending (λ p. p) c ps
      → Cursor xs d blocks i c → Pooled c ps → ScannedAll ps i (scan_all lease (length xs) ps i)
  unfolding scan_all
  scanned-all [] i c lengths aligned ascend cursor pooled =
      record { rows = refl; used = none_left i c cursor pooled; free = refl; few = omega arith }
  scanned-all (p ∷ ps) i c lengths aligned ascend cursor pooled =
      let after : All (λ q. end p ≤ q.network) ps = ascending-low (λ q. q) (end p) ps ascend.1 in
      let first : Scan = scan_of lease (length xs) p i in
      let later : Scan = scan_all lease (length xs) ps first.next in
      let s : Scanned xs d blocks (longest - p.length) p i first =
      scanned xs d blocks (longest - p.length) p i (omega arith) aligned.0 (pool-tidy p ps i c ascend.0 after cursor pooled) (pool-cursor p ps i c ascend.0 after cursor pooled) in
      let t : ScannedAll ps first.next later =
      scanned-all ps first.next (end p) lengths.1 aligned.1 ascend.1 s.cursor (pool-pooled p ps i c ascend.0 after cursor pooled) in
      let level : 32 - p.length ≡ suc (suc (longest - p.length)) = omega arith in
      record {
        rows = ap₂ (λ (a b : List Row). a ++ b) s.rows t.rows;
        used = s.used ∙ ap (λ (l : List Used). used_in first.rows ++ l) t.used ∙ sym (used-append first.rows later.rows);
        free =
            free-append first.rows later.rows
            ∙ ap₂ (λ (a b : List Prefix). a ++ b) (s.free ∙ ap (λ (k : ℕ). walk (map prefix_used xs) k p) (sym level)) t.free;
        few =
            omega (
              arith,
              ap (λ (k : ℕ). halvings * k) (length-used first.rows later.rows),
              length-free first.rows later.rows,
              few-more (longest - p.length) (length (used_in first.rows)) (length (used_in later.rows)) (length (free_in first.rows)) (length (free_in later.rows)) (length ps) (omega arith) s.few t.few,
            );
      }
