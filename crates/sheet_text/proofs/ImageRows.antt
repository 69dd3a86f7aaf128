-- What the code finds in the image of a sound table: its leases and pools, the rows of its sheet, how many of them are free.
-- Assumes nothing.
use Prim.Native.Nat.{ℕ, zero, suc, ◌+◌, ◌*◌, ◌≤◌, ◌<◌}
use mathlib.Core.Path.{◌≡◌, refl, sym, ap, ap₂, subst, ◌∙◌}
use mathlib.Core.Logic.{by_cases}
use mathlib.Core.List.{List, [], ◌∷◌, ◌++◌}
use native.Mathlib.Decide.{dec_le}
use native.Mathlib.Omega.{arith}
use lib.ListN.{length, take, drop, get_or, length-map, get_or-map, get_or-eq_default, drop_of_length-le}
use lib.Seq.{take-suc, take_all, drop-drop}
use Rattle.lists.specs.Lists.{concat_map}
use Rattle.lists.proofs.IndexLaws.{all-at}
use Rattle.prefix.specs.declared.Prefix.{Prefix}
use Rattle.prefix.specs.Prefixes.{longest, end}
use Rattle.table.specs.declared.LeaseTable.{LeaseTable}
use Rattle.table.specs.Table.{addresses, pool_prefix, no_pool, no_lease, pools_of}
use Rattle.names.specs.Names.{spells, name_in}
use Rattle.image.specs.Fields.{number32}
use Rattle.image.specs.Image.{used_pools, used_leases, image_of, head_size, pool_size, lease_size}
use Rattle.image.specs.Reading.{pool_in, lease_in}
use Rattle.counts.specs.Counts.{counts_of, total}
use Rattle.counts.proofs.TotalLaws.{total-is-wholes}
use Rattle.image_counts.specs.Standing.{Stands, SomeTable}
use Rattle.image_records.proofs.RecordLaws.{lease-in-place}
use Rattle.image_records.proofs.SoundLaws.{image-records}
use Rattle.image_records.proofs.PoolRecords.{image-pools}
use Rattle.sheet_text.specs.declared.Used.{Used}
use Rattle.sheet_text.specs.Sheet.{used_by, Row, free_in, leases_shown, rows, row_text, head_text, sheet_text}
use Rattle.sheet_text.specs.InnerScan.{Fits, lease_shown, pool_shown, pools_shown, SoundImage, scan_all, scan_text, ReadyAll}
use Rattle.sheet_text.proofs.ShowLaws.{scan_first}
use Rattle.sheet_text.proofs.SheetLaws.{blank, shown-at, shown-blocks, pools-are, pools-good, rows-found}
use Rattle.sheet_text.proofs.SheetHolds.{free-rows}

no-lease : lease_in [] ≡ no_lease
unfolding number32 name_in spells
no-lease = refl

module _ (image : List ℕ) (k n : ℕ) (s : SoundImage image k n) where
  abbrev t : LeaseTable
  t = s.table

  abbrev base : ℕ
  base = head_size + pool_size * k

  whole : image_of t ≡ take (length image) image
  whole = s.bytes ∙ sym (take_all (length image) image (omega arith))

  lease-here : (i : ℕ) → lease_in (drop (base + lease_size * i) image) ≡ get_or (used_leases t) i no_lease
  lease-here i =
      by_cases (dec_le n i)
      (λ h.
      let far : length image ≤ base + lease_size * i = omega (arith, s.size) in
      ap lease_in (drop_of_length-le image far) ∙ no-lease ∙ sym (get_or-eq_default (used_leases t) no_lease (omega (arith, s.leases))))
      (λ h.
      ap (λ (m : ℕ). lease_in (drop (head_size + pool_size * m + lease_size * i) image)) s.pools
      ∙ lease-in-place image (head_size + pool_size * length (used_pools t)) (used_leases t)
      (image-records t image (length image) whole) i (omega (arith, s.leases)))

  leases-at : (i : ℕ) → lease_shown image base i ≡ get_or (leases_shown t) i blank
  unfolding lease_shown
  leases-at i = ap used_by (lease-here i) ∙ sym (shown-at t s.sound i)

  leases-are : lease_shown image base ≡ (λ i. get_or (leases_shown t) i blank)
  leases-are = λ j i. leases-at i j

  pool-here : (j : ℕ) → j < k → pool_shown image j ≡ get_or (pools_of t) j (pool_prefix no_pool)
  pool-here j h =
      ap (λ (l : List ℕ). pool_prefix (pool_in l)) (sym (drop-drop (pool_size * j) head_size image))
      ∙ ap pool_prefix (image-pools t image (length image) whole j (omega (arith, s.pools)))
      ∙ sym (ap (λ (ps : List Prefix). get_or ps j (pool_prefix no_pool)) (pools-are t s.sound) ∙ get_or-map pool_prefix (used_pools t) j no_pool)

  pools-size : length (pools_of t) ≡ k
  pools-size = omega (arith, ap length (pools-are t s.sound), length-map (used_pools t) pool_prefix, s.pools)

  pools-taken : (j : ℕ) → j ≤ k → pools_shown image j ≡ take j (pools_of t)
  unfolding pools_shown
  pools-taken zero h = refl
  pools-taken (suc j) h =
      ap₂ (λ (ps : List Prefix) (p : Prefix). ps ++ (p ∷ [])) (pools-taken j (omega arith)) (pool-here j (omega arith))
      ∙ sym (take-suc (pools_of t) j (pool_prefix no_pool) (omega (arith, pools-size)))

  pools-shown : pools_shown image k ≡ pools_of t
  pools-shown = pools-taken k (omega arith) ∙ take_all k (pools_of t) (omega (arith, pools-size))

  n-is : n ≡ length (leases_shown t)
  n-is = s.leases ∙ sym (length-map (used_leases t) used_by)

  -- What the walk over the image finds is what it finds in the lists.
  found : {A : Type 0} (f : (ℕ → Used) → ℕ → List Prefix → A) → f (lease_shown image base) n (pools_shown image k) ≡ f (λ i. get_or (leases_shown t) i blank) (length (leases_shown t)) (pools_of t)
  found f = ap (λ (g : ℕ → Used). f g n (pools_shown image k)) leases-are ∙ ap₂ (f (λ i. get_or (leases_shown t) i blank)) n-is pools-shown

  found_rows : (scan_first image base n k).rows ≡ rows t
  found_rows = found (λ g m ps. (scan_all g m ps 0).rows) ∙ rows-found t s.sound

  -- The counts of the image tell how many free rows there are.
  stands : Stands t image k n
  stands = record {
    sound-table = s.sound;
    image-is = s.bytes ∙ sym (take_all (length (image_of t)) image (omega (arith, ap length s.bytes)));
    pools-are = s.pools;
    leases-are = s.leases;
  }

  pub some-table : SomeTable image k n
  some-table = record { table = t; stands = stands }

  pub free-told : (c : List (List ℕ)) → ((u : LeaseTable) → Stands u image k n → c ≡ counts_of u) → total c ≡ length (free_in (rows t))
  free-told c counted = ap total (counted t stands) ∙ total-is-wholes t s.sound ∙ sym (ap length (free-rows t s.sound))

  pub ready-sheet : (out : List ℕ) (at : ℕ) → Fits out at (scan_text (scan_first image base n k)) → ReadyAll image base n k out at
  ready-sheet out at room =
      let good : (j : ℕ) → j < k → (8 ≤ (get_or (pools_of t) j (pool_prefix no_pool)).length) × ((get_or (pools_of t) j (pool_prefix no_pool)).length ≤ longest) × (end (get_or (pools_of t) j (pool_prefix no_pool)) ≤ addresses) =
      λ j h. all-at (λ p. (8 ≤ p.length) × (p.length ≤ longest) × (end p ≤ addresses)) (pools_of t) (pools-good t s.sound) j (pool_prefix no_pool) (omega (arith, pools-size)) in
      record {
        slots = omega (arith, s.size);
        lengths = λ i h. subst (λ (x : Used). x.length ≤ longest) (sym (leases-at i)) ((shown-blocks t s.sound).long i (omega (arith, n-is)));
        pools = omega (arith, s.size);
        long = λ j h. subst (λ (p : Prefix). p.length ≤ longest) (sym (pool-here j h)) (good j h).1;
        within = λ j h. subst (λ (p : Prefix). end p ≤ addresses) (sym (pool-here j h)) (good j h).2;
        room = room;
      }

  pub sheet-is : (free : ℕ) → free ≡ length (free_in (rows t)) → head_text n free ++ scan_text (scan_first image base n k) ≡ sheet_text t
  unfolding sheet_text
  sheet-is free ef = ap₂ (λ (m f : ℕ). head_text m f ++ scan_text (scan_first image base n k)) s.leases ef ∙ ap (λ (rs : List Row). head_text (length (used_leases t)) (length (free_in (rows t))) ++ concat_map row_text rs) found_rows
