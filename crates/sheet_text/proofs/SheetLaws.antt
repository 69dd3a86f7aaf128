-- What the code finds in the image of a sound table: the rows of its sheet, and how many of them are free.
-- Assumes nothing.
use Prim.Native.Nat.{ℕ, zero, suc, ◌≤◌, ◌<◌}
use mathlib.Core.Path.{◌≡◌, refl, sym, ap, ap₂, subst, ◌∙◌}
use mathlib.Core.Logic.{inr, ⊎_elim, by_cases}
use mathlib.Core.Bool.{true, false, not}
use mathlib.Core.List.{List, [], ◌∷◌, ◌++◌, map}
use mathlib.Core.Option.{Option, none, some}
use native.Mathlib.Decide.{dec_le}
use native.Mathlib.Omega.{arith}
use lib.ListN.{length, drop, get_or, length-map, get_or-map}
use lib.Dec.{eqb}
use borrow.Author.Tests.{lt-ltb, le-ltb}
use Rattle.lists.specs.Lists.{All, Any, and}
use Rattle.lists.specs.Put.{put}
use Rattle.lists.proofs.Tests.{bool_cases, cond-true, cond-false, and-list-to}
use Rattle.lists.proofs.ListLaws.{all_map, all-image}
use Rattle.lists.proofs.IndexLaws.{all-at}
use Rattle.lists.proofs.FilterLaws.{filter-fewer}
use Rattle.lists.proofs.PutLaws.{put_front}
use Rattle.prefix.specs.declared.Prefix.{Prefix}
use Rattle.prefix.specs.Prefixes.{longest, end, Aligned, Inside}
use Rattle.table.specs.declared.Pool.{Pool}
use Rattle.table.specs.declared.Lease.{Lease}
use Rattle.table.specs.declared.LeaseTable.{LeaseTable}
use Rattle.table.specs.Table.{pool_slots, lease_slots, addresses, pool_prefix, prefix_of, no_lease, empty?, unused?, prefixes_of, pools_of, sound}
use Rattle.table.proofs.Ascending.{Ascending, ascending-low, ascending-image}
use Rattle.table.proofs.TableLaws.{GoodPool, Good, Fine, sound-pool-slots, sound-slots, sound-pools, sound-used, sound-fine}
use Rattle.image.specs.Fields.{Run}
use Rattle.image.specs.declared.Head.{Head}
use Rattle.image.specs.declared.Form.{Form}
use Rattle.image.specs.Image.{used_pools, used_leases, head_size}
use Rattle.image.specs.Reading.{table_with, head_at_in, pools_at, leases_at_in, whole, after_head_in, load_in, form_of, load_saved}
use Rattle.sheet_text.specs.declared.Used.{Used}
use Rattle.std.specs.Prelude.{Result, Ok, Err}
use Rattle.sheet_text.specs.declared.SheetFault.{SheetFault}
use Rattle.sheet_text.specs.declared.SheetFault.TheVariants.{NotSound, TooSmall}
use Rattle.sheet_text.specs.Sheet.{used_by, prefix_used, leases_shown, rows, sheet_text}
use Rattle.sheet_text.specs.Answers.{into, sheet_of, sheet_of_loaded, sheet_of_image}
use Rattle.sheet_text.specs.InnerScan.{scan_all}
use Rattle.sheet_text.proofs.RowLaws.{Blocks}
use Rattle.sheet_text.proofs.PoolLaws.{ScannedAll, scanned-all}

-- BY INDEX

ascending-at : {A : Type 0} (pre : A → Prefix) (d : A) (from : ℕ) (xs : List A) → Ascending pre from xs → (j k : ℕ) → j < k → k < length xs
    → end (pre (get_or xs j d)) ≤ (pre (get_or xs k d)).network
ascending-at pre d from [] s j k h l = absurd (omega arith)
ascending-at pre d from (x ∷ xs) s j zero h l = absurd (omega arith)
ascending-at pre d from (x ∷ xs) s zero (suc k) h l = all-at (λ y. end (pre x) ≤ (pre y).network) xs (ascending-low pre (end (pre x)) xs s.1) k d (omega arith)
ascending-at pre d from (x ∷ xs) s (suc j) (suc k) h l = ascending-at pre d (end (pre x)) xs s.1 j k (omega arith) (omega arith)

-- A SOUND TABLE

abbrev pub blank : Used
blank = used_by no_lease

module _ (t : LeaseTable) (e : sound t ≡ true) where
  fine : Fine (pools_of t) t.last 0 (used_leases t)
  fine = subst (Fine (pools_of t) t.last 0) (sym (sound-used t e)) (sound-fine t e t.last)

  pub shown-at : (k : ℕ) → get_or (leases_shown t) k blank ≡ used_by (get_or (used_leases t) k no_lease)
  shown-at k = get_or-map used_by (used_leases t) k no_lease

  good-at : (k : ℕ) → k < length (leases_shown t) → Good (pools_of t) t.last (get_or (used_leases t) k no_lease)
  good-at k h = all-at (Good (pools_of t) t.last) (used_leases t) fine.0 k no_lease (omega (arith, length-map (used_leases t) used_by))

  pub shown-blocks : Blocks (leases_shown t) blank
  shown-blocks = record {
    long = λ k h. subst (λ (x : Used). x.length ≤ longest) (sym (shown-at k)) (good-at k h).long;
    aligned = λ k h. subst (λ (x : Used). Aligned (prefix_used x)) (sym (shown-at k)) (good-at k h).aligned;
    ascend = λ j k h l.
        subst (λ (x : Used). end (prefix_used x) ≤ (get_or (leases_shown t) k blank).network) (sym (shown-at j))
        (subst (λ (x : Used). end (prefix_of (get_or (used_leases t) j no_lease)) ≤ x.network) (sym (shown-at k))
        (ascending-at prefix_of no_lease 0 (used_leases t) fine.1 j k h (omega (arith, l, length-map (used_leases t) used_by))));
  }

  abbrev pools : List Pool
  pools = used_pools t

  pub pools-are : pools_of t ≡ map pool_prefix pools
  unfolding prefixes_of
  pools-are = refl

  pub pools-good : All (λ p. (8 ≤ p.length) × (p.length ≤ longest) × (end p ≤ addresses)) (pools_of t)
  pools-good =
      subst (All (λ p. (8 ≤ p.length) × (p.length ≤ longest) × (end p ≤ addresses))) (sym pools-are)
      (all-image pool_prefix (λ p. (8 ≤ p.length) × (p.length ≤ longest) × (end p ≤ addresses)) pools
      (all_map (λ p (g : GoodPool p). (g.short, g.long, g.within)) pools (sound-pools t e).good))

  pub pools-within : All (λ p. end p ≤ addresses) (pools_of t)
  pools-within = all_map (λ p (g : (8 ≤ p.length) × (p.length ≤ longest) × (end p ≤ addresses)). g.2) (pools_of t) pools-good

  pub pools-number : length (pools_of t) ≤ pool_slots
  pools-number = omega (arith, ap length pools-are, length-map pools pool_prefix, filter-fewer (λ p. not (unused? p)) t.pools, sound-pool-slots t e)

  pub leases-number : length (used_leases t) ≤ lease_slots
  leases-number = omega (arith, filter-fewer (λ x. not (empty? x)) t.leases, sound-slots t e)

  -- What the walk finds.
  pub all_found : ScannedAll (leases_shown t) blank shown-blocks (pools_of t) 0 (scan_all (λ k. get_or (leases_shown t) k blank) (length (leases_shown t)) (pools_of t) 0)
  all_found =
      scanned-all (leases_shown t) blank shown-blocks (pools_of t) 0 0
      (all_map (λ p (g : (8 ≤ p.length) × (p.length ≤ longest) × (end p ≤ addresses)). (g.0, g.1)) (pools_of t) pools-good)
      (subst (All Aligned) (sym pools-are) (all-image pool_prefix Aligned pools (all_map (λ p (g : GoodPool p). g.aligned) pools (sound-pools t e).good)))
      (subst (Ascending (λ p. p) 0) (sym pools-are) (ascending-image pool_prefix 0 pools (sound-pools t e).ascending))
      (record { bound = omega arith; before = λ k h. absurd (omega arith); later = λ k h l. omega arith })
      (λ k h. inr (subst (λ (x : Used). Any (Inside (prefix_used x)) (pools_of t)) (sym (shown-at k)) (good-at k h).pooled))

  pub rows-found : (scan_all (λ k. get_or (leases_shown t) k blank) (length (leases_shown t)) (pools_of t) 0).rows ≡ rows t
  unfolding rows
  rows-found = all_found.rows

-- WHAT IS ANSWERED

module _ (text l : List ℕ) where
  pub into-small : length l < length text → (Err TooSmall, l) ≡ into text l
  into-small h = rw (lt-ltb (length l) (length text) h) refl

  into-front : length text ≤ length l → (Ok (length text), text ++ drop (length text) l) ≡ into text l
  into-front h = rw (le-ltb (length l) (length text) h) refl

  pub into-written : (size : ℕ) (l' : List ℕ) → size ≡ length text → size ≤ length l → l' ≡ put l 0 text → (Ok size, l') ≡ into text l
  into-written size l' es h el = ap₂ (λ (k : ℕ) (m : List ℕ). (Ok k, m)) es (el ∙ put_front text l (omega arith)) ∙ into-front (omega arith)

-- What loads is sound.
whole-sound : (u t : LeaseTable) (rest : List ℕ) → whole u rest ≡ some t → sound t ≡ true
whole-sound u t rest f =
    ⊎_elim
    (λ (b : and (eqb (length rest) 0 ∷ sound u ∷ []) ≡ true).
    let same : ◌≡◌ {A = Option LeaseTable} (some u) (some t) = sym (cond-true _ (some u) none b) ∙ f in
    let same-table : u ≡ t = cc in
    ap sound (sym same-table) ∙ (and-list-to (eqb (length rest) 0 ∷ sound u ∷ []) b).1.0)
    (λ (b : and (eqb (length rest) 0 ∷ sound u ∷ []) ≡ false).
    let never : ◌≡◌ {A = Option LeaseTable} none (some t) = sym (cond-false _ (some u) none b) ∙ f in
    let z : ◌≡◌ {A = ℕ} 0 1 = cc in absurd (omega arith))
    (bool_cases (and (eqb (length rest) 0 ∷ sound u ∷ [])))

pub loads-sound : (form : Form) (s : List ℕ) (t : LeaseTable) → load_in form s ≡ some t → sound t ≡ true
unfolding load_in
loads-sound form s t e = cases (head_at_in form s) e
  where
    cases : (o : Option Head) → after_head_in form o (drop head_size s) ≡ some t → sound t ≡ true
    cases none f = let z : ◌≡◌ {A = ℕ} 0 1 = cc in absurd (omega arith)
    cases (some x) f =
        let ps : Run Pool = pools_at (drop head_size s) in
        let ls : Run Lease = leases_at_in form ps.rest in
        whole-sound (table_with x ps.items ls.items) t ls.rest f

module _ (image l : List ℕ) where
  pub image-sound : (t : LeaseTable) → load_saved image ≡ some t → into (sheet_text t) l ≡ sheet_of_image image l
  unfolding sheet_of sheet_of_image
  image-sound t e =
      let sheet : sheet_of t l ≡ into (sheet_text t) l = rw (loads-sound (form_of image) image t e) refl in
      sym (ap (λ (o : Option LeaseTable). sheet_of_loaded o l) e ∙ sheet)

  pub image-unsound : load_saved image ≡ none → (Err NotSound, l) ≡ sheet_of_image image l
  unfolding sheet_of_image
  image-unsound e = ap (λ (o : Option LeaseTable). sheet_of_loaded o l) (sym e)

  -- What holds of each of its answers.
  pub answer-cases : (P : Result ℕ SheetFault × List ℕ → Type 0) → P (Err NotSound, l) → ((t : LeaseTable) → sound t ≡ true → length l < length (sheet_text t) → P (Err TooSmall, l))
      → ((t : LeaseTable) → sound t ≡ true → length (sheet_text t) ≤ length l → P (Ok (length (sheet_text t)), sheet_text t ++ drop (length (sheet_text t)) l)) → P (sheet_of_image image l)
  answer-cases P unsound small written = cases (load_saved image) refl
    where
      cases : (o : Option LeaseTable) → load_saved image ≡ o → P (sheet_of_image image l)
      cases none e = subst P (image-unsound e) unsound
      cases (some t) e =
          subst P (image-sound t e)
          (by_cases (dec_le (length (sheet_text t)) (length l))
          (λ h. subst P (into-front (sheet_text t) l h) (written t (loads-sound (form_of image) image t e) h))
          (λ h. let h₁ : length l < length (sheet_text t) = omega arith in subst P (into-small (sheet_text t) l h₁) (small t (loads-sound (form_of image) image t e) h₁)))
