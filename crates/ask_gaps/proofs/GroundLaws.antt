-- The ground of a sound table's image, and how many gaps it can have.
-- Assumes nothing.
use Prim.Native.Nat.{ℕ, ◌+◌, ◌*◌, ◌≤◌, ◌<◌}
use mathlib.Core.Path.{◌≡◌, refl, sym, ap, subst, ◌∙◌}
use mathlib.Core.Logic.{⊎_elim}
use mathlib.Core.Bool.{true, false}
use mathlib.Core.List.{List, [], ◌∷◌}
use native.Mathlib.Nat.{zero-add}
use native.Mathlib.Omega.{arith}
use lib.ListN.{length, take, drop, get_or, length-append, length-map, get_or-map}
use lib.Seq.{length-take-le}
use lib.Dec.{ltb}
use Rattle.lists.proofs.Tests.{bool_cases, cond-true, cond-false}
use Rattle.lists.proofs.ListLaws.{all_map}
use Rattle.lists.proofs.IndexLaws.{all-at}
use Rattle.prefix.specs.declared.Prefix.{Prefix}
use Rattle.prefix.specs.Prefixes.{end}
use Rattle.table.specs.declared.LeaseTable.{LeaseTable}
use Rattle.table.specs.Table.{addresses, no_pool, pool_prefix, prefixes_of, pools_of, sound}
use Rattle.table.proofs.TableLaws.{sound-pools, GoodPool}
use Rattle.image.specs.Image.{head_size, pool_size, used_pools, used_leases, image_of}
use Rattle.image_check.specs.Inner.{nth_pool}
use Rattle.image_records.proofs.PoolRecords.{image-pools}
use Rattle.image_records.proofs.SoundLaws.{image-records}
use Rattle.gap_list.specs.declared.Ends.{Ends}
use Rattle.gap_list.specs.Gaps.{Gap, between, PoolGaps, pool_gaps, gaps_of}
use Rattle.gap_list.specs.Columns.{gap_of, held_in}
use Rattle.ask_gaps.specs.Ground.{Ground}

-- THE GROUND

-- A buffer that the image of a sound table is the front of.
module _ (t : LeaseTable) (e : sound t ≡ true) (l : List ℕ) (bytes : ℕ) (image : image_of t ≡ take bytes l) where
  ground-pools : (k : ℕ) → k < length (used_pools t) → nth_pool (drop head_size l) k ≡ pool_prefix (get_or (used_pools t) k no_pool)
  ground-pools k h = ap pool_prefix (image-pools t l bytes image k h)

  pub area : Ground l 0 (length (used_pools t)) (head_size + pool_size * length (used_pools t)) (length (used_leases t)) (pools_of t) (used_leases t)
  unfolding prefixes_of
  area = record {
    pools-are = sym (length-map (used_pools t) pool_prefix);
    pool-at = λ k h. let lt : k < length (used_pools t) = omega (arith, length-map (used_pools t) pool_prefix) in ap (nth_pool (drop head_size l)) (zero-add k) ∙ ground-pools k lt ∙ sym (get_or-map pool_prefix (used_pools t) k no_pool);
    leases-are = refl;
    leases-at = image-records t l bytes image;
  }

  -- No pool ends past the last address.
  pub ground-ends : (k : ℕ) → k < length (used_pools t) → end (nth_pool (drop head_size l) k) ≤ addresses
  ground-ends k h =
      subst (λ (p : Prefix). end p ≤ addresses) (sym (ground-pools k h))
      (all-at (λ p. end (pool_prefix p) ≤ addresses) (used_pools t) (all_map (λ p (g : GoodPool p). g.within) (used_pools t) (sound-pools t e).good) k no_pool h)

-- HOW MANY GAPS: at most one for each pool and one for each lease.

between-few : (a b : ℕ) → length (between a b) ≤ 1
between-few a b =
    ⊎_elim (λ (c : ltb a b ≡ true). omega (arith, ap length (cond-true {A = List Gap} (ltb a b) (record { from = a; to = b } ∷ []) [] c)))
    (λ (c : ltb a b ≡ false). omega (arith, ap length (cond-false {A = List Gap} (ltb a b) (record { from = a; to = b } ∷ []) [] c)))
    (bool_cases (ltb a b))

pool-few : (from stop : ℕ) (xs : List Prefix) → length (pool_gaps from stop xs).gaps + length (pool_gaps from stop xs).left ≤ 1 + length xs
pool-few from stop [] = omega (arith, between-few from stop)
pool-few from stop (x ∷ xs) =
    ⊎_elim
    (λ (c : ltb x.network stop ≡ true).
    rw c (omega (arith, length-append (between from x.network) (pool_gaps (end x) stop xs).gaps, between-few from x.network, pool-few (end x) stop xs)))
    (λ (c : ltb x.network stop ≡ false). rw c (omega (arith, between-few from stop)))
    (bool_cases (ltb x.network stop))

gaps-few : (ps xs : List Prefix) → length (gaps_of ps xs) ≤ length ps + length xs
gaps-few [] xs = omega arith
gaps-few (p ∷ ps) xs =
    let s : PoolGaps = pool_gaps p.network (end p) xs in
    omega (arith, length-append s.gaps (gaps_of ps s.left), pool-few p.network (end p) xs, gaps-few ps s.left)

pub held-few : (es : List Ends) (r : ℕ) (ps xs : List Prefix) → r ≤ length es → held_in es r ≡ gaps_of ps xs → r ≤ length ps + length xs
held-few es r ps xs h e = omega (arith, length-take-le r es h, ap length e, length-map (take r es) gap_of, gaps-few ps xs)
