-- The pools of an image, read and tested one by one.
-- Assumes nothing.
use Prim.Native.Nat.{ℕ, suc, ◌+◌, ◌-◌, ◌*◌, ◌≤◌, ◌<◌}
use mathlib.Core.Path.{◌≡◌, refl, sym, ap, subst, ◌∙◌}
use mathlib.Core.Logic.{⊎_elim}
use mathlib.Core.Bool.{Bool, true, false, ◌&&◌, true≢false}
use mathlib.Core.List.{List, [], ◌∷◌}
use mathlib.Core.Option.{none, some}
use native.Mathlib.Omega.{arith}
use lib.ListN.{length, drop, length-drop}
use lib.Seq.{drop-drop}
use lib.Dec.{leb, eqb}
use borrow.Author.Tests.{le-leb, leb-true, eqb-true, eq-eqb, not-true}
use Rattle.std.specs.Prelude.{Some, None}
use Rattle.std.specs.Bool.{then_some}
use Rattle.lists.specs.Lists.{and}
use Rattle.lists.proofs.Tests.{bool_cases, and-to, and-of, cond-true, cond-false, not-of, not-true⇒false, and-list-to, and-list-of}
use Rattle.prefix.specs.Prefixes.{end}
use Rattle.table.specs.declared.Pool.{Pool}
use Rattle.table.specs.Table.{pool_slots, pool_prefix, unused?, pool_ok, ascends?, pools_ascend?}
use Rattle.table.proofs.TableLaws.{pool_ok-to, long-not-unused}
use Rattle.image.specs.Fields.{number16, number32, Run, records}
use Rattle.image.specs.Image.{pool_size}
use Rattle.image.specs.Reading.{pool_in, pool_tests, pool_at, pools_at}
use Rattle.image.proofs.FieldLaws.{Bytes, bytes_drop, start-of, start-to, records-none, records-some}
use Rattle.image_check.specs.Inner.{pool_end, pool_count, pool_start, pool_begins?}
use Rattle.image_check.proofs.RunLaws.{pool-known}

-- What the end of a pool tells.
module _ (p : Pool) (from : ℕ) where
  pub end-none : pool_end p from ≡ None → from ≤ p.network → pool_ok p ≡ true → ⊥
  end-none e l o =
      let there = cond-true (leb from p.network && pool_ok p) (Some (end (pool_prefix p))) None (and-of (leb from p.network) (pool_ok p) (le-leb from p.network l) o) in
      cc

  end-some : (to : ℕ) → pool_end p from ≡ Some to → (from ≤ p.network) × (pool_ok p ≡ true) × (to ≡ end (pool_prefix p))
  end-some to e =
      ⊎_elim
      (λ (b : leb from p.network && pool_ok p ≡ true).
      let t = and-to (leb from p.network) (pool_ok p) b in
      let there = cond-true (leb from p.network && pool_ok p) (Some (end (pool_prefix p))) None b in
      (leb-true from p.network t.0, t.1, cc))
      (λ (b : leb from p.network && pool_ok p ≡ false).
      let there = cond-false (leb from p.network && pool_ok p) (Some (end (pool_prefix p))) None b in
      absurd (cc))
      (bool_cases (leb from p.network && pool_ok p))

pub begins-long : (s : List ℕ) → pool_begins? s ≡ true → pool_size ≤ length s
begins-long s e = leb-true pool_size (length s) (and-list-to (leb pool_size (length s) ∷ eqb (number32 s 0) pool_start ∷ []) e).0

-- A record that begins as a pool's is one, unless it is unused.
module _ (s : List ℕ) (bytes : Bytes s) where
  abbrev starts : List Bool
  starts = leb pool_size (length s) ∷ eqb (number32 s 0) pool_start ∷ []

  pub begins-not : pool_begins? s ≡ false → pool_at s ≡ none
  unfolding pool_at
  begins-not e =
      cond-false (and (pool_tests s)) (some (pool_in s)) none (not-true⇒false (and (pool_tests s)) (λ f.
      let t = and-list-to (pool_tests s) f in
      let start = start-to s bytes (pool_size - 2) 2 (omega arith) (eqb-true (number16 s 0) (pool_size - 2) t.1.0) (eqb-true (number16 s 2) 2 t.1.1.0) in
      true≢false (sym (and-list-of starts (t.0, (eq-eqb (number32 s 0) pool_start start, tt))) ∙ e)))

  pub begins-unused : unused? (pool_in s) ≡ true → pool_at s ≡ none
  unfolding pool_at
  begins-unused e =
      cond-false (and (pool_tests s)) (some (pool_in s)) none (not-true⇒false (and (pool_tests s)) (λ f.
      true≢false (sym e ∙ not-true (unused? (pool_in s)) (and-list-to (pool_tests s) f).1.1.1.0)))

  pub begins-pool : pool_begins? s ≡ true → unused? (pool_in s) ≡ false → pool_at s ≡ some (pool_in s)
  unfolding pool_at
  begins-pool e u =
      let t = and-list-to starts e in
      let start = start-of s bytes (pool_size - 2) 2 (omega arith) (eqb-true (number32 s 0) pool_start t.1.0) in
      cond-true (and (pool_tests s)) (some (pool_in s)) none
      (and-list-of (pool_tests s) (t.0, (eq-eqb (number16 s 0) (pool_size - 2) start.0, (eq-eqb (number16 s 2) 2 start.1, (not-of (unused? (pool_in s)) u, tt)))))

-- Pools that are counted are as a sound table has them.
pub counted-pools : (ps : List Pool) (n : ℕ) → pool_count ps ≡ Some n → (pools_ascend? ps ≡ true) × (n ≡ length ps)
counted-pools ps n e =
    ⊎_elim
    (λ (b : pools_ascend? ps ≡ true). let there = cond-true (pools_ascend? ps) (Some (length ps)) None b in (b, cc))
    (λ (b : pools_ascend? ps ≡ false). let there = cond-false (pools_ascend? ps) (Some (length ps)) None b in absurd (cc))
    (bool_cases (pools_ascend? ps))

abbrev pools_from : ℕ → List ℕ → Run Pool
pools_from limit s = records pool_at pool_size limit s

abbrev ascend? : ℕ → List Pool → Bool
ascend? from ps = ascends? unused? pool_ok pool_prefix from ps

-- After n pools that are as a sound table has them, which end at `from`: what is left to test, and to count.
pub record PoolsRead (s : List ℕ) (from n : ℕ) : Type 0 where
  pub few : n ≤ pool_slots
  pub inside : pool_size * n ≤ length s
  pub ascends : pools_ascend? (pools_at s).items ≡ ascend? from (pools_from (pool_slots - n) (drop (pool_size * n) s)).items
  pub counted : length (pools_at s).items ≡ n + length (pools_from (pool_slots - n) (drop (pool_size * n) s)).items

module _ (s : List ℕ) where
  pub pools-none : PoolsRead s 0 0
  pools-none = record { few = omega arith; inside = omega arith; ascends = refl; counted = omega arith }

  module _ (from n : ℕ) (r : PoolsRead s from n) where
    abbrev here : List ℕ
    here = drop (pool_size * n) s

    -- Nothing is left.
    over : (pools_from (pool_slots - n) here).items ≡ [] → Some n ≡ pool_count (pools_at s).items
    unfolding ascends?
    over e =
        let ps : List Pool = (pools_at s).items in
        let many : length ps ≡ n = omega (arith, r.counted, ap length e) in
        sym (cond-true (pools_ascend? ps) (Some (length ps)) None (r.ascends ∙ ap (ascend? from) e) ∙ ap Some many)

    pub pools-stop : pool_at here ≡ none → Some n ≡ pool_count (pools_at s).items
    pools-stop e = over (ap (λ (v : Run Pool). v.items) (records-none pool_at pool_size (pool_slots - n) here e))

    pub pools-full : pool_slots ≤ n → Some n ≡ pool_count (pools_at s).items
    unfolding records
    pools-full h = let z : pool_slots - n ≡ 0 = omega arith in over (ap (λ (k : ℕ). (pools_from k here).items) z)

    -- A pool more.
    module _ (p : Pool) (e : pool_at here ≡ some p) (lt : n < pool_slots) where
      later : List Pool
      later = (pools_from (pool_slots - (n + 1)) (drop (pool_size * (n + 1)) s)).items

      items : (pools_from (pool_slots - n) here).items ≡ p ∷ later
      unfolding later
      items =
          let less : pool_slots - n ≡ suc (pool_slots - (n + 1)) = omega arith in
          let place : pool_size * n + pool_size ≡ pool_size * (n + 1) = omega arith in
          ap (λ (k : ℕ). (pools_from k here).items) less
          ∙ ap (λ (v : Run Pool). v.items) (records-some pool_at pool_size (pool_slots - (n + 1)) here p e)
          ∙ ap (λ (u : List ℕ). p ∷ (pools_from (pool_slots - (n + 1)) u).items) (drop-drop pool_size (pool_size * n) s ∙ ap (λ (k : ℕ). drop k s) place)

      first : pools_ascend? (pools_at s).items ≡ leb from p.network && (pool_ok p && ascend? (end (pool_prefix p)) later)
      unfolding ascends?
      first = r.ascends ∙ ap (ascend? from) items ∙ cond-false (unused? p) _ _ (pool-known here p e).2

      pub pools-bad : (from ≤ p.network → pool_ok p ≡ true → ⊥) → None ≡ pool_count (pools_at s).items
      pools-bad bad =
          let ps : List Pool = (pools_at s).items in
          sym (cond-false (pools_ascend? ps) (Some (length ps)) None (not-true⇒false (pools_ascend? ps) (λ t.
          let a = and-to (leb from p.network) (pool_ok p && ascend? (end (pool_prefix p)) later) (sym first ∙ t) in
          bad (leb-true from p.network a.0) (and-to (pool_ok p) (ascend? (end (pool_prefix p)) later) a.1).0)))

      pub pools-room : pool_size * n + pool_size ≤ length s
      pools-room = omega (arith, (pool-known here p e).0, length-drop (pool_size * n) s)

      pub pools-more : from ≤ p.network → pool_ok p ≡ true → PoolsRead s (end (pool_prefix p)) (n + 1)
      unfolding later
      pools-more l o = record {
        few = omega arith;
        inside = omega (arith, pools-room);
        ascends = first ∙ rw (le-leb from p.network l, o);
        counted = r.counted ∙ omega (arith, ap length items);
      }

-- A record that begins as a pool's.
module _ (s : List ℕ) (bytes : Bytes s) (from n : ℕ) (r : PoolsRead s from n) (lt : n < pool_slots) (begins : pool_begins? (drop (pool_size * n) s) ≡ true) (p : Pool)
    (same : p ≡ pool_in (drop (pool_size * n) s)) where
  used-pool : unused? p ≡ false → pool_at (drop (pool_size * n) s) ≡ some p
  used-pool u = begins-pool (drop (pool_size * n) s) (bytes_drop (pool_size * n) s bytes) begins (ap unused? (sym same) ∙ u) ∙ ap some (sym same)

  -- It is not as a sound table has it.
  pub pools-stopped : pool_end p from ≡ None → then_some (unused? p) n ≡ pool_count (pools_at s).items
  pools-stopped bad =
      ⊎_elim
      (λ (u : unused? p ≡ true). rw u (pools-stop s from n r (begins-unused (drop (pool_size * n) s) (bytes_drop (pool_size * n) s bytes) (ap unused? (sym same) ∙ u))))
      (λ (u : unused? p ≡ false). rw u (pools-bad s from n r p (used-pool u) lt (end-none p from bad)))
      (bool_cases (unused? p))

  -- It is.
  pub pools-good : (to : ℕ) → pool_end p from ≡ Some to → PoolsRead s to (n + 1)
  pools-good to e =
      let good = end-some p from to e in
      subst (λ (f : ℕ). PoolsRead s f (n + 1)) (sym good.2) (pools-more s from n r p (used-pool (long-not-unused p (omega (arith, (pool_ok-to p good.1).short)))) lt good.0 good.1)
