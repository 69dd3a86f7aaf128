-- Laws of the pool that contains an address.
-- Assumes nothing.
use Prim.Native.Nat.{ℕ, zero, suc, ◌+◌, ◌*◌, ◌≤◌, ◌<◌}
use native.Mathlib.Omega.{arith}
use mathlib.Core.Path.{◌≡◌, refl, sym, ap, ◌∙◌}
use mathlib.Core.Logic.{⊎_elim}
use mathlib.Core.Bool.{Bool, true, false, not, ◌&&◌}
use mathlib.Core.List.{List, [], ◌∷◌, map}
use lib.ListN.{length, get_or, take, drop}
use lib.Seq.{drop-drop}
use lib.Dec.{leb, ltb, eqb}
use borrow.Author.Tests.{lt-leb, le-leb, ltb-true, eqb-true, eqb-false}
use Rattle.lists.specs.Lists.{filter}
use Rattle.lists.proofs.Tests.{bool_cases, and-to}
use Rattle.lists.proofs.DropLaws.{drop_at, drop-end}
use Rattle.lists.proofs.ListLaws.{all_map}
use Rattle.lists.proofs.FilterLaws.{filter-yes, filter-no, filter_none, filter-pass, filter-same-on}
use Rattle.prefix.specs.declared.Prefix.{Prefix}
use Rattle.prefix.specs.Prefixes.{end}
use Rattle.table.specs.declared.Pool.{Pool}
use Rattle.table.specs.declared.LeaseTable.{LeaseTable}
use Rattle.table.specs.Table.{no_pool, pool_prefix, pools_of, sound, unused?}
use Rattle.table.proofs.Ascending.{Ascending, ascending-low}
use Rattle.table.proofs.TableLaws.{sound-pools}
use Rattle.image.specs.Image.{head_size, pool_size, used_pools, image_of}
use Rattle.image.specs.Reading.{pool_in}
use Rattle.image_records.proofs.PoolRecords.{image-pools}
use Rattle.option.specs.Reading.{four}
use Rattle.ledger.specs.Ledger.{contains?, narrowed_to}
use Rattle.ledger.proofs.GroundLaws.{ground-filtered}
use mathlib.Core.Option.{some}
use Rattle.std.specs.Prelude.{Some, None}
use Rattle.call_ground.specs.Ground.{in_pool?, one_pool, PoolOf}

-- The pool with this index in a buffer.
abbrev pub pool_at : List ℕ → ℕ → Pool
pool_at image k = pool_in (drop (head_size + pool_size * k) image)

-- Pools that ascend: at most one contains the address, the first that does.
pub past : (a : ℕ) (p : Pool) → a < p.network → in_pool? a p ≡ false
past a p h = ap (λ (b : Bool). b && (ltb a (end (pool_prefix p)) && true)) (lt-leb p.network a h)

pub reached : (a : ℕ) (p : Pool) → p.network ≤ a → (q : Prefix) (stop : ℕ) → q ≡ pool_prefix p → stop ≡ end q → ltb a stop ≡ in_pool? a p
reached a p h q stop e f =
    ap (ltb a) (f ∙ ap end e)
    ∙ sym (and-true (ltb a (end (pool_prefix p))))
    ∙ sym (ap (λ (b : Bool). b && (ltb a (end (pool_prefix p)) && true)) (le-leb p.network a h))
  where
    and-true : (b : Bool) → (b && true) ≡ b
    and-true true = refl
    and-true false = refl

filter-one : (a from : ℕ) (ps : List Pool) → Ascending pool_prefix from ps → (r : ℕ) → r ≤ length ps → ((j : ℕ) → j < r → in_pool? a (get_or ps j no_pool) ≡ false)
    → (r < length ps → in_pool? a (get_or ps r no_pool) ≡ true) → filter (in_pool? a) ps ≡ take 1 (drop r ps)
filter-one a from [] s zero h fails passes = refl
filter-one a from [] s (suc r) h fails passes = absurd (omega arith)
filter-one a from (p ∷ ps) s zero h fails passes =
    let here : in_pool? a p ≡ true = passes (omega arith) in
    let below : a < end (pool_prefix p) = ltb-true a (end (pool_prefix p)) (and-to (ltb a (end (pool_prefix p))) true (and-to (leb p.network a) _ here).1).0 in
    let later = ascending-low pool_prefix (end (pool_prefix p)) ps s.1 in
    filter-yes (in_pool? a) p ps here
    ∙ ap (λ (l : List Pool). p ∷ l) (filter_none (in_pool? a) ps (all_map (λ (q : Pool) (k : end (pool_prefix p) ≤ q.network). past a q (omega arith)) ps later))
filter-one a from (p ∷ ps) s (suc r) h fails passes =
    filter-no (in_pool? a) p ps (fails 0 (omega arith))
    ∙ filter-one a (end (pool_prefix p)) ps s.1 r (omega arith) (λ j k. fails (suc j) (omega arith)) (λ k. passes (omega arith))

contains-used : (a : ℕ) (p : Pool) → not (unused? p) ≡ true → contains? a p ≡ in_pool? a p
contains-used a p e = ap (λ (b : Bool). b && in_pool? a p) e

-- No pool before the k-th contains the address.
abbrev pub NoneBefore : List ℕ → ℕ → ℕ → Type 0
NoneBefore image address k = (j : ℕ) → j < k → in_pool? address (pool_at image j) ≡ false

pub none_first : (image : List ℕ) (address : ℕ) → NoneBefore image address 0
none_first image address j h = absurd (omega arith)

pub none_more : (image : List ℕ) (address k : ℕ) → NoneBefore image address k → in_pool? address (pool_at image k) ≡ false → NoneBefore image address (k + 1)
none_more image address k fails here j h =
    ⊎_elim
    (λ (e : eqb j k ≡ true). ap (λ (i : ℕ). in_pool? address (pool_at image i)) (eqb-true j k e) ∙ here)
    (λ (e : eqb j k ≡ false). let other = eqb-false j k e in fails j (omega (arith, other)))
    (bool_cases (eqb j k))

module _ (image : List ℕ) (pools address : ℕ) where
  -- The pools that contain the address, where none before the r-th does and the r-th does, if there is one.
  area : (r : ℕ) → r ≤ pools → NoneBefore image address r → (r < pools → in_pool? address (pool_at image r) ≡ true)
      → (t : LeaseTable) (bytes : ℕ) → sound t ≡ true → image_of t ≡ take bytes image → pools ≡ length (used_pools t) → (s : List ℕ) → address ≡ four s 2
      → pools_of (narrowed_to (some s) t) ≡ map pool_prefix (take 1 (drop r (used_pools t)))
  area r within fails passes t bytes e i n s f =
      let ps : List Pool = used_pools t in
      let at : (k : ℕ) → k < pools → pool_at image k ≡ get_or ps k no_pool =
      λ k h. ap pool_in (sym (drop-drop (pool_size * k) head_size image)) ∙ image-pools t image bytes i k (omega (arith, n)) in
      let one : filter (in_pool? address) ps ≡ take 1 (drop r ps) =
      filter-one address 0 ps (sound-pools t e).ascending r (omega (arith, n, within))
      (λ j h. ap (in_pool? address) (sym (at j (omega arith))) ∙ fails j h)
      (λ h. ap (in_pool? address) (sym (at r (omega (arith, n)))) ∙ passes (omega (arith, n))) in
      ground-filtered s t
      ∙ ap (λ (a : ℕ). map pool_prefix (filter (contains? a) ps)) (sym f)
      ∙ ap (map pool_prefix)
      (filter-same-on (contains? address) (in_pool? address) ps
      (all_map (λ (p : Pool) (k : not (unused? p) ≡ true). contains-used address p k) ps (filter-pass (λ p. not (unused? p)) t.pools)) ∙ one)

  pub pool-of : (r : ℕ) → r < pools → NoneBefore image address r → in_pool? address (pool_at image r) ≡ true → PoolOf image pools address (Some r)
  pool-of r lt fails passes = record { within = lt; area = area r (omega arith) fails (λ h. passes) }

  pub pool-of-none : NoneBefore image address pools → PoolOf image pools address None
  pool-of-none fails = record {
    within = tt;
    area = λ t bytes e i n s f.
        area pools (omega arith) fails (λ h. absurd (omega arith)) t bytes e i n s f
        ∙ ap (λ (l : List Pool). map pool_prefix (take 1 l)) (drop-end (used_pools t) pools (omega (arith, n)));
  }

-- The pool with an index that is below their number.
pub one-pool : (ps : List Pool) (r : ℕ) → r < length ps → one_pool ps (Some r) ≡ pool_prefix (get_or ps r no_pool) ∷ []
one-pool ps r h = ap (λ (l : List Pool). map pool_prefix (take 1 l)) (drop_at ps r no_pool h)
