-- Laws of row 19: where the pool of the address is found the call has ground, that pool alone; and a call without option 118 has all of it.
-- Assumes nothing.
use Prim.Native.Nat.{ℕ, ◌≤◌, ◌<◌, ◌*◌}
use native.Mathlib.Omega.{arith}
use mathlib.Core.Path.{◌≡◌, refl, ap, ◌∙◌}
use mathlib.Core.Logic.{inl, inr}
use mathlib.Core.Bool.{true, false}
use mathlib.Core.List.{List, [], ◌∷◌, map}
use mathlib.Core.Option.{Option, none, some}
use lib.ListN.{length, get_or, take, drop}
use borrow.Author.Tests.{ltb-true}
use Rattle.lists.specs.Lists.{Any}
use Rattle.lists.proofs.Tests.{and-list-to}
use Rattle.lists.proofs.ListLaws.{all-member}
use Rattle.lists.proofs.DropLaws.{all-at}
use Rattle.prefix.specs.declared.Prefix.{Prefix}
use Rattle.prefix.specs.Prefixes.{end}
use Rattle.option.specs.Reading.{four}
use Rattle.table.specs.declared.Pool.{Pool}
use Rattle.table.specs.declared.LeaseTable.{LeaseTable}
use Rattle.table.specs.Table.{addresses, no_pool, pool_prefix, prefixes_of, pools_of, table_rules, sound}
use Rattle.table.proofs.TableLaws.{GoodPool, sound-pools}
use Rattle.image.specs.Image.{head_size, pool_size, used_pools, image_of}
use Rattle.image.specs.Reading.{pool_in}
use Rattle.image_records.proofs.PoolRecords.{image-pools}
use Rattle.ledger.specs.Ledger.{Call, nothing?, narrowed_to, narrowed}
use Rattle.ledger.proofs.GroundLaws.{narrowed_none}
use Rattle.std.specs.Prelude.{Some, None}
use Rattle.call_ground.specs.Ground.{Index, one_pool, PoolOf}
use Rattle.call_ground.proofs.PoolLaws.{one-pool}

module _ (t : LeaseTable) (e : sound t ≡ true) (image : List ℕ) (bytes : ℕ) (i : image_of t ≡ take bytes image) (pools address : ℕ) (r : Index) (many : pools ≡ length (used_pools t))
    (p : PoolOf image pools address r) (c : Call) (s : List ℕ) (carries : c.selection ≡ some s) (four_is : address ≡ four s 2) where
  pub ground-is : pools_of (narrowed t c) ≡ one_pool (used_pools t) r
  unfolding narrowed
  ground-is = ap (λ (o : Option (List ℕ)). pools_of (narrowed_to o t)) carries ∙ p.area t bytes e i many s four_is

  -- Row 19 applies, or not.
  pub groundless : r ≡ None → nothing? (pools_of (narrowed t c)) ≡ true
  groundless h = ap nothing? (ground-is ∙ ap (one_pool (used_pools t)) h)

  module _ (k : ℕ) (found : r ≡ Some k) (h : k < pools) where
    abbrev pub theirs : Prefix
    theirs = pool_prefix (get_or (used_pools t) k no_pool)

    pub ground-one : pools_of (narrowed t c) ≡ theirs ∷ []
    ground-one = ground-is ∙ ap (one_pool (used_pools t)) found ∙ one-pool (used_pools t) k (omega (arith, many))

    pub grounded : nothing? (pools_of (narrowed t c)) ≡ false
    grounded = ap nothing? ground-one

    -- It is one of the table's, ends within the addresses, and stands in the image.
    pub ground-member : Any (λ q. q ≡ theirs) (pools_of t)
    unfolding prefixes_of
    ground-member = member (used_pools t) k (omega (arith, many))
      where
        member : (ps : List Pool) (k : ℕ) → k < length ps → Any (λ q. q ≡ pool_prefix (get_or ps k no_pool)) (map pool_prefix ps)
        member ps k l = any-image ps (all-at (λ v. Any (λ x. x ≡ v) ps) ps (all-member ps) k no_pool l)
          where
            any-image : (qs : List Pool) → Any (λ x. x ≡ get_or ps k no_pool) qs → Any (λ q. q ≡ pool_prefix (get_or ps k no_pool)) (map pool_prefix qs)
            any-image [] x' = elim x' [ ]
            any-image (x ∷ qs) (inl z) = inl (ap pool_prefix z)
            any-image (x ∷ qs) (inr z) = inr (any-image qs z)

    pub ground-ends : end theirs ≤ addresses
    ground-ends = (all-at GoodPool (used_pools t) (sound-pools t e).good k no_pool (omega (arith, many))).within

    pub ground-read : pool_prefix (pool_in (drop (pool_size * k) (drop head_size image))) ≡ theirs
    ground-read = ap pool_prefix (image-pools t image bytes i k (omega (arith, many)))

-- Without option 118 row 19 never applies: a sound table has a pool.
pub always-grounded : (t : LeaseTable) → sound t ≡ true → (c : Call) → c.selection ≡ none → nothing? (pools_of (narrowed t c)) ≡ false
unfolding sound
always-grounded t e c free =
    let rules = and-list-to (table_rules t) e in
    ap (λ (u : LeaseTable). nothing? (pools_of u)) (narrowed_none t c free) ∙ some-pool (pools_of t) (ltb-true 0 (length (pools_of t)) rules.1.1.1.0)
  where
    some-pool : (ps : List Prefix) → 0 < length ps → nothing? ps ≡ false
    some-pool [] h = absurd (omega arith)
    some-pool (p ∷ ps) h = refl
