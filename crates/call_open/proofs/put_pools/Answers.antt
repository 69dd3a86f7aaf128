-- `call_open::put_pools` meets its contract: the first i records stand one after another.
use Prim.Native.Nat.{ℕ, ◌+◌, ◌*◌, ◌≤◌, ◌<◌}
use mathlib.Core.Path.{◌≡◌, refl, sym, ap, ◌∙◌}
use mathlib.Core.List.{List, map}
use native.Mathlib.Omega.{arith}
use lib.ListN.{length, take, get_or, length-map, get_or-map}
use lib.Seq.{take_all}
use Rattle.lists.specs.Lists.{concat_map}
use Rattle.lists.specs.Put.{put}
use Rattle.table.specs.declared.Pool.{Pool}
use Rattle.table.specs.Table.{no_pool}
use Rattle.table_open.specs.Keys.{pool_of}
use Rattle.image.specs.Image.{head_size, pool_size, pool_record}
use Rattle.image.proofs.ImageLaws.{length-pool}
use Rattle.image.proofs.WriteLaws.{more-put}
use Rattle.call_open.proofs.put_pools.Goals as goal

pub loop-i-init : goal.loop-i-init
unfolding put
loop-i-init c = (refl, refl)

-- One record more, of the pool that the next number stands for.
one_more : (l l₁ l₂ keys : List ℕ) (i : ℕ) (p : Pool) → i < length keys → p ≡ pool_of (get_or keys i 0)
    → l₁ ≡ put l head_size (concat_map pool_record (take i (map pool_of keys))) → l₂ ≡ put l₁ (head_size + pool_size * i) (pool_record p)
    → l₂ ≡ put l head_size (concat_map pool_record (take (i + 1) (map pool_of keys)))
one_more l l₁ l₂ keys i p lt is e₁ e₂ =
    more-put pool_record pool_size length-pool l l₁ l₂ head_size i (map pool_of keys) no_pool (omega (arith, length-map keys pool_of)) e₁
    (e₂ ∙ ap (λ (q : Pool). put l₁ (head_size + pool_size * i) (pool_record q)) (is ∙ sym (get_or-map pool_of keys i 0)))

pub loop-i-preserved : goal.loop-i-preserved
loop-i-preserved c =
    let loop = c.loop-i in (
      one_more c.args.image.now loop.image _ c.args.keys.now loop.i c.pool_of.result (omega arith) c.pool_of.ensures loop.invariant.0 c.put_pool.ensures,
      c.put_pool.auto.out ∙ loop.invariant.1,
    )

pub shape_of-image : goal.shape_of-image
shape_of-image c = c.loop-i.invariant.1

pub returns : goal.returns
returns c =
    let loop = c.loop-i in
    let keys = c.args.keys.now in
    loop.invariant.0 ∙ ap (λ (ps : List Pool). put c.args.image.now head_size (concat_map pool_record ps)) (take_all loop.i (map pool_of keys) (omega (arith, length-map keys pool_of)))
