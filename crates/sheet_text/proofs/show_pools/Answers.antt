-- `sheet_text::show_pools` meets its contract: so far the first j pools are shown.
use Prim.Native.Nat.{ℕ, ◌-◌, ◌*◌}
use mathlib.Core.Path.{◌≡◌, refl, ap, ◌∙◌}
use mathlib.Core.List.{List}
use native.Mathlib.Omega.{arith}
use lib.ListN.{length, take, drop, length-drop}
use lib.Seq.{drop-drop}
use Rattle.image.specs.Image.{head_size, pool_size}
use Rattle.image_check.specs.Inner.{prefix_in, nth_pool}
use Rattle.image_check.proofs.RunLaws.{part-rest}
use Rattle.sheet_text.specs.InnerScan.{pool_shown}
use Rattle.sheet_text.proofs.ShowLaws.{showed-none, showed-pool, wrote-pools, ready-pool}
use Rattle.sheet_text.proofs.show_pools.Goals as goal

-- The pools begin behind the head.
pool-behind : (image : List ℕ) (j : ℕ) → nth_pool (take (length image - head_size) (drop head_size image)) j ≡ pool_shown image j
pool-behind image j = ap (λ (l : List ℕ). nth_pool l j) (part-rest image head_size) ∙ ap prefix_in (drop-drop (pool_size * j) head_size image)

pub loop-j-init : goal.loop-j-init
loop-j-init c = (showed-none _ _ _ _ _, refl)

pub pool-requires : goal.pool-requires
pool-requires c = omega (arith, c.requires.pools, length-drop head_size c.args.image.now)

pub show_prefix-at-requires : goal.show_prefix-at-requires
show_prefix-at-requires c =
    let l = c.loop-j in
    ready-pool _ _ _ _ c.args.out.now _ _ _ _ l.j c.pool.result c.requires (omega arith) (c.pool.ensures ∙ pool-behind c.args.image.now l.j) l.invariant.1 l.invariant.0

pub loop-j-preserved : goal.loop-j-preserved
loop-j-preserved c =
    let l = c.loop-j in
    let shown = c.show_prefix-at in
    (showed-pool c.args.image.now _ _ _ _ _ _ _ _ _ _ l.j c.pool.result (c.pool.ensures ∙ pool-behind c.args.image.now l.j) l.invariant.0 shown.ensures, shown.auto.out ∙ l.invariant.1)

pub returns : goal.returns
returns c = let l = c.loop-j in wrote-pools _ _ _ _ _ _ _ _ l.j _ (omega arith) l.invariant.0

pub shape_of-out : goal.shape_of-out
shape_of-out c = c.loop-j.invariant.1
