-- `image_check::pools_in` meets its contract: what is left to test and to count is what the bytes from the n-th pool on hold.
use Prim.Native.Nat.{◌*◌}
use mathlib.Core.Path.{◌≡◌, sym, ap, ◌∙◌}
use mathlib.Core.Bool.{Bool}
use native.Mathlib.Omega.{arith}
use lib.ListN.{drop, length-drop}
use Rattle.std.specs.Prelude.{Some}
use Rattle.std.specs.Bool.{then_some}
use Rattle.image.specs.Image.{pool_size}
use Rattle.image.proofs.FieldLaws.{Bytes, bytes_drop}
use Rattle.image_check.proofs.PoolLaws.{begins-long, begins-not, pools-none, pools-stop, pools-full, pools-stopped, pools-good}
use Rattle.image_check.proofs.pools_in.Goals as goal

pub loop-n-init : goal.loop-n-init
loop-n-init c = pools-none c.args.s.now

pub returns-then-not-pool_begins : goal.returns-then-not-pool_begins
returns-then-not-pool_begins c =
    let s = c.args.s.now in
    let l = c.loop-n in
    let bytes : Bytes s = λ i. omega (arith, c.type_inv.s i) in
    pools-stop s l.from l.n l.invariant (begins-not (drop (pool_size * l.n) s) (bytes_drop (pool_size * l.n) s bytes) (sym c.pool_begins.ensures ∙ c.if-not-pool_begins.true))

pub pool_at-p-requires : goal.pool_at-p-requires
pool_at-p-requires c =
    let s = c.args.s.now in
    omega (arith, begins-long (drop (pool_size * c.loop-n.n) s) (sym c.pool_begins.ensures ∙ c.if-not-pool_begins.false), length-drop (pool_size * c.loop-n.n) s)

pub returns-in_default : goal.returns-in_default
returns-in_default c =
    let s = c.args.s.now in
    let l = c.loop-n in
    let bytes : Bytes s = λ i. omega (arith, c.type_inv.s i) in
    c.then_some.ensures
    ∙ ap (λ (b : Bool). then_some b l.n) c.pool_unused.ensures
    ∙ pools-stopped s bytes l.from l.n l.invariant (omega arith) (sym c.pool_begins.ensures ∙ c.if-not-pool_begins.false) c.pool_at-p.result c.pool_at-p.ensures (sym c.pool_end.ensures ∙ c.in_default.is)

pub loop-n-preserved : goal.loop-n-preserved
loop-n-preserved c =
    let s = c.args.s.now in
    let l = c.loop-n in
    let bytes : Bytes s = λ i. omega (arith, c.type_inv.s i) in
    pools-good s bytes l.from l.n l.invariant (omega arith) (sym c.pool_begins.ensures ∙ c.if-not-pool_begins.false) c.pool_at-p.result c.pool_at-p.ensures c.in-Some.end (sym c.pool_end.ensures ∙ c.in-Some.is)

pub returns : goal.returns
returns c =
    let l = c.loop-n in
    let all : 8 ≡ l.n = omega (arith, l.invariant.few) in
    ap Some all ∙ pools-full c.args.s.now l.from l.n l.invariant (omega arith)
