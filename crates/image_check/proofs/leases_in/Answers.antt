-- `image_check::leases_in` meets its contract: after each pool the answer is that for the bytes from there on.
use Prim.Native.Nat.{ℕ, ◌+◌, ◌-◌, ◌*◌, ◌/◌, ◌≤◌, ◌<◌}
use mathlib.Core.Path.{◌≡◌, refl, sym, ap, ap₂, subst, ◌∙◌}
use native.Mathlib.Omega.{arith}
use lib.ListN.{length}
use Rattle.table.specs.Table.{lease_slots}
use Rattle.image.specs.declared.Form.{Form}
use Rattle.image.specs.Image.{lease_size_in, pool_size}
use Rattle.image_check.specs.InnerPass.{summary_with}
use Rattle.image_check.proofs.ScanLaws.{one_left, count-inside, count-many, count-uneven, count-few, same_count, pools-inside, scanned-size, reached-start, reached-end, reached-none}
use Rattle.image_check.proofs.leases_in.Goals as goal
use Rattle.image_check.proofs.leases_in.Goals.{else-loop-k-test, then-loop-k-test+then-pass-s}

-- As many leases as the bytes after the pools may have.
abbrev many : Form → ℕ → ℕ → ℕ
many form len from = (len - from) / lease_size_in form

pub overflow_mul-from : goal.overflow_mul-from
overflow_mul-from c = let a = c.args in omega (arith, pools-inside a.form a.head a.s.now a.n a.time c.requires)

pub overflow_sub-s : goal.overflow_sub-s
overflow_sub-s c = let a = c.args in pools-inside a.form a.head a.s.now a.n a.time c.requires

pub returns-then-count-gt-LEASES : goal.returns-then-count-gt-LEASES
returns-then-count-gt-LEASES c =
    let a = c.args in
    let inside = pools-inside a.form a.head a.s.now a.n a.time c.requires in
    let over : lease_slots < many a.form (length a.s.now) (pool_size * a.n) = subst (λ (z : ℕ). lease_slots < z) c.leases_of-count.ensures c.if-count-gt-LEASES.true in
    sym (scanned-size a.form a.head a.s.now a.n a.time c.requires (λ m few e. count-many (length a.s.now) (pool_size * a.n) inside a.form m over few e))

-- The leases lie within the bytes.
fits : (form : Form) (len from size count : ℕ) → from ≤ len → size ≡ lease_size_in form → count ≡ many form len from → from + size * count ≤ len
fits form len from size count inside s k = subst (λ (z : ℕ). from + z ≤ len) (sym (ap₂ (λ (x y : ℕ). x * y) s k)) (count-inside len from inside form)

pub overflow_mul-lease_size : goal.overflow_mul-lease_size
overflow_mul-lease_size c =
    let a = c.args in
    omega (arith, fits a.form (length a.s.now) (pool_size * a.n) _ _ (pools-inside a.form a.head a.s.now a.n a.time c.requires) c.lease_size.ensures c.leases_of-count.ensures)

pub overflow_add-from : goal.overflow_add-from
overflow_add-from c =
    let a = c.args in
    omega (arith, fits a.form (length a.s.now) (pool_size * a.n) _ _ (pools-inside a.form a.head a.s.now a.n a.time c.requires) c.lease_size.ensures c.leases_of-count.ensures)

pub returns-then-from-lease_size : goal.returns-then-from-lease_size
returns-then-from-lease_size c =
    let a = c.args in
    let inside = pools-inside a.form a.head a.s.now a.n a.time c.requires in
    let sizes = ap₂ (λ (x y : ℕ). pool_size * a.n + x * y) c.lease_size.ensures c.leases_of-count.ensures in
    sym (scanned-size a.form a.head a.s.now a.n a.time c.requires (λ m few e.
    count-uneven (length a.s.now) (pool_size * a.n) inside a.form m (λ q. c.if-from-lease_size.true (sizes ∙ q)) e))

pub loop-k-init : goal.loop-k-init
loop-k-init c =
    let a = c.args in
    let inside = pools-inside a.form a.head a.s.now a.n a.time c.requires in
    let sizes = ap₂ (λ (x y : ℕ). pool_size * a.n + x * y) c.lease_size.ensures c.leases_of-count.ensures in
    let ends : pool_size * a.n + lease_size_in a.form * many a.form (length a.s.now) (pool_size * a.n) ≡ length a.s.now = sym sizes ∙ c.if-from-lease_size.false in
    let few : many a.form (length a.s.now) (pool_size * a.n) ≤ lease_slots = subst (λ (z : ℕ). z ≤ lease_slots) c.leases_of-count.ensures c.if-count-gt-LEASES.false in (
      record { left = many a.form (length a.s.now) (pool_size * a.n); ends = ends; few = omega arith },
      reached-start a.form a.head a.s.now a.n a.time c.requires (count-few (length a.s.now) (pool_size * a.n) inside a.form few ends),
    )

pub pool-requires : goal.pool-requires
pool-requires c = let a = c.args in omega (arith, pools-inside a.form a.head a.s.now a.n a.time c.requires)

pub loop-k-preserved : goal.loop-k-preserved
loop-k-preserved c =
    let l = c.loop-k in
    (c.in_pool-pass.ensures.left, c.in_pool-pass.ensures.reached c.args.head c.args.n l.k c.requires refl (omega arith) c.pool.ensures l.invariant.1)

pub returns-then-pass-s-2 : goal.returns-then-pass-s-2
returns-then-pass-s-2 c =
    let a = c.args in
    let l = c.loop-k in
    let left = l.invariant.0 in
    elim c.loop-k-test.branch [
      | else-loop-k-test w ↦ sym (reached-none a.form a.head a.s.now a.n a.time c.requires l.k l.pass l.invariant.1 (omega (arith, w.loop-k-test.false)) (one_left l.pass.at (length a.s.now) left.left a.form left.ends (omega (arith, left.ends, c.if-pass-s-2.true))))
      | then-loop-k-test+then-pass-s w ↦ absurd (c.if-pass-s-2.true w.if-pass-s.true)
    ]

pub returns : goal.returns
returns c =
    let a = c.args in
    let l = c.loop-k in
    let count : ℕ = c.leases_of-count.result in
    let all : count ≡ l.invariant.1.leases = same_count a.form (pool_size * a.n) count l.invariant.1.leases (length a.s.now)
    (ap (λ (z : ℕ). pool_size * a.n + z * count) (sym c.lease_size.ensures) ∙ c.if-from-lease_size.false)
    (sym l.invariant.1.place ∙ c.if-pass-s-2.false) in
    ap (λ (m : ℕ). summary_with a.head a.n m l.pass.expired) all
    ∙ sym (reached-end a.form a.head a.s.now a.n a.time c.requires l.k l.pass l.invariant.1 (omega arith))
