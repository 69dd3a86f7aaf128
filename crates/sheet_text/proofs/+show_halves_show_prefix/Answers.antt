-- `sheet_text::show_prefix` and `show_halves`, which call each other, meet their contracts: 30 minus the length falls.
use Prim.Native.Nat.{ℕ, ◌+◌, ◌<◌}
use mathlib.Core.Path.{◌≡◌, ap, subst}
use native.Mathlib.Omega.{arith}
use Rattle.prefix.specs.Prefixes.{longest}
use Rattle.prefix.specs.declared.Prefix.{Prefix}
use Rattle.sheet_text.specs.InnerScan.{lease_shown, Scan, ScanReady}
use Rattle.sheet_text.specs.Sheet.{used_row, free_row}
use Rattle.sheet_text.specs.declared.Used.{Used}
use Rattle.sheet_text.proofs.ShowLaws.{fits-row, showed-row, showed-as, told_free, told-lease, told-used, told-halves, ready-low, ready-high, showed-halves}
use Rattle.sheet_text.proofs.+show_halves_show_prefix.Goals as goal

-- The lower half, the upper half.
pub show_halves-show_prefix-middle-requires : goal.show_halves-show_prefix-middle-requires
show_halves-show_prefix-middle-requires t c =
    let a = c.args in
    let lower = c.lower-low in
    let low : lower.result.length ≡ a.p.length + 1 = ap (λ (x : Prefix). x.length) lower.ensures in
    (omega (arith, c.decreases, c.requires.0, low), ready-low _ _ _ _ _ _ a.p lower.result c.upper-high.result c.requires.0 lower.ensures c.upper-high.ensures c.requires.1)

pub show_halves-show_prefix-requires : goal.show_halves-show_prefix-requires
show_halves-show_prefix-requires t c =
    let a = c.args in
    let upper = c.upper-high in
    let first = c.show_prefix-middle in
    let high : upper.result.length ≡ a.p.length + 1 = ap (λ (x : Prefix). x.length) upper.ensures in
    (omega (arith, c.decreases, c.requires.0, high), ready-high _ _ _ _ _ _ a.p c.lower-low.result upper.result c.requires.0 c.lower-low.ensures upper.ensures c.requires.1 _ _ _ first.auto.out first.ensures)

pub show_halves-returns : goal.show_halves-returns
show_halves-returns t c = showed-halves _ _ _ _ _ c.lower-low.ensures c.upper-high.ensures _ _ _ _ _ _ _ _ _ c.show_prefix-middle.ensures c.show_prefix.ensures

-- It is free.
pub show_prefix-show_row-requires : goal.show_prefix-show_row-requires
show_prefix-show_row-requires t c =
    let a = c.args in
    fits-row (free_row a.p) _ (told_free (lease_shown a.image.now a.base) _ a.p _ _ c.is_free.ensures c.if-is_free.true) c.requires.room

pub show_prefix-returns-then-is_free : goal.show_prefix-returns-then-is_free
show_prefix-returns-then-is_free t c =
    let a = c.args in
    showed-row (free_row a.p) _ (told_free (lease_shown a.image.now a.base) _ a.p _ _ c.is_free.ensures c.if-is_free.true) c.show_row.ensures

-- It is the next lease.
pub show_prefix-lease-x-requires : goal.show_prefix-lease-x-requires
show_prefix-lease-x-requires t c =
    let a = c.args in
    let some : a.next.now < a.n = told-lease (lease_shown a.image.now a.base) _ a.p _ _ c.is_free.ensures c.if-is_free.false in
    omega (arith, c.requires.slots)

pub show_prefix-overflow_add-next : goal.show_prefix-overflow_add-next
show_prefix-overflow_add-next t c =
    let a = c.args in
    let some : a.next.now < a.n = told-lease (lease_shown a.image.now a.base) _ a.p _ _ c.is_free.ensures c.if-is_free.false in
    omega (arith, c.requires.slots)

pub show_prefix-show_row-requires-then-x-p : goal.show_prefix-show_row-requires-then-x-p
show_prefix-show_row-requires-then-x-p t c =
    let a = c.args in
    let x = c.lease-x in
    fits-row (used_row x.result) _ (told-used (lease_shown a.image.now a.base) _ a.p _ _ c.is_free.ensures c.if-is_free.false x.result x.ensures (omega arith)) c.requires.room

pub show_prefix-returns-then-x-p : goal.show_prefix-returns-then-x-p
show_prefix-returns-then-x-p t c =
    let a = c.args in
    let x = c.lease-x in
    showed-row (used_row x.result) _ (told-used (lease_shown a.image.now a.base) _ a.p _ _ c.is_free.ensures c.if-is_free.false x.result x.ensures (omega arith)) c.show_row-then-x-p.ensures

-- The next lease lies in one of its halves.
pub show_prefix-show_halves-requires : goal.show_prefix-show_halves-requires
show_prefix-show_halves-requires t c =
    let a = c.args in
    let x = c.lease-x in
    let leases : ℕ → Used = lease_shown a.image.now a.base in
    let some : a.next.now < a.n = told-lease leases _ a.p _ _ c.is_free.ensures c.if-is_free.false in
    let deep : x.result.length ≡ (leases a.next.now).length = ap (λ (y : Used). y.length) x.ensures in
    let short : a.p.length < longest = omega (arith, c.requires.lengths a.next.now some, deep) in
    let halves = told-halves leases _ a.p _ _ c.is_free.ensures c.if-is_free.false x.result x.ensures short (omega arith) in
    (omega (arith, c.decreases), (short, subst (λ (s : Scan). ScanReady a.image.now a.base a.n a.out.now a.at a.p s) halves c.requires))

pub show_prefix-returns : goal.show_prefix-returns
show_prefix-returns t c =
    let a = c.args in
    let x = c.lease-x in
    let leases : ℕ → Used = lease_shown a.image.now a.base in
    let some : a.next.now < a.n = told-lease leases _ a.p _ _ c.is_free.ensures c.if-is_free.false in
    let deep : x.result.length ≡ (leases a.next.now).length = ap (λ (y : Used). y.length) x.ensures in
    let short : a.p.length < longest = omega (arith, c.requires.lengths a.next.now some, deep) in
    let halves = told-halves leases _ a.p _ _ c.is_free.ensures c.if-is_free.false x.result x.ensures short (omega arith) in
    showed-as halves c.show_halves.ensures
