-- `head` meets its contract.
use Prim.Native.Nat.{ℕ}
use mathlib.Core.Path.{◌≡◌, ap, ◌∙◌}
use native.Mathlib.Omega.{arith}
use borrow.Author.Rules.{rules}
use mathlib.Core.List.{[]}
use Rattle.call_spec.specs.Books.{book_of}
use Rattle.call_spec.proofs.TableLaws.{bytes-all}
use Rattle.call_query.proofs.QueryLaws.{head_from, few, head-refused, head-found}
use Rattle.call_query.proofs.head.Goals as goal

pub returns-in_default : goal.returns-in_default
returns-in_default c = let a = c.args in head-refused (book_of a.image.now a.image_bytes [] a.counts.now) (c.in_default.ensures [])

pub overflow_cast-result : goal.overflow_cast-result
overflow_cast-result c =
    let a = c.args in
    omega (arith, (few (book_of a.image.now a.image_bytes [] a.counts.now) (bytes-all a.image.now (λ i. omega (arith, c.type_inv.image i))) c.in-Some.summary (c.in-Some.ensures [])).0)

pub overflow_cast-result-2 : goal.overflow_cast-result-2
overflow_cast-result-2 c =
    let a = c.args in
    omega (arith, (few (book_of a.image.now a.image_bytes [] a.counts.now) (bytes-all a.image.now (λ i. omega (arith, c.type_inv.image i))) c.in-Some.summary (c.in-Some.ensures [])).1)

pub returns : goal.returns
returns c =
    let a = c.args in
    let x = c.in-Some.summary in
    let is : c.from.result ≡ x.default_length = search rules in
    ap (λ (n : ℕ). head_from (record { term = x.term; default_length = n; last = x.last; pools = x.pools; leases = x.leases; expired = x.expired })) is
    ∙ head-found (book_of a.image.now a.image_bytes [] a.counts.now) (bytes-all a.image.now (λ i. omega (arith, c.type_inv.image i))) x (c.in-Some.ensures [])
