-- `lease` meets its contract.
use Prim.Native.Nat.{ℕ}
use mathlib.Core.Path.{ap, ◌∙◌}
use mathlib.Core.List.{[]}
use native.Mathlib.Omega.{arith}
use Rattle.call_spec.specs.Books.{book_of}
use Rattle.call_spec.proofs.TableLaws.{bytes-all}
use Rattle.call_query.specs.Queries.{lease_answer}
use Rattle.call_query.proofs.QueryLaws.{few, inside, lease-refused, lease-none, lease-found}
use Rattle.call_query.proofs.lease.Goals as goal

pub returns-in_default : goal.returns-in_default
returns-in_default c = let a = c.args in c.lease_answer.ensures ∙ ap (lease_answer 5 0) c.no_lease.ensures ∙ lease-refused (book_of a.image.now a.image_bytes [] a.counts.now) (c.in_default.ensures []) a.index

pub returns-then-summary-index : goal.returns-then-summary-index
returns-then-summary-index c =
    let a = c.args in
    c.lease_answer-then-summary-index.ensures
    ∙ ap (lease_answer 11 0) c.no_lease-then-summary-index.ensures
    ∙ lease-none (book_of a.image.now a.image_bytes [] a.counts.now) (bytes-all a.image.now (λ i. omega (arith, c.type_inv.image i))) c.in-Some.summary (c.in-Some.ensures []) a.index c.if-summary-index.true

pub overflow_mul-summary : goal.overflow_mul-summary
overflow_mul-summary c = let a = c.args in omega (arith, (few (book_of a.image.now a.image_bytes [] a.counts.now) (bytes-all a.image.now (λ i. omega (arith, c.type_inv.image i))) c.in-Some.summary (c.in-Some.ensures [])).0)

pub overflow_add-summary : goal.overflow_add-summary
overflow_add-summary c = let a = c.args in omega (arith, (few (book_of a.image.now a.image_bytes [] a.counts.now) (bytes-all a.image.now (λ i. omega (arith, c.type_inv.image i))) c.in-Some.summary (c.in-Some.ensures [])).0)

pub overflow_mul-index : goal.overflow_mul-index
overflow_mul-index c = let a = c.args in omega (arith, (few (book_of a.image.now a.image_bytes [] a.counts.now) (bytes-all a.image.now (λ i. omega (arith, c.type_inv.image i))) c.in-Some.summary (c.in-Some.ensures [])).1)

pub overflow_add-summary-2 : goal.overflow_add-summary-2
overflow_add-summary-2 c = let a = c.args in let both = few (book_of a.image.now a.image_bytes [] a.counts.now) (bytes-all a.image.now (λ i. omega (arith, c.type_inv.image i))) c.in-Some.summary (c.in-Some.ensures []) in omega (arith, both.0, both.1)

pub lease_at-x-requires : goal.lease_at-x-requires
lease_at-x-requires c = let a = c.args in omega (arith, inside (book_of a.image.now a.image_bytes [] a.counts.now) (bytes-all a.image.now (λ i. omega (arith, c.type_inv.image i))) c.in-Some.summary (c.in-Some.ensures []))

pub returns : goal.returns
returns c =
    let a = c.args in
    c.lease_answer-2.ensures
    ∙ ap (λ (state : ℕ). lease_answer 0 state c.lease_at-x.result) c.state_byte.ensures
    ∙ lease-found (book_of a.image.now a.image_bytes [] a.counts.now) (bytes-all a.image.now (λ i. omega (arith, c.type_inv.image i))) c.in-Some.summary (c.in-Some.ensures []) a.index c.if-summary-index.false c.lease_at-x.result c.lease_at-x.ensures
