-- `pool` meets its contract.
use mathlib.Core.Path.{ap, ◌∙◌}
use mathlib.Core.List.{[]}
use native.Mathlib.Omega.{arith}
use Rattle.call_spec.specs.Books.{book_of}
use Rattle.call_spec.proofs.TableLaws.{bytes-all}
use Rattle.call_query.specs.Queries.{pool_answer}
use Rattle.call_query.proofs.QueryLaws.{few, inside, pool-refused, pool-none, pool-found}
use Rattle.call_query.proofs.pool.Goals as goal

pub returns-in_default : goal.returns-in_default
returns-in_default c = let a = c.args in c.pool_answer.ensures ∙ ap (pool_answer 5) c.no_pool.ensures ∙ pool-refused (book_of a.image.now a.image_bytes [] a.counts.now) (c.in_default.ensures []) a.index

pub returns-then-summary-index : goal.returns-then-summary-index
returns-then-summary-index c =
    let a = c.args in
    c.pool_answer-then-summary-index.ensures
    ∙ ap (pool_answer 11) c.no_pool-then-summary-index.ensures
    ∙ pool-none (book_of a.image.now a.image_bytes [] a.counts.now) (bytes-all a.image.now (λ i. omega (arith, c.type_inv.image i))) c.in-Some.summary (c.in-Some.ensures []) a.index c.if-summary-index.true

pub overflow_mul-index : goal.overflow_mul-index
overflow_mul-index c = let a = c.args in omega (arith, (few (book_of a.image.now a.image_bytes [] a.counts.now) (bytes-all a.image.now (λ i. omega (arith, c.type_inv.image i))) c.in-Some.summary (c.in-Some.ensures [])).0)

pub overflow_add-index : goal.overflow_add-index
overflow_add-index c = let a = c.args in omega (arith, (few (book_of a.image.now a.image_bytes [] a.counts.now) (bytes-all a.image.now (λ i. omega (arith, c.type_inv.image i))) c.in-Some.summary (c.in-Some.ensures [])).0)

pub pool_at-requires : goal.pool_at-requires
pool_at-requires c = let a = c.args in omega (arith, inside (book_of a.image.now a.image_bytes [] a.counts.now) (bytes-all a.image.now (λ i. omega (arith, c.type_inv.image i))) c.in-Some.summary (c.in-Some.ensures []))

pub returns : goal.returns
returns c = let a = c.args in c.pool_answer-2.ensures ∙ pool-found (book_of a.image.now a.image_bytes [] a.counts.now) (bytes-all a.image.now (λ i. omega (arith, c.type_inv.image i))) c.in-Some.summary (c.in-Some.ensures []) a.index c.if-summary-index.false c.pool_at.result c.pool_at.ensures
