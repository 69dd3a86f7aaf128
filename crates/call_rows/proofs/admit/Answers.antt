-- `admit` meets its contract, row by row.
use mathlib.Core.Path.{refl, ◌∙◌}
use native.Mathlib.Omega.{arith}
use borrow.Author.Tests.{lt-ltb, le-ltb, eq-eqb, ne_eqb}
use Rattle.std.specs.Prelude.{Some}
use Rattle.ledger.specs.Sizes.{Bytes}
use Rattle.call_spec.specs.Books.{book_of, lent_in}
use Rattle.call_spec.proofs.TableLaws.{bytes-all}
use Rattle.call_rows.specs.InnerSummary.{SummaryIn}
use Rattle.call_rows.proofs.AdmitLaws.{book-measured, rows-after-5, book-admitted}
use Rattle.call_rows.proofs.admit.Goals as goal

-- What is lent is bytes, and this is what the check says of the book.
seen : (c : goal.In-Some) → let a = c.args in
    Bytes a.image.now × Bytes a.figures.now × SummaryIn (lent_in (book_of a.image.now a.image_bytes a.figures.now a.counts.now)) a.time (Some c.in-Some.summary)
seen c =
    let a = c.args in
    (bytes-all a.image.now (λ i. omega (arith, c.type_inv.image i)), bytes-all a.figures.now (λ i. omega (arith, c.type_inv.figures i)), c.in-Some.ensures a.figures.now)

pub sheet_passes-requires : goal.sheet_passes-requires
sheet_passes-requires c =
    let a = c.args in
    let k = seen c in
    book-measured (book_of a.image.now a.image_bytes a.figures.now a.counts.now) a.time k.0 c.in-Some.summary k.2

-- What is lent is bytes, and this is what the check says of the book.
seen-2 : (c : goal.Then-not-sheet_passes) → let a = c.args in
    Bytes a.image.now × Bytes a.figures.now × SummaryIn (lent_in (book_of a.image.now a.image_bytes a.figures.now a.counts.now)) a.time (Some c.in-Some.summary)
seen-2 c =
    let a = c.args in
    (bytes-all a.image.now (λ i. omega (arith, c.type_inv.image i)), bytes-all a.figures.now (λ i. omega (arith, c.type_inv.figures i)), c.in-Some.ensures a.figures.now)

pub returns-then-not-sheet_passes : goal.returns-then-not-sheet_passes
returns-then-not-sheet_passes c =
    let a = c.args in
    let k = seen-2 c in (
      rows-after-5 (book_of a.image.now a.image_bytes a.figures.now a.counts.now) a.time k.0 c.in-Some.summary k.2 a.has_sheet a.short a.client k.1 c.sheet_passes.result c.sheet_passes.ensures c.if-short.false
          ∙ rw c.if-not-sheet_passes.true,
      refl,
    )

-- What is lent is bytes, and this is what the check says of the book.
seen-3 : (c : goal.Then-client-eq0) → let a = c.args in
    Bytes a.image.now × Bytes a.figures.now × SummaryIn (lent_in (book_of a.image.now a.image_bytes a.figures.now a.counts.now)) a.time (Some c.in-Some.summary)
seen-3 c =
    let a = c.args in
    (bytes-all a.image.now (λ i. omega (arith, c.type_inv.image i)), bytes-all a.figures.now (λ i. omega (arith, c.type_inv.figures i)), c.in-Some.ensures a.figures.now)

pub returns-then-client-eq0 : goal.returns-then-client-eq0
returns-then-client-eq0 c =
    let a = c.args in
    let k = seen-3 c in (
      rows-after-5 (book_of a.image.now a.image_bytes a.figures.now a.counts.now) a.time k.0 c.in-Some.summary k.2 a.has_sheet a.short a.client k.1 c.sheet_passes.result c.sheet_passes.ensures c.if-short.false
          ∙ rw (c.if-not-sheet_passes.false, eq-eqb a.client 0 c.if-client-eq0.true),
      refl,
    )

-- What is lent is bytes, and this is what the check says of the book.
seen-4 : (c : goal.Then-time-summary) → let a = c.args in
    Bytes a.image.now × Bytes a.figures.now × SummaryIn (lent_in (book_of a.image.now a.image_bytes a.figures.now a.counts.now)) a.time (Some c.in-Some.summary)
seen-4 c =
    let a = c.args in
    (bytes-all a.image.now (λ i. omega (arith, c.type_inv.image i)), bytes-all a.figures.now (λ i. omega (arith, c.type_inv.figures i)), c.in-Some.ensures a.figures.now)

pub returns-then-time-summary : goal.returns-then-time-summary
returns-then-time-summary c =
    let a = c.args in
    let k = seen-4 c in (
      rows-after-5 (book_of a.image.now a.image_bytes a.figures.now a.counts.now) a.time k.0 c.in-Some.summary k.2 a.has_sheet a.short a.client k.1 c.sheet_passes.result c.sheet_passes.ensures c.if-short.false
          ∙ rw (c.if-not-sheet_passes.false, ne_eqb a.client 0 c.if-client-eq0.false, lt-ltb a.time _ c.if-time-summary.true),
      refl,
    )

-- What is lent is bytes, and this is what the check says of the book.
seen-5 : (c : goal.Then-time-gt-LATEST) → let a = c.args in
    Bytes a.image.now × Bytes a.figures.now × SummaryIn (lent_in (book_of a.image.now a.image_bytes a.figures.now a.counts.now)) a.time (Some c.in-Some.summary)
seen-5 c =
    let a = c.args in
    (bytes-all a.image.now (λ i. omega (arith, c.type_inv.image i)), bytes-all a.figures.now (λ i. omega (arith, c.type_inv.figures i)), c.in-Some.ensures a.figures.now)

pub returns-then-time-gt-LATEST : goal.returns-then-time-gt-LATEST
returns-then-time-gt-LATEST c =
    let a = c.args in
    let k = seen-5 c in (
      rows-after-5 (book_of a.image.now a.image_bytes a.figures.now a.counts.now) a.time k.0 c.in-Some.summary k.2 a.has_sheet a.short a.client k.1 c.sheet_passes.result c.sheet_passes.ensures c.if-short.false
          ∙ rw (c.if-not-sheet_passes.false, ne_eqb a.client 0 c.if-client-eq0.false, le-ltb a.time _ c.if-time-summary.false, lt-ltb _ _ c.if-time-gt-LATEST.true),
      refl,
    )

-- What is lent is bytes, and this is what the check says of the book.
seen-6 : (c : goal.Else-time-gt-LATEST) → let a = c.args in
    Bytes a.image.now × Bytes a.figures.now × SummaryIn (lent_in (book_of a.image.now a.image_bytes a.figures.now a.counts.now)) a.time (Some c.in-Some.summary)
seen-6 c =
    let a = c.args in
    (bytes-all a.image.now (λ i. omega (arith, c.type_inv.image i)), bytes-all a.figures.now (λ i. omega (arith, c.type_inv.figures i)), c.in-Some.ensures a.figures.now)

pub returns : goal.returns
returns c =
    let a = c.args in
    let k = seen-6 c in (
      rows-after-5 (book_of a.image.now a.image_bytes a.figures.now a.counts.now) a.time k.0 c.in-Some.summary k.2 a.has_sheet a.short a.client k.1 c.sheet_passes.result c.sheet_passes.ensures c.if-short.false
          ∙ rw (c.if-not-sheet_passes.false, ne_eqb a.client 0 c.if-client-eq0.false, le-ltb a.time _ c.if-time-summary.false, le-ltb _ _ c.if-time-gt-LATEST.false),
      book-admitted (book_of a.image.now a.image_bytes a.figures.now a.counts.now) a.time k.0 c.in-Some.summary k.2 a.has_sheet a.short a.client k.1 c.sheet_passes.result c.sheet_passes.ensures c.if-not-sheet_passes.false (ne_eqb a.client 0 c.if-client-eq0.false) c.if-time-summary.false c.if-time-gt-LATEST.false,
    )
