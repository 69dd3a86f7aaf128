-- `sheet_text::free_rows` meets its contract: the free rows are the whole free blocks, all of which the counts count.
use mathlib.Core.Path.{◌≡◌, ◌∙◌}
use lib.ListN.{length}
use Rattle.sheet_text.specs.Sheet.{free_in, rows}
use Rattle.sheet_text.proofs.AnswerLaws.{of-table}
use Rattle.sheet_text.proofs.ImageRows.{some-table, free-told}
use Rattle.sheet_text.proofs.free_rows.Goals as goal

pub counts_in-requires : goal.counts_in-requires
counts_in-requires c = some-table _ _ _ c.requires

pub returns : goal.returns
returns c =
    let counted = c.counts_in in
    of-table _ _ _ c.requires (λ t. c.total.result ≡ length (free_in (rows t))) (c.total.ensures ∙ free-told _ _ _ c.requires counted.result counted.ensures)
