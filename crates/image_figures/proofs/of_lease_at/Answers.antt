-- `image_figures::of_lease_at` meets its contract.
use mathlib.Core.Path.{sym, ◌∙◌}
use Rattle.image.specs.Reading.{lease_in}
use Rattle.image.proofs.FieldLaws.{byte-from}
use Rattle.image_figures.specs.Sheets.{row_in}
use Rattle.image_figures.proofs.RowLaws.{network-here, row-differs, row-agrees}
use lib.ListN.{drop}
use Rattle.image_figures.proofs.of_lease_at.Goals as goal

pub returns-then-read32-network_at : goal.returns-then-read32-network_at
returns-then-read32-network_at c =
    let a = c.args in
    row-differs (lease_in (drop a.place a.image.now)) (row_in (drop a.at a.sheet.now))
    (λ e. c.if-read32-network_at.true (c.read32.ensures ∙ network-here a.sheet.now a.at ∙ e ∙ sym c.network_at.ensures))

pub returns : goal.returns
returns c =
    let a = c.args in
    row-agrees (lease_in (drop a.place a.image.now)) (row_in (drop a.at a.sheet.now)) _ _
    (sym (network-here a.sheet.now a.at) ∙ sym c.read32.ensures ∙ c.if-read32-network_at.false ∙ c.network_at.ensures)
    (byte-from a.sheet.now a.at 4) c.length_at.ensures
