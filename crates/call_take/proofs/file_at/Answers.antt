-- `file_at` meets its contract.
use mathlib.Core.Path.{sym, ap, ◌∙◌}
use Rattle.image_figures.specs.Sheets.{sheet_of}
use Rattle.call_take.proofs.FileLaws.{filed-at-nothing}
use Rattle.call_take.proofs.file_at.Goals as goal

pub returns-then-f-eq0 : goal.returns-then-f-eq0
returns-then-f-eq0 c rows e = let a = c.args in e ∙ ap sheet_of (sym (filed-at-nothing a.first a.place a.f rows c.if-f-eq0.true))
