-- `sheet` meets its contract, answer by answer.
use native.Mathlib.Omega.{arith}
use mathlib.Core.Path.{refl, ap, ◌∙◌}
use Rattle.std.specs.Prelude.{Err}
use Rattle.sheet_text.proofs.SheetHolds.{written-within}
use Rattle.call_sheet.proofs.SheetLaws.{sheet-answered}
use Rattle.call_sheet.proofs.sheet.Goals as goal

pub overflow_cast-result : goal.overflow_cast-result
overflow_cast-result c = omega (arith, (written-within _ _ c.sheet_of_image.ensures c.in-Ok.is).0)

pub returns-in-Ok : goal.returns-in-Ok
returns-in-Ok c = sheet-answered _ _ c.sheet_of_image.ensures c.in-Ok.is refl

pub returns-in-Err-NotSound : goal.returns-in-Err-NotSound
returns-in-Err-NotSound c = sheet-answered _ _ c.sheet_of_image.ensures (c.in-Err-NotSound.is ∙ ap Err c.in-Err-NotSound.field-0-is) refl

pub returns-in-Err-TooSmall : goal.returns-in-Err-TooSmall
returns-in-Err-TooSmall c = sheet-answered _ _ c.sheet_of_image.ensures (c.in-Err-TooSmall.is ∙ ap Err c.in-Err-TooSmall.field-0-is) refl
