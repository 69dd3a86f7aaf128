-- `set_by` sets what a `buffer` or a `selection` names, and nothing for any other command.
use mathlib.Core.Path.{refl}
use Rattle.console.proofs.LineLaws.{set-nothing, set-length, set-selected}
use Rattle.console.proofs.set_by.Goals as goal

pub returns-in-Buffer : goal.returns-in-Buffer
returns-in-Buffer c = let w = c.with_reply_length.ensures in (w.3, w.2, w.4, set-length c.args.command _ c.args.s c.with_reply_length.result c.in-Buffer.is w.0 w.1)

pub returns-in-Selection : goal.returns-in-Selection
returns-in-Selection c = let w = c.with_selected.ensures in (w.3, w.2, w.4, set-selected c.args.command _ c.args.s c.with_selected.result c.in-Selection.is w.0 w.1)

pub returns : goal.returns
returns c = (refl, refl, refl, set-nothing c.args.command c.args.s c.in_default.not-Buffer c.in_default-command.not-Selection)
