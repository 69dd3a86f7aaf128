-- `row` meets its contract: its pieces one after the other.
use mathlib.Core.Path.{sym, ◌∙◌}
use native.Mathlib.Omega.{arith}
use Rattle.console_lines.specs.FigureLines.{row_line}
use Rattle.console_lines.proofs.TextLaws.{text-wrote, then-wrote, wrote_as}
use Rattle.console_lines.proofs.FigureLaws.{row-hidden, row-shown}
use Rattle.console_lines.proofs.row.Goals as goal

pub returns-then-is_empty_slot : goal.returns-then-is_empty_slot
returns-then-is_empty_slot c = record { upper_bound = omega arith; wrote = row-hidden c.args.r _ _ (sym c.is_empty_slot.ensures ∙ c.if-is_empty_slot.true) }

pub returns : goal.returns
unfolding row_line
returns c =
    let head = c.row_head-a.ensures in
    let high = c.high_water-b.ensures in
    let used = c.in_use-c.ensures in
    let bad = c.unusable-d.ensures in
    let end = c.text.ensures in record {
      upper_bound = omega (arith, head.upper_bound, high.upper_bound, used.upper_bound, bad.upper_bound, end.value);
      wrote = wrote_as _ _ _ _ _ _ (row-shown c.args.r (sym c.is_empty_slot.ensures ∙ c.if-is_empty_slot.false))
          (then-wrote _ _ _ _ _ _ _ _ head.wrote (then-wrote _ _ _ _ _ _ _ _ high.wrote (then-wrote _ _ _ _ _ _ _ _ used.wrote (then-wrote _ _ _ _ _ _ _ _ bad.wrote (text-wrote _ _ _ _ _ end.value end.out_after)))));
    }
