-- `pool` meets its contract: its pieces one after the other.
use mathlib.Core.Path.{sym, ◌∙◌}
use native.Mathlib.Omega.{arith}
use Rattle.console_lines.specs.CountLines.{pool_line}
use Rattle.console_lines.proofs.TextLaws.{text-wrote, then-wrote, wrote_as}
use Rattle.console_lines.proofs.CountLaws.{pool-hidden, pool-shown}
use Rattle.console_lines.proofs.pool.Goals as goal

pub returns-then-none_in : goal.returns-then-none_in
returns-then-none_in c = record { upper_bound = omega arith; wrote = pool-hidden c.args.p c.args.row _ _ (sym c.none_in.ensures ∙ c.if-none_in.true) }

pub returns : goal.returns
unfolding pool_line
returns c =
    let word = c.text-a.ensures in
    let p = c.prefix-b.ensures in
    let row = c.row_counts-c.ensures in
    let end = c.text.ensures in record {
      upper_bound = omega (arith, word.value, p.upper_bound, row.upper_bound, end.value);
      wrote = wrote_as _ _ _ _ _ _ (pool-shown c.args.p c.args.row (sym c.none_in.ensures ∙ c.if-none_in.false))
          (then-wrote _ _ _ _ _ _ _ _ (text-wrote _ _ _ _ _ word.value word.out_after) (then-wrote _ _ _ _ _ _ _ _ p.wrote (then-wrote _ _ _ _ _ _ _ _ row.wrote (text-wrote _ _ _ _ _ end.value end.out_after))));
    }
