-- `error` meets its contract.
use native.Mathlib.Omega.{arith}
use Rattle.console_lines.proofs.TextLaws.{text-wrote, number-wrote, then-wrote}
use Rattle.console_lines.proofs.error.Goals as goal

pub returns : goal.returns
returns c =
    record {
      upper_bound = omega (arith, c.text-a.ensures.value, c.number-b.ensures.lower_bound, c.text.ensures.value);
      wrote = then-wrote _ _ _ _ _ _ _ _ (text-wrote _ _ _ _ _ c.text-a.ensures.value c.text-a.ensures.out_after)
          (then-wrote _ _ _ _ _ _ _ _ (number-wrote _ _ _ _ _ (omega arith) c.number-b.ensures.lower_bound.0 c.number-b.ensures.decimal) (text-wrote _ _ _ _ _ c.text.ensures.value c.text.ensures.out_after));
    }
