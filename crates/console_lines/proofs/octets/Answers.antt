-- `octets` meets its contract.
use native.Mathlib.Omega.{arith}
use Rattle.console_lines.proofs.TextLaws.{text-wrote, octets-wrote, then-wrote}
use Rattle.console_lines.proofs.octets.Goals as goal

pub returns : goal.returns
returns c =
    record {
      upper_bound = omega (arith, c.text-a.ensures.value, c.octets-b.ensures.value, c.text.ensures.value);
      wrote = then-wrote _ _ _ _ _ _ _ _ (text-wrote _ _ _ _ _ c.text-a.ensures.value c.text-a.ensures.out_after)
          (then-wrote _ _ _ _ _ _ _ _ (octets-wrote _ _ c.args.s.now _ _ c.octets-b.ensures.value c.octets-b.ensures.out_after) (text-wrote _ _ _ _ _ c.text.ensures.value c.text.ensures.out_after));
    }
