-- `none_in` meets its contract.
use Prim.Native.Nat.{ℕ}
use mathlib.Core.Path.{◌≡◌, sym, ap, ◌∙◌}
use native.Mathlib.Omega.{arith}
use lib.ListN.{length, replicate}
use lib.Dec.{eqb}
use lib.Pointwise.{pointwise}
use Rattle.counts.specs.Counts.{counted_lengths}
use Rattle.console_lines.proofs.CountLaws.{none-zeros}
use Rattle.console_lines.proofs.none_in.Goals as goal

pub returns : goal.returns
returns c =
    let row = c.args.row in
    let size : length row ≡ counted_lengths = omega arith in
    c.eq.ensures ∙ ap (λ (n : ℕ). pointwise eqb row (replicate n 0)) (sym size) ∙ none-zeros row
