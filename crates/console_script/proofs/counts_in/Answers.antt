-- `counts_in` meets its contract: after k turns the first k rows are read.
use Prim.Native.Nat.{ℕ}
use mathlib.Core.Path.{◌≡◌, sym, ap, ◌∙◌}
use mathlib.Core.List.{List}
use native.Mathlib.Omega.{arith}
use lib.ListN.{replicate, length-replicate, length-set}
use lib.Seq.{take_all}
use Rattle.table.specs.Table.{pool_slots}
use Rattle.counts.specs.Counts.{counted_lengths}
use Rattle.console_script.specs.CountOctets.{rows_in}
use Rattle.console_script.proofs.CountOctetLaws.{no-row-read, row-stored}
use Rattle.console_script.proofs.counts_in.Goals as goal

pub loop-k-init : goal.loop-k-init
loop-k-init c = let none = replicate {A = ℕ} counted_lengths 0 in (length-replicate {A = List ℕ} pool_slots none, no-row-read c.args.octets.now (replicate {A = List ℕ} pool_slots none))

pub loop-k-preserved : goal.loop-k-preserved
loop-k-preserved c =
    let row = c.row_in in (
      omega (arith, length-set c.loop-k.rows c.loop-k.k row.result),
      row-stored c.args.octets.now c.loop-k.rows c.loop-k.k row.result (omega arith) c.loop-k.invariant.1 row.ensures,
    )

pub returns : goal.returns
returns c =
    let all : c.loop-k.k ≡ pool_slots = omega arith in
    sym (take_all c.loop-k.k c.loop-k.rows (omega arith)) ∙ c.loop-k.invariant.1 ∙ ap (λ (n : ℕ). rows_in n c.args.octets.now) all
