use mathlib.Core.Path.{◌≡◌}
use lib.ListN.{length, take}
use Rattle.table.specs.Table.{pool_slots}
use Rattle.console_script.specs.CountOctets.{rows_in}
use Rattle.console_script.proofs.counts_in.Given as goal

abbrev pub invariant-loop-k : goal.invariant-loop-k
invariant-loop-k l = (length l.rows ≡ pool_slots) × (take l.k l.rows ≡ rows_in l.k l.octets)
