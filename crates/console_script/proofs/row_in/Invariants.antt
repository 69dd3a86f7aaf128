use mathlib.Core.Path.{◌≡◌}
use lib.ListN.{length, take, drop}
use Rattle.counts.specs.Counts.{counted_lengths}
use Rattle.console_script.specs.CountOctets.{numbers_in}
use Rattle.console_script.proofs.row_in.Given as goal

abbrev pub invariant-loop-j : goal.invariant-loop-j
invariant-loop-j l = (length l.row ≡ counted_lengths) × (take l.j l.row ≡ numbers_in l.j (drop l.at l.octets))
