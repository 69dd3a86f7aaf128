use Prim.Native.Nat.{◌-◌}
use lib.ListN.{length}
use Rattle.console_words.proofs.PrefixLaws.{Reading}
use Rattle.console_words.proofs.read_prefixes.Given as goal

abbrev pub invariant-loop-w : goal.invariant-loop-w
invariant-loop-w l = Reading l.s l.from l.networks l.lengths (length l.initial.networks) l.at l.n

abbrev pub decreases-loop-w : goal.decreases-loop-w
decreases-loop-w l = length l.s - l.at
