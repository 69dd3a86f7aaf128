use Prim.Native.Nat.{◌*◌}
use mathlib.Core.Path.{◌≡◌}
use lib.ListN.{length}
use Rattle.image_counts.specs.InnerTally.{open_lengths, both_of}
use Rattle.image_counts.proofs.TallyLaws.{Counting}
use Rattle.image_counts.proofs.in_pool.Given as goal

abbrev pub invariant-loop-i : goal.invariant-loop-i
invariant-loop-i l = Counting l.image l.from l.n l.stop l.top l.at l.opened (both_of l.sides) l.before l.i × (length l.sides ≡ 2 * open_lengths)
