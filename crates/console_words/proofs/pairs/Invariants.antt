use Prim.Native.Nat.{◌/◌}
use mathlib.Core.Path.{◌≡◌}
use lib.ListN.{length}
use Rattle.console_words.proofs.OctetLaws.{Pairing}
use Rattle.console_words.proofs.pairs.Given as goal

abbrev pub invariant-loop-i : goal.invariant-loop-i
invariant-loop-i l = (l.n ≡ length l.initial.s / 2) × Pairing l.initial.s l.s l.i
