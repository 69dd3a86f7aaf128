use Prim.Native.Nat.{◌+◌, ◌-◌, ◌*◌, ◌≤◌}
use mathlib.Core.Path.{◌≡◌}
use lib.ListN.{length}
use Rattle.console_text.proofs.TextLaws.{Filling}
use Rattle.console_text.proofs.fill.Given as goal

abbrev pub invariant-loop-c : goal.invariant-loop-c
invariant-loop-c l = (l.end + (length l.pattern - l.c-index) + 9 * length l.left ≤ l.at + length l.pattern + 9 * length l.numbers) × (length l.out ≡ length l.initial.out)
    × Filling l.pattern l.numbers l.initial.out l.at l.c-index l.left l.out l.end
