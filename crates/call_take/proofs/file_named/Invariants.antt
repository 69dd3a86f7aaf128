use mathlib.Core.Path.{◌≡◌}
use lib.ListN.{length}
use Rattle.call_take.proofs.FileLaws.{FiledTo}
use Rattle.call_take.proofs.file_named.Given as goal

abbrev pub invariant-loop-place : goal.invariant-loop-place
invariant-loop-place l = (length l.figures ≡ length l.initial.figures) × FiledTo l.option l.places l.initial.figures l.first l.figures l.entries l.place-index
