use mathlib.Core.Path.{◌≡◌}
use lib.ListN.{length}
use Rattle.image_forms.specs.Forms.{Moved}
use Rattle.image_forms.proofs.put_leases_as.Given as goal

abbrev pub invariant-loop-i : goal.invariant-loop-i
invariant-loop-i l = Moved l.fn.from l.to l.s l.at l.i l.initial.out l.place l.out × (length l.out ≡ length l.initial.out)
