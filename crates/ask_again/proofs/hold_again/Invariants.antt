use mathlib.Core.Path.{◌≡◌}
use mathlib.Core.List.{List}
use lib.ListN.{length, take}
use Rattle.lists.specs.Lists.{All}
use Rattle.table.specs.declared.Lease.{Lease}
use Rattle.image_records.specs.Records.{Records, Ascending}
use Rattle.ask_again.specs.Places.{Within}
use Rattle.ask_again.proofs.HoldLaws.{held_in}
use Rattle.ask_again.proofs.hold_again.Given as goal

abbrev pub invariant-loop-place : goal.invariant-loop-place
invariant-loop-place l = (length l.image ≡ length l.initial.image)
    × ((us : List Lease) → Records l.initial.image l.from us → Ascending us → All (Within (length us)) l.places → l.image ≡ held_in l.time l.initial.image l.from us (take l.place-index l.places))
