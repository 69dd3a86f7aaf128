use Prim.Native.Nat.{◌+◌, ◌*◌, ◌≤◌}
use mathlib.Core.Path.{◌≡◌}
use mathlib.Core.List.{List}
use lib.ListN.{length, take}
use Rattle.lists.specs.Lists.{All, cat_maybes}
use Rattle.table.specs.declared.Lease.{Lease}
use Rattle.image_records.specs.Records.{Records}
use Rattle.ask_again.specs.Places.{Within, given_in}
use Rattle.ask_serve.specs.Granting.{offers_in}
use Rattle.ask_commit.specs.InnerReply.{Shown, each_of}
use Rattle.ask_commit.proofs.put_offers.Given as goal

abbrev pub invariant-loop-j : goal.invariant-loop-j
invariant-loop-j l = (3 ≤ l.at) × (l.at ≤ 3 + 10 * l.j) × (length l.reply ≡ length l.initial.reply)
    × ((us : List Lease) → Records l.image l.from us → All (Within (length us)) l.places → Shown l.initial.reply l.reply l.at (cat_maybes (each_of (given_in us (take l.j l.places)) (offers_in l.nobody.client 0 l.nobody.name l.networks l.lengths (take l.j l.flags)))))
