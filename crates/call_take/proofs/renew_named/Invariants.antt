use Prim.Native.Nat.{◌+◌, ◌*◌, ◌^◌, ◌≤◌, ◌<◌}
use mathlib.Core.Path.{◌≡◌}
use lib.ListN.{length, take}
use Rattle.lists.specs.Lists.{All}
use Rattle.image.specs.Image.{lease_size}
use Rattle.call_take.specs.InnerPlaces.{PlaceBelow}
use Rattle.call_take.proofs.RenewLaws.{Renewing}
use Rattle.call_take.proofs.renew_named.Given as goal

abbrev pub invariant-loop-k : goal.invariant-loop-k
invariant-loop-k l = (l.shown ≤ l.k)
    × (length l.image ≡ length l.initial.image)
    × (length l.places ≡ length l.initial.places)
    × (length l.reply ≡ length l.initial.reply)
    × Renewing l.initial.image (l.renewal.from + lease_size * l.renewal.first) l.renewal.leases l.renewal.expiry.time l.renewal.expiry.client l.renewal.expiry.expires l.networks l.lengths l.initial.reply l.image l.places l.reply l.shown l.k
    × (6 + 7 * length l.networks < 2 ^ 64)
    × All (PlaceBelow l.renewal.leases) (take l.k l.places)
