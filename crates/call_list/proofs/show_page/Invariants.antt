use Prim.Native.Nat.{◌-◌, ◌≤◌}
use mathlib.Core.Path.{◌≡◌}
use mathlib.Core.List.{List}
use lib.ListN.{length}
use Rattle.table.specs.declared.Lease.{Lease}
use Rattle.image_records.specs.Records.{Records}
use Rattle.option_reply.specs.Reply.{most_entries}
use Rattle.call_list.specs.InnerPage.{shown?}
use Rattle.call_list.proofs.PageLaws.{Showing}
use Rattle.call_list.proofs.show_page.Given as goal

abbrev pub invariant-loop-i : goal.invariant-loop-i
invariant-loop-i l = (l.i ≤ l.n) × (l.count ≤ most_entries) × (length l.reply ≡ length l.initial.reply)
    × ((xs : List Lease) → Records l.image l.from xs → l.n ≡ length xs → Showing (shown? l.time l.client) l.first xs l.initial.reply l.reply l.count l.i)

abbrev pub decreases-loop-i : goal.decreases-loop-i
decreases-loop-i l = l.n - l.i
