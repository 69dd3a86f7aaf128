use mathlib.Core.Path.{◌≡◌}
use mathlib.Core.List.{map}
use lib.ListN.{length, take}
use Rattle.lists.specs.Put.{put}
use Rattle.sheet_text.specs.Sheet.{shown}
use Rattle.sheet_text.proofs.put_name.Given as goal

abbrev pub invariant-loop-k : goal.invariant-loop-k
invariant-loop-k l = (l.out ≡ put l.initial.out l.from (take l.k (map shown l.octet-items))) × (length l.out ≡ length l.initial.out)
