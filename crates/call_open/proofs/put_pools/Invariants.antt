use mathlib.Core.Path.{◌≡◌}
use mathlib.Core.List.{map}
use lib.ListN.{length, take}
use Rattle.lists.specs.Lists.{concat_map}
use Rattle.lists.specs.Put.{put}
use Rattle.table_open.specs.Keys.{pool_of}
use Rattle.image.specs.Image.{head_size, pool_record}
use Rattle.call_open.proofs.put_pools.Given as goal

abbrev pub invariant-loop-i : goal.invariant-loop-i
invariant-loop-i l = (l.image ≡ put l.initial.image head_size (concat_map pool_record (take l.i (map pool_of l.keys)))) × (length l.image ≡ length l.initial.image)
