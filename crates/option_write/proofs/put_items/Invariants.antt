use Prim.Native.Nat.{◌+◌, ◌*◌, ◌≤◌}
use lib.ListN.{take}
use Rattle.option.specs.Writing.{suboption_bytes}
use Rattle.option_measure.specs.Lists.{value_of}
use Rattle.option_write.specs.Inner.{suboptions_at, most_bytes, PutAt}
use Rattle.option_write.proofs.EachPut.{up_to}
use Rattle.option_write.proofs.put_items.Given as goal

abbrev pub invariant-loop-item : goal.invariant-loop-item
invariant-loop-item l = record {
  so_far : PutAt l.initial.buf l.buf suboptions_at l.p (up_to (value_of l.list.entries l.list.octets) suboption_bytes (take l.list.count l.list.items) l.item-index);
  short : l.p ≤ suboptions_at + most_bytes * l.item-index;
}
