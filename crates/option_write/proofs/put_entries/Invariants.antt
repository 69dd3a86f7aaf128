use Prim.Native.Nat.{◌+◌, ◌*◌, ◌≤◌}
use Rattle.option.specs.Writing.{entry_bytes}
use Rattle.option_measure.specs.Lists.{entry_of}
use Rattle.option_write.specs.Inner.{PutAt}
use Rattle.option_write.proofs.EachPut.{up_to}
use Rattle.option_write.proofs.put_entries.Given as goal

abbrev pub invariant-loop-e : goal.invariant-loop-e
invariant-loop-e l = record {
  so_far : PutAt l.initial.buf l.buf l.at l.p (up_to entry_of entry_bytes l.entries l.e-index);
  short : l.p ≤ l.at + 13 * l.e-index;
}
