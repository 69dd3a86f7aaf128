-- `put_entries` meets its contract. The loop's invariant: the entries before `e` are put, and `p` is the place after them.
use native.Mathlib.Omega.{arith}
use Rattle.option.specs.Writing.{entry_bytes, entries_bytes}
use Rattle.option_measure.specs.Lists.{entry_of}
use Rattle.option_write.proofs.EachPut.{put_none, put_one_more, put_all}
use Rattle.option_write.proofs.EntryPuts.{few-at, entry-short}
use Rattle.option_write.proofs.put_entries.Goals as goal

pub loop-e-init : goal.loop-e-init
loop-e-init c = record { so_far = put_none entry_of entry_bytes c.args.entries.now _ _; short = omega arith }

pub put_full_entry-p-requires : goal.put_full_entry-p-requires
put_full_entry-p-requires c = (omega arith, few-at c.args.entries.now c.requires.2 c.loop-e.e-index _ (omega arith))

pub loop-e-preserved : goal.loop-e-preserved
loop-e-preserved c =
    let es = c.args.entries.now in record {
      so_far = put_one_more entry_of entry_bytes es _ _ _ _ _ _ c.loop-e.e-index _ (omega arith) c.loop-e.invariant.so_far c.put_full_entry-p.ensures;
      short = omega (arith, entry-short _ _ _ _ es c.loop-e.e-index _ c.requires.2 (omega arith) c.put_full_entry-p.ensures, c.loop-e.invariant.short);
    }

pub returns : goal.returns
unfolding entries_bytes
returns c = put_all entry_of entry_bytes c.args.entries.now _ _ _ _ c.loop-e.e-index (omega arith) c.loop-e.invariant.so_far
