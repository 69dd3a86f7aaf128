-- `put_items` meets its contract. The loop's invariant: the items before `item` are put, and `p` is the place after them.
use native.Mathlib.Omega.{arith}
use lib.ListN.{take}
use Rattle.option.specs.Writing.{suboption_bytes, suboptions_bytes}
use Rattle.option_measure.specs.Lists.{value_of}
use Rattle.option_write.specs.Inner.{suboptions_at}
use Rattle.option_write.proofs.EachPut.{put_none, put_one_more, put_all}
use Rattle.option_write.proofs.ItemPuts.{item-fitting, item-short}
use Rattle.option_write.proofs.put_items.Goals as goal

pub loop-item-init : goal.loop-item-init
loop-item-init c =
    let l = c.args.list.now in record { so_far = put_none (value_of l.entries l.octets) suboption_bytes (take l.count l.items) _ _; short = omega arith }

pub put_item-p-requires : goal.put_item-p-requires
put_item-p-requires c =
    let l = c.args.list.now in
    (omega (arith, c.loop-item.invariant.short, c.requires.0), item-fitting (take l.count l.items) l.entries l.octets c.requires.1 c.loop-item.item-index _ (omega arith))

pub loop-item-preserved : goal.loop-item-preserved
loop-item-preserved c =
    let l = c.args.list.now in
    let items = take l.count l.items in record {
      so_far = put_one_more (value_of l.entries l.octets) suboption_bytes items _ _ _ _ _ _ c.loop-item.item-index _ (omega arith) c.loop-item.invariant.so_far c.put_item-p.ensures;
      short = omega (arith, item-short _ _ _ _ items l.entries l.octets c.loop-item.item-index _ c.requires.1 (omega arith) c.put_item-p.ensures, c.loop-item.invariant.short);
    }

pub returns : goal.returns
unfolding suboptions_bytes
returns c =
    let l = c.args.list.now in
    (put_all (value_of l.entries l.octets) suboption_bytes (take l.count l.items) _ _ suboptions_at _ c.loop-item.item-index (omega arith) c.loop-item.invariant.so_far).stored
