-- `put_information` meets its contract: the entries, and then the head before them.
use native.Mathlib.Omega.{arith}
use Prim.Native.Nat.{◌+◌, ◌-◌}
use mathlib.Core.Path.{◌≡◌, refl}
use lib.ListN.{length}
use Rattle.option_measure.specs.Lists.{entry_slots}
use Rattle.option_measure.proofs.PartLaws.{length_part}
use Rattle.option_write.proofs.ItemPuts.{information-fitting, information-put}
use Rattle.option_write.proofs.put_information.Goals as goal

pub overflow_add-f : goal.overflow_add-f
overflow_add-f c = omega (arith, (information-fitting c.args.list.now.entries c.args.f c.requires.1).placed)

pub offset_bounds-list-f : goal.offset_bounds-list-f
offset_bounds-list-f c = omega (arith, (information-fitting c.args.list.now.entries c.args.f c.requires.1).placed)

pub slice_bounds-put_entries-end : goal.slice_bounds-put_entries-end
slice_bounds-put_entries-end c = omega (arith, (information-fitting c.args.list.now.entries c.args.f c.requires.1).placed)

pub put_entries-end-requires : goal.put_entries-end-requires
put_entries-end-requires c =
    let f = c.args.f in
    let entries = c.args.list.now.entries in
    let full : length entries ≡ entry_slots = omega arith in
    let r = information-fitting entries f c.requires.1 in
    let size = length_part entries f.first f.count (omega (arith, full, r.placed)) in
    let same : f.first + f.count - f.first ≡ f.count = omega arith in
    rw same (omega (arith, c.requires.0), omega (arith, size, r.placed), r.good)

pub overflow_cast-end : goal.overflow_cast-end
overflow_cast-end c =
    let f = c.args.f in
    let same : f.first + f.count - f.first ≡ f.count = omega arith in
    let r = information-fitting c.args.list.now.entries f c.requires.1 in
    let put = rw same at c.put_entries-end.ensures in
    omega (arith, r.short, put.place)

pub returns : goal.returns
returns c =
    let f = c.args.f in
    let entries = c.args.list.now.entries in
    let same : f.first + f.count - f.first ≡ f.count = omega arith in
    let put = rw same at c.put_entries-end.ensures in
    information-put entries f _ _ _ c.args.at _ _ (information-fitting entries f c.requires.1) put.stored put.place refl c.put_information_head.ensures
