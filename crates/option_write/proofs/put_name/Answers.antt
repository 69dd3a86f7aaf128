-- `put_name` meets its contract.
use native.Mathlib.Omega.{arith}
use Prim.Native.Nat.{◌+◌, ◌-◌}
use mathlib.Core.Path.{◌≡◌}
use lib.ListN.{length}
use Rattle.option_measure.specs.Lists.{octet_slots}
use Rattle.option_measure.proofs.PartLaws.{length_part}
use Rattle.option_write.proofs.ItemPuts.{name-fitting, name-put}
use Rattle.option_write.proofs.put_name.Goals as goal

pub overflow_cast-n : goal.overflow_cast-n
overflow_cast-n c =
    let octets = c.args.list.now.octets in
    let n = c.args.n in
    let r = name-fitting octets n c.requires.1 in
    let full : length octets ≡ octet_slots = omega arith in
    omega (arith, r.short, length_part octets n.first n.count (omega (arith, full, r.placed)))

pub overflow_add-n : goal.overflow_add-n
overflow_add-n c = omega (arith, (name-fitting c.args.list.now.octets c.args.n c.requires.1).placed)

pub slice_bounds-put_bytes-end-2 : goal.slice_bounds-put_bytes-end-2
slice_bounds-put_bytes-end-2 c = omega (arith, (name-fitting c.args.list.now.octets c.args.n c.requires.1).placed)

pub returns : goal.returns
returns c =
    let octets = c.args.list.now.octets in
    let n = c.args.n in
    let full : length octets ≡ octet_slots = omega arith in
    let same : n.first + n.count - n.first ≡ n.count = omega arith in
    name-put octets n _ _ _ c.args.at full (name-fitting octets n c.requires.1) c.put_bytes.ensures (rw same at c.put_bytes-2.ensures)
