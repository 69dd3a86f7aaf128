use Prim.Native.Nat.{◌+◌, ◌-◌}
use native.Mathlib.Omega.{arith}
use mathlib.Core.Path.{ap, ◌∙◌}
use Rattle.lists.specs.Put.{put}
use Rattle.lists.proofs.PutLaws.{put_mid-put}
use Rattle.octets.proofs.put_chunk.Goals as goal

pub returns : goal.returns
returns g c =
    let a = c.args in
    let bytes = c.copy_from_slice.ensures in
    put_mid-put c.copy_from_slice.new.self a.out.now a.at (a.at + g.row.N - a.at) (omega (arith, bytes.len)) (omega arith)
    ∙ ap (put a.out.now a.at) bytes.after
