-- `put_bytes` meets its contract: past the end nothing changes; otherwise as many bytes as there is room for are written over.
use native.Mathlib.Omega.{arith}
use mathlib.Core.Path.{sym, ap, ◌∙◌}
use Prim.Native.Nat.{◌+◌, ◌-◌}
use mathlib.Core.Path.{◌≡◌}
use lib.ListN.{length, take, length-take}
use borrow.Rule.Slice.PartMut.{put_mid}
use Rattle.lists.proofs.PutLaws.{put-past}
use Rattle.option_reply.proofs.BytePuts.{put-part, put-room}
use Rattle.option_reply.proofs.put_bytes.Goals as goal

pub returns-then-buf-at : goal.returns-then-buf-at
returns-then-buf-at c = sym (put-past _ _ _ c.if-buf-at.true)

pub returns : goal.returns
returns c =
    let a = c.args in
    let n = c.min-n.result in
    let size : length (take n a.bytes.now) ≡ n = omega (arith, length-take n a.bytes.now, c.min-n.ensures) in
    ap (put_mid a.at (a.at + n - a.at) a.buf.now) c.copy_from_slice.ensures.after
    ∙ put-part a.buf.now (take n a.bytes.now) a.at _ (omega (arith, size)) (omega (arith, size, c.min-n.ensures, c.if-buf-at.false))
    ∙ put-room a.buf.now a.bytes.now a.at n (omega (arith, c.min-n.ensures)) (λ h. omega (arith, c.min-n.ensures))
