-- `image::head_begins` meets its contract: the number of the first four bytes tells their two halves.
use Prim.Native.Nat.{ℕ, ◌-◌}
use mathlib.Core.Path.{ap₂, ◌∙◌}
use native.Mathlib.Omega.{arith}
use lib.ListN.{length}
use lib.Dec.{eqb}
use borrow.Author.Tests.{le-leb}
use Rattle.image.specs.Image.{head_size, head_kind}
use Rattle.image.proofs.FieldLaws.{Bytes, start-tells}
use Rattle.image.proofs.head_begins.Goals as goal

pub returns-then-s-ge-HEAD : goal.returns-then-s-ge-HEAD
returns-then-s-ge-HEAD c =
    let a = c.args in
    let s = a.s.now in
    let bytes : Bytes s = λ i. omega (arith, c.type_inv.s i) in
    rw (le-leb head_size (length s) c.if-s-ge-HEAD.true)
    (ap₂ (λ (m n : ℕ). eqb m n) c.read32.ensures c.head_start.ensures ∙ start-tells s bytes (head_size - 2) (head_kind a.form) (omega arith))
