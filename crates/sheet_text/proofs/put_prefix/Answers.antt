-- `sheet_text::put_prefix` meets its contract: the numbers, each after its mark.
use native.Mathlib.Omega.{arith}
use Rattle.text.proofs.TextLaws.{wrote-marked}
use Rattle.sheet_text.specs.Sheet.{prefix_text}
use Rattle.sheet_text.proofs.put_prefix.Goals as goal

pub returns : goal.returns
unfolding prefix_text
returns c =
    let a = c.decimal-a.ensures in
    let b = c.marked-b.ensures in
    let d = c.marked-c.ensures in
    let e = c.marked-d.ensures in
    let l = c.marked.ensures in record { wrote = wrote-marked (wrote-marked (wrote-marked (wrote-marked a b) d) e) l; value = omega (arith, a.place, b.place, d.place, e.place, l.place) }
