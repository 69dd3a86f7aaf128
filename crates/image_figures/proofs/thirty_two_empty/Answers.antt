-- `image_figures::thirty_two_empty` meets its contract: the flag is 0 where the first k bytes of both halves are those of empty rows.
use mathlib.Core.Path.{refl}
use native.Mathlib.Omega.{arith}
use Rattle.image.specs.Image.{le16, le32}
use Rattle.image.proofs.FieldLaws.{Bytes}
use Rattle.image_figures.specs.Sheets.{row_bytes}
use Rattle.image_figures.proofs.EmptyBytes.{Turned, turned-byte}
use Rattle.image_figures.proofs.BlockLaws.{agree-none, agree-more, agree-all}
use Rattle.image_figures.proofs.thirty_two_empty.Goals as goal

pub loop-k-init : goal.loop-k-init
unfolding Turned row_bytes le16 le32
loop-k-init c = let a = c.args in (refl, agree-none a.sheet.now a.at 16)

pub loop-k-preserved : goal.loop-k-preserved
loop-k-preserved c =
    let loop = c.loop-k in
    let a = c.args in (
      loop.invariant.0,
      agree-more a.sheet.now a.at 16 loop.other c.differ-other.result c.differ-other-in-loop-k.result loop.k _ loop.invariant.1 (turned-byte _ 16 loop.invariant.0 loop.k (omega arith)) c.differ-other.ensures
          c.differ-other-in-loop-k.ensures,
    )

pub returns : goal.returns
returns c =
    let loop = c.loop-k in
    let a = c.args in
    let bytes : Bytes a.sheet.now = λ i. omega (arith, c.type_inv.sheet i) in
    agree-all a.sheet.now a.at 16 loop.other loop.k bytes (omega arith) (omega arith) loop.invariant.1
