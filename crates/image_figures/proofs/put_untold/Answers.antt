-- `image_figures::put_untold` meets its contract.
use Prim.Native.Nat.{ℕ, ◌+◌}
use mathlib.Core.Path.{ap, ◌∙◌}
use native.Mathlib.Omega.{arith}
use Rattle.lists.specs.Put.{put}
use Rattle.image.specs.Image.{le32}
use Rattle.image_figures.proofs.RowLaws.{untold-put}
use Rattle.image_figures.proofs.put_untold.Goals as goal

pub returns : goal.returns
returns c x network len =
    let a = c.args in
    untold-put x a.network a.len a.at a.sheet.now c.put32.new.out c.put32-2.new.out c.put32-3.new.out (omega arith) network len
    c.put32.ensures (c.put32-2.ensures ∙ ap (λ (n : ℕ). put c.put32.new.out (a.at + 4) (le32 (4294967040 + n))) c.from.ensures) c.put32-3.ensures
