-- `put_figures` meets its contract: the figures that are counted, each high byte first.
use native.Mathlib.Omega.{arith}
use Prim.Native.Nat.{ℕ, ◌*◌}
use mathlib.Core.Path.{ap, ap₂, ◌∙◌}
use mathlib.Core.List.{List, ◌++◌}
use lib.ListN.{take}
use Rattle.lists.specs.Put.{put}
use Rattle.option_reply.proofs.BytePuts.{two-high-first}
use Rattle.option_write.proofs.EntryPuts.{figures-put}
use Rattle.option_write.proofs.put_figures.Goals as goal

pub returns : goal.returns
returns c =
    let f = c.args.f in
    let flat = c.as_flattened.ensures.value
    ∙ simp (c.to_be_bytes.ensures, c.to_be_bytes-2.ensures, c.to_be_bytes-3.ensures)
    (ap₂ (λ (x y : List ℕ). x ++ y) (two-high-first f.high_water.0 (omega arith)) (ap₂ (λ (x y : List ℕ). x ++ y) (two-high-first f.in_use.0 (omega arith)) (two-high-first f.unusable.0 (omega arith)))) in
    c.put_bytes.ensures ∙ ap (λ (s : List ℕ). put c.args.buf.now c.args.at (take (2 * f.count) s)) flat ∙ ap (put c.args.buf.now c.args.at) (figures-put f c.requires)
