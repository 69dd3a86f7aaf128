-- `file_named` meets its contract: after k entries the figures of these are filed.
use native.Mathlib.Omega.{arith}
use mathlib.Core.Path.{refl, ◌∙◌}
use Rattle.call_take.proofs.FileLaws.{filed-none, filed-more, filed-all}
use Rattle.call_take.proofs.file_named.Goals as goal

pub loop-place-init : goal.loop-place-init
loop-place-init c = (refl, filed-none _ _ _ _ _ c.first_entries-entries.ensures)

pub loop-place-preserved : goal.loop-place-preserved
loop-place-preserved c =
    let loop = c.loop-place in
    (c.file_at.auto.sheet ∙ loop.invariant.0, filed-more _ _ _ _ _ _ _ loop.invariant.1 c.loop-place-test.true _ _ c.read_figures-read.ensures _ c.file_at.ensures)

pub returns : goal.returns
returns c = let loop = c.loop-place in filed-all _ _ _ _ _ _ _ loop.invariant.1 (omega (arith, c.loop-place-test.false))
