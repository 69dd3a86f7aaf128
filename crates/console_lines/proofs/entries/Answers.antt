-- `entries` stays within the buffer: 28 bytes for each byte that is left of the information. That is the measure too.
use mathlib.Core.Path.{sym, ap, ◌∙◌}
use Rattle.std.specs.declared.result.Result.TheVariants.{Ok}
use native.Mathlib.Omega.{arith}
use Rattle.console_lines.proofs.SizeLaws.{EntryTaken, entry-taken}
use Rattle.console_lines.proofs.entries.Goals as goal

-- What the turn's answer tells.
taken_here : (c : goal.After-entry-arg-1) → EntryTaken c.loop-e.cursor.end c.loop-e.cursor.at c.in-Ok-Some.next
taken_here c = entry-taken _ _ _ c.in-Ok-Some.e c.in-Ok-Some.next (sym c.step.ensures ∙ c.in-Ok-Some.is ∙ ap Ok c.in-Ok-Some.field-0-is)

-- What the turn's answer tells.
taken_here-2 : (c : goal.After-slice_known-in-Ok-Some-1) → EntryTaken c.loop-e.cursor.end c.loop-e.cursor.at c.in-Ok-Some.next
taken_here-2 c = entry-taken _ _ _ c.in-Ok-Some.e c.in-Ok-Some.next (sym c.step.ensures ∙ c.in-Ok-Some.is ∙ ap Ok c.in-Ok-Some.field-0-is)

pub entry-end-requires : goal.entry-end-requires
entry-end-requires c =
    let l = c.loop-e in
    let t = taken_here c in
    omega (arith, l.invariant.0, l.invariant.1, t.seven, t.whole)

pub loop-e-smaller : goal.loop-e-smaller
loop-e-smaller c =
    let t = taken_here-2 c in
    omega (arith, t.seven, t.whole, t.same)

pub loop-e-preserved : goal.loop-e-preserved
loop-e-preserved c =
    let l = c.loop-e in
    let t = taken_here-2 c in
    let e = c.entry-end in
    (omega (arith, l.invariant.0, t.seven, t.whole, t.same, e.ensures), e.auto.out ∙ l.invariant.1)
