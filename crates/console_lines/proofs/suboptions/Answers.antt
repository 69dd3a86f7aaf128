-- `suboptions` stays within the buffer: 28 bytes for each byte that is left of the option. That is the measure too.
use mathlib.Core.Path.{sym, ap, ◌∙◌}
use Rattle.std.specs.declared.result.Result.TheVariants.{Ok}
use native.Mathlib.Omega.{arith}
use Rattle.console_lines.proofs.SizeLaws.{Taken, taken}
use Rattle.console_lines.proofs.suboptions.Goals as goal

-- What the turn's answer tells.
taken_here : (c : goal.After-suboption-arg-1) → Taken c.args.s.now c.loop-x.cursor.at c.in-Ok-Some.x c.in-Ok-Some.next
taken_here c = taken _ _ c.in-Ok-Some.x c.in-Ok-Some.next (sym c.step.ensures ∙ c.in-Ok-Some.is ∙ ap Ok c.in-Ok-Some.field-0-is)

-- What the turn's answer tells.
taken_here-2 : (c : goal.After-slice_known-in-Ok-Some-1) → Taken c.args.s.now c.loop-x.cursor.at c.in-Ok-Some.x c.in-Ok-Some.next
taken_here-2 c = taken _ _ c.in-Ok-Some.x c.in-Ok-Some.next (sym c.step.ensures ∙ c.in-Ok-Some.is ∙ ap Ok c.in-Ok-Some.field-0-is)

pub suboption-end-requires : goal.suboption-end-requires
suboption-end-requires c =
    let l = c.loop-x in
    let t = taken_here c in record { x_in_bounds = omega (arith, l.invariant.0, l.invariant.1, t.two, t.inside, t.room); within = t.within }

pub loop-x-smaller : goal.loop-x-smaller
loop-x-smaller c =
    let t = taken_here-2 c in
    omega (arith, t.two, t.inside)

pub loop-x-preserved : goal.loop-x-preserved
loop-x-preserved c =
    let l = c.loop-x in
    let t = taken_here-2 c in
    let x = c.suboption-end in
    (omega (arith, l.invariant.0, t.two, t.inside, t.room, x.ensures), x.auto.out ∙ l.invariant.1)
