-- `next_entry` meets its contract: where none is left in this information, a later one has it.
use Prim.Native.Nat.{◌<◌}
use native.Mathlib.Omega.{arith}
use mathlib.Core.Path.{ap, subst}
use mathlib.Core.List.{List}
use lib.ListN.{length}
use Rattle.option.specs.Values.{Entry}
use Rattle.call_entries.specs.EntryFigures.{LeftAt}
use Rattle.call_entries.proofs.FiguresLaws.{left-later}
use Rattle.call_entries.proofs.next_entry.Goals as goal

pub returns-then-entries : goal.returns-then-entries
returns-then-entries c e es left = (left, c.if-entries.true)

pub returns : goal.returns
returns c e es left =
    let a = c.args in
    let r = c.information_from.result in
    let are = left-later a.s.now a.entries e es left c.if-entries.false in
    subst (λ (l : List Entry). LeftAt a.s.now r l × (r.at < r.end)) are
    (c.information_from.ensures left.later left.inside left.goes_on (omega (arith, ap length are)))
