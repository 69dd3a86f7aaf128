-- `mark` meets its contract.
use Prim.Native.Nat.{◌≤◌}
use mathlib.Core.Path.{ap}
use native.Mathlib.Omega.{arith}
use lib.ListN.{length}
use Rattle.console_lines.specs.Lines.{done_line}
use Rattle.ledger.specs.Answers.{answer_of}
use Rattle.console_lines.proofs.TextLaws.{wrote_as}
use Rattle.console_commands.proofs.CommandLaws.{appended, done-does}
use Rattle.console_commands.proofs.mark.Goals as goal

pub returns : goal.returns
returns c =
    let said = c.done in
    let inside : said.result ≤ length c.args.out.now = omega (arith, said.ensures.upper_bound, c.requires) in record { upper_bound = inside; ran = record { text = done_line (answer_of c.mark-a.result); does = done-does _ _ _ c.mark-a.ensures; wrote = appended _ _ _ _ _ inside (wrote_as _ _ _ _ _ _ (ap done_line c.into.ensures) said.ensures.wrote) } }
