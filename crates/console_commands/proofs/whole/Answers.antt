-- `whole` meets its contract.
use Prim.Native.Nat.{◌≤◌}
use mathlib.Core.Path.{refl, ap, ◌∙◌}
use native.Mathlib.Omega.{arith}
use lib.ListN.{length}
use Rattle.console_lines.specs.Lines.{counted_line}
use Rattle.ledger.specs.Answers.{answer_of}
use Rattle.console_lines.proofs.TextLaws.{wrote_as}
use Rattle.console_commands.proofs.QueryLaws.{whole-beside}
use Rattle.console_commands.proofs.CommandLaws.{appended}
use Rattle.console_commands.proofs.whole.Goals as goal

pub returns : goal.returns
returns c =
    let a = c.args in
    let said = c.counted in
    let inside : said.result ≤ length c.args.out.now = omega (arith, said.ensures.upper_bound, c.requires) in record { upper_bound = inside; by_index = λ figures. record { text = counted_line (answer_of c.whole-a.result); does = (refl, ap counted_line (c.whole-a.ensures ∙ whole-beside a.image.now a.image_bytes figures a.counts.now a.len)); wrote = appended _ _ _ _ _ inside (wrote_as _ _ _ _ _ _ (ap counted_line c.into.ensures) said.ensures.wrote) } }
