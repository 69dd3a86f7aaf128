-- `open` meets its contract.
use Prim.Native.Nat.{◌≤◌}
use native.Mathlib.Omega.{arith}
use lib.ListN.{length}
use mathlib.Core.Path.{ap}
use Rattle.console_lines.specs.Lines.{done_line}
use Rattle.console_lines.proofs.TextLaws.{wrote_as}
use Rattle.console_commands.proofs.CommandLaws.{open-bad, open-ran, column}
use Rattle.console_commands.proofs.open.Goals as goal

pub returns-in_default : goal.returns-in_default
returns-in_default c =
    let p = c.read_prefixes-pools in
    let said = c.error in
    let inside : said.result ≤ length c.args.out.now = omega (arith, said.ensures.upper_bound, c.requires) in record { upper_bound = inside; ran = open-bad _ _ _ _ _ _ p.new.networks p.new.lengths _ inside c.in_default.ensures.lengths_after said.ensures.wrote }

pub returns : goal.returns
returns c =
    let p = c.read_prefixes-pools in
    let said = c.done in
    let n = c.in-Some.n in
    let inside : said.result ≤ length c.args.out.now = omega (arith, said.ensures.upper_bound, c.requires) in record { upper_bound = inside; ran = open-ran _ _ _ _ _ _ _ inside _ n p.new.networks p.new.lengths _ _ _ _ _ c.in-Some.ensures.lengths_after (column n p.new.networks) (column n p.new.lengths) c.open-a.ensures (wrote_as _ _ _ _ _ _ (ap done_line c.into.ensures) said.ensures.wrote) }
