-- `figures` meets its contract.
use Prim.Native.Nat.{◌≤◌}
use mathlib.Core.Path.{refl}
use native.Mathlib.Omega.{arith}
use lib.ListN.{length}
use Rattle.console_commands.proofs.CommandLaws.{appended}
use Rattle.console_commands.proofs.figures.Goals as goal

pub returns : goal.returns
returns c =
    let said = c.figures_sheet in
    let inside : said.result ≤ length c.args.out.now = omega (arith, said.ensures.upper_bound, c.requires) in record { upper_bound = inside; by_index = λ image bytes counts. record { text = _; does = (refl, refl); wrote = appended _ _ _ _ _ inside said.ensures.wrote } }
