-- `set_counts` meets its contract: the counts are those that the octets spell.
use Prim.Native.Nat.{◌≤◌}
use mathlib.Core.Path.{refl, ap}
use native.Mathlib.Omega.{arith}
use lib.ListN.{length}
use Rattle.call_spec.specs.Books.{book_of}
use Rattle.console_lines.specs.Lines.{ok_line}
use Rattle.console_commands.proofs.CommandLaws.{appended}
use Rattle.console_commands.proofs.set_counts.Goals as goal

pub returns : goal.returns
returns c =
    let said = c.ok in
    let inside : said.result ≤ length c.args.out.now = omega (arith, said.ensures.place, c.requires.0) in record { upper_bound = inside; by_index = λ image bytes figures. record { text = ok_line; does = (ap (λ l. book_of image bytes figures l) c.counts_in.ensures, refl); wrote = appended _ _ _ _ _ inside said.ensures } }
