-- `set_figures` meets its contract: the sheet is the octets.
use Prim.Native.Nat.{◌≤◌}
use mathlib.Core.Path.{refl, ap}
use native.Mathlib.Omega.{arith}
use lib.ListN.{length}
use Rattle.call_spec.specs.Books.{book_of}
use Rattle.console_lines.specs.Lines.{ok_line}
use Rattle.console_commands.proofs.CommandLaws.{appended, copied-whole}
use Rattle.console_commands.proofs.set_figures.Goals as goal

pub returns : goal.returns
returns c =
    let a = c.args in
    let said = c.ok in
    let inside : said.result ≤ length c.args.out.now = omega (arith, said.ensures.place, c.requires.0) in
    let same = copied-whole a.octets.now a.sheet.now _ (omega (arith, c.requires.1, c.requires.2)) c.copy.ensures.value in record { upper_bound = inside; by_index = λ image bytes counts. record { text = ok_line; does = (ap (λ l. book_of image bytes l counts) same, refl); wrote = appended _ _ _ _ _ inside said.ensures } }
