-- `save` meets its contract: what it gives with no figures sheet, with any beside it.
use Prim.Native.Nat.{ℕ, ◌≤◌}
use mathlib.Core.Path.{ap, ◌∙◌}
use mathlib.Core.List.{List, []}
use native.Mathlib.Omega.{arith}
use lib.ListN.{length, replicate, length-replicate}
use Rattle.image.specs.declared.Form.{Form}
use Rattle.image.specs.Image.{full_image, form_numbered}
use Rattle.call_spec.specs.Books.{book_of, save_book}
use Rattle.call_spec.proofs.RepliesOnBooks.{without-sheet}
use Rattle.ledger.specs.Answers.{answer_of}
use Rattle.ledger.specs.declared.Answer.{Answer}
use Rattle.console_lines.specs.Lines.{written_line}
use Rattle.console_lines.proofs.TextLaws.{wrote_as}
use Rattle.console_commands.proofs.CommandLaws.{beside, save-ran}
use Rattle.console_commands.proofs.save.Goals as goal

pub returns : goal.returns
returns c =
    let a = c.args in
    let said = c.written in
    let buffer : List ℕ = replicate full_image 0 in
    let size = length-replicate {A = ℕ} full_image 0 in
    let inside : said.result ≤ length a.out.now = omega (arith, said.ensures.upper_bound, c.requires, c.save-a.auto.buffer, size) in record { upper_bound = inside; by_index = λ figures. save-ran _ _ _ _ _ _ _ inside a.form a.older buffer _ size (beside a.image.now a.image_bytes figures a.counts.now (λ b. save_book b (form_numbered a.form) a.older buffer) (without-sheet.saves _ _ _ _ _ _ _) (answer_of c.save-a.result) _ (c.save-a.ensures ∙ ap (λ (f : Form). save_book (book_of a.image.now a.image_bytes [] a.counts.now) f a.older buffer) c.from.ensures)) (wrote_as _ _ _ _ _ _ (ap (λ (x : Answer). written_line x c.save-a.new.buffer) c.into.ensures) said.ensures.wrote) }
