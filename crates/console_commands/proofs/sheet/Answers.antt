-- `sheet` meets its contract.
use mathlib.Core.Path.{◌≡◌, refl, sym, ap, ap₂, ◌∙◌}
use native.Mathlib.Omega.{arith}
use Prim.Native.Nat.{◌-◌, ◌≤◌}
use lib.ListN.{length, drop, length-drop}
use borrow.Rule.Slice.PartMut.{post_of, same_len_mid}
use Rattle.std.specs.Prelude.{Ok, Err}
use Rattle.ledger.specs.Answers.{answer_of, refusal_number, bad_place}
use Rattle.ledger.proofs.RefusalLaws.{number-some}
use Rattle.call_spec.specs.Books.{book_of}
use Rattle.console_lines.specs.Lines.{refused_line}
use Rattle.console_lines.proofs.TextLaws.{first-bytes, wrote_as}
use Rattle.console_commands.specs.Commands.{given}
use Rattle.console_commands.proofs.QueryLaws.{passed, refused-text, sound-here}
use Rattle.console_commands.proofs.CommandLaws.{appended, rest_of, sheet-refuses, sheet-shows}
use Rattle.console_commands.proofs.sheet.Goals as goal

pub returns-in-Err-clause-by_index : goal.returns-in-Err-clause-by_index
returns-in-Err-clause-by_index c figures =
    let a = c.args in
    let e = c.in-Err.e in
    let said = c.refusal in
    let inside : said.result ≤ length c.args.out.now = omega (arith, said.ensures.upper_bound, c.requires) in
    record {
      text = refused_line (refusal_number e) (bad_place e);
      does = (refl, refused-text a.image.now a.image_bytes figures a.counts.now (answer_of (Err e)) c.in-Err.ensures _ (number-some e));
      wrote = appended _ _ _ _ _ inside (wrote_as _ _ _ _ _ _ (ap₂ refused_line c.number.ensures c.place.ensures) said.ensures.wrote);
    }

pub returns-in-Err-sheet-clause-by_index : goal.returns-in-Err-sheet-clause-by_index
returns-in-Err-sheet-clause-by_index c figures =
    let a = c.args in
    let at = a.s.at in
    let old = a.out.now in
    let n = c.least-n in
    let shown = c.sheet in
    let e = c.in-Err-sheet.e in
    let said = c.refusal-in-Err-sheet in
    sheet-refuses (given (book_of a.image.now a.image_bytes figures a.counts.now) a.s.reply_length a.s.selected a.s.lines (drop at old)) (sound-here a.image.now a.image_bytes figures a.counts.now (answer_of c.check.result) c.check.ensures (passed c.check.result c.in_default.not-Err)) (answer_of (Err e)) shown.new.text _ _
    (first-bytes a.image_bytes n.result a.image.now n.ensures.2 n.ensures.3) (rest_of old at) c.in-Err-sheet.ensures old at (omega (arith, c.requires)) (post_of at (length old - at) old) _ _ (number-some e)
    (omega (arith, said.ensures.upper_bound, c.requires, same_len_mid at (length old - at) old shown.new.text shown.auto.text)) (wrote_as _ _ _ _ _ _ (ap₂ refused_line c.number-in-Err-sheet.ensures c.place-in-Err-sheet.ensures) said.ensures.wrote)

pub overflow_add-result : goal.overflow_add-result
overflow_add-result c = omega (arith, c.well_formed, c.least.ensures.1, c.requires)

pub returns-in-Ok-clause-by_index : goal.returns-in-Ok-clause-by_index
returns-in-Ok-clause-by_index c figures =
    let a = c.args in
    let at = a.s.at in
    let old = a.out.now in
    let n = c.least-n in
    let shown = c.sheet in
    let some = c.least in
    let e : length shown.new.text ≡ length old - at = shown.auto.text ∙ ap length (rest_of old at) ∙ length-drop at old in
    sheet-shows (given (book_of a.image.now a.image_bytes figures a.counts.now) a.s.reply_length a.s.selected a.s.lines (drop at old)) (sound-here a.image.now a.image_bytes figures a.counts.now (answer_of c.check.result) c.check.ensures (passed c.check.result c.in_default.not-Err)) (answer_of (Ok c.in-Ok.a)) shown.new.text _ _
    (first-bytes a.image_bytes n.result a.image.now n.ensures.2 n.ensures.3) (rest_of old at) c.in-Ok.ensures old at (omega (arith, c.requires)) (post_of at (length old - at) old) some.result refl
    (omega (arith, some.ensures.1, e)) (λ h. some.ensures.2 (omega (arith, e)) ∙ sym e) (λ h. some.ensures.3 (omega (arith, e)))
